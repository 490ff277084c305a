-- `engine::drive::set_targets` meets its contract. The invariant: the first i targets have their rows. Assumes nothing.
use Prim.Native.Nat.{◌+◌}
use Rattle.engine.specs.Inner.Kernel.{value_in, NetsSet}
use Rattle.engine.proofs.drive.set_targets.Given as goal

abbrev pub invariant-loop-i : goal.invariant-loop-i
invariant-loop-i l = NetsSet l.plan.inputs l.i (λ y k. value_in l.rows y (l.first + k)) l.initial.words l.words
