-- `engine::leaves::set_vector` meets its contract. The invariant: the first i targets have their bits. Assumes nothing.
use Prim.Native.Nat.{◌≤◌}
use Rattle.engine.specs.Eval.{bit}
use Rattle.engine.specs.Inner.Kernel.{NetsSet}
use Rattle.engine.proofs.leaves.set_vector.Given as goal

abbrev pub invariant-loop-i : goal.invariant-loop-i
invariant-loop-i l = (l.i ≤ l.targets) × NetsSet l.at l.i (λ y k. bit k l.vector) l.initial.words l.words
