-- `engine::leaves::load_inputs` meets its contract. The invariant: the first i inputs have their values. Assumes nothing.
use Prim.Native.Nat.{◌+◌, ◌*◌, ◌≤◌}
use Rattle.engine.specs.Eval.{bit}
use Rattle.engine.specs.Inner.Kernel.{NetsSet}
use Rattle.engine.proofs.leaves.load_inputs.Given as goal

abbrev pub invariant-loop-i : goal.invariant-loop-i
invariant-loop-i l = (l.i ≤ l.inputs) × NetsSet 0 l.i (λ y k. bit k (1024 * l.b + y)) l.initial.words l.words
