-- `engine::renumber::number_inputs` meets its contract. The invariant: the first i inputs have their numbers. Assumes nothing.
use Prim.Native.Nat.{◌≤◌}
use Rattle.engine.specs.Inner.Tree.{InputsNumbered}
use Rattle.engine.proofs.renumber.number_inputs.Given as goal

abbrev pub invariant-loop-i : goal.invariant-loop-i
invariant-loop-i l = (l.i ≤ l.inputs) × InputsNumbered l.i l.numbers
