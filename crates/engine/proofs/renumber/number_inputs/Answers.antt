-- `engine::renumber::number_inputs` meets its contract. The invariant: the first i inputs have their numbers. Assumes nothing.
use native.Mathlib.Omega.{arith}
use Rattle.engine.proofs.Laws.FitCode.{inputs-none}
use Rattle.engine.proofs.renumber.number_inputs.Goals as goal

pub loop-i-init : goal.loop-i-init
loop-i-init c = (omega arith, inputs-none)
