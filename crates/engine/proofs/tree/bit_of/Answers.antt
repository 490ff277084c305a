-- `engine::tree::bit_of` meets its contract. Assumes nothing.
use Rattle.engine.specs.Eval.{bit}
use mathlib.Core.Path.{refl}
use Rattle.engine.proofs.tree.bit_of.Goals as goal

pub returns : goal.returns
unfolding bit
returns c = refl
