-- `engine::packed::slots_in` meets its contract. Assumes nothing.
use mathlib.Core.Path.{refl}
use Rattle.engine.specs.Inner.Packed.{fields}
use Rattle.engine.proofs.packed.slots_in.Goals as goal

pub returns : goal.returns
unfolding fields
returns c = refl
