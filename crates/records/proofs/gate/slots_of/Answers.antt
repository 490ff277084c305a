-- `records::gate::slots_of` meets its contract, by definition. Assumes nothing.
use mathlib.Core.Path.{refl}
use Rattle.records.specs.Inner.{struct_slots}
use Rattle.records.proofs.gate.slots_of.Goals as goal

pub returns : goal.returns
unfolding struct_slots
returns c = refl
