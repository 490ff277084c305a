-- `records::gates::gate_at` meets its contract. Assumes nothing.
use Rattle.records.specs.Inner.{struct_at}
use Rattle.records.proofs.gates.gate_at.Goals as goal

pub returns : goal.returns
unfolding struct_at
returns c = rw (c.u16_at.ensures, c.u16_at-2.ensures, c.u16_at-3.ensures, c.u16_at-4.ensures)
