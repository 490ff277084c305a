-- `records::field::u16_at` meets its contract: the first byte counts 256 times. Assumes nothing.
use native.Mathlib.Omega.{arith}
use Rattle.records.specs.Bytes.{word}
use Rattle.records.proofs.field.u16_at.Goals as goal

pub returns : goal.returns
unfolding word
returns c = omega (arith, c.from_be_bytes.ensures)
