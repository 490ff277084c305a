-- Each byte counts 256 times the one behind it.
use Rattle.std.proofs.Common.{arith}
use Rattle.records.specs.Bytes.{word}
use Rattle.records.specs.Sheet.{quad}
use Rattle.report.proofs.text.quad_at.Goals as goal

pub returns : goal.returns
unfolding quad word
returns c = omega (arith, c.from_be_bytes.ensures)
