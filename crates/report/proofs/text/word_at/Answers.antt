-- The first byte counts 256 times.
use Rattle.std.proofs.Common.{arith}
use Rattle.records.specs.Bytes.{word}
use Rattle.report.proofs.text.word_at.Goals as goal

pub returns : goal.returns
unfolding word
returns c = omega (arith, c.from.ensures, c.from_be_bytes.ensures)
