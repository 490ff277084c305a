-- One line, of a number below 256.
use Rattle.std.proofs.Common.{length, ap, arith}
use Rattle.report.specs.Text.{refused_text}
use Rattle.report.proofs.Laws.Text.{refused_room}
use Rattle.report.proofs.text.put_refusal.Goals as goal

pub put_line-requires : goal.put_line-requires
put_line-requires c = omega (arith, ap length c.requires, refused_room c.from.result (omega arith))

pub returns : goal.returns
unfolding refused_text
returns c = rw (c.requires, c.from.ensures) at c.put_line.ensures
