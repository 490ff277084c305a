-- Two lines, the second behind the first.
use Rattle.std.proofs.Common.{[], ◌∷◌, ap, arith, length}
use Rattle.report.specs.Text.{line, vectors_word}
use Rattle.report.proofs.Laws.Line.{bytes_room, bytes-line, length-behind}
use Rattle.report.proofs.Laws.Text.{length-value_text, value-lines}
use Rattle.report.proofs.text.put_value_lines.Goals as goal

pub put_line-requires : goal.put_line-requires
put_line-requires c =
    let a = c.args in
    omega (arith, ap length c.requires.empty, c.requires.room, length-value_text a.word.now a.x a.vectors.now)

pub put_line-requires-2 : goal.put_line-requires-2
put_line-requires-2 c =
    let a = c.args in
    bytes_room _ _ vectors_word a.vectors.now
    (omega (
      arith,
      ap length c.requires.empty,
      c.requires.room,
      length-value_text a.word.now a.x a.vectors.now,
      length-behind a.text.now.items (line a.word.now (a.x ∷ [])) c.put_line.ensures,
    ))

pub returns : goal.returns
returns c =
    let a = c.args in
    value-lines a.word.now a.x a.vectors.now c.requires.empty c.put_line.ensures
    (bytes-line _ vectors_word a.vectors.now c.put_line-2.ensures)
