-- The parts of the sheet are its fields' bytes.
use Rattle.std.proofs.Common.{◌≡◌, refl, arith}
use Rattle.records.specs.Bytes.{word, nth}
use Rattle.records.specs.Claims.{Below}
use Rattle.report.specs.Text.{blind_word}
use Rattle.report.proofs.Laws.Sheet.{blind-length, blind-value, blind-below}
use Rattle.report.proofs.Laws.Text.{value_room, word-quad-lt}
use Rattle.report.proofs.text.put_blind.Goals as goal

pub slice_bounds-word_at-end : goal.slice_bounds-word_at-end
slice_bounds-word_at-end c = omega (arith, blind-length c.args.sheet.now c.requires.0)

pub put_value_lines-requires-clause-room : goal.put_value_lines-requires-clause-room
put_value_lines-requires-clause-room c =
    let a = c.args.sheet.now in
    let u = c.requires.0 in
    let bytes : Below 256 a = λ i. (c.type_inv.sheet i).fits in
    let vectors : Below 256 c.args.vectors.now = λ i. (c.type_inv.vectors i).fits in
    let e : c.word_at.result ≡ word (nth 0 a) 0 = rw (blind-value a u) at c.word_at.ensures in
    let l = word-quad-lt (nth 0 a) (blind-below a u bytes) in
    value_room blind_word {vs = c.args.vectors.now} (omega arith) l c.requires.1 vectors e refl

pub returns : goal.returns
returns c =
    let a = c.args.sheet.now in
    let e : c.word_at.result ≡ word (nth 0 a) 0 = rw (blind-value a c.requires.0) at c.word_at.ensures in
    rw e at c.put_value_lines.ensures
