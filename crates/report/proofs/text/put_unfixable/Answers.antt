-- The parts of the sheet are its fields' bytes.
use Rattle.std.proofs.Common.{◌≡◌, arith}
use Rattle.records.specs.Bytes.{nth}
use Rattle.records.specs.Sheet.{quad}
use Rattle.records.specs.Claims.{Below}
use Rattle.report.specs.Text.{unfixable_word}
use Rattle.report.proofs.Laws.Sheet.{unfixable-length, unfixable-input, unfixable-vectors, unfixable-below}
use Rattle.report.proofs.Laws.Text.{value_room, quad-lt}
use Rattle.report.proofs.text.put_unfixable.Goals as goal

pub slice_bounds-quad_at-end : goal.slice_bounds-quad_at-end
slice_bounds-quad_at-end c = omega (arith, unfixable-length c.args.sheet.now c.requires.0)

pub slice_bounds-put_value_lines-count : goal.slice_bounds-put_value_lines-count
slice_bounds-put_value_lines-count c = omega (arith, unfixable-length c.args.sheet.now c.requires.0)

pub slice_bounds-put_value_lines-start : goal.slice_bounds-put_value_lines-start
slice_bounds-put_value_lines-start c = omega (arith, unfixable-length c.args.sheet.now c.requires.0)

pub put_value_lines-requires-clause-room : goal.put_value_lines-requires-clause-room
put_value_lines-requires-clause-room c =
    let a = c.args.sheet.now in
    let v = c.requires.0 in
    let bytes : Below 256 a = λ i. (c.type_inv.sheet i).fits in
    let e : c.quad_at.result ≡ quad (nth 0 a) = rw (unfixable-input a v) at c.quad_at.ensures in
    let below = unfixable-below a v bytes in
    let l = quad-lt (nth 0 a) (below 0 (omega arith)) in
    value_room unfixable_word (omega arith) l v.vectors (below 1 (omega arith)) e (unfixable-vectors a v)

pub returns : goal.returns
returns c =
    let a = c.args.sheet.now in
    let v = c.requires.0 in
    let e : c.quad_at.result ≡ quad (nth 0 a) = rw (unfixable-input a v) at c.quad_at.ensures in
    rw (e, unfixable-vectors a v) at c.put_value_lines.ensures
