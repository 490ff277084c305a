-- The parts of the sheet are its fields' bytes.
use mathlib.Core.Path.{◌≡◌, ◌∙◌}
use native.Mathlib.Omega.{arith}
use Rattle.records.specs.Bytes.{nth}
use Rattle.records.specs.Sheet.{quad}
use Rattle.records.specs.Claims.{Below}
use Rattle.report.proofs.Laws.Sheet.{PatchSpans, patch-first, patch-length, patch-second, patch-spans}
use Rattle.report.proofs.Laws.Text.{patch-same, patch-room}
use Rattle.report.proofs.text.put_patch.Goals as goal

pub field_end-table-requires : goal.field_end-table-requires
field_end-table-requires c =
    let a = c.args.sheet.now in
    (omega arith, omega (arith, patch-first a c.requires.0, patch-length a c.requires.0))

pub overflow_add-table : goal.overflow_add-table
overflow_add-table c =
    let a = c.args.sheet.now in
    omega (arith, c.field_end-table.ensures, patch-first a c.requires.0, patch-length a c.requires.0)

pub field_end-cost-requires : goal.field_end-cost-requires
field_end-cost-requires c =
    let a = c.args.sheet.now in
    let p = c.requires.0 in
    let e = c.field_end-table.ensures in
    (omega arith, omega (arith, patch-first a p, patch-second a p c.field_end-table.result e, patch-length a p))

pub overflow_add-cost : goal.overflow_add-cost
overflow_add-cost c =
    let spans : PatchSpans c.args.sheet.now c.field_end-table.result c.field_end-cost.result =
    patch-spans c.args.sheet.now c.requires.0 c.field_end-table.result c.field_end-table.ensures
    c.field_end-cost.result
    c.field_end-cost.ensures in
    let p = spans in omega arith

pub overflow_add-notes : goal.overflow_add-notes
overflow_add-notes c =
    let spans : PatchSpans c.args.sheet.now c.field_end-table.result c.field_end-cost.result =
    patch-spans c.args.sheet.now c.requires.0 c.field_end-table.result c.field_end-table.ensures
    c.field_end-cost.result
    c.field_end-cost.ensures in
    let p = spans in omega arith

pub slice_bounds-quad_at-end : goal.slice_bounds-quad_at-end
slice_bounds-quad_at-end c =
    let spans : PatchSpans c.args.sheet.now c.field_end-table.result c.field_end-cost.result =
    patch-spans c.args.sheet.now c.requires.0 c.field_end-table.result c.field_end-table.ensures
    c.field_end-cost.result
    c.field_end-cost.ensures in
    let p = spans in omega arith

pub slice_bounds-put_patch_lines-end-2 : goal.slice_bounds-put_patch_lines-end-2
slice_bounds-put_patch_lines-end-2 c =
    let spans : PatchSpans c.args.sheet.now c.field_end-table.result c.field_end-cost.result =
    patch-spans c.args.sheet.now c.requires.0 c.field_end-table.result c.field_end-table.ensures
    c.field_end-cost.result
    c.field_end-cost.ensures in
    let p = spans in omega arith

pub slice_bounds-put_patch_lines-count-3 : goal.slice_bounds-put_patch_lines-count-3
slice_bounds-put_patch_lines-count-3 c =
    let spans : PatchSpans c.args.sheet.now c.field_end-table.result c.field_end-cost.result =
    patch-spans c.args.sheet.now c.requires.0 c.field_end-table.result c.field_end-table.ensures
    c.field_end-cost.result
    c.field_end-cost.ensures in
    let p = spans in omega arith

pub slice_bounds-put_patch_lines-start-3 : goal.slice_bounds-put_patch_lines-start-3
slice_bounds-put_patch_lines-start-3 c =
    let spans : PatchSpans c.args.sheet.now c.field_end-table.result c.field_end-cost.result =
    patch-spans c.args.sheet.now c.requires.0 c.field_end-table.result c.field_end-table.ensures
    c.field_end-cost.result
    c.field_end-cost.ensures in
    let p = spans in omega arith

pub put_patch_lines-requires-clause-room : goal.put_patch_lines-requires-clause-room
put_patch_lines-requires-clause-room c =
    let spans : PatchSpans c.args.sheet.now c.field_end-table.result c.field_end-cost.result =
    patch-spans c.args.sheet.now c.requires.0 c.field_end-table.result c.field_end-table.ensures
    c.field_end-cost.result
    c.field_end-cost.ensures in
    let paid : c.quad_at-paid.result ≡ quad (nth 2 c.args.sheet.now) = rw spans.cost at c.quad_at-paid.ensures in
    let a = c.args in
    let bytes : Below 256 a.sheet.now = λ i. (c.type_inv.sheet i).fits in
    let vectors : Below 256 a.vectors.now = λ i. (c.type_inv.vectors i).fits in
    rw (patch-same a.sheet.now a.vectors.now paid spans.nets spans.table spans.notes)
    (patch-room a.sheet.now a.vectors.now c.requires.0 bytes c.requires.1 vectors)

pub returns : goal.returns
returns c =
    let spans : PatchSpans c.args.sheet.now c.field_end-table.result c.field_end-cost.result =
    patch-spans c.args.sheet.now c.requires.0 c.field_end-table.result c.field_end-table.ensures
    c.field_end-cost.result
    c.field_end-cost.ensures in
    let paid : c.quad_at-paid.result ≡ quad (nth 2 c.args.sheet.now) = rw spans.cost at c.quad_at-paid.ensures in
    let a = c.args in
    c.put_patch_lines.ensures ∙ patch-same a.sheet.now a.vectors.now paid spans.nets spans.table spans.notes
