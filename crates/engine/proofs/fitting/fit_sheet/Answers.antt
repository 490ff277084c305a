-- `engine::fitting::fit_sheet` meets its contract. Assumes nothing.
use Prim.Native.Nat.{◌+◌, ◌≤◌}
use mathlib.Core.Path.{refl}
use native.Mathlib.Omega.{arith}
use lib.ListN.{length}
use Rattle.records.proofs.Laws.Option.{err-is}
use Rattle.records.proofs.Laws.Reply.{refusal-number}
use Rattle.engine.proofs.Laws.FitSheet.{outputs-taken, outputs-few, outputs-most, outputs-old}
use Rattle.engine.proofs.Laws.FitSheet.{sheet-refused, sheet-fittable, sheet-accepted}
use Rattle.engine.proofs.Laws.PartsSheet.{parts-sheet, parts-few}
use Rattle.engine.proofs.fitting.fit_sheet.Goals as goal
use Rattle.engine.proofs.fitting.fit_sheet.Goals.{After-reading_count}

pub returns-in_err-patch : goal.returns-in_err-patch
returns-in_err-patch c j q w =
    let a = c.args in
    let x = c.in_err-patch.field-0.0 in
    rw (err-is _ _ c.from_residual.ensures.1) (sheet-refused q a.sheet.now c.in_err-patch.ensures a.reply.now (refusal-number x))

pub reading_count-requires : goal.reading_count-requires
reading_count-requires c =
    parts-few c.requires.0.parts c.args.sheet.now c.in_ok-patch.ensures refl

-- where the table ends
ended : (c : After-reading_count) → c.in_ok-patch.patch.table + c.reading_count.result ≤ length c.args.sheet.now
ended c =
    omega (
      arith,
      c.reading_count.ensures,
      (parts-sheet c.requires.0.parts c.args.sheet.now c.in_ok-patch.ensures refl).end,
    )

pub overflow_add-end : goal.overflow_add-end
overflow_add-end c = omega (arith, ended (goal.at.overflow_add-end c).After-reading_count)

pub shared_ref_as_front-fit_patch : goal.shared_ref_as_front-fit_patch
shared_ref_as_front-fit_patch c = outputs-few c.requires.0.parts

pub shared_ref_as_front-fit_patch-2 : goal.shared_ref_as_front-fit_patch-2
shared_ref_as_front-fit_patch-2 c =
    parts-few c.requires.0.parts c.args.sheet.now c.in_ok-patch.ensures refl

pub slice_bounds-fit_patch-end-3 : goal.slice_bounds-fit_patch-end-3
slice_bounds-fit_patch-end-3 c = omega (arith, ended (goal.at.slice_bounds-fit_patch-end-3 c).After-reading_count)

pub fit_patch-requires : goal.fit_patch-requires
fit_patch-requires c =
    let a = c.args in
    let q = c.requires.0.parts in
    let w = c.requires.0.old in
    let e = outputs-taken q in
    record {
      fittable = (
        sheet-fittable q a.sheet.now c.in_ok-patch.ensures refl w _ c.reading_count.ensures,
        c.requires.1,
      );
      outputs_bound = (outputs-most q, outputs-old q.good w _ e);
    }

pub returns : goal.returns
returns c j q w =
    let a = c.args in
    sheet-accepted q a.sheet.now c.in_ok-patch.ensures refl w _ c.reading_count.ensures _ (outputs-taken q)
    c.fit_patch.ensures
