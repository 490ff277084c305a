-- The text of what judge says, and choose where every input is fixable.
use Rattle.std.proofs.Common.{◌≡◌, ◌∙◌, refl, sym, arith}
use Rattle.std.specs.Prelude.{Result, Ok, Err, is_ok, true}
use Rattle.records.proofs.Laws.Reply.{refusal-number}
use Rattle.records.specs.Service.{number_of}
use Rattle.records.specs.declared.refusal.Refusal.{Refusal}
use Rattle.engine.specs.Reply.{declined_judge, declined_choose, choose_told}
use Rattle.engine.specs.declared.choosing.ChosenSheet.{ChosenSheet}
use borrow.Author.Rules.{rules}
use lib.Seq.{length-take-le}
use Rattle.report.proofs.Laws.Text.{rectify-long}
use Rattle.report.proofs.Laws.Printed.{refused-text, judge-short, judge-unfixable, unfixable-text, vectors-short, choose-zero, choose-short, choose-whole, chosen-text}
use Rattle.report.proofs.text.put_verdict.Goals as goal

pub returns-then-job-gt65535 : goal.returns-then-job-gt65535
unfolding number_of
returns-then-job-gt65535 c = c.put_refusal.ensures ∙ sym (rectify-long c.args.job.now c.if-job-gt65535.true)

pub returns-in-Err : goal.returns-in-Err
unfolding declined_judge
returns-in-Err c =
    c.put_refusal-in-Err.ensures
    ∙ refused-text c.args.job.now c.in-Err.ensures.reply c.if-job-gt65535.false (refusal-number c.in-Err.refusal)

pub slice_bounds-first-end : goal.slice_bounds-first-end
slice_bounds-first-end c =
    let l = judge-short c.args.job.now c.in-Ok.ensures.reply refl in
    search rules

pub slice_bounds-put_unfixable-end : goal.slice_bounds-put_unfixable-end
slice_bounds-put_unfixable-end c =
    let l = judge-short c.args.job.now c.in-Ok.ensures.reply refl in
    sym (length-take-le _ _ (omega arith))

pub put_unfixable-requires : goal.put_unfixable-requires
put_unfixable-requires c = (
  judge-unfixable c.args.job.now c.in-Ok.ensures.reply refl c.in-Ok.ensures.lent refl c.in-Unfixable.is,
  c.requires,
)

pub returns-in-Unfixable : goal.returns-in-Unfixable
returns-in-Unfixable c =
    let e = c.in-Ok.ensures in
    c.put_unfixable.ensures
    ∙ unfixable-text c.args.job.now e.reply refl e.lent refl c.in-Unfixable.is c.if-job-gt65535.false

pub slice_bounds-second-end : goal.slice_bounds-second-end
slice_bounds-second-end c =
    let l = choose-short c.args.job.now c.in-Ok.ensures.reply refl (rw c.unwrap-chosen.ensures at c.choose.ensures.reply) in
    search rules

-- choose accepts where its number is 0
accepts : (r : Result ChosenSheet Refusal) → (choose_told r).number ≡ 0 → is_ok r ≡ true
unfolding declined_choose
accepts (Ok _) z = refl
accepts (Err e) z = absurd (refusal-number e z)

pub unwrap-chosen-requires : goal.unwrap-chosen-requires
unwrap-chosen-requires c =
    accepts c.choose.result (choose-zero c.args.job.now c.in-Ok.ensures.reply refl c.choose.ensures.reply)

pub slice_bounds-put_choice-end : goal.slice_bounds-put_choice-end
slice_bounds-put_choice-end c =
    let l = choose-short c.args.job.now c.in-Ok.ensures.reply refl (rw c.unwrap-chosen.ensures at c.choose.ensures.reply) in
    sym (length-take-le _ _ (omega arith))

pub slice_bounds-put_choice-count : goal.slice_bounds-put_choice-count
slice_bounds-put_choice-count c =
    (judge-short c.args.job.now c.in-Ok.ensures.reply refl).0

pub slice_bounds-put_choice-start : goal.slice_bounds-put_choice-start
slice_bounds-put_choice-start c =
    (judge-short c.args.job.now c.in-Ok.ensures.reply refl).0

pub slice_bounds-put_choice-end-2 : goal.slice_bounds-put_choice-end-2
slice_bounds-put_choice-end-2 c =
    let l = judge-short c.args.job.now c.in-Ok.ensures.reply refl in omega arith

pub put_choice-requires : goal.put_choice-requires
put_choice-requires c =
    let s = c.args.job.now in
    let e = c.in-Ok.ensures in (
      choose-whole s e.reply refl (rw c.unwrap-chosen.ensures at c.choose.ensures.reply) c.choose.ensures.lent,
      vectors-short s e.reply refl e.lent refl c.in_default.not-Unfixable,
      c.requires,
    )

pub returns : goal.returns
returns c =
    let e = c.in-Ok.ensures in
    let f = c.choose.ensures in
    c.put_choice.ensures
    ∙ chosen-text c.args.job.now e.reply refl e.lent refl c.in_default.not-Unfixable (rw c.unwrap-chosen.ensures at f.reply) f.lent c.if-job-gt65535.false
