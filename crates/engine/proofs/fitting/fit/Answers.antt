-- `engine::fitting::fit` meets its contract: the job's parts are loaded, and the sheet fitted to them. Assumes nothing.
use Rattle.records.specs.Job.{job_of}
use Rattle.records.specs.Service.{number_of}
use Rattle.records.proofs.Laws.Option.{err-is}
use Rattle.records.proofs.Laws.Reply.{replied}
use Rattle.engine.proofs.Laws.FitSheet.{fit_gives, fit-short, fit_refused, fit-accepted}
use Rattle.engine.proofs.Laws.Loaded.{accepted-job, accepted-parts, some-parts}
use Rattle.engine.proofs.fitting.fit.Goals as goal

pub returns-then-reply-lt-LONGEST_FIT : goal.returns-then-reply-lt-LONGEST_FIT
unfolding number_of
returns-then-reply-lt-LONGEST_FIT c =
    let a = c.args in
    replied (fit_gives a.reply.now a.job.now a.sheet.now (fit-short a.reply.now a.job.now a.sheet.now c.if-reply-lt-LONGEST_FIT.true))

pub returns-in_err-parts : goal.returns-in_err-parts
returns-in_err-parts c =
    let a = c.args in
    rw (err-is _ _ c.from_residual.ensures.1)
    (replied
    (fit_gives a.reply.now a.job.now a.sheet.now
    (fit_refused a.reply.now a.job.now a.sheet.now c.if-reply-lt-LONGEST_FIT.false _ c.in_err-parts.ensures)))

pub old_side-old-requires : goal.old_side-old-requires
old_side-old-requires c = some-parts c.args.job.now c.in_ok-parts.ensures

pub fit_sheet-requires : goal.fit_sheet-requires
fit_sheet-requires c =
    let q = accepted-parts c.args.job.now c.in_ok-parts.ensures in (
      record { job = job_of c.args.job.now; parts = q; old = c.old_side-old.ensures (job_of c.args.job.now) q },
      c.if-reply-lt-LONGEST_FIT.false,
    )

pub returns : goal.returns
returns c =
    let a = c.args in
    let j = job_of a.job.now in
    let q = accepted-parts a.job.now c.in_ok-parts.ensures in
    replied
    (fit_gives a.reply.now a.job.now a.sheet.now
    (fit-accepted a.reply.now a.job.now a.sheet.now c.if-reply-lt-LONGEST_FIT.false (accepted-job a.job.now c.in_ok-parts.ensures)
    (c.fit_sheet.ensures j q (c.old_side-old.ensures j q))))
