-- `engine::choosing::choose` meets its contract: the job is loaded, and the choice made. Assumes nothing.
use Rattle.records.specs.Job.{job_of}
use Rattle.records.specs.Service.{number_of}
use Rattle.records.proofs.Laws.Option.{err-is}
use Rattle.records.proofs.Laws.Reply.{refusal-number, replied}
use Rattle.engine.proofs.Laws.Reply.{choose-short, choose-refused, choose-accepted}
use Rattle.engine.proofs.Laws.Loaded.{refused-number, accepted-job, accepted-parts, some-parts, nets-small}
use Rattle.engine.proofs.choosing.choose.Goals as goal

pub returns-then-reply-lt-LONGEST_CHOOSE : goal.returns-then-reply-lt-LONGEST_CHOOSE
unfolding number_of
returns-then-reply-lt-LONGEST_CHOOSE c =
    let a = c.args in replied (choose-short a.reply.now a.job.now c.if-reply-lt-LONGEST_CHOOSE.true)

pub returns-in_err-parts : goal.returns-in_err-parts
returns-in_err-parts c =
    let a = c.args in
    let x = c.in_err-parts.field-0.0 in
    rw (err-is _ _ c.from_residual.ensures.1)
    (replied
    (choose-refused a.reply.now a.job.now _ c.if-reply-lt-LONGEST_CHOOSE.false (refused-number a.job.now x c.in_err-parts.ensures)
    (refusal-number x)))

pub choose_job-requires : goal.choose_job-requires
choose_job-requires c =
    let s = c.args.job.now in
    let e = c.in_ok-parts.ensures in
    (some-parts s e, nets-small s e, c.if-reply-lt-LONGEST_CHOOSE.false)

pub returns : goal.returns
returns c =
    let a = c.args in
    let e = c.in_ok-parts.ensures in
    replied
    (choose-accepted a.reply.now a.job.now c.if-reply-lt-LONGEST_CHOOSE.false (accepted-job a.job.now e)
    (c.choose_job.ensures (job_of a.job.now) (accepted-parts a.job.now e)))
