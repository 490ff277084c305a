-- `engine::comparing::compare` meets its contract: the job is loaded, and the sheet compared with it. Assumes nothing.
use mathlib.Core.Path.{◌∙◌}
use Rattle.records.specs.Job.{job_of}
use Rattle.records.proofs.Laws.Option.{err-is}
use Rattle.engine.proofs.Laws.Compare.{declined-job, compared-job}
use Rattle.engine.proofs.Laws.Loaded.{accepted-job, accepted-parts, some-parts}
use Rattle.engine.proofs.comparing.compare.Goals as goal

pub returns-in_err-load : goal.returns-in_err-load
returns-in_err-load c =
    let a = c.args in
    rw (err-is _ _ c.from_residual.ensures.1) (declined-job a.job.now a.sheet.now _ c.in_err-load.ensures)

pub compare_sheet-requires : goal.compare_sheet-requires
compare_sheet-requires c = some-parts c.args.job.now c.in_ok-load.ensures

pub returns : goal.returns
returns c =
    let a = c.args in
    let e = c.in_ok-load.ensures in
    c.compare_sheet.ensures (job_of a.job.now) (accepted-parts a.job.now e) ∙ compared-job a.job.now a.sheet.now (accepted-job a.job.now e)
