-- `records::job::shaped` meets its contract: the walk and the lengths say whether the job is whole. Assumes nothing.
use native.Mathlib.Omega.{arith}
use mathlib.Core.Path.{◌∙◌}
use Rattle.std.specs.Prelude.{Some}
use Rattle.records.specs.Inner.{shape_of, Walked}
use Rattle.records.proofs.Laws.Shape.{broken-of-walk, walk-room, walk-counts}
use Rattle.records.proofs.job.shaped.Goals as goal
use Rattle.records.proofs.job.shaped.Goals.{In_ok-spans}

walked : (c : In_ok-spans) → Walked c.args.job.now 1 6 (Some c.in_ok-spans.spans)
walked c = c.in_ok-spans.ensures

pub returns-in_err-spans : goal.returns-in_err-spans
unfolding shape_of
returns-in_err-spans c = rw (c.from_residual.ensures, broken-of-walk c.args.job.now c.in_err-spans.ensures)

pub bounds-job-3 : goal.bounds-job-3
bounds-job-3 c = omega (arith, walk-room _ _ (walked (goal.at.bounds-job-3 c).In_ok-spans))

pub bounds-job-4 : goal.bounds-job-4
bounds-job-4 c = omega (arith, walk-room _ _ (walked (goal.at.bounds-job-4 c).In_ok-spans))

pub returns : goal.returns
returns c =
    c.counted.ensures ∙ walk-counts _ _ (walked (goal.at.returns c).In_ok-spans) _ _ c.wide.ensures c.wide-2.ensures
