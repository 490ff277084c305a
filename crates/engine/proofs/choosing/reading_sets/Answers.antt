-- `engine::choosing::reading_sets` meets its contract, by words or by blocks. Assumes nothing.
use mathlib.Core.Path.{refl}
use Rattle.engine.specs.Support.{candidate_nets}
use Rattle.engine.proofs.Laws.Miter.{candidates-good}
use Rattle.engine.proofs.choosing.reading_sets.Goals as goal

-- the plan is the job's, so the sets are of its inputs
pub returns : goal.returns
returns c j q e =
    c.sets_of_inputs.ensures j
    ((c.plan_of.ensures j (candidate_nets j) q e (candidates-good j q.good)).1 refl)
