-- `engine::judging::vector_list` meets its contract, by words or by blocks. Assumes nothing.
use mathlib.Core.Path.{refl}
use Rattle.engine.specs.Support.{candidate_nets}
use Rattle.engine.proofs.Laws.Miter.{candidates-good}
use Rattle.engine.proofs.judging.vector_list.Goals as goal

pub returns-then-miter-le-WORD_INPUTS : goal.returns-then-miter-le-WORD_INPUTS
returns-then-miter-le-WORD_INPUTS c = λ j q e. c.list_of_words.ensures j q

-- the plan is the job's, so the list is of its inputs
pub returns : goal.returns
returns c =
    λ j q e. c.list_of_inputs.ensures j ((c.plan_of.ensures j (candidate_nets j) q e (candidates-good j q.good)).1 refl)
