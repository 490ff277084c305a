-- `engine::judging::judge_job` meets its contract: the miter, and the vector list of all inputs. Assumes nothing.
use Rattle.engine.proofs.Laws.Rule.{parts-few, parts-nets, list-loop, stuck-small, if_some}
use Rattle.engine.proofs.judging.judge_job.Goals as goal

pub vector_list-list-requires : goal.vector_list-list-requires
vector_list-list-requires c =
    let p = c.requires.0.parts in
    record { below = c.requires.1; few = parts-few p }

pub rule_list-requires : goal.rule_list-requires
rule_list-requires c =
    let p = c.requires.0.parts in
    (if_some _ (stuck-small p c.vector_list-list.result (c.vector_list-list.ensures c.requires.0.job (c.merged_miter.ensures c.requires.0.job p) (parts-nets p))), c.requires.2)

pub returns : goal.returns
returns c =
    λ j p.
    c.rule_list.ensures j
    (list-loop p c.vector_list-list.result (c.vector_list-list.ensures j (c.merged_miter.ensures j p) (parts-nets p)))
