-- `engine::judging::rule_list` meets its contract: where the list is stuck, at an unfixable input. Assumes nothing.
use Rattle.engine.proofs.Laws.Rule.{unfixable-judged, fixable-judged}
use Rattle.engine.proofs.judging.rule_list.Goals as goal

pub returns-in-Some : goal.returns-in-Some
returns-in-Some c =
    λ j h.
    unfixable-judged j c.args.list h c.in-Some.is c.put_unfixable-len.ensures

pub returns : goal.returns
returns c =
    λ j h.
    fixable-judged j c.args.list h c.in_default.is c.put_vectors-len.ensures
