-- `engine::choosing::rule_blind` meets its contract. Assumes nothing.
use Rattle.engine.proofs.Laws.Rule.{blind-choice}
use Rattle.engine.proofs.choosing.rule_blind.Goals as goal

pub returns : goal.returns
returns c = λ j s e. blind-choice j s e c.put_blind-len.ensures
