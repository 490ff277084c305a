-- `engine::turn::power` meets its contract. Assumes nothing.
use borrow.Author.Rules.{rules}
use Rattle.engine.proofs.Laws.Turn.{power-is}
use Rattle.engine.proofs.turn.power.Goals as goal

pub returns : goal.returns
returns c = let p = power-is c.args.e c.requires in (p.0, search rules)
