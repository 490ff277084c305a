-- `engine::turn::moved` meets its contract. Assumes nothing.
use Rattle.engine.proofs.Laws.Turn.{moved-is}
use Rattle.engine.proofs.turn.moved.Goals as goal

pub returns : goal.returns
returns c = moved-is c.args.e c.args.i c.requires.0 c.requires.1
