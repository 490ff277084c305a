-- `engine::masks::turn_target` meets its contract: the target's net is set, and the list of gates that it leads to is run. Assumes
-- nothing.
use Rattle.engine.proofs.Laws.Searching.{target-turned}
use Rattle.engine.proofs.masks.turn_target.Goals as goal

pub returns : goal.returns
returns c =
    target-turned c.args.plan.now c.args.t c.args.x c.set_net.ensures c.run.ensures
