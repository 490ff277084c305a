-- `engine::planning::reads_of` meets its contract: the miter's gates that lead to the nets read, and that no target leads to, are a plan
-- that reads alone. Assumes nothing.
use mathlib.Core.Path.{refl}
use Rattle.engine.proofs.Laws.PlanLists.{planned-reads}
use Rattle.engine.proofs.planning.reads_of.Goals as goal

pub returns : goal.returns
returns c j is o e h =
    planned-reads o c.args.reads e h
    record { inputs = refl; targets = refl; outs = refl; outputs = refl; goldens = refl; reads = refl }
    c.live_marks-live.ensures
    c.mark_from-fan.ensures
    c.pick-end.ensures
