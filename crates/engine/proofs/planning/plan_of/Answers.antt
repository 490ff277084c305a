-- `engine::planning::plan_of` meets its contract: the lists of the miter's live gates are a plan of its job. Assumes nothing.
use mathlib.Core.Path.{refl}
use Rattle.engine.proofs.Laws.PlanLists.{planned, turned}
use Rattle.engine.proofs.planning.plan_of.Goals as goal

pub returns : goal.returns
returns c j is o e h =
    let a = c.args in
    let le = c.live_marks-live.ensures in
    let u = c.lists_of-ends.ensures in (
      planned o a.reads e h record { inputs = refl; targets = refl; outs = refl; outputs = refl; goldens = refl; reads = refl } le
          a.turns c.requires.1 u,
      turned o a.reads e h record { inputs = refl; targets = refl; outs = refl; outputs = refl; goldens = refl; reads = refl } le
          a.turns c.requires.1 u,
    )
