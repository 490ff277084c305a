-- `engine::planning::mark_nets` meets its contract. The invariant: the marks so far, with those of the nets left, give the whole.
-- Assumes nothing.
use mathlib.Core.Path.{sym, ◌∙◌}
use native.Mathlib.Omega.{arith}
use Rattle.engine.proofs.Laws.PlanCode.{marked_all-next, marked_all-end}
use Rattle.engine.proofs.planning.mark_nets.Goals as goal

pub loop-net-preserved : goal.loop-net-preserved
loop-net-preserved c =
    let l = c.loop-net in
    marked_all-next l.marks c.args.nets.now l.net-index (omega arith) ∙ l.invariant

pub returns : goal.returns
returns c =
    let l = c.loop-net in
    sym (marked_all-end l.marks c.args.nets.now l.net-index (omega arith)) ∙ l.invariant
