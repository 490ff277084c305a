-- `engine::planning::gate_mark` meets its contract. The invariant: the greatest mark so far, with those of the operands left, gives the
-- gate's. Assumes nothing.
use mathlib.Core.Path.{◌∙◌, ap}
use Rattle.engine.specs.Inner.Operands.{operands_left}
use Rattle.engine.proofs.Laws.PlanCode.{mark-all, mark-next, mark-none}
use Rattle.engine.proofs.Laws.Packed.{field-below}
use Rattle.engine.proofs.planning.gate_mark.Goals as goal

pub loop-net-init : goal.loop-net-init
loop-net-init c =
    let e = ap operands_left c.into_iter-net-iterator.ensures.into_iter_gives ∙ c.operands_of-net-items.ensures in
    rw e (mark-all c.args.marks.now c.args.c)

pub bounds-marks-net : goal.bounds-marks-net
bounds-marks-net c = field-below _ _ c.in-Some.ensures.steps

pub loop-net-preserved : goal.loop-net-preserved
loop-net-preserved c =
    let l = c.loop-net in
    mark-next c.args.marks.now c.args.c l.mark c.in-Some.net _ c.in-Some.ensures.steps c.max-mark.ensures l.invariant

pub returns : goal.returns
returns c =
    let l = c.loop-net in
    mark-none c.args.marks.now c.args.c l.mark c.in-None.ensures.steps.0 l.invariant
