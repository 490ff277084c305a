-- `engine::planning::mark_operands` meets its contract. The invariant: the marks so far, with those of the operands left, give the
-- whole. Assumes nothing.
use mathlib.Core.Path.{sym, ◌∙◌, ap}
use Rattle.engine.specs.Inner.Operands.{operands_left}
use Rattle.engine.specs.Inner.Plan.{marked_all}
use Rattle.engine.proofs.Laws.Packed.{field-below}
use Rattle.engine.proofs.planning.mark_operands.Goals as goal

pub bounds-marks-net : goal.bounds-marks-net
bounds-marks-net c = field-below _ _ c.in-Some.ensures.steps

pub loop-net-init : goal.loop-net-init
loop-net-init c =
    let e = ap operands_left c.into_iter-net-iterator.ensures.into_iter_gives ∙ c.operands_of-net-items.ensures in
    ap (marked_all c.args.marks.now) e

pub loop-net-preserved : goal.loop-net-preserved
unfolding marked_all
loop-net-preserved c =
    let l = c.loop-net in
    sym (ap (marked_all l.marks) c.in-Some.ensures.steps) ∙ l.invariant

pub returns : goal.returns
unfolding marked_all
returns c =
    let l = c.loop-net in
    sym (ap (marked_all l.marks) c.in-None.ensures.steps.0) ∙ l.invariant
