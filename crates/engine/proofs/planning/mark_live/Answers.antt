-- `engine::planning::mark_live` meets its contract. The invariant: the marks so far, with those of the gates left, give the whole.
-- Assumes nothing.
use Prim.Native.Nat.{ℕ}
use mathlib.Core.Path.{sym, ◌∙◌, ap}
use mathlib.Core.List.{List}
use Rattle.engine.specs.Inner.Plan.{live_from}
use Rattle.engine.proofs.Laws.PlanCode.{live-marked, live-unmarked, live-none}
use Rattle.engine.proofs.planning.mark_live.Goals as goal

pub loop-c-preserved-then-marks-c-ne0 : goal.loop-c-preserved-then-marks-c-ne0
loop-c-preserved-then-marks-c-ne0 c =
    let l = c.loop-c in
    let n = c.in-Some in
    let rest = c.next.new.self.iter.rest.now in
    ap (λ (ms : List ℕ). live_from ms rest) c.mark_operands.ensures
    ∙ live-marked l.marks n.field-0.now rest c.if-marks-c-ne0.true
    ∙ sym (ap (live_from l.marks) n.ensures.steps)
    ∙ l.invariant

pub loop-c-preserved : goal.loop-c-preserved
loop-c-preserved c =
    let l = c.loop-c in
    let n = c.in-Some in
    live-unmarked l.marks n.field-0.now c.next.new.self.iter.rest.now c.if-marks-c-ne0.false
    ∙ sym (ap (live_from l.marks) n.ensures.steps)
    ∙ l.invariant

pub returns : goal.returns
returns c =
    let l = c.loop-c in
    sym (live-none l.marks l.c-iterator.iter.rest.now c.in-None.ensures.steps.0) ∙ l.invariant
