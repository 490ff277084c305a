-- `engine::planning::live_marks` meets its contract: the marks of outputs, goldens and nets, one after the other, and then backwards.
-- Assumes nothing.
use Prim.Native.Nat.{ℕ}
use mathlib.Core.Path.{◌∙◌, ap}
use mathlib.Core.List.{List}
use Rattle.engine.specs.Inner.Plan.{marked_all, live_from, live_marks}
use Rattle.engine.proofs.planning.live_marks.Goals as goal

pub returns : goal.returns
unfolding live_marks
returns c =
    let a = c.args in
    c.mark_live.ensures
    ∙ ap (λ (ms : List ℕ). live_from ms a.gates.now)
    (c.mark_nets-three.ensures
    ∙ ap (λ (ms : List ℕ). marked_all ms a.reads.now)
    (c.mark_nets-two.ensures ∙ ap (λ (ms : List ℕ). marked_all ms a.goldens.now) c.mark_nets-one.ensures))
