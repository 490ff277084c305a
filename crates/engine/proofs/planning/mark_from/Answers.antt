-- `engine::planning::mark_from` meets its contract. The invariant: the marks so far, with those of the gates left, give the whole.
-- Assumes nothing.
use Prim.Native.Nat.{ℕ, ◌+◌}
use mathlib.Core.Path.{sym, ◌∙◌, ap}
use mathlib.Core.List.{List}
use native.Mathlib.Omega.{arith}
use lib.ListN.{get_or, drop, set}
use Rattle.engine.specs.Inner.Packed.{own, evaluated}
use Rattle.engine.specs.Inner.Plan.{code_mark, marks_from}
use Rattle.engine.proofs.Laws.Run.{evaluated-next, evaluated-end}
use Rattle.engine.proofs.planning.mark_from.Goals as goal

pub loop-c-init : goal.loop-c-init
unfolding marks_from
loop-c-init c = ap (λ (m : List ℕ). evaluated code_mark m c.args.gates.now) c.leaf_marks-marks.ensures

pub loop-c-preserved : goal.loop-c-preserved
loop-c-preserved c =
    let l = c.loop-c in
    let cs = c.args.gates.now in
    let x = get_or cs l.c-index 0 in
    ap (λ (m : ℕ). evaluated code_mark (set l.marks (own x) m) (drop (l.c-index + 1) cs)) c.gate_mark-m.ensures
    ∙ evaluated-next code_mark l.marks cs l.c-index (omega arith)
    ∙ l.invariant

pub returns : goal.returns
returns c =
    let l = c.loop-c in
    sym (evaluated-end code_mark l.marks c.args.gates.now l.c-index (omega arith)) ∙ l.invariant
