-- `engine::ranges::eval_partial` meets its contract. The invariant: what is known so far, with the gates left, gives the whole.
-- Assumes nothing.
use Prim.Native.Nat.{ℕ, ◌+◌}
use mathlib.Core.Path.{sym, ◌∙◌, ap}
use native.Mathlib.Omega.{arith}
use lib.ListN.{get_or, drop, set}
use Rattle.engine.specs.Inner.Packed.{own, evaluated}
use Rattle.engine.specs.Inner.Ranges.{code_ternary}
use Rattle.engine.proofs.Laws.Run.{evaluated-next, evaluated-end}
use Rattle.engine.proofs.ranges.eval_partial.Goals as goal

pub loop-c-preserved : goal.loop-c-preserved
loop-c-preserved c =
    let l = c.loop-c in
    let cs = c.args.gates.now in
    let g = get_or cs l.c-index 0 in
    ap (λ (x : ℕ). evaluated code_ternary (set l.known (own g) x) (drop (l.c-index + 1) cs)) c.ternary_gate.ensures
    ∙ evaluated-next code_ternary l.known cs l.c-index (omega arith)
    ∙ l.invariant

pub returns : goal.returns
returns c =
    let l = c.loop-c in
    sym (evaluated-end code_ternary l.known c.args.gates.now l.c-index (omega arith)) ∙ l.invariant
