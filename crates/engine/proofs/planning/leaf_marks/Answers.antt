-- `engine::planning::leaf_marks` meets its contract. The invariant: the first i leaves have their mark. Assumes nothing.
use Prim.Native.Nat.{ℕ, ◌+◌}
use mathlib.Core.List.{List}
use mathlib.Core.Path.{◌∙◌, ap}
use native.Mathlib.Omega.{arith}
use lib.ListN.{set}
use Rattle.engine.proofs.Laws.PlanCode.{leaves_none, leaves-next}
use Rattle.engine.proofs.planning.leaf_marks.Goals as goal

pub loop-i-init : goal.loop-i-init
loop-i-init c = leaves_none _

pub loop-i-preserved : goal.loop-i-preserved
loop-i-preserved c =
    let a = c.args in
    let l = c.loop-i in
    ap (λ (m : List ℕ). set m (a.from + l.i) 1) l.invariant ∙ leaves-next a.from l.i (omega arith)
