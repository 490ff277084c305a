-- `engine::leaves::keep_equal` meets its contract. The invariant: the first w words are kept where the nets are equal, the others
-- as at entry. Assumes nothing.
use mathlib.Core.Path.{◌≡◌}
use native.Mathlib.Omega.{arith}
use Rattle.engine.proofs.Laws.Leaves.{row_kept}
use Rattle.engine.proofs.leaves.keep_equal.Goals as goal

pub returns : goal.returns
returns c =
    let l = c.loop-w in
    let e : l.w ≡ 16 = omega arith in
    row_kept _ _ _ _ _ (rw e at l.invariant)
