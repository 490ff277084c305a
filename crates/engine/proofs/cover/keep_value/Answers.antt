-- `engine::cover::keep_value` meets its contract. The invariant: the first w words are kept where the net has the value, the others as at
-- entry. Assumes nothing.
use mathlib.Core.Path.{◌≡◌}
use native.Mathlib.Omega.{arith}
use Rattle.engine.proofs.Laws.Cover.{row-valued}
use Rattle.engine.proofs.cover.keep_value.Goals as goal

pub returns : goal.returns
returns c =
    let l = c.loop-w in
    let e : l.w ≡ 16 = omega arith in
    row-valued _ _ _ _ _ _ c.broadcast-v.ensures (rw e at l.invariant.1)
