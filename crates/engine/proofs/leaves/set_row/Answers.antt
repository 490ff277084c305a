-- `engine::leaves::set_row` meets its contract. The invariant: the first w words are stored. Assumes nothing.
use mathlib.Core.Path.{◌≡◌}
use native.Mathlib.Omega.{arith}
use Rattle.engine.proofs.Laws.Leaves.{row-stored}
use Rattle.engine.proofs.leaves.set_row.Goals as goal

pub returns : goal.returns
returns c =
    let l = c.loop-w in
    let e : l.w ≡ 16 = omega arith in
    row-stored _ _ _ _ (rw e at l.invariant.1)
