-- `engine::comparing::table_of` meets its contract. The invariant: the first k entries are copied. Assumes nothing.
use Prim.Native.Nat.{◌+◌, ◌-◌}
use mathlib.Core.Path.{◌≡◌}
use native.Mathlib.Omega.{arith}
use lib.ListN.{drop, length-take, length-drop}
use Rattle.engine.proofs.Laws.Compare.{table-copied}
use Rattle.engine.proofs.comparing.table_of.Goals as goal

pub returns : goal.returns
returns c =
    let l = c.loop-k in
    let a = c.args in
    let e : l.k ≡ a.count = omega (arith, c.loop-k-test.false, length-take (a.start + a.count - a.start) (drop a.start a.sheet.now), length-drop a.start a.sheet.now) in
    table-copied _ _ a.start a.count (omega arith) (rw e at l.invariant)
