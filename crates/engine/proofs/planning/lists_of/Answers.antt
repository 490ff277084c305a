-- `engine::planning::lists_of` meets its contract. The invariant: the first t + 2 lists stand. Assumes nothing.
use Prim.Native.Nat.{◌+◌, ◌<◌}
use mathlib.Core.Path.{◌≡◌, refl}
use native.Mathlib.Omega.{arith}
use Rattle.engine.proofs.Laws.PlanCode.{lists-none, list-fan, list-led, lists-next}
use Rattle.engine.proofs.planning.lists_of.Goals as goal

pub loop-t-init : goal.loop-t-init
loop-t-init c =
    let a = c.args in
    let cs = a.gates.now in
    let live = a.live.now in
    let ms = c.mark_from-fan.result in
    let e = list-fan a.inputs a.targets live cs ms c.mark_from-fan.ensures in
    let u = lists-none a.inputs a.targets live cs ms _ _ _ c.mark_from-fan.ensures c.pick.ensures in
    lists-next a.inputs a.targets live cs 0 1 _ _ _ _ refl (omega arith) u (rw e at c.pick-2.ensures)

pub loop-t-preserved : goal.loop-t-preserved
loop-t-preserved c =
    let a = c.args in
    let l = c.loop-t in
    let h : l.t + 2 < 6 = omega (arith, c.loop-t-test.true, c.requires.1, c.requires.2) in
    let cs = a.gates.now in
    let live = a.live.now in
    let e = list-led a.inputs a.targets live cs l.t c.mark_from-marks.result c.mark_from-marks.ensures in
    let n : l.t + 2 + 1 ≡ l.t + 1 + 2 = omega arith in
    rw n at
    (lists-next a.inputs a.targets live cs (l.t + 1) (l.t + 2) l.ends l.out _ _ (omega arith) h l.invariant
    (rw e at c.pick-in-loop-t.ensures))
