-- `engine::planning::pick` meets its contract. The invariant: the wanted ones of the gates passed are put, as far as there is room.
-- Assumes nothing.
use mathlib.Core.Logic.{inl, inr}
use native.Mathlib.Omega.{arith}
use lib.ListN.{get_or}
use Rattle.engine.proofs.Laws.PlanCode.{wanted-true, wanted-false, picking-none, picking-put, picking_full, picking-left}
use Rattle.engine.proofs.planning.pick.Goals as goal
use Rattle.engine.proofs.planning.pick.Goals.{then-live-net-ne0+then-marks-net+then-end-lt-LISTED, then-live-net-ne0+then-marks-net+else-end-lt-LISTED, then-live-net-ne0+else-marks-net, else-live-net-ne0}

pub loop-c-init : goal.loop-c-init
loop-c-init c =
    let a = c.args in
    picking-none a.live.now a.marks.now a.led a.gates.now a.out.now a.at c.requires (omega arith)

pub loop-c-preserved : goal.loop-c-preserved
loop-c-preserved c =
    let a = c.args in
    let l = c.loop-c in
    let live = a.live.now in
    let ms = a.marks.now in
    let gates = a.gates.now in
    let n = c.loop-c-test.true in
    let i = l.c-index in
    let wants = wanted-true live ms a.led (get_or gates i 0) in
    let leaves = wanted-false live ms a.led (get_or gates i 0) in
    elim c.if-live-net-ne0.branch [
      | then-live-net-ne0+then-marks-net+then-end-lt-LISTED k ↦
          rw (k.out-is, k.end-is)
          (picking-put live ms a.led gates a.out.now a.at l.out l.end i l.invariant n (wants k.if-live-net-ne0.true k.if-marks-net.true)
          k.if-end-lt-LISTED.true)
      | then-live-net-ne0+then-marks-net+else-end-lt-LISTED k ↦
          rw (k.out-is, k.end-is)
          (picking_full live ms a.led gates a.out.now a.at l.out l.end i l.invariant n (wants k.if-live-net-ne0.true k.if-marks-net.true)
          k.if-end-lt-LISTED.false)
      | then-live-net-ne0+else-marks-net k ↦
          rw (k.out-is, k.end-is)
          (picking-left live ms a.led gates a.out.now a.at l.out l.end i l.invariant n (leaves (inr k.if-marks-net.false)))
      | else-live-net-ne0 k ↦
          rw (k.out-is, k.end-is)
          (picking-left live ms a.led gates a.out.now a.at l.out l.end i l.invariant n (leaves (inl k.if-live-net-ne0.false)))
    ]
