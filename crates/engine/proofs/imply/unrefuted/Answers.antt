-- `engine::imply::unrefuted` meets its contract. The invariant: what values give of the cubes so far is in those left. Assumes nothing.
use Prim.Native.Nat.{◌<◌}
use mathlib.Core.Path.{◌≡◌}
use mathlib.Core.Logic.{⊎_elim}
use native.Mathlib.Omega.{arith}
use Rattle.engine.proofs.Laws.Cover.{cubes-at, cube-item}
use Rattle.engine.proofs.Laws.Imply.{none_in, none-added}
use Rattle.engine.proofs.Laws.List.{eq-or-below}
use Rattle.engine.proofs.imply.unrefuted.Goals as goal
use Rattle.engine.proofs.imply.unrefuted.Goals.{then-not-refuted, else-not-refuted+then-not-is_full, else-not-refuted+else-not-is_full}

pub loop-cube-preserved : goal.loop-cube-preserved
loop-cube-preserved c =
    let i = c.loop-cube.invariant in
    let n = c.loop-cube.cube-index in
    let at = cube-item c.cubes-cube-items.result.now n c.loop-cube-test.true c.cube-item.is in
    elim c.if-not-refuted.branch [
      | then-not-refuted w ↦
          let a = w.push.ensures in
          rw (w.left-is, w.never-is) (
            omega (arith, a.count, i.0),
            λ vs v k h m. ⊎_elim (λ (e : k ≡ n). a.added _ (at _ (rw e at m))) (λ (u : k < n). a.kept _ (i.1 vs v k u m)) (eq-or-below k n h),
            i.2,
          )
      | else-not-refuted+then-not-is_full w ↦
          let f = c.refuted.ensures (w.if-not-refuted.false) in
          rw (w.left-is, w.never-is) (
            omega (arith, i.0),
            λ vs v k h m. ⊎_elim (λ (e : k ≡ n). absurd (none_in c.args.plan.now c.cube-item.result f vs v (at _ (rw e at m)))) (λ (u : k < n). i.1 vs v k u m) (eq-or-below k n h),
            none-added f i.2 w.push-then-not-is_full.ensures,
          )
      | else-not-refuted+else-not-is_full w ↦
          let f = c.refuted.ensures (w.if-not-refuted.false) in
          rw (w.left-is, w.never-is) (
            omega (arith, i.0),
            λ vs v k h m. ⊎_elim (λ (e : k ≡ n). absurd (none_in c.args.plan.now c.cube-item.result f vs v (at _ (rw e at m)))) (λ (u : k < n). i.1 vs v k u m) (eq-or-below k n h),
            i.2,
          )
    ]

pub returns : goal.returns
returns c =
    let i = c.loop-cube.invariant in (
      record { left = λ vs v m. let k = cubes-at c.cubes-cube-items.ensures (omega arith) (omega arith) m in i.1 vs v k.0 k.1 k.2 },
      i.2,
    )
