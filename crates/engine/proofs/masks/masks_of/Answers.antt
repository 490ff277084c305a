-- `engine::masks::masks_of` meets its contract. The invariant: the words are those at the vector of the step before, and the rows of
-- the steps so far are done. Assumes nothing.
use Prim.Native.Nat.{ℕ, ◌/◌, ◌^◌, ◌<◌}
use mathlib.Core.Path.{◌≡◌, ◌∙◌, subst}
use native.Mathlib.Nat.{one-mul}
use native.Mathlib.Omega.{arith}
use lib.Pow.{pow_pos, shl_exact}
use lib.Dec.{lit<}
use Rattle.engine.specs.Inner.Masks.{turns}
use Rattle.engine.specs.Inner.Kernel.{row_value, NetSet}
use Rattle.engine.specs.Inner.Search.{TargetTurned}
use Rattle.engine.proofs.Laws.Gray.{ordered-lt, turns-lt}
use Rattle.engine.proofs.Laws.Searching.{MasksDone, masks-first, masks-turned, masks-all, vectors-many}
use Rattle.engine.proofs.masks.masks_of.Goals as goal

pub loop-step-init : goal.loop-step-init
loop-step-init c =
    let p = c.args.plan.now in
    let u = c.shortest_list-u in
    let v = shl_exact 1 p.targets 64 (lit< tt) (omega (arith, p.targets_bound)) ∙ one-mul (2 ^ p.targets) in (
      lit< tt,
      v,
      masks-first p u.result u.ensures.0 c.args.words.now c.equal_row.result c.equal_row.ensures c.set_row.ensures,
    )

pub vector_at-v-requires : goal.vector_at-v-requires
vector_at-v-requires c = (c.shortest_list-u.ensures.0, omega (arith, vectors-many c.args.plan.now.targets_bound))

pub turned_at-t-requires : goal.turned_at-t-requires
turned_at-t-requires c = omega (arith, vectors-many c.args.plan.now.targets_bound)

pub overflow_shr-v : goal.overflow_shr-v
overflow_shr-v c =
    let s : c.loop-step.step < 16 = omega (arith, vectors-many c.args.plan.now.targets_bound) in
    omega (arith, turns-lt c.shortest_list-u.result c.shortest_list-u.ensures.0 c.loop-step.step s)

pub turn_target-requires : goal.turn_target-requires
turn_target-requires c =
    let s : c.loop-step.step < 16 = omega (arith, vectors-many c.args.plan.now.targets_bound) in
    let u = c.shortest_list-u in
    omega (arith, turns-lt u.result u.ensures.0 c.loop-step.step s)

pub set_row-requires-in-loop-step : goal.set_row-requires-in-loop-step
set_row-requires-in-loop-step c =
    let s : c.loop-step.step < 16 = omega (arith, vectors-many c.args.plan.now.targets_bound) in
    let u = c.shortest_list-u in
    omega (arith, ordered-lt u.result u.ensures.0 c.loop-step.step s)

pub loop-step-preserved : goal.loop-step-preserved
loop-step-preserved c =
    let p = c.args.plan.now in
    let l = c.loop-step in
    let u = c.shortest_list-u in
    let v = c.vector_at-v in
    let t = c.turn_target in
    let e = c.equal_row-in-loop-step in
    let r = c.set_row-in-loop-step in (
      omega arith,
      l.invariant.1,
      masks-turned p u.result u.ensures.0 l.step e.result p.targets_bound u.ensures.1 l.invariant.0 (omega (arith, l.invariant.1))
          l.invariant.2
          (subst (λ (x : ℕ). TargetTurned p (turns u.result l.step) (x / 2 ^ turns u.result l.step) l.words t.new.words) v.ensures
          (subst (λ (x : ℕ). TargetTurned p x (v.result / 2 ^ x) l.words t.new.words) c.turned_at-t.ensures t.ensures))
          e.ensures
          (subst (λ (x : ℕ). NetSet x (row_value e.result) l.masks r.new.words) v.ensures r.ensures),
    )

pub returns : goal.returns
returns c =
    let p = c.args.plan.now in
    let l = c.loop-step in
    let u = c.shortest_list-u in
    let e : l.step ≡ 2 ^ p.targets = omega (arith, l.invariant.1, pow_pos p.targets) in
    masks-all p u.result u.ensures.0 p.targets_bound u.ensures.1
    (subst (λ (k : ℕ). MasksDone p u.result c.args.words.now k l.words l.masks) e l.invariant.2)
