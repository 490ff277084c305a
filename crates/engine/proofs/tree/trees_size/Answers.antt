-- `engine::tree::trees_size` meets its contract. The invariant: the sum and the sizes of the trees left are the whole.
-- Assumes nothing.
use Prim.Native.Nat.{ℕ, ◌+◌, ◌-◌, ◌≤◌}
use mathlib.Core.Path.{◌≡◌, ◌∙◌, ap}
use native.Mathlib.Nat.{zero-add}
use native.Mathlib.Omega.{arith}
use Rattle.engine.specs.Inner.Tree.{trees_size}
use Rattle.engine.proofs.Laws.Tree.{trees_size-le, trees_size-turn}
use Rattle.engine.proofs.tree.trees_size.Goals as goal

pub loop-t-init : goal.loop-t-init
loop-t-init c =
    let a = c.args in
    let e : a.targets - 0 ≡ a.targets = omega arith in
    (omega arith, zero-add _ ∙ ap (λ (i : ℕ). trees_size i 0 a.k a.table.now) e)

pub tree_size-sum-requires : goal.tree_size-sum-requires
tree_size-sum-requires c =
    let p = c.requires in
    record { most = p.0; within = p.1; target = omega arith }

pub overflow_add-sum : goal.overflow_add-sum
overflow_add-sum c =
    let small : let l = c.loop-t in let a = c.args in (l.sum + c.tree_size-sum.result + trees_size (a.targets - (l.t + 1)) (l.t + 1) a.k a.table.now ≡ trees_size a.targets 0 a.k a.table.now) × (trees_size a.targets 0 a.k a.table.now ≤ 20480) =
    let l = c.loop-t in
    let a = c.args in
    let n = trees_size-turn a.targets l.t a.k a.table.now c.loop-t-test.true in
    let r = c.tree_size-sum.ensures in
    (omega (arith, l.invariant.1), omega (arith, trees_size-le a.targets 0 a.k a.table.now c.requires.0, c.requires.2)) in
    let s = small in omega arith

pub loop-t-preserved : goal.loop-t-preserved
loop-t-preserved c =
    let small : let l = c.loop-t in let a = c.args in (l.sum + c.tree_size-sum.result + trees_size (a.targets - (l.t + 1)) (l.t + 1) a.k a.table.now ≡ trees_size a.targets 0 a.k a.table.now) × (trees_size a.targets 0 a.k a.table.now ≤ 20480) =
    let l = c.loop-t in
    let a = c.args in
    let n = trees_size-turn a.targets l.t a.k a.table.now c.loop-t-test.true in
    let r = c.tree_size-sum.ensures in
    (omega (arith, l.invariant.1), omega (arith, trees_size-le a.targets 0 a.k a.table.now c.requires.0, c.requires.2)) in
    (omega arith, small.0)

pub returns : goal.returns
unfolding trees_size
returns c =
    let l = c.loop-t in
    let a = c.args in
    let e : a.targets - l.t ≡ 0 = omega arith in
    omega (arith, l.invariant.1, ap (λ (i : ℕ). trees_size i l.t a.k a.table.now) e)
