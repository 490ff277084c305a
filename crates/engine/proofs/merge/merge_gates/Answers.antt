-- `engine::merge::merge_gates` meets its contract. The invariant: the gates may stand for those at the start, each net has one that
-- stands for it, and the chains are of earlier gates. Assumes nothing.
use Prim.Native.Nat.{◌-◌, ◌≤◌}
use mathlib.Core.Path.{refl, sym, ◌∙◌, ap}
use native.Mathlib.Omega.{arith}
use lib.Seq.{get_or-set_same}
use Rattle.engine.specs.Inner.Packed.{gate_in}
use Rattle.engine.proofs.Laws.Loaded.{below-zeros}
use Rattle.engine.proofs.Laws.Merge.{merging-none, merging-moved, merging-stands, merging-place}
use Rattle.engine.proofs.merge.merge_gates.Goals as goal
use Rattle.engine.proofs.merge.merge_gates.Goals.{then-k-gt0, else-k-gt0}

pub loop-i-init : goal.loop-i-init
loop-i-init c =
    merging-none c.told-gates c.number_inputs-stands.ensures
    (record { heads = below-zeros 1 1024 (omega arith); next = λ k. omega (arith, below-zeros 1 800 (omega arith) k) })

pub loop-i-preserved : goal.loop-i-preserved
loop-i-preserved c =
    let l = c.loop-i in
    let h = c.loop-i-test.true in
    let k = c.find-k.result in
    let found : k ≤ l.i = omega (arith, c.find-k.ensures.0, l.invariant.chained.heads c.place_of-at.result) in
    let moving = merging-moved l.invariant c.requires.0 h c.moved_code-c.ensures in
    let same = get_or-set_same l.gates l.i c.moved_code-c.result 0 (omega (arith, l.invariant.long)) in
    elim c.if-k-gt0.branch [
      | then-k-gt0 d ↦
          rw (d.stands-is, d.heads-is, d.next-is)
          (merging-stands moving c.requires.0 h (k - 1) (omega (arith, found))
          (c.find-k.ensures.1 d.if-k-gt0.true ∙ ap gate_in (sym same))
          (omega arith))
      | else-k-gt0 d ↦ rw (d.stands-is, d.heads-is, d.next-is) (merging-place moving c.requires.0 c.place_of-at.result refl)
    ]
