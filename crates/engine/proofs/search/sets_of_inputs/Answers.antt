-- `engine::search::sets_of_inputs` meets its contract. The invariant: the sets after the blocks passed, and, where the table is tried
-- next, that it is theirs. Assumes nothing.
use Prim.Native.Nat.{ℕ, ◌-◌, ◌*◌, ◌/◌, ◌%◌, ◌^◌}
use mathlib.Core.Path.{◌≡◌, ◌∙◌, ap, subst}
use mathlib.Core.Logic.{⊎_elim}
use native.Mathlib.Omega.{arith}
use borrow.Author.Tests.{eqb-true, eqb-false, not-false}
use lib.Pow.{pow_mono}
use Rattle.engine.specs.Inner.Search.{SetsTo}
use Rattle.engine.proofs.Laws.Choice.{and_cases}
use Rattle.engine.proofs.Laws.ReadingSets.{sets-start, sets-skip}
use Rattle.engine.proofs.Laws.Sole.{sole-start}
use Rattle.engine.proofs.Laws.Search.{walk_start, walk_here, walk-range, walk_block, walk-skip, walk_end}
use Rattle.engine.proofs.search.sets_of_inputs.Invariants.{SetsAfter}
use Rattle.engine.proofs.search.sets_of_inputs.Goals as goal
use Rattle.engine.proofs.search.sets_of_inputs.Goals.{else-kept-pace, then-kept-pace}

pub overflow_shl-size : goal.overflow_shl-size
overflow_shl-size c = omega (arith, c.args.plan.now.inputs_bound)

pub loop-b-init : goal.loop-b-init
loop-b-init c =
    let p = c.args.plan.now in (
      λ _. sole-start c.all_vectors.result,
      walk_start (SetsAfter _ _ _) p.inputs_bound
          (λ j q. sets-start j (omega (arith, p.targets_bound, q.planned.targets)) (c.all_vectors.ensures ∙ ap (λ (m : ℕ). 2 ^ 2 ^ m - 1) q.planned.targets)),
      c.first_tries-tries.ensures,
    )

pub settled_from-skip-requires : goal.settled_from-skip-requires
settled_from-skip-requires c = omega (arith, c.loop-b.invariant.1.inputs)

pub next_tries-tries-requires : goal.next_tries-tries-requires
next_tries-tries-requires c = c.loop-b.invariant.2

pub meet_inputs-kept-requires : goal.meet_inputs-kept-requires
meet_inputs-kept-requires c =
    let i = c.loop-b.invariant in
    (walk-range i.1 (omega arith) c.block_inputs-count.ensures, λ e. i.0 (eqb-true c.loop-b.pace.wait 0 e))

pub loop-b-preserved-then-skip-eq0 : goal.loop-b-preserved-then-skip-eq0
loop-b-preserved-then-skip-eq0 c =
    let i = c.loop-b.invariant in
    let e = c.meet_inputs-kept.ensures in (
      -- the table is made again; or the sets stay; or it is not tried next
      λ o.
          elim c.if-kept-pace.branch [
            | then-kept-pace w ↦ rw w.table-is w.sole_table-table.ensures
            | else-kept-pace w ↦
                rw w.table-is
                (⊎_elim
                (λ k.
                let s = e.tried_value (not-false c.meet_inputs-kept.result k) in
                rw s.1 (i.0 (eqb-true c.loop-b.pace.wait 0 s.0)))
                (λ z. absurd (eqb-false c.next_pace-pace.result.wait 0 z o))
                (and_cases _ _ w.if-kept-pace.false))
          ],
      walk_block i.1 (omega arith) c.block_inputs-count.ensures (SetsAfter _ _ _)
          (λ j q. e.block_met.sets j c.loop-b.skipped q (walk_here i.1 (omega arith) j q)),
      c.next_tries-tries.ensures,
    )

pub overflow_shl-skipped : goal.overflow_shl-skipped
overflow_shl-skipped c = omega (arith, c.loop-b.invariant.1.few)

pub overflow_add-b-else-skip-eq0 : goal.overflow_add-b-else-skip-eq0
overflow_add-b-else-skip-eq0 c = omega (arith, c.settled_from-skip.ensures.few)

pub loop-b-preserved : goal.loop-b-preserved
loop-b-preserved c =
    let f = c.settled_from-skip in
    let i = c.loop-b.invariant in
    let n = c.loop-b.b / 32 in
    let e : 1 * 2 ^ n % 18446744073709551616 ≡ 2 ^ n = omega (arith, pow_mono {i = n} {j = 63} (omega (arith, i.1.few))) in (
      i.0,
      walk-skip i.1 (omega arith) (SetsAfter _ _ _) f.result f.ensures.within
          (λ j q. rw e (sets-skip f.ensures (omega arith) q.planned (walk_here i.1 (omega arith) j q))),
      c.next_tries-tries.ensures,
    )

pub returns : goal.returns
returns c =
    let l = c.loop-b in
    λ j q. subst (λ (n : ℕ). SetsTo j (2 ^ n) l.skipped l.sets) q.planned.inputs (walk_end l.invariant.1 (omega arith) j q)
