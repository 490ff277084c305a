-- `engine::guess::list_of_inputs` meets its contract. The invariant: the list after the inputs passed, and a table of its vectors
-- while the tables are trusted. Assumes nothing.
use mathlib.Core.Path.{sym, ◌∙◌}
use native.Mathlib.Omega.{arith}
use Rattle.engine.proofs.Laws.Guess.{ListsTo, zeros-listed, lists-start, lists-skip, lists-stuck, lists-all}
use Rattle.engine.proofs.Laws.Search.{block-range, walk_start, walk_here, walk_block, walk-skip, walk_end}
use Rattle.engine.proofs.guess.list_of_inputs.Goals as goal
use Rattle.engine.proofs.guess.list_of_inputs.Goals.{else-next, then-next}

pub first_trust-trust-requires : goal.first_trust-trust-requires
first_trust-trust-requires c = c.args.plan.now.inputs_bound

pub loop-b-init : goal.loop-b-init
loop-b-init c =
    let f = c.start-list in (
      record { few = c.first_trust-trust.ensures; table = λ l. zeros-listed f.result },
      walk_start (ListsTo c.args.plan.now f.result) c.args.plan.now.inputs_bound (lists-start f.result c.start-list.ensures),
      c.first_tries-tries.ensures,
    )

pub settled_from-skip-requires : goal.settled_from-skip-requires
settled_from-skip-requires c = omega (arith, c.loop-b.invariant.1.inputs)

-- ---- a block
pub list_inputs-next-requires : goal.list_inputs-next-requires
list_inputs-next-requires c =
    let i = c.loop-b.invariant in
    (omega (arith, i.1.inputs), i.0.table, i.0.few)

pub returns-then-is_some : goal.returns-then-is_some
returns-then-is_some c =
    let i = c.loop-b.invariant.1 in
    let e = c.list_inputs-next in
    let v = e.result.list in
    let r = block-range c.args.plan.now.inputs c.loop-b.b (omega (arith, i.inputs)) in
    lists-all v
    (lists-stuck v r.within (sym c.is_some.ensures ∙ c.if-is_some.true) (λ j q. e.ensures.0.listed j q (walk_here i (omega arith) j q)))

pub loop-b-preserved-then-skip-eq0 : goal.loop-b-preserved-then-skip-eq0
loop-b-preserved-then-skip-eq0 c =
    let i = c.loop-b.invariant.1 in
    let v = c.list_inputs-next.result.list in
    let e = c.list_inputs-next.ensures in (
      record {
        few = e.1;
        table = λ h.
            elim c.if-next.branch [
              | then-next u ↦ rw u.table-is u.listed_table-table.ensures
              | else-next u ↦ rw u.table-is (e.2 u.if-next.false h)
            ];
      },
      walk_block i (omega arith) (omega (arith, i.inputs)) (ListsTo _ v)
          (λ j q. e.0.listed j q (walk_here i (omega arith) j q)),
      c.next_tries-tries.ensures,
    )

-- ---- blocks that need no look
pub overflow_add-b-else-skip-eq0 : goal.overflow_add-b-else-skip-eq0
overflow_add-b-else-skip-eq0 c = omega (arith, c.settled_from-skip.ensures.few)

pub loop-b-preserved : goal.loop-b-preserved
loop-b-preserved c =
    let i = c.loop-b.invariant in
    let s = c.settled_from-skip.ensures in (
      i.0,
      walk-skip i.1 (omega arith) _ _ s.within (lists-skip _ s (walk_here i.1 (omega arith))),
      c.next_tries-tries.ensures,
    )

pub returns : goal.returns
returns c =
    lists-all _ (walk_end c.loop-b.invariant.1 (omega arith))
