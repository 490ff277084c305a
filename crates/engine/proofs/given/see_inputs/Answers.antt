-- `engine::given::see_inputs` meets its contract. The invariant: the sets after the blocks passed, all readings seen before the first that is
-- not, a cover of those that are not, and cubes that none gives. Assumes nothing.
use Prim.Native.Nat.{◌*◌, ◌%◌, ◌^◌, ◌<◌}
use mathlib.Core.Path.{refl}
use mathlib.Core.Logic.{inl, inr}
use native.Mathlib.Omega.{arith}
use borrow.Author.Tests.{eqb-true, eqb-false}
use Rattle.std.proofs.Common.{rules}
use Rattle.engine.specs.Inner.Given.{Covered}
use Rattle.engine.proofs.Laws.Given.{seeing-none, seeing-range, seeing-next, seeing-pass, seeing-all, given-kept}
use Rattle.engine.proofs.Laws.Rule.{readings-many}
use Rattle.engine.proofs.given.see_inputs.Goals as goal
use Rattle.engine.proofs.given.see_inputs.Goals.{In-loop-b, Joined-is_due, then-is_due, else-is_due}

pub next_unseen-next-requires : goal.next_unseen-next-requires
next_unseen-next-requires c = (omega arith, omega (arith, c.reading_count-count.ensures, readings-many c.args.plan.now.reads_bound))

pub loop-b-init : goal.loop-b-init
loop-b-init c =
    let p = c.args.plan.now in (
      seeing-none p c.args.skipped p.inputs_bound p.reads_bound (omega arith) c.reading_count-count.ensures c.next_unseen-next.ensures,
      c.new-covering.ensures,
    )

-- the cover, made anew or not
covered : (c : Joined-is_due) → Covered c.args.plan.now c.loop-b.sets c.if-is_due.covering
covered c =
    elim c.if-is_due.branch [
      | then-is_due w ↦ rw w.covering-is w.renew.ensures
      | else-is_due w ↦ rw w.covering-is c.loop-b.invariant.1
    ]

pub returns-then-covering-eq0 : goal.returns-then-covering-eq0
returns-then-covering-eq0 c =
    let o = covered (goal.at.returns-then-covering-eq0 c).Joined-is_due in
    let i = c.loop-b.invariant in
    (seeing-all i.0 o.left (inr (inr c.if-covering-eq0.true)), i.0.same)

-- the block has inputs
block-lt : (c : In-loop-b) → 1024 * c.loop-b.b < 1 * 2 ^ c.args.plan.now.inputs % 18446744073709551616
block-lt c = omega (arith, c.loop-b-test.true, c.div_ceil-b-end.ensures)

pub see_block-requires : goal.see_block-requires
see_block-requires c =
    let o = covered (goal.at.see_block-requires c).Joined-is_due in
    (seeing-range c.loop-b.invariant.0 (block-lt (goal.at.see_block-requires c).In-loop-b) c.block_inputs-inputs.ensures, o.left)

pub loop-b-preserved-then-not-is_skipped : goal.loop-b-preserved-then-not-is_skipped
loop-b-preserved-then-not-is_skipped c =
    let i = c.loop-b.invariant in
    let l = block-lt (goal.at.loop-b-preserved-then-not-is_skipped c).In-loop-b in
    (seeing-pass (rw c.in-Some.is at i.0) l refl (eqb-false _ 1 (search rules)), i.1)

pub loop-b-preserved : goal.loop-b-preserved
loop-b-preserved c =
    let o = covered (goal.at.loop-b-preserved c).Joined-is_due in
    let i = rw c.in-Some.is at c.loop-b.invariant.0 in
    let l = block-lt (goal.at.loop-b-preserved c).In-loop-b in
    let e = c.see_block.ensures in
    let s = seeing-next i l c.block_inputs-inputs.ensures (eqb-true _ 1 (search rules)) e c.next_unseen-next-in-loop-b.ensures in
    (s, record { left = given-kept o.left c.args.plan.now.reads_bound i.long e; never = o.never })

pub returns : goal.returns
returns c = let i = c.loop-b.invariant in (seeing-all i.0 i.1.left (inl (omega (arith, c.loop-b-test.false, c.div_ceil-b-end.ensures))), i.0.same)
