-- `engine::best::leave_out` meets its contract. The invariant: the readings before q have their sets in fewer, none of them empty. Assumes
-- nothing.
use Prim.Native.Nat.{ℕ, ◌+◌, ◌-◌, ◌*◌, ◌/◌, ◌%◌, ◌^◌, ◌<◌}
use mathlib.Core.Path.{◌≡◌, refl, sym, ◌∙◌, ap}
use native.Mathlib.Nat.{zero-add}
use native.Mathlib.Omega.{arith}
use borrow.Author.Count.{below_more}
use lib.Bits.{bit_and}
use lib.ListN.{get_or}
use Rattle.engine.specs.Inner.Best.{spread, joined_at}
use Rattle.engine.proofs.Laws.Fill.{fill-next}
use Rattle.engine.proofs.Laws.Sets.{left-filled, left-empty, spread-word, holds-some}
use Rattle.engine.proofs.best.leave_out.Goals as goal
use Rattle.engine.proofs.best.leave_out.Goals.{In-loop-q}

-- the readings that reading q comes from
places : (c : In-loop-q) → let a = c.args in
    let q = c.loop-q.q in
    (q + q / 2 ^ a.place * 2 ^ a.place % 18446744073709551616 ≡ spread a.place q) × (spread a.place q + 2 ^ a.place < 2 ^ a.len)
places c =
    spread-word c.args.place c.args.len c.loop-q.q c.requires.0 c.requires.1 (rw c.reading_count-count.ensures at c.loop-q-test.true)

-- .. and what their sets share
joined : (c : In-loop-q) → let a = c.args in
    let q = c.loop-q.q in
    let r = q + q / 2 ^ a.place * 2 ^ a.place % 18446744073709551616 in
    bit_and (get_or a.sets.now r 0) (get_or a.sets.now (r + c.reading_count-other.result) 0) ≡ joined_at a.sets.now a.place q
unfolding joined_at
joined c = rw ((places c).0, c.reading_count-other.ensures) refl

pub bounds-sets-r : goal.bounds-sets-r
bounds-sets-r c = omega (arith, places (goal.at.bounds-sets-r c).In-loop-q)

pub bounds-sets-r-in-loop-q : goal.bounds-sets-r-in-loop-q
bounds-sets-r-in-loop-q c = omega (arith, places (goal.at.bounds-sets-r-in-loop-q c).In-loop-q)

pub returns-then-both-eq0 : goal.returns-then-both-eq0
returns-then-both-eq0 c =
    let e = joined (goal.at.returns-then-both-eq0 c).In-loop-q in
    left-empty (rw c.reading_count-count.ensures at c.loop-q-test.true) (ap (λ (t : ℕ). t % 65536) (sym e) ∙ c.if-both-eq0.true)

pub loop-q-preserved : goal.loop-q-preserved
loop-q-preserved c =
    let l = c.loop-q in
    let e = joined (goal.at.loop-q-preserved c).In-loop-q in (
      omega arith,
      fill-next _ 0 _ _ _ l.invariant.1 l.q _ (sym (zero-add l.q)) (omega (arith, l.invariant.1.long)) e,
      below_more _ _ l.invariant.2 (rw (← e) (holds-some _ c.if-both-eq0.false)),
    )

pub returns : goal.returns
returns c =
    let i = c.loop-q.invariant in
    let e : c.loop-q.q ≡ 2 ^ (c.args.len - 1) = omega (arith, c.reading_count-count.ensures) in
    left-filled {n = c.args.len - 1} (rw e at i.1) (rw e at i.2)
