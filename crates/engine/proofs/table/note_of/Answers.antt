-- `engine::table::note_of` meets its contract, by the three cases of a note. Assumes nothing.
use Prim.Native.Nat.{ℕ, ◌*◌, ◌%◌, ◌^◌, ◌≤◌}
use mathlib.Core.Path.{◌≡◌, refl, sym, ◌∙◌, ap}
use native.Mathlib.Omega.{arith}
use mathlib.Core.Bool.{Bool, false}
use lib.Dec.{eqb}
use Rattle.engine.proofs.Laws.Eval.{bit-lt}
use borrow.Author.Tests.{eq-eqb, ne_eqb, eqb-true, eqb-false}
use lib.Pow.{pow_mono}
use Rattle.engine.specs.Choice.{or_zero}
use Rattle.engine.specs.Eval.{bit}
use Rattle.engine.specs.Inner.List.{lowest}
use Rattle.engine.specs.Inner.Table.{note_from}
use Rattle.engine.proofs.Laws.VectorSets.{lowest-lt}
use Rattle.engine.proofs.table.note_of.Goals as goal
use Rattle.engine.proofs.table.note_of.Goals.{After-lowest_of}

-- the set of the lowest vector alone, as the code computes it
power : (c : After-lowest_of) → 1 * 2 ^ c.lowest_of.result % 18446744073709551616 ≡ 2 ^ or_zero (lowest c.args.set)
power c =
    let v = c.lowest_of.result in
    let q : 2 ^ v ≤ 65536 = pow_mono {j = 16} (omega (arith, c.lowest_of.ensures, lowest-lt c.args.set)) in
    let e : 1 * 2 ^ v % 18446744073709551616 ≡ 2 ^ v = omega arith in
    e ∙ ap (λ (k : ℕ). 2 ^ k) c.lowest_of.ensures

-- bit 16 of a seen reading's set
seen : (s : ℕ) {u : Bool} → u ≡ eqb (bit 16 s) 1 → u ≡ false → bit 16 s ≡ 0
seen s e f =
    let n : bit 16 s ≡ 1 → ⊥ = eqb-false (bit 16 s) 1 (sym e ∙ f) in
    omega (arith, n, bit-lt 16 s)

pub returns-then-is_unseen : goal.returns-then-is_unseen
unfolding note_from
returns-then-is_unseen c =
    let one = eqb-true (bit 16 c.args.set) 1 (sym c.is_unseen.ensures ∙ c.if-is_unseen.true) in
    rw one refl

pub overflow_shl-lowest_of : goal.overflow_shl-lowest_of
overflow_shl-lowest_of c = omega (arith, c.lowest_of.ensures, lowest-lt c.args.set)

pub returns-then-set-lowest_of : goal.returns-then-set-lowest_of
unfolding note_from
returns-then-set-lowest_of c =
    let a = c.args in
    rw (
      eq-eqb (bit 16 a.set) 0 (seen a.set c.is_unseen.ensures c.if-is_unseen.false),
      eq-eqb (a.set % 65536) (2 ^ or_zero (lowest a.set)) (c.if-set-lowest_of.true ∙ power (goal.at.returns-then-set-lowest_of c).After-lowest_of),
    )

pub returns : goal.returns
unfolding note_from
returns c =
    let a = c.args in
    rw (
      eq-eqb (bit 16 a.set) 0 (seen a.set c.is_unseen.ensures c.if-is_unseen.false),
      ne_eqb (a.set % 65536) (2 ^ or_zero (lowest a.set)) (λ e. c.if-set-lowest_of.false (e ∙ sym (power (goal.at.returns c).After-lowest_of))),
    )
