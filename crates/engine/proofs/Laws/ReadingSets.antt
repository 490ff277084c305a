-- The walk over the inputs keeps, for each reading, the vectors that rectify every input so far giving it, and whether one gave it
-- (specs/Inner/Search). Assumes nothing.
use Prim.Native.Nat.{ℕ, ◌+◌, ◌-◌, ◌*◌, ◌/◌, ◌%◌, ◌^◌, min, ◌≤◌, ◌<◌}
use mathlib.Core.Path.{◌≡◌, sym, ◌∙◌, ap}
use mathlib.Core.Logic.{◌↔◌, ◌⊎◌, inl, inr, ⊎_elim}
use mathlib.Core.List.{List}
use mathlib.Core.Bool.{true, false}
use native.Mathlib.Omega.{arith}
use borrow.Author.Tests.{eqb-true, eqb-false, ltb-true, ltb-false}
use lib.Bits.{bit_and, bit_or}
use lib.Dec.{eqb, ltb}
use lib.ListN.{length, length-set, get_or, replicate, length-replicate, get_or-replicate}
use lib.Pow.{pow_mono, pow_pos}
use lib.Seq.{get_or-set_same, get_or-set_other}
use Rattle.records.specs.Job.{Job}
use Rattle.engine.specs.Eval.{bit}
use Rattle.engine.specs.Rectify.{rectifies}
use Rattle.engine.specs.Support.{reading, candidate_nets}
use Rattle.engine.specs.Inner.Masks.{rectifiers}
use Rattle.engine.specs.Inner.Note.{narrowed, sets_from}
use Rattle.engine.specs.Inner.Plan.{PlannedOf}
use Rattle.engine.specs.Inner.Search.{SetsTo, SettledFrom}
use Rattle.engine.specs.declared.plan.Plan.{Plan}
use Rattle.engine.proofs.Laws.Choice.{true-or-false}
use Rattle.engine.proofs.Laws.Eval.{bit-lt}
use Rattle.engine.proofs.Laws.List.{walked-holds, eq-or-below, narrowing, sets_from-walked}
use Rattle.engine.proofs.Laws.Rows.{bit-pow}
use Rattle.engine.proofs.Laws.Shift.{bit-mod}
use Rattle.engine.proofs.Laws.VectorSets.{bit-ones, bit-rectifiers, rectifiers-beyond}
use Rattle.engine.proofs.Laws.Word.{bit-and, bit-or}

-- ---- numbers

-- a smaller of two bits is 1 where both are
min-one : (a b : ℕ) → a < 2 → b < 2 → (min a b ≡ 1) ↔ ((a ≡ 1) × (b ≡ 1))
min-one a b l h = (λ e. (omega arith, omega arith), λ e. omega (arith, e.0, e.1))

equal_or_not : (a b : ℕ) → (a ≡ b) ⊎ (a ≡ b → ⊥)
equal_or_not a b =
    ⊎_elim (λ (t : eqb a b ≡ true). inl (eqb-true a b t)) (λ (t : eqb a b ≡ false). inr (eqb-false a b t)) (true-or-false (eqb a b))

below-or-from : (a b : ℕ) → (a < b) ⊎ (b ≤ a)
below-or-from a b =
    ⊎_elim (λ (t : ltb a b ≡ true). inl (ltb-true a b t)) (λ (t : ltb a b ≡ false). inr (ltb-false a b t)) (true-or-false (ltb a b))

-- a bit above 16 vectors'
module _ (o : ℕ) (h : o < 65536) where
  bit-above : bit 16 (65536 + o) ≡ 1
  unfolding bit
  bit-above = omega arith

  bit-under : (v : ℕ) → v < 16 → bit v (65536 + o) ≡ bit v o
  bit-under v l = let e : (65536 + o) % 65536 ≡ o = omega arith in sym (bit-mod 16 v (65536 + o) l) ∙ ap (bit v) e

-- ---- one input

module _ (ss : List ℕ) (r s : ℕ) where
  long-narrowed : length (narrowed ss r s) ≡ length ss
  unfolding narrowed
  long-narrowed = length-set ss r (bit_and (get_or ss r 0) s)

  bit-narrowed : (v : ℕ) → r < length ss → bit v (get_or (narrowed ss r s) r 0) ≡ min (bit v (get_or ss r 0)) (bit v s)
  unfolding narrowed
  bit-narrowed v l = ap (bit v) (get_or-set_same ss r (bit_and (get_or ss r 0) s) 0 l) ∙ bit-and v (get_or ss r 0) s

  other-narrowed : (q : ℕ) → (q ≡ r → ⊥) → get_or (narrowed ss r s) q 0 ≡ get_or ss q 0
  unfolding narrowed
  other-narrowed q n = get_or-set_other ss r q (bit_and (get_or ss r 0) s) 0 n

module _ (j : Job) (few : j.targets ≤ 4) where
  abbrev g : ℕ → ℕ
  g = reading j (candidate_nets j)

  vectors-few : 2 ^ j.targets ≤ 16
  vectors-few = pow_mono {j = 4} few

  -- before the first input: all vectors, and a bit above them, which no input keeps
  pub sets-start : {k o : ℕ} → o ≡ 2 ^ 2 ^ j.targets - 1 → SetsTo j 0 k (replicate 1024 (65536 + o))
  sets-start {k} {o} e =
      let ss : List ℕ = replicate 1024 (65536 + o) in
      let small : o < 65536 = omega (arith, pow_pos (2 ^ j.targets), pow_mono {i = 2 ^ j.targets} {j = 16} vectors-few) in
      let at : (r : ℕ) → r < 1024 → get_or ss r 0 ≡ 65536 + o = λ r l. get_or-replicate 1024 r (65536 + o) 0 l in
      record {
        long = length-replicate 1024 (65536 + o);
        sets = λ r v l h.
            let b : bit v (get_or ss r 0) ≡ bit v (2 ^ 2 ^ j.targets - 1) = ap (bit v) (at r l) ∙ bit-under o small v h ∙ ap (bit v) e in
            let c = bit-ones (2 ^ j.targets) v in (
              λ a. (c.0 (sym b ∙ a), λ y u. let f : ⊥ = omega arith in absurd f),
              λ a. b ∙ c.1 a.0,
            );
        given = λ r l z. let f : ⊥ = omega (arith, ap (bit 16) (at r l), bit-above o small) in absurd f;
        unmet = λ r l z y u. let f : ⊥ = omega arith in absurd f;
      }

  sets-turn : {k : ℕ} (x : ℕ) (ss : List ℕ) → SetsTo j x k ss → SetsTo j (x + 1) k (narrowed ss (g x) (rectifiers j x))
  sets-turn {k} x ss h =
      let s : ℕ = rectifiers j x in
      let ts = narrowed ss (g x) s in
      -- the set of the input's reading, and any other
      let here : (r v : ℕ) → r < 1024 → r ≡ g x → bit v (get_or ts r 0) ≡ min (bit v (get_or ss r 0)) (bit v s) =
      λ r v l i. rw i (bit-narrowed ss (g x) s v (omega (arith, h.long))) in
      let there : (r v : ℕ) → (r ≡ g x → ⊥) → bit v (get_or ts r 0) ≡ bit v (get_or ss r 0) =
      λ r v n. ap (bit v) (other-narrowed ss (g x) s r n) in
      record {
        long = long-narrowed ss (g x) s ∙ h.long;
        sets = λ r v l b.
            let old = h.sets r v l b in
            ⊎_elim
            (λ (i : r ≡ g x).
            let m = here r v l i in
            let both = min-one (bit v (get_or ss r 0)) (bit v s) (bit-lt v (get_or ss r 0)) (bit-lt v s) in
            let new = bit-rectifiers j x v in (
              λ a.
                  let p = both.0 (sym m ∙ a) in
                  let o = old.0 p.0 in
                  (o.0, λ y u c. ⊎_elim (λ (d : y ≡ x). rw d (new.0 p.1).1) (λ u. o.1 y u c) (eq-or-below y x u)),
              λ a. m ∙ both.1 (old.1 (a.0, λ y u c. a.1 y (omega arith) c), new.1 (a.0, a.1 x (omega arith) (sym i))),
            ))
            (λ (n : r ≡ g x → ⊥).
            let m = there r v n in (
              λ a.
                  let o = old.0 (sym m ∙ a) in
                  (o.0, λ y u c. ⊎_elim (λ (d : y ≡ x). absurd (n (sym c ∙ ap g d))) (λ u. o.1 y u c) (eq-or-below y x u)),
              λ a. m ∙ old.1 (a.0, λ y u c. a.1 y (omega arith) c),
            ))
            (equal_or_not r (g x));
        given = λ r l z.
            ⊎_elim
            (λ (i : r ≡ g x). (x, omega arith, sym i))
            (λ (n : r ≡ g x → ⊥). let o = h.given r l (sym (there r 16 n) ∙ z) in (o.0, omega (arith, o.1), o.2))
            (equal_or_not r (g x));
        unmet = λ r l e y u b c.
            ⊎_elim
            (λ (i : r ≡ g x). let f : ⊥ = omega (arith, here r 16 l i, rectifiers-beyond j x 16 vectors-few) in f)
            (λ (n : r ≡ g x → ⊥).
            ⊎_elim (λ (d : y ≡ x). n (sym c ∙ ap g d)) (λ u. h.unmet r l (sym (there r 16 n) ∙ e) y u b c) (eq-or-below y x u))
            (equal_or_not r (g x));
      }

  -- after n inputs more
  pub sets_more : {k : ℕ} (x n : ℕ) {ss ts : List ℕ} → ts ≡ sets_from (rectifiers j) g ss x n → SetsTo j x k ss → SetsTo j (x + n) k ts
  sets_more {k} x n {ss} e p =
      rw (e ∙ sets_from-walked (rectifiers j) g ss x n)
      (walked-holds (narrowing (rectifiers j) g) (λ y us. SetsTo j y k us) ss x n p (λ y a b us h. sets-turn y us h))

-- ---- inputs that leave the sets

-- each vector in the sets of their readings rectifies them, and an input gave each reading before, or they are in ranges that were skipped
pub sets-stay : {j : Job} {x y k k' : ℕ} {ss : List ℕ} → x ≤ y → ((i : ℕ) → bit i k' ≡ 0 → bit i k ≡ 0)
    → ((z : ℕ) → x ≤ z → z < y
    → let s = get_or ss (reading j (candidate_nets j) z) 0 in
    (bit (z / 32768) k' ≡ 0 → bit 16 s ≡ 0) × ((v : ℕ) → v < 16 → bit v s ≡ 1 → rectifies j z v ≡ true))
    → SetsTo j x k ss → SetsTo j y k' ss
sets-stay {j} {x} {y} {k} {k'} {ss} h m q p =
    record {
      long = p.long;
      sets = λ r v l b.
          let o = p.sets r v l b in (
            λ a.
                ((o.0 a).0, λ z u c. ⊎_elim (λ (t : z < x). (o.0 a).1 z t c) (λ (t : x ≤ z). (q z t u).1 v b (ap (λ (i : ℕ). bit v (get_or ss i 0)) c ∙ a)) (below-or-from z x)),
            λ a. o.1 (a.0, λ z u c. a.1 z (omega arith) c),
          );
      given = λ r l z. let o = p.given r l z in (o.0, omega (arith, o.1), o.2);
      unmet = λ r l e z u b c.
          ⊎_elim
          (λ (t : z < x). p.unmet r l e z t (m (z / 32768) b) c)
          (λ (t : x ≤ z). let f : ⊥ = omega (arith, ap (λ (i : ℕ). bit 16 (get_or ss i 0)) c, (q z t u).0 b) in f)
          (below-or-from z x);
    }

-- the inputs of blocks that need no look are a range
pub sets-skip : {p : Plan} {b r k : ℕ} {j : Job} {ss : List ℕ} → SettledFrom p b r → 0 < r
    → PlannedOf j (candidate_nets j) p → SetsTo j (1024 * b) k ss → SetsTo j (1024 * (b + r)) (bit_or k (2 ^ (b / 32))) ss
sets-skip {b = b} {r = r} {k = k} {j = j} f h q =
    let e = f.range h in
    let n : ℕ = 2 ^ (b / 32) in
    sets-stay (omega arith) (λ i z. omega (arith, bit-or i k n))
    (λ z l u. (
      λ a.
          let i : z / 32768 ≡ b / 32 = omega (arith, e.0, e.1) in
          let f : ⊥ = omega (arith, bit-or (z / 32768) k n, (bit-pow (b / 32) (z / 32768)).1 i) in absurd f,
      λ v c d. f.settled j (candidate_nets j) q z v l u,
    ))
