-- Laws of sets of vectors (specs/Walk): the bits of a number made of bits, the smallest vector of a set, and the set of the
-- vectors that rectify an input. Assumes nothing.
use Prim.Native.Nat.{ℕ, zero, suc, ◌+◌, ◌-◌, ◌*◌, ◌/◌, ◌%◌, ◌^◌, ◌≤◌, ◌<◌}
use mathlib.Core.Path.{◌≡◌, refl, sym, ◌∙◌, ap}
use mathlib.Core.Logic.{◌↔◌, ⊎_elim}
use mathlib.Core.List.{List, map}
use mathlib.Core.Bool.{Bool, true, false, cond}
use mathlib.Core.Option.{none, some}
use native.Mathlib.Nat.{eq-zero-or-pos, mod-lt, zero-mul, zero-add, suc-add, zero-div, div-one, pow-suc}
use native.Mathlib.Numerals.{one-add}
use native.Mathlib.Omega.{arith}
use borrow.Author.Tests.{ne_eqb, eq-eqb, eqb-true, eqb-false, ltb-true, ltb-false}
use lib.Dec.{eqb, ltb}
use lib.ListN.{get_or, get_or-eq_default}
use lib.Pow.{pow_pos, pow_mono, shr_lt, shr-shr, split}
use Rattle.std.specs.Int.{trailing_zeros}
use Rattle.std.specs.Int.Count.{count_trailing_zeros, trailing_of_zero}
use Rattle.std.proofs.Common.{w64}
use Rattle.std.proofs.lemmas.Nat.Bits.{bit_at-trailing_zeros}
use Rattle.records.specs.Bytes.{up_from, tabulate}
use Rattle.records.specs.Job.{Job}
use Rattle.records.proofs.Laws.Bytes.{length-tabulate, get_d_tabulate}
use Rattle.engine.specs.Choice.{first, or_zero}
use Rattle.engine.specs.Eval.{bit, number_of, all_vectors}
use Rattle.engine.specs.Rectify.{rectifies}
use Rattle.engine.specs.Inner.Masks.{rectifiers}
use Rattle.engine.specs.Inner.List.{lowest}
use Rattle.engine.proofs.Laws.Choice.{true-or-false, none_or_some, first-here, first-there, first-least, first-none-below, first-of-least, first-of-none}
use Rattle.engine.proofs.Laws.Eval.{Bits, bits-nil, bits-cons, bits-map, bit-lt, number_of-lt}

-- ---- choices

first-nothing : (p : ℕ → Bool) (a n : ℕ) → ((v : ℕ) → a ≤ v → p v ≡ false) → first p (up_from a n) ≡ none
unfolding up_from first
first-nothing p a zero z = refl
first-nothing p a (suc n) z =
    first-there p a (up_from (suc a) n) (z a (omega arith)) ∙ first-nothing p (suc a) n (λ v l. z v (omega arith))

-- p and q agree on the n numbers from a on, and p holds of none after them
first-agree : (p q : ℕ → Bool) (a n k : ℕ) → ((v : ℕ) → a ≤ v → v < a + n → p v ≡ q v)
    → ((v : ℕ) → a + n ≤ v → p v ≡ false) → first p (up_from a (n + k)) ≡ first q (up_from a n)
unfolding up_from first
first-agree p q a zero k e z = rw (zero-add k) (first-nothing p a k (λ v l. z v (omega arith)))
first-agree p q a (suc n) k e z =
    let h : p a ≡ q a = e a (omega arith) (omega arith) in
    rw (suc-add n k)
    (⊎_elim
    (λ (t : p a ≡ true).
    first-here p a (up_from (suc a) (n + k)) t ∙ sym (first-here q a (up_from (suc a) n) (sym h ∙ t)))
    (λ (t : p a ≡ false).
    first-there p a (up_from (suc a) (n + k)) t
    ∙ first-agree p q (suc a) n k (λ v l u. e v (omega arith) (omega arith)) (λ v l. z v (omega arith))
    ∙ sym (first-there q a (up_from (suc a) n) (sym h ∙ t)))
    (true-or-false (p a)))

-- ---- sets of vectors

-- whether v is in the set s
abbrev pub in_set : ℕ → ℕ → Bool
in_set s v = eqb (bit v s) 1

-- a number below 2 ^ k with no bit below k is 0
pub no_bits : (k n : ℕ) → n < 2 ^ k → ((v : ℕ) → v < k → bit v n ≡ 0) → n ≡ 0
unfolding bit
no_bits zero n h b = omega arith
no_bits (suc k) n h b =
    let e : n / 2 ^ k % 2 ≡ 0 = b k (omega arith) in
    let l : n / 2 ^ k < 2 = shr_lt 1 k (rw (ap (λ (i : ℕ). 2 ^ i) (one-add k)) h) in
    let z : n / 2 ^ k ≡ 0 = omega arith in
    let s = split n k in
    let t : n / 2 ^ k * 2 ^ k ≡ 0 = ap (λ (q : ℕ). q * 2 ^ k) z ∙ zero-mul (2 ^ k) in
    no_bits k n (omega (arith, mod-lt n (pow_pos k))) (λ v l. b v (omega arith))

pub lowest-zero : lowest 0 ≡ none
unfolding lowest first up_from bit
lowest-zero = refl

-- a set that is not empty has a smallest vector
pub lowest-some : (s : ℕ) → s < 65536 → (s ≡ 0 → ⊥) → lowest s ≡ some (or_zero (lowest s))
unfolding lowest or_zero
lowest-some s h n =
    ⊎_elim
    (λ (e : lowest s ≡ none).
    absurd
    (n
    (no_bits 16 s h
    (λ v l.
    let b = eqb-false (bit v s) 1 (first-none-below (in_set s) 16 e v l) in
    omega (arith, bit-lt v s)))))
    (λ r. r.1 ∙ ap some (sym (ap or_zero r.1)))
    (none_or_some (lowest s))

pub lowest-lt : (s : ℕ) → or_zero (lowest s) < 16
unfolding lowest or_zero
lowest-lt s =
    ⊎_elim
    (λ (e : lowest s ≡ none). omega (arith, ap or_zero e))
    (λ r. omega (arith, ap or_zero r.1, (first-least (in_set s) 16 r.0 r.1).below))
    (none_or_some (lowest s))

-- as the code finds it: the lowest 1 is at one of sixteen places, or at none
pub lowest-here : (s : ℕ) → s < 2 ^ 64 → trailing_zeros w64 s < 16 → lowest s ≡ some (trailing_zeros w64 s)
unfolding lowest bit
lowest-here s h l =
    let z : s ≡ 0 → ⊥ = λ e. let f : count_trailing_zeros 64 0 < 16 = rw e at l in omega (arith, trailing_of_zero 64) in
    let t = bit_at-trailing_zeros w64 s (omega arith) h in
    first-of-least (in_set s) 16 (trailing_zeros w64 s)
    (record { below = l; holds = eq-eqb _ 1 t.1; smaller = λ v k. ne_eqb _ 1 (λ e. omega (arith, t.2 v k)) })

pub lowest-nowhere : (s : ℕ) → s < 2 ^ 64 → 16 ≤ trailing_zeros w64 s → lowest s ≡ none
unfolding lowest bit
lowest-nowhere s h l =
    first-of-none (in_set s) 16
    (λ v k.
    ne_eqb _ 1
    (⊎_elim
    (λ (e : s ≡ 0) (b : bit v s ≡ 1). omega (arith, zero-div (2 ^ v), rw e at b))
    (λ (p : 0 < s) (b : bit v s ≡ 1). omega (arith, (bit_at-trailing_zeros w64 s p h).2 v (omega arith)))
    (eq-zero-or-pos s)))

-- it is in the set
pub lowest-bit : (s v : ℕ) → lowest s ≡ some v → (v < 16) × (bit v s ≡ 1)
unfolding lowest
lowest-bit s v e = let l = first-least (in_set s) 16 v e in (l.below, eqb-true (bit v s) 1 l.holds)

-- ---- the bits of a number made of bits

pub bit-number_of : {bs : List ℕ} → Bits bs → (v : ℕ) → bit v (number_of bs) ≡ get_or bs v 0
unfolding bit number_of
bit-number_of bits-nil v = ap (λ (q : ℕ). q % 2) (zero-div (2 ^ v))
bit-number_of (bits-cons {v = b} {vs = bs} h t) zero = omega (arith, div-one (b + 2 * number_of bs))
bit-number_of (bits-cons {v = b} {vs = bs} h t) (suc v) =
    let n : ℕ = number_of bs in
    let d : (b + 2 * n) / 2 ^ 1 ≡ n = omega arith in
    let e : 1 + v ≡ suc v = one-add v in
    ap (λ (q : ℕ). q % 2)
    (ap (λ (k : ℕ). (b + 2 * n) / 2 ^ k) (sym e) ∙ sym (shr-shr (b + 2 * n) 1 v) ∙ ap (λ (q : ℕ). q / 2 ^ v) d)
    ∙ bit-number_of t v

module _ (n : ℕ) (h : ℕ → ℕ) (b : (i : ℕ) → h i < 2) where
  tabulated : (v : ℕ) → bit v (number_of (tabulate n h)) ≡ get_or (tabulate n h) v 0
  unfolding tabulate
  tabulated v = bit-number_of (bits-map h b (up_from 0 n)) v

  pub bit-tabulate : (v : ℕ) → v < n → bit v (number_of (tabulate n h)) ≡ h v
  bit-tabulate v l = tabulated v ∙ get_d_tabulate n h v 0 l

  pub bit-beyond : (v : ℕ) → n ≤ v → bit v (number_of (tabulate n h)) ≡ 0
  bit-beyond v l =
      tabulated v ∙ get_or-eq_default (tabulate n h) 0 {n = v} (omega (arith, length-tabulate n h))

  pub tabulate-lt : number_of (tabulate n h) < 2 ^ n
  unfolding tabulate
  tabulate-lt =
      omega
      (arith, number_of-lt (bits-map h b (up_from 0 n)), ap (λ (k : ℕ). 2 ^ k) (length-tabulate n h))

-- the number whose lowest n bits are 1
ones-from : (a n : ℕ) → number_of (map (λ i. 1) (up_from a n)) ≡ 2 ^ n - 1
unfolding number_of up_from
ones-from a zero = refl
ones-from a (suc n) = omega (arith, ones-from (suc a) n, pow-suc 2 n, pow_pos n)

number_of-ones : (n : ℕ) → number_of (tabulate n (λ i. 1)) ≡ 2 ^ n - 1
unfolding tabulate
number_of-ones n = ones-from 0 n

-- ---- the set of the vectors that rectify an input

pub eqb-cond : (b : Bool) → eqb (cond b 1 0) 1 ≡ b
eqb-cond true = refl
eqb-cond false = refl

cond-lt : (b : Bool) → cond b 1 0 < 2
cond-lt true = omega arith
cond-lt false = omega arith

module _ (j : Job) (x : ℕ) where
  abbrev member : ℕ → ℕ
  member v = cond (rectifies j x v) 1 0

  rectifiers-tabulate : rectifiers j x ≡ number_of (tabulate (2 ^ j.targets) member)
  unfolding rectifiers all_vectors tabulate
  rectifiers-tabulate = refl

  pub rectifiers-bit : (v : ℕ) → v < 2 ^ j.targets → bit v (rectifiers j x) ≡ cond (rectifies j x v) 1 0
  rectifiers-bit v l =
      ap (bit v) rectifiers-tabulate ∙ bit-tabulate (2 ^ j.targets) member (λ i. cond-lt (rectifies j x i)) v l

  pub rectifiers-beyond : (v : ℕ) → 2 ^ j.targets ≤ v → bit v (rectifiers j x) ≡ 0
  rectifiers-beyond v l =
      ap (bit v) rectifiers-tabulate ∙ bit-beyond (2 ^ j.targets) member (λ i. cond-lt (rectifies j x i)) v l

  pub in_set-rectifiers : (v : ℕ) → v < 2 ^ j.targets → in_set (rectifiers j x) v ≡ rectifies j x v
  in_set-rectifiers v l = ap (λ (b : ℕ). eqb b 1) (rectifiers-bit v l) ∙ eqb-cond (rectifies j x v)

  pub in_set-beyond : (v : ℕ) → 2 ^ j.targets ≤ v → in_set (rectifiers j x) v ≡ false
  in_set-beyond v l = ap (λ (b : ℕ). eqb b 1) (rectifiers-beyond v l)

  -- the smallest vector of the set is the first that rectifies
  pub lowest-rectifiers : j.targets ≤ 4 → lowest (rectifiers j x) ≡ first (rectifies j x) (all_vectors j)
  unfolding lowest all_vectors
  lowest-rectifiers t =
      let n : ℕ = 2 ^ j.targets in
      let l : n ≤ 16 = pow_mono t in
      let e : n + (16 - n) ≡ 16 = omega arith in
      ap (λ (k : ℕ). first (in_set (rectifiers j x)) (up_from 0 k)) (sym e)
      ∙ first-agree (in_set (rectifiers j x)) (rectifies j x) 0 n (16 - n) (λ v a b. in_set-rectifiers v (omega arith))
      (λ v a. in_set-beyond v (omega arith))

pub bit-ones : (n v : ℕ) → (bit v (2 ^ n - 1) ≡ 1) ↔ (v < n)
bit-ones n v = (
  λ e.
      ⊎_elim
      (λ (l : ltb v n ≡ true). ltb-true v n l)
      (λ (l : ltb v n ≡ false).
      let z = ap (bit v) (sym (number_of-ones n)) ∙ bit-beyond n (λ i. 1) (λ i. omega arith) v (ltb-false v n l) in
      let f : ⊥ = omega arith in absurd f)
      (true-or-false (ltb v n)),
  λ l. ap (bit v) (sym (number_of-ones n)) ∙ bit-tabulate n (λ i. 1) (λ i. omega arith) v l,
)

-- of the vectors that rectify input x: those of the set
pub bit-rectifiers : (j : Job) (x v : ℕ) → (bit v (rectifiers j x) ≡ 1) ↔ ((v < 2 ^ j.targets) × (rectifies j x v ≡ true))
bit-rectifiers j x v = (
  λ e.
      ⊎_elim
      (λ (l : ltb v (2 ^ j.targets) ≡ true).
      let b = ltb-true v (2 ^ j.targets) l in
      (b, sym (in_set-rectifiers j x v b) ∙ eq-eqb (bit v (rectifiers j x)) 1 e))
      (λ (l : ltb v (2 ^ j.targets) ≡ false).
      let z = rectifiers-beyond j x v (ltb-false v (2 ^ j.targets) l) in
      let f : ⊥ = omega arith in absurd f)
      (true-or-false (ltb v (2 ^ j.targets))),
  λ r. rectifiers-bit j x v r.0 ∙ ap (λ (b : Bool). cond b 1 0) r.1,
)
