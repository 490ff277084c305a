-- Laws of the only vectors of sets (specs/Inner/Search): a set below 2 ^ 16 that has no bit in common with the number before it has one vector,
-- and where a block's rows say that each set's only vector rectifies its inputs, each vector in the sets does. Assumes nothing.
use Prim.Native.Nat.{ℕ, zero, suc, ◌+◌, ◌-◌, ◌*◌, ◌/◌, ◌%◌, ◌^◌, max, ◌≤◌, ◌<◌}
use mathlib.Core.Path.{◌≡◌, sym, ◌∙◌, ap}
use mathlib.Core.Logic.{◌⊎◌, inl, inr, ⊎_elim}
use mathlib.Core.List.{List}
use mathlib.Core.Bool.{Bool, true, false, cond}
use native.Mathlib.Nat.{mod_self, eq-or-lt_of_le, pow-suc}
use native.Mathlib.Omega.{arith}
use borrow.Author.Tests.{eqb-true, eqb-false, eq-eqb, ne_eqb, ltb-true, ltb-false}
use lib.Bits.{bit_and, and_mask}
use lib.Dec.{eqb, ltb}
use lib.ListN.{get_or, replicate, get_or-replicate}
use lib.Pow.{high, pow_mono}
use Rattle.engine.specs.Choice.{or_zero}
use Rattle.engine.specs.Eval.{bit}
use Rattle.engine.specs.Rectify.{rectifies}
use Rattle.engine.specs.Inner.Kernel.{row_value, value_in}
use Rattle.engine.specs.Inner.List.{lowest}
use Rattle.engine.specs.Inner.Note.{gathered}
use Rattle.engine.specs.Inner.Search.{sole_of, DrivenRow, SoleTable, BlockKept}
use Rattle.engine.specs.declared.plan.Plan.{Plan}
use Rattle.engine.proofs.Laws.Choice.{true-or-false}
use Rattle.engine.proofs.Laws.Rows.{bit-pow, bit-gathered}
use Rattle.engine.proofs.Laws.VectorSets.{lowest-some, lowest-bit, lowest-lt, eqb-cond}
use Rattle.engine.proofs.Laws.Word.{bit-zero, bit-and}

-- ---- sets of one vector

top_bit : (k s : ℕ) → 2 ^ k ≤ s → s < 2 ^ suc k → bit k s ≡ 1
unfolding bit
top_bit k s h l =
    let e : s ≡ 1 * 2 ^ k + (s - 2 ^ k) = omega arith in
    let d : s / 2 ^ k ≡ 1 = ap (λ (n : ℕ). n / 2 ^ k) e ∙ high 1 k (omega (arith, pow-suc 2 k)) in
    ap (λ (n : ℕ). n % 2) d

-- a number that has no bit in common with the one before it is a power of two
power-of : (k s : ℕ) → s < 2 ^ k → 0 < s → bit_and s (s - 1) ≡ 0 → (w : ℕ) × (s ≡ 2 ^ w)
power-of zero s l p e = (0, omega arith)
power-of (suc k) s l p e =
    ⊎_elim
    (λ (t : ltb s (2 ^ k) ≡ true). power-of k s (ltb-true s (2 ^ k) t) p e)
    (λ (t : ltb s (2 ^ k) ≡ false).
    ⊎_elim
    (λ (q : 2 ^ k ≡ s). (k, sym q))
    (λ (q : 2 ^ k < s).
    let a = top_bit k s (omega arith) l in
    let b = top_bit k (s - 1) (omega arith) (omega arith) in
    let z = sym (bit-and k s (s - 1)) ∙ ap (bit k) e ∙ bit-zero k in
    let f : ⊥ = omega arith in absurd f)
    (eq-or-lt_of_le (ltb-false s (2 ^ k) t)))
    (true-or-false (ltb s (2 ^ k)))

-- .. whose only vector is its lowest
pub lone-power : (s : ℕ) → s < 65536 → (s ≡ 0 → ⊥) → bit_and s (s - 1) ≡ 0 → s ≡ 2 ^ or_zero (lowest s)
lone-power s l n e =
    let p = power-of 16 s l (omega arith) e in
    let b = (lowest-bit s (or_zero (lowest s)) (lowest-some s l n)).1 in
    p.1 ∙ ap (λ (v : ℕ). 2 ^ v) (sym ((bit-pow p.0 (or_zero (lowest s))).0 (ap (bit (or_zero (lowest s))) (sym p.1) ∙ b)))

-- a set with a bit above the vectors' is not one vector
pub sole-above : (s : ℕ) → 65536 ≤ s → s ≡ 2 ^ or_zero (lowest s) → ⊥
sole-above s h e = omega (arith, e, pow_mono {i = or_zero (lowest s)} {j = 15} (omega (arith, lowest-lt s)))

-- a power of two has none
pub power-lone : (s v : ℕ) → s ≡ 2 ^ v → bit_and s (s - 1) ≡ 0
power-lone s v e = rw e (and_mask (2 ^ v) v ∙ mod_self (2 ^ v))

-- ---- an entry of the table

module _ (s : ℕ) where
  pub sole_none : s ≡ 0 → sole_of s ≡ 16
  unfolding sole_of
  sole_none e = rw (eq-eqb s 0 e)

  pub sole-one : (s ≡ 0 → ⊥) → s ≡ 2 ^ or_zero (lowest s) → sole_of s ≡ or_zero (lowest s)
  unfolding sole_of
  sole-one n e = rw (ne_eqb s 0 n, eq-eqb s (2 ^ or_zero (lowest s)) e)

  pub sole-more : (s ≡ 0 → ⊥) → (s ≡ 2 ^ or_zero (lowest s) → ⊥) → sole_of s ≡ 32
  unfolding sole_of
  sole-more n e = rw (ne_eqb s 0 n, ne_eqb s (2 ^ or_zero (lowest s)) e)

  -- unless the entry is that of several vectors or of a reading that none gave, the set is 0 or one vector
  sole-cases : bit 5 (sole_of s) ≡ 0 → (s ≡ 0) ⊎ ((sole_of s ≡ or_zero (lowest s)) × (s ≡ 2 ^ or_zero (lowest s)))
  unfolding bit
  sole-cases five =
      let low = or_zero (lowest s) in
      ⊎_elim
      (λ (t : eqb s 0 ≡ true). inl (eqb-true s 0 t))
      (λ (t : eqb s 0 ≡ false).
      let n = eqb-false s 0 t in
      ⊎_elim
      (λ (u : eqb s (2 ^ low) ≡ true). let q = eqb-true s (2 ^ low) u in inr (sole-one n q, q))
      (λ (u : eqb s (2 ^ low) ≡ false).
      let f : ⊥ = omega (arith, sole-more n (eqb-false s (2 ^ low) u)) in absurd f)
      (true-or-false (eqb s (2 ^ low))))
      (true-or-false (eqb s 0))

  -- .. and an input gave the reading
  sole-given : bit 5 (sole_of s) ≡ 0 → bit 16 s ≡ 0
  unfolding bit
  sole-given five =
      ⊎_elim
      (λ (z : s ≡ 0). omega arith)
      (λ r. omega (arith, r.1, pow_mono {i = or_zero (lowest s)} {j = 15} (omega (arith, lowest-lt s))))
      (sole-cases five)

  -- .. and each vector in it passes the test that the entry passes, unless that is the entry of none
  sole-holds : (P : ℕ → Bool) → bit 5 (sole_of s) ≡ 0 → max (cond (P (sole_of s)) 1 0) (bit 4 (sole_of s)) ≡ 1 → (v : ℕ) → bit v s ≡ 1
      → P v ≡ true
  unfolding bit
  sole-holds P five four v e =
      ⊎_elim
      (λ (z : s ≡ 0). let f : ⊥ = omega (arith, sym e ∙ ap (bit v) z ∙ bit-zero v) in absurd f)
      (λ r.
      let w : v ≡ or_zero (lowest s) = (bit-pow (or_zero (lowest s)) v).0 (ap (bit v) (sym r.1) ∙ e) in
      let o : cond (P (sole_of s)) 1 0 ≡ 1 = omega (arith, r.0, lowest-lt s) in
      rw (w ∙ sym r.0) (sym (eqb-cond (P (sole_of s))) ∙ eq-eqb (cond (P (sole_of s)) 1 0) 1 o))
      (sole-cases five)

-- before the first input every set has a bit above the vectors'
pub sole-start : (o : ℕ) → SoleTable (replicate 1024 (65536 + o)) (replicate 1024 32)
sole-start o r h =
    get_or-replicate 1024 r 32 0 h
    ∙ sym
    (ap sole_of (get_or-replicate 1024 r (65536 + o) 0 h)
    ∙ sole-more (65536 + o) (λ e. let f : ⊥ = omega arith in f) (sole-above (65536 + o) (omega arith)))

-- ---- a block

-- no input gives a reading that no input gave before, or whose set has several vectors, and each input is rectified by its set's vector or
-- its set has none
pub sole-kept : {p : Plan} (readings table vectors row : List ℕ) {before after : List ℕ}
    → ((y : ℕ) → y < 1024 → gathered vectors y ≡ get_or table (gathered readings y % 1024) 0)
    → ((y : ℕ) → y < 1024 → value_in vectors y 5 ≡ 0) → ((y : ℕ) → y < 1024 → max (row_value row y) (value_in vectors y 4) ≡ 1)
    → DrivenRow p (gathered vectors) before row after → (ss : List ℕ) → SoleTable ss table → BlockKept p readings before ss
sole-kept readings table vectors row t five four d ss h j is q b f y l =
    let r : ℕ = gathered readings y % 1024 in
    let k : gathered vectors y ≡ sole_of (get_or ss r 0) = t y l ∙ h r (omega arith) in
    let a = d.values j is q b f y l in
    let g = bit-gathered vectors y 4 (omega arith) in
    let z : bit 5 (sole_of (get_or ss r 0)) ≡ 0 = ap (bit 5) (sym k) ∙ bit-gathered vectors y 5 (omega arith) ∙ five y l in
    (sole-given (get_or ss r 0) z, λ v m. sole-holds (get_or ss r 0) (rectifies j (1024 * b + y)) z (rw (← k, g, ← a) (four y l)) v)
