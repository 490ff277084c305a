-- Laws of counts and of a check's answer: tests as inequalities. Assumes nothing.
use Prim.Native.Nat.{ℕ, ◌*◌, ◌/◌, ◌%◌, ◌≤◌}
use mathlib.Core.Path.{◌≡◌, refl}
use mathlib.Core.Bool.{Bool, true, false, ◌&&◌}
use mathlib.Core.List.{List, [], ◌∷◌}
use native.Mathlib.Omega.{arith}
use borrow.Author.Tests.{le-leb, lt-leb, leb-true, leb-false, eqb-true, eq-eqb}
use lib.Dec.{leb, eqb}
use lib.ListN.{get_or}
use Rattle.records.specs.Job.{Job}
use Rattle.records.specs.Refusal.{side_counts_good, counts_good}
use Rattle.records.specs.Service.{side_counts_of, counts_of}
use Rattle.records.specs.Inner.{check_of, lengths_good, side_within, counts_within, SideWithin, Within, room, holds, columns_hold}
use Rattle.records.specs.declared.field.Check.TheVariants.{Passed, Failed}
use Rattle.records.specs.declared.job.SideCounts.{SideCounts}
use Rattle.records.specs.declared.job.Counts.{Counts}
use Rattle.records.proofs.Laws.Bytes.{row_at, and_both, false_of}

-- ---- a check's answer

pub passed : (b : Bool) → b ≡ true → Passed ≡ check_of b
unfolding check_of
passed b h = rw h

pub failed-of : (b : Bool) → b ≡ false → Failed ≡ check_of b
unfolding check_of
failed-of b h = rw h

pub failed : (b : Bool) → (b ≡ true → ⊥) → Failed ≡ check_of b
failed b h = failed-of b (false_of b h)

pub passes : (b : Bool) → check_of b ≡ Passed → b ≡ true
unfolding check_of
passes true h = refl
passes false h = let z : ◌≡◌ {A = ℕ} 0 1 = cc in let f : ⊥ = omega arith in absurd f

pub fails : (b : Bool) → check_of b ≡ Failed → b ≡ false
unfolding check_of
fails false h = refl
fails true h = let z : ◌≡◌ {A = ℕ} 0 1 = cc in let f : ⊥ = omega arith in absurd f

-- ---- counts within their ranges

pub side_within-facts : (c : SideCounts) → side_within c ≡ true → SideWithin c
unfolding side_within
side_within-facts c h =
    let t = row_at (leb c.gates 400) (leb 1 c.outputs ∷ leb c.outputs 32 ∷ []) h in
    record { gates = leb-true _ _ (t 0); some = leb-true _ _ (t 1); outputs = leb-true _ _ (t 2) }

pub side_within-true : (c : SideCounts) → SideWithin c → side_within c ≡ true
unfolding side_within
side_within-true c h =
    and_both _ _ (and_both _ _ (le-leb _ _ h.gates) (le-leb _ _ h.some)) (le-leb _ _ h.outputs)

pub counts_within-facts : (c : Counts) → counts_within c ≡ true → Within c
unfolding counts_within
counts_within-facts c h =
    let t =
    row_at (leb c.inputs 20)
    (leb c.targets 4 ∷ side_within c.old ∷ side_within c.golden ∷ leb c.candidates 10 ∷ [])
    h in
    record {
      inputs = leb-true _ _ (t 0);
      targets = leb-true _ _ (t 1);
      old = side_within-facts c.old (t 2);
      golden = side_within-facts c.golden (t 3);
      candidates = leb-true _ _ (t 4);
    }

pub counts_within-true : (c : Counts) → Within c → counts_within c ≡ true
unfolding counts_within
counts_within-true c h =
    and_both _ _
    (and_both _ _
    (and_both _ _
    (and_both _ _ (le-leb _ _ h.inputs) (le-leb _ _ h.targets))
    (side_within-true c.old h.old))
    (side_within-true c.golden h.golden))
    (le-leb _ _ h.candidates)

pub counts_within-counts_of : (j : Job) → counts_within (counts_of j) ≡ counts_good j
unfolding counts_within counts_of counts_good side_within side_counts_of side_counts_good
counts_within-counts_of j = refl

-- ---- the lengths of a job's fields

pub record LengthsGood (ns : List ℕ) : Type 0 where
  pub sizes : get_or ns 0 0 ≡ 2
  pub old : get_or ns 1 0 % 10 ≡ 0
  pub outputs : get_or ns 2 0 % 2 ≡ 0
  pub golden : get_or ns 3 0 % 10 ≡ 0
  pub goldens : get_or ns 4 0 % 2 ≡ 0
  pub candidates : get_or ns 5 0 % 4 ≡ 0

pub lengths_good-facts : (ns : List ℕ) → lengths_good ns ≡ true → LengthsGood ns
unfolding lengths_good
lengths_good-facts ns h =
    let t =
    row_at (eqb (get_or ns 0 0) 2)
    (eqb (get_or ns 1 0 % 10) 0
    ∷ eqb (get_or ns 2 0 % 2) 0
    ∷ eqb (get_or ns 3 0 % 10) 0
    ∷ eqb (get_or ns 4 0 % 2) 0
    ∷ eqb (get_or ns 5 0 % 4) 0
    ∷ [])
    h in
    record {
      sizes = eqb-true _ _ (t 0);
      old = eqb-true _ _ (t 1);
      outputs = eqb-true _ _ (t 2);
      golden = eqb-true _ _ (t 3);
      goldens = eqb-true _ _ (t 4);
      candidates = eqb-true _ _ (t 5);
    }

pub lengths_good-true : (ns : List ℕ) → LengthsGood ns → lengths_good ns ≡ true
unfolding lengths_good
lengths_good-true ns h =
    and_both _ _
    (and_both _ _
    (and_both _ _
    (and_both _ _ (and_both _ _ (eq-eqb _ _ h.sizes) (eq-eqb _ _ h.old)) (eq-eqb _ _ h.outputs))
    (eq-eqb _ _ h.golden))
    (eq-eqb _ _ h.goldens))
    (eq-eqb _ _ h.candidates)

-- ---- places enough: six tests of inequalities, two and two and one and one

module _ (a a' b b' c c' d d' e e' f f' : ℕ) where
  six-facts : ((leb a a' && leb b b') && (leb c c' && leb d d') && leb e e' && leb f f') ≡ true
      → (a ≤ a') × (b ≤ b') × (c ≤ c') × (d ≤ d') × (e ≤ e') × (f ≤ f')
  six-facts h =
      let t = row_at (leb a a' && leb b b') ((leb c c' && leb d d') ∷ leb e e' ∷ leb f f' ∷ []) h in
      let o = row_at (leb a a') (leb b b' ∷ []) (t 0) in
      let g = row_at (leb c c') (leb d d' ∷ []) (t 1) in
      (leb-true a a' (o 0), leb-true b b' (o 1), leb-true c c' (g 0), leb-true d d' (g 1), leb-true e e' (t 2), leb-true f f' (t 3))

  six-true : (a ≤ a') × (b ≤ b') × (c ≤ c') × (d ≤ d') × (e ≤ e') × (f ≤ f')
      → ((leb a a' && leb b b') && (leb c c' && leb d d') && leb e e' && leb f f') ≡ true
  six-true h =
      and_both _ _
      (and_both _ _
      (and_both _ _
      (and_both _ _ (le-leb _ _ h.0) (le-leb _ _ h.1))
      (and_both _ _ (le-leb _ _ h.2) (le-leb _ _ h.3)))
      (le-leb _ _ h.4))
      (le-leb _ _ h.5)

pub room-facts : (a b c d e f : ℕ) → room a b c d e f ≡ true
    → (400 ≤ a) × (32 ≤ b) × (400 ≤ c) × (32 ≤ d) × (10 ≤ e) × (10 ≤ f)
unfolding room
room-facts a b c d e f h = six-facts 400 a 32 b 400 c 32 d 10 e 10 f h

-- ---- places that hold so many

module _ (n : Counts) (a b c d e f : ℕ) where
  pub holds-facts : holds n a b c d e f ≡ true
      → (n.old.gates ≤ a)
      × (n.old.outputs ≤ b)
      × (n.golden.gates ≤ c)
      × (n.golden.outputs ≤ d)
      × (n.candidates ≤ e)
      × (n.candidates ≤ f)
  unfolding holds
  holds-facts =
      six-facts n.old.gates a n.old.outputs b n.golden.gates c n.golden.outputs d n.candidates e n.candidates f

  pub holds-true : (n.old.gates ≤ a)
      × (n.old.outputs ≤ b)
      × (n.golden.gates ≤ c)
      × (n.golden.outputs ≤ d)
      × (n.candidates ≤ e)
      × (n.candidates ≤ f)
      → holds n a b c d e f ≡ true
  unfolding holds
  holds-true =
      six-true n.old.gates a n.old.outputs b n.golden.gates c n.golden.outputs d n.candidates e n.candidates f

pub columns_hold-facts : (count k n s : ℕ) → columns_hold count k n s ≡ true → (count ≤ k) × (count ≤ n) × (4 * count ≤ s)
unfolding columns_hold
columns_hold-facts count k n s h =
    let t = row_at (leb count k) (leb count n ∷ leb (4 * count) s ∷ []) h in
    (leb-true _ _ (t 0), leb-true _ _ (t 1), leb-true _ _ (t 2))

-- the code's test, which multiplies nothing
leb-quarter : (count s : ℕ) → leb count (s / 4) ≡ leb (4 * count) s
leb-quarter count s = pick (leb (4 * count) s) refl
  where
    pick : (b : Bool) → leb (4 * count) s ≡ b → leb count (s / 4) ≡ b
    pick true e = let h = leb-true (4 * count) s e in le-leb count (s / 4) (omega arith)
    pick false e = let h = leb-false (4 * count) s e in lt-leb count (s / 4) (omega arith)

pub columns_hold-quarter : (count k n s : ℕ) → (leb count k && leb count n && leb count (s / 4)) ≡ columns_hold count k n s
unfolding columns_hold
columns_hold-quarter count k n s = rw (leb-quarter count s)
