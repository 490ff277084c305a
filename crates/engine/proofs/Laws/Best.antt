-- Laws of the choice in specs/Support. better is a strict order in which of two lists that differ one is better, so best_of gives
-- one of its lists than which none is better; hence the chosen support is a sound one, no sound one costs less, none that costs as
-- much has fewer gates, and it is the only one than which no sound one is better. Assumes nothing.
use Prim.Native.Nat.{ℕ, ◌≤◌, ◌<◌}
use mathlib.Core.Path.{◌≡◌, refl, sym, ◌∙◌}
use mathlib.Core.Logic.{◌⊎◌, inl, inr, ⊎_elim}
use mathlib.Core.List.Memᴰ.{cases_cons}
use mathlib.Core.List.Memᴰ.{cast as mem-cast}
use mathlib.Core.List.Memᴰ.{head as here}
use mathlib.Core.List.Memᴰ.{not-nil}
use mathlib.Core.List.Memᴰ.{tail as there}
use mathlib.Core.List.{List, [], ◌∷◌, Memᴰ as Mem}
use mathlib.Core.Bool.{Bool, true, false, ◌&&◌, ◌||◌, false≢true}
use native.Mathlib.Omega.{arith}
use lib.Dec.{ltb, eqb}
use lib.ListN.{length}
use borrow.Author.Tests.{ltb-true, ltb-false, eqb-true, lt-ltb, eq-eqb}
use Rattle.records.specs.Job.{Job}
use Rattle.records.proofs.Laws.Bytes.{and_left, and_right, and_both, false_of}
use Rattle.engine.specs.Choice.{keep}
use Rattle.engine.specs.Support.{sound, candidate_nets, subsets, cost, patch_gates, earlier, better, best_of, chosen}
use Rattle.engine.proofs.Laws.Choice.{not-both, true-or-false, or_right, or_cases, mem-keep}
use Rattle.engine.proofs.Laws.Support.{subsets-self}

-- ---- a number first, then another test

-- a is below b, or equal to it and t holds
abbrev then : ℕ → ℕ → Bool → Bool
then a b t = ltb a b || (eqb a b && t)

then-cases : (a b : ℕ) (t : Bool) → then a b t ≡ true → (a < b) ⊎ ((a ≡ b) × (t ≡ true))
then-cases a b t e =
    ⊎_elim
    (λ l. inl (ltb-true a b l))
    (λ r. inr (eqb-true a b (and_left (eqb a b) t r), and_right (eqb a b) t r))
    (or_cases (ltb a b) (eqb a b && t) e)

then-lt : (a b : ℕ) (t : Bool) → a < b → then a b t ≡ true
then-lt a b t h = rw (lt-ltb a b h)

then-eq : (a b : ℕ) (t : Bool) → a ≡ b → t ≡ true → then a b t ≡ true
then-eq a b t h e = or_right (ltb a b) (eqb a b && t) (and_both (eqb a b) t (eq-eqb a b h) e)

then-trans : (a b c : ℕ) (t u v : Bool) → (t ≡ true → u ≡ true → v ≡ true)
    → then a b t ≡ true → then b c u ≡ true → then a c v ≡ true
then-trans a b c t u v h p q =
    ⊎_elim
    (λ l. ⊎_elim (λ m. then-lt a c v (omega arith)) (λ m. then-lt a c v (omega arith)) (then-cases b c u q))
    (λ l.
    ⊎_elim
    (λ m. then-lt a c v (omega arith))
    (λ m. then-eq a c v (l.0 ∙ m.0) (h l.1 m.1))
    (then-cases b c u q))
    (then-cases a b t p)

then-irrefl : (a : ℕ) (t : Bool) → t ≡ false → then a a t ≡ false
then-irrefl a t h =
    false_of (then a a t) (λ e.
    ⊎_elim
    (λ l. let f : ⊥ = omega arith in f)
    (λ r. not-both r.1 h)
    (then-cases a a t e))

not-below : (a b : ℕ) (t : Bool) → then a b t ≡ false → b ≤ a
not-below a b t p =
    ⊎_elim (λ l. absurd (not-both (then-lt a b t (ltb-true a b l)) p)) (ltb-false a b) (true-or-false (ltb a b))

then-rest : (a b : ℕ) (t : Bool) → then a b t ≡ false → a ≡ b → t ≡ false
then-rest a b t p e = false_of t (λ h. not-both (then-eq a b t e h) p)

-- the numbers are equal where neither comes first
then-neither : (a b : ℕ) (t u : Bool) → then a b t ≡ false → then b a u ≡ false → (a ≡ b) × (t ≡ false) × (u ≡ false)
then-neither a b t u p q =
    let l = not-below a b t p in
    let m = not-below b a u q in
    let e : a ≡ b = omega arith in
    (e, then-rest a b t p e, then-rest b a u q (sym e))

-- ---- the order

earlier-irrefl : (is : List ℕ) → earlier is is ≡ false
unfolding earlier
earlier-irrefl [] = refl
earlier-irrefl (i ∷ is) = then-irrefl i (earlier is is) (earlier-irrefl is)

earlier-trans : (is ks ls : List ℕ) → earlier is ks ≡ true → earlier ks ls ≡ true → earlier is ls ≡ true
unfolding earlier
earlier-trans [] ks ls p q = p
earlier-trans (i ∷ is) [] ls p q = absurd (false≢true p)
earlier-trans (i ∷ is) (k ∷ ks) [] p q = q
earlier-trans (i ∷ is) (k ∷ ks) (l ∷ ls) p q =
    then-trans i k l (earlier is ks) (earlier ks ls) (earlier is ls) (earlier-trans is ks ls) p q

earlier-neither : (is ks : List ℕ) → length is ≡ length ks → earlier is ks ≡ false → earlier ks is ≡ false → is ≡ ks
unfolding earlier
earlier-neither [] [] h p q = refl
earlier-neither [] (k ∷ ks) h p q = let f : ⊥ = omega arith in absurd f
earlier-neither (i ∷ is) [] h p q = let f : ⊥ = omega arith in absurd f
earlier-neither (i ∷ is) (k ∷ ks) h p q =
    let n = then-neither i k (earlier is ks) (earlier ks is) p q in
    let a : i ≡ k = n.0 in
    let b : is ≡ ks = earlier-neither is ks (omega arith) n.1 n.2 in
    cc

-- fewer nets, then the smaller net number
abbrev smaller : List ℕ → List ℕ → Bool
smaller is ks = then (length is) (length ks) (earlier is ks)

smaller-irrefl : (is : List ℕ) → smaller is is ≡ false
smaller-irrefl is = then-irrefl (length is) (earlier is is) (earlier-irrefl is)

smaller-trans : (is ks ls : List ℕ) → smaller is ks ≡ true → smaller ks ls ≡ true → smaller is ls ≡ true
smaller-trans is ks ls =
    then-trans (length is) (length ks) (length ls) (earlier is ks) (earlier ks ls) (earlier is ls) (earlier-trans is ks ls)

smaller-neither : (is ks : List ℕ) → smaller is ks ≡ false → smaller ks is ≡ false → is ≡ ks
smaller-neither is ks p q =
    let n = then-neither (length is) (length ks) (earlier is ks) (earlier ks is) p q in
    earlier-neither is ks n.0 n.1 n.2

module _ (j : Job) where
  -- fewer patch gates, then fewer nets, then the smaller net number
  abbrev lighter : List ℕ → List ℕ → Bool
  lighter is ks = then (patch_gates j is) (patch_gates j ks) (smaller is ks)

  lighter-irrefl : (is : List ℕ) → lighter is is ≡ false
  lighter-irrefl is = then-irrefl (patch_gates j is) (smaller is is) (smaller-irrefl is)

  lighter-trans : (is ks ls : List ℕ) → lighter is ks ≡ true → lighter ks ls ≡ true → lighter is ls ≡ true
  lighter-trans is ks ls =
      then-trans (patch_gates j is) (patch_gates j ks) (patch_gates j ls) (smaller is ks) (smaller ks ls) (smaller is ls)
      (smaller-trans is ks ls)

  lighter-neither : (is ks : List ℕ) → lighter is ks ≡ false → lighter ks is ≡ false → is ≡ ks
  lighter-neither is ks p q =
      let n = then-neither (patch_gates j is) (patch_gates j ks) (smaller is ks) (smaller ks is) p q in
      smaller-neither is ks n.1 n.2

  pub better-irrefl : (is : List ℕ) → better j is is ≡ false
  unfolding better
  better-irrefl is = then-irrefl (cost j is) (lighter is is) (lighter-irrefl is)

  pub better-trans : (is ks ls : List ℕ) → better j is ks ≡ true → better j ks ls ≡ true → better j is ls ≡ true
  unfolding better
  better-trans is ks ls =
      then-trans (cost j is) (cost j ks) (cost j ls) (lighter is ks) (lighter ks ls) (lighter is ls) (lighter-trans is ks ls)

  -- of two lists that differ, one is better
  pub better-neither : (is ks : List ℕ) → better j is ks ≡ false → better j ks is ≡ false → is ≡ ks
  unfolding better
  better-neither is ks p q =
      let n = then-neither (cost j is) (cost j ks) (lighter is ks) (lighter ks is) p q in
      lighter-neither is ks n.1 n.2

  -- what is not better costs no less
  pub cost-of-not-better : (is ks : List ℕ) → better j is ks ≡ false → cost j ks ≤ cost j is
  unfolding better
  cost-of-not-better is ks = not-below (cost j is) (cost j ks) (lighter is ks)

  -- .. and where it costs the same, it has no fewer gates
  gates-of-not-better : (is ks : List ℕ) → better j is ks ≡ false → cost j is ≡ cost j ks → patch_gates j ks ≤ patch_gates j is
  unfolding better
  gates-of-not-better is ks p e =
      not-below (patch_gates j is) (patch_gates j ks) (smaller is ks) (then-rest (cost j is) (cost j ks) (lighter is ks) p e)

  -- ---- the best of a list

  module _ (is ks : List ℕ) (kss : List (List ℕ)) where
    pub best_of-better : better j ks is ≡ true → best_of j is (ks ∷ kss) ≡ best_of j ks kss
    unfolding best_of
    best_of-better h = rw (h, best_of)

    pub best_of-worse : better j ks is ≡ false → best_of j is (ks ∷ kss) ≡ best_of j is kss
    unfolding best_of
    best_of-worse h = rw (h, best_of)

  pub best_of-mem : (is : List ℕ) (kss : List (List ℕ)) → Mem (best_of j is kss) (is ∷ kss)
  unfolding best_of
  best_of-mem is [] = here refl
  best_of-mem is (ks ∷ kss) =
      ⊎_elim
      (λ h. mem-cast (best_of-better is ks kss h) (there (best_of-mem ks kss)))
      (λ h.
      mem-cast
      (best_of-worse is ks kss h)
      (⊎_elim here (λ m. there (there m)) (cases_cons (best_of-mem is kss))))
      (true-or-false (better j ks is))

  -- the list held only improves: what is not better than it never is
  best_of-kept : (ls is : List ℕ) (kss : List (List ℕ)) → better j ls is ≡ false → better j ls (best_of j is kss) ≡ false
  unfolding best_of
  best_of-kept ls is [] h = h
  best_of-kept ls is (ks ∷ kss) h =
      ⊎_elim
      (λ b.
      let n = false_of (better j ls ks) (λ e. not-both (better-trans ls ks is e b) h) in
      rw (best_of-better is ks kss b) (best_of-kept ls ks kss n))
      (λ b. rw (best_of-worse is ks kss b) (best_of-kept ls is kss h))
      (true-or-false (better j ks is))

  best_of-first : (is : List ℕ) (kss : List (List ℕ)) → better j is (best_of j is kss) ≡ false
  best_of-first is kss = best_of-kept is is kss (better-irrefl is)

  best_of-other : (is : List ℕ) (kss : List (List ℕ)) (ls : List ℕ) → Mem ls kss → better j ls (best_of j is kss) ≡ false
  best_of-other is [] ls m = absurd (not-nil m)
  best_of-other is (ks ∷ kss) ls m =
      ⊎_elim
      (λ b.
      rw (best_of-better is ks kss b)
      (⊎_elim (λ e. rw e (best_of-first ks kss)) (best_of-other ks kss ls) (cases_cons m)))
      (λ b.
      rw (best_of-worse is ks kss b)
      (⊎_elim (λ e. rw e (best_of-kept ks is kss b)) (best_of-other is kss ls) (cases_cons m)))
      (true-or-false (better j ks is))

  -- none is better
  pub best_of-least : (is : List ℕ) (kss : List (List ℕ)) (ls : List ℕ) → Mem ls (is ∷ kss)
      → better j ls (best_of j is kss) ≡ false
  best_of-least is kss ls m = ⊎_elim (λ e. rw e (best_of-first is kss)) (best_of-other is kss ls) (cases_cons m)

  -- .. and none costs less
  pub best_of-cost : (is : List ℕ) (kss : List (List ℕ)) (ls : List ℕ) → Mem ls (is ∷ kss)
      → cost j (best_of j is kss) ≤ cost j ls
  best_of-cost is kss ls m = cost-of-not-better ls (best_of j is kss) (best_of-least is kss ls m)

-- ---- the chosen support

module _ (j : Job) where
  -- where all candidates together are sound, the chosen support is a sound set of them
  pub chosen-sound : sound j (candidate_nets j) ≡ true
      → (sound j (chosen j) ≡ true) × Mem (chosen j) (subsets (candidate_nets j))
  unfolding chosen
  chosen-sound h =
      let is = candidate_nets j in
      let kss = keep (sound j) (subsets is) in
      ⊎_elim
      (λ (e : chosen j ≡ is). (rw e h, mem-cast e (subsets-self is)))
      (λ (m : Mem (chosen j) kss). let r = (mem-keep (sound j) (subsets is) (chosen j)).0 m in (r.1, r.0))
      (cases_cons (best_of-mem j is kss))

  -- no sound set of candidates is better, and none costs less
  pub chosen-least : (ks : List ℕ) → Mem ks (subsets (candidate_nets j)) → sound j ks ≡ true
      → (cost j (chosen j) ≤ cost j ks) × (better j ks (chosen j) ≡ false)
  unfolding chosen
  chosen-least ks m h =
      let is = candidate_nets j in
      let kss = keep (sound j) (subsets is) in
      let n : Mem ks (is ∷ kss) = there ((mem-keep (sound j) (subsets is) ks).1 (m, h)) in
      (best_of-cost j is kss ks n, best_of-least j is kss ks n)

  -- .. and none that costs as much has fewer gates
  pub chosen-fewest : (ks : List ℕ) → Mem ks (subsets (candidate_nets j)) → sound j ks ≡ true → cost j ks ≡ cost j (chosen j)
      → patch_gates j (chosen j) ≤ patch_gates j ks
  chosen-fewest ks m h e = gates-of-not-better j ks (chosen j) (chosen-least ks m h).1 e

  -- .. so it is the only one than which none is better
  pub chosen-unique : sound j (candidate_nets j) ≡ true
      → (ks : List ℕ) → Mem ks (subsets (candidate_nets j)) → sound j ks ≡ true
      → ((ls : List ℕ) → Mem ls (subsets (candidate_nets j)) → sound j ls ≡ true → better j ls ks ≡ false)
      → ks ≡ chosen j
  chosen-unique h ks m s b =
      let c = chosen-sound h in
      better-neither j ks (chosen j) (chosen-least ks m s).1 (b (chosen j) c.1 c.0)
