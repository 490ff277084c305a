-- Laws of the vector loop (specs/Rectify). A round appends a vector that is not listed yet, since it rectifies an input that
-- no listed one rectifies; so there are rounds enough, and the loop is stuck exactly where some input has no vector, at the
-- smallest such input. Assumes nothing.
use Prim.Native.Nat.{ℕ, zero, suc, ◌+◌, ◌^◌, ◌≤◌, ◌<◌}
use mathlib.Core.Path.{◌≡◌, refl, sym, ◌∙◌, ap}
use mathlib.Core.Logic.{◌↔◌, ⊎_elim}
use mathlib.Core.List.Memᴰ.{append_cases}
use mathlib.Core.List.Memᴰ.{cast as mem-cast}
use mathlib.Core.List.Memᴰ.{eq_of_singleton}
use mathlib.Core.List.Memᴰ.{head as here}
use mathlib.Core.List.Memᴰ.{not-nil}
use mathlib.Core.List.Memᴰ.{tail as there}
use mathlib.Core.List.{List, [], ◌∷◌, ◌++◌, Memᴰ as Mem}
use mathlib.Core.Bool.{true, false, not}
use mathlib.Core.Option.{none, some, some-injective, none-ne-some}
use native.Mathlib.Omega.{arith}
use lib.Dec.{ltb, eqb}
use lib.Pow.{pow_pos}
use lib.ListN.{length, length-append}
use borrow.Author.Tests.{ltb-true, ltb-false, eqb-true, eq-eqb, not-true, not-false}
use Rattle.records.specs.Bytes.{up_from}
use Rattle.records.specs.Job.{Job}
use Rattle.records.proofs.Laws.Bytes.{false_of, length-up_from}
use Rattle.engine.specs.Choice.{any, keep, first}
use Rattle.engine.specs.Eval.{all_inputs, all_vectors, old_outputs, golden_outputs}
use Rattle.engine.specs.Rectify.{rectifies, rectifiable, unrectified, Listed, rounds, vector_loop}
use Rattle.engine.proofs.Laws.Choice.{not-both, true-or-false, or_right, any-true, any-of-member, length-keep-le, keep-lt, none_or_some, first-none, mem_below, Least, first-least, first-none-below}
use Rattle.engine.proofs.Laws.Support.{rectifies-iff-outputs, rectifiable-of}

-- ---- distinct numbers

abbrev pub Distinct : List ℕ → Type 0
Distinct [] = Unit {0}
Distinct (x ∷ xs) = (Mem x xs → ⊥) × Distinct xs

distinct_snoc : (xs : List ℕ) (v : ℕ) → Distinct xs → (Mem v xs → ⊥) → Distinct (xs ++ (v ∷ []))
distinct_snoc [] v d h = (not-nil, tt)
distinct_snoc (x ∷ xs) v d h = (
  λ m. ⊎_elim d.0 (λ s. h (here (sym (eq_of_singleton s)))) (append_cases xs m),
  distinct_snoc xs v d.1 (λ m. h (there m)),
)

-- how many numbers below n are not in xs
unfoldable missing : ℕ → List ℕ → ℕ
missing n xs = length (keep (λ v. not (any (eqb v) xs)) (up_from 0 n))

distinct-missing : (n : ℕ) (xs : List ℕ) → Distinct xs → ((x : ℕ) → Mem x xs → x < n) → length xs + missing n xs ≤ n
unfolding missing any
distinct-missing n [] d b = omega (arith, length-keep-le (λ v. not (any (eqb v) [])) (up_from 0 n), length-up_from 0 n)
distinct-missing n (x ∷ xs) d b =
    let r = distinct-missing n xs d.1 (λ y m. b y (there m)) in
    let new : any (eqb x) xs ≡ false =
    false_of (any (eqb x) xs) (λ e.
    let m = any-true (eqb x) xs e in d.0 (mem-cast (eqb-true x m.0 m.2) m.1)) in
    let s : missing n (x ∷ xs) < missing n xs =
    keep-lt
    (λ v. not (any (eqb v) xs))
    (λ v. not (any (eqb v) (x ∷ xs)))
    (λ v e. ap not (or_right (eqb v x) (any (eqb v) xs) (not-false (any (eqb v) xs) e)))
    ((mem_below n x).1 (b x (here refl)))
    (ap not new)
    (ap not (any-of-member (eqb x) (x ∷ xs) x (here refl) (eq-eqb x x refl))) in
    omega arith

-- there are at most n distinct numbers below n
pub length-distinct-le : (n : ℕ) (xs : List ℕ) → Distinct xs → ((x : ℕ) → Mem x xs → x < n) → length xs ≤ n
length-distinct-le n xs d b = omega (arith, distinct-missing n xs d b)

-- ---- vectors that rectify an input

pub rectifiable-iff : (j : Job) (x : ℕ)
    → (rectifiable j x ≡ true) ↔ ((v : ℕ) × (v < 2 ^ j.targets) × (old_outputs j x v ≡ golden_outputs j x))
unfolding rectifiable all_vectors
rectifiable-iff j x = (
  λ e.
      let r = any-true (rectifies j x) (all_vectors j) e in
      (r.0, (mem_below (2 ^ j.targets) r.0).0 r.1, (rectifies-iff-outputs j x r.0).0 r.2),
  λ r. rectifiable-of j x r.0 r.1 ((rectifies-iff-outputs j x r.0).1 r.2),
)

-- ---- a round

module _ (j : Job) (k : ℕ) (vs : List ℕ) where
  pub rounds-done : first (unrectified j vs) (all_inputs j) ≡ none → rounds j (suc k) vs ≡ record { vectors = vs; stuck = none }
  unfolding rounds
  rounds-done e = rw (e, rounds)

  pub rounds-stuck : (x : ℕ) → first (unrectified j vs) (all_inputs j) ≡ some x → first (rectifies j x) (all_vectors j) ≡ none
      → rounds j (suc k) vs ≡ record { vectors = vs; stuck = some x }
  unfolding rounds
  rounds-stuck x e f = rw (e, f, rounds)

  pub rounds-again : (x v : ℕ) → first (unrectified j vs) (all_inputs j) ≡ some x
      → first (rectifies j x) (all_vectors j) ≡ some v → rounds j (suc k) vs ≡ rounds j k (vs ++ (v ∷ []))
  unfolding rounds
  rounds-again x v e f = rw (e, f, rounds)

-- what holds of the list in each round
pub record Listing (j : Job) (vs : List ℕ) : Type 0 where
  pub below : (v : ℕ) → Mem v vs → v < 2 ^ j.targets
  pub distinct : Distinct vs
  pub nonempty : 1 ≤ length vs

pub listing_start : (j : Job) → Listing j (0 ∷ [])
listing_start j =
    record {
      below = λ v m. omega (arith, eq_of_singleton m, pow_pos j.targets);
      distinct = (not-nil, tt);
      nonempty = omega arith;
    }

-- the vector that a round appends is new
pub round-new : (j : Job) (vs : List ℕ) (x v : ℕ) → first (unrectified j vs) (all_inputs j) ≡ some x
    → first (rectifies j x) (all_vectors j) ≡ some v → Mem v vs → ⊥
unfolding all_inputs all_vectors unrectified
round-new j vs x v e f m =
    let a = first-least (unrectified j vs) (2 ^ j.inputs) x e in
    let b = first-least (rectifies j x) (2 ^ j.targets) v f in
    not-both (any-of-member (rectifies j x) vs v m b.holds) (not-true (any (rectifies j x) vs) a.holds)

pub listing-round : (j : Job) (vs : List ℕ) (x v : ℕ) → Listing j vs
    → first (unrectified j vs) (all_inputs j) ≡ some x → first (rectifies j x) (all_vectors j) ≡ some v
    → Listing j (vs ++ (v ∷ []))
unfolding all_vectors
listing-round j vs x v h e f =
    let b = first-least (rectifies j x) (2 ^ j.targets) v f in
    record {
      below = λ w m. ⊎_elim (h.below w) (λ s. omega (arith, eq_of_singleton s, b.below)) (append_cases vs m);
      distinct = distinct_snoc vs v h.distinct (round-new j vs x v e f);
      nonempty = omega (arith, length-append vs (v ∷ []));
    }

pub listing-length : (j : Job) (vs : List ℕ) → Listing j vs → length vs ≤ 2 ^ j.targets
listing-length j vs h = length-distinct-le (2 ^ j.targets) vs h.distinct h.below

-- ---- all rounds

-- how the loop ends: stuck is the smallest input that no listed vector rectifies, and no other vector rectifies it
pub record Finished (j : Job) (l : Listed) : Type 0 where
  pub listing : Listing j l.vectors
  pub earliest : first (unrectified j l.vectors) (all_inputs j) ≡ l.stuck
  pub hopeless : (x : ℕ) → l.stuck ≡ some x → rectifiable j x ≡ false

not-rectifiable : (j : Job) (x : ℕ) → first (rectifies j x) (all_vectors j) ≡ none → rectifiable j x ≡ false
unfolding rectifiable
not-rectifiable j x e =
    false_of (rectifiable j x) (λ h.
    let r = any-true (rectifies j x) (all_vectors j) h in
    not-both r.2 (first-none (rectifies j x) (all_vectors j) e r.0 r.1))

pub rounds-finished : (j : Job) (k : ℕ) (vs : List ℕ) → Listing j vs → 2 ^ j.targets < k + length vs
    → Finished j (rounds j k vs)
rounds-finished j zero vs h l = let f : ⊥ = omega (arith, listing-length j vs h) in absurd f
rounds-finished j (suc k) vs h l =
    ⊎_elim
    (λ e.
    rw (rounds-done j k vs e)
    (record { listing = h; earliest = e; hopeless = λ y q. absurd (none-ne-some y q) }))
    (λ s.
    let x = s.0 in
    ⊎_elim
    (λ n.
    rw (rounds-stuck j k vs x s.1 n)
    (record { listing = h; earliest = s.1; hopeless = λ y q. rw (← some-injective x y q) (not-rectifiable j x n) }))
    (λ t.
    let vs' = vs ++ (t.0 ∷ []) in
    let m : 2 ^ j.targets < k + length vs' = omega (arith, length-append vs (t.0 ∷ [])) in
    rw (rounds-again j k vs x t.0 s.1 t.1)
    (rounds-finished j k vs' (listing-round j vs x t.0 h s.1 t.1) m))
    (none_or_some (first (rectifies j x) (all_vectors j))))
    (none_or_some (first (unrectified j vs) (all_inputs j)))

pub loop-finished : (j : Job) → Finished j (vector_loop j)
unfolding vector_loop
loop-finished j = rounds-finished j (2 ^ j.targets) (0 ∷ []) (listing_start j) (omega arith)

-- ---- the listed vectors

pub vectors-distinct : (j : Job) → Distinct (vector_loop j).vectors
vectors-distinct j = (loop-finished j).listing.distinct

pub vectors-below : (j : Job) (v : ℕ) → Mem v (vector_loop j).vectors → v < 2 ^ j.targets
vectors-below j = (loop-finished j).listing.below

pub length-vectors-le : (j : Job) → length (vector_loop j).vectors ≤ 2 ^ j.targets
length-vectors-le j = listing-length j (vector_loop j).vectors (loop-finished j).listing

module _ (j : Job) where
  rectifier : (x : ℕ) → unrectified j (vector_loop j).vectors x ≡ false
      → (v : ℕ) × Mem v (vector_loop j).vectors × (rectifies j x v ≡ true)
  unfolding unrectified
  rectifier x u =
      let vs = (vector_loop j).vectors in
      any-true (rectifies j x) vs (not-false (any (rectifies j x) vs) u)

  -- where the loop is not stuck, each input has a listed vector that rectifies it
  pub listed-of-none : (vector_loop j).stuck ≡ none → (x : ℕ) → x < 2 ^ j.inputs
      → (v : ℕ) × Mem v (vector_loop j).vectors × (rectifies j x v ≡ true)
  unfolding all_inputs
  listed-of-none e x l =
      rectifier x (first-none-below (unrectified j (vector_loop j).vectors) (2 ^ j.inputs) ((loop-finished j).earliest ∙ e) x l)

  stuck-least : (x : ℕ) → (vector_loop j).stuck ≡ some x → Least (unrectified j (vector_loop j).vectors) (2 ^ j.inputs) x
  unfolding all_inputs
  stuck-least x e = first-least (unrectified j (vector_loop j).vectors) (2 ^ j.inputs) x ((loop-finished j).earliest ∙ e)

  -- where it is stuck at x, each input below x has one
  pub listed-of-some : (x : ℕ) → (vector_loop j).stuck ≡ some x → (y : ℕ) → y < x
      → (v : ℕ) × Mem v (vector_loop j).vectors × (rectifies j y v ≡ true)
  listed-of-some x e y l = rectifier y ((stuck-least x e).smaller y l)

  -- .. and x has none
  pub unlisted-of-some : (x : ℕ) → (vector_loop j).stuck ≡ some x → any (rectifies j x) (vector_loop j).vectors ≡ false
  unfolding unrectified
  unlisted-of-some x e = not-true (any (rectifies j x) (vector_loop j).vectors) (stuck-least x e).holds

  rectifiable-of-listed : (x : ℕ) → (v : ℕ) × Mem v (vector_loop j).vectors × (rectifies j x v ≡ true)
      → rectifiable j x ≡ true
  rectifiable-of-listed x r = rectifiable-of j x r.0 (vectors-below j r.0 r.1) r.2

  -- ---- where the loop is stuck

  -- x is the smallest input that no vector rectifies
  abbrev pub SmallestUnrectifiable : ℕ → Type 0
  SmallestUnrectifiable x =
      (x < 2 ^ j.inputs) × (rectifiable j x ≡ false) × ((y : ℕ) → y < x → rectifiable j y ≡ true)

  smallest-of-stuck : (x : ℕ) → (vector_loop j).stuck ≡ some x → SmallestUnrectifiable x
  smallest-of-stuck x e =
      ((stuck-least x e).below, (loop-finished j).hopeless x e, λ y l. rectifiable-of-listed y (listed-of-some x e y l))

  smallest-le : (x y : ℕ) → SmallestUnrectifiable x → rectifiable j y ≡ false → x ≤ y
  smallest-le x y h e =
      ⊎_elim (λ t. absurd (not-both (h.2 y (ltb-true y x t)) e)) (ltb-false y x) (true-or-false (ltb y x))

  pub stuck-iff : (x : ℕ) → ((vector_loop j).stuck ≡ some x) ↔ SmallestUnrectifiable x
  stuck-iff x = (
    smallest-of-stuck x,
    λ h.
        ⊎_elim
        (λ e. absurd (not-both (rectifiable-of-listed x (listed-of-none e x h.0)) h.1))
        (λ s.
        let r = smallest-of-stuck s.0 s.1 in
        let a = smallest-le x s.0 h r.1 in
        let b = smallest-le s.0 x r h.1 in
        let q : s.0 ≡ x = omega arith in
        s.1 ∙ ap some q)
        (none_or_some (vector_loop j).stuck),
  )

  pub stuck-none-iff : ((vector_loop j).stuck ≡ none) ↔ ((x : ℕ) → x < 2 ^ j.inputs → rectifiable j x ≡ true)
  stuck-none-iff = (
    λ e x l. rectifiable-of-listed x (listed-of-none e x l),
    λ h.
        ⊎_elim
        (λ e. e)
        (λ s. let r = smallest-of-stuck s.0 s.1 in absurd (not-both (h s.0 r.0) r.1))
        (none_or_some (vector_loop j).stuck),
  )
