-- Laws of the code that walks over the inputs: a set of vectors and a reading gathered from a block's words, bit by bit, and a
-- step of the vector list on the places that hold it. Assumes nothing.
use Prim.Native.Nat.{ℕ, suc, ◌+◌, ◌-◌, ◌/◌, ◌%◌, ◌^◌, ◌≤◌, ◌<◌}
use mathlib.Core.Path.{◌≡◌, refl, sym, ◌∙◌, ap}
use mathlib.Core.List.{List, [], ◌∷◌, ◌++◌}
use mathlib.Core.Bool.{Bool, true, false, ◌||◌, true≢false, false≢true}
use mathlib.Core.Option.{none, some}
use Rattle.std.specs.Prelude.{Option, Some, None}
use Rattle.std.specs.Option.{is_some}
use native.Mathlib.Numerals.{add-one}
use native.Mathlib.Omega.{arith}
use borrow.Author.Tests.{eq-eqb, ne_eqb}
use lib.ListN.{length, get_or, take, drop, set, length-take}
use lib.Seq.{drop-cons, take-suc-set, get_or-take}
use Rattle.records.specs.Bytes.{up_from}
use Rattle.engine.specs.Choice.{any, first, or_zero}
use Rattle.engine.specs.Eval.{bit}
use Rattle.engine.specs.Inner.List.{lowest, stuck_at, listed_of, list_step}
use Rattle.engine.specs.declared.list.Vectors.{Vectors}
use Rattle.engine.proofs.Laws.Choice.{first-here, first-there}
use Rattle.engine.proofs.Laws.VectorSets.{in_set, lowest-zero, lowest-some}
use Rattle.engine.proofs.Laws.List.{list_step-stuck, list_step-listed, list_step-none, list_step-full, list_step-append}

-- ---- gathered bits

-- ---- the vectors of a set

-- how the code tests whether v is in the set s
pub in_set-true : (s v : ℕ) → s / 2 ^ v % 2 ≡ 1 → in_set s v ≡ true
unfolding bit
in_set-true s v e = eq-eqb (s / 2 ^ v % 2) 1 e

pub in_set-false : (s v : ℕ) → (s / 2 ^ v % 2 ≡ 1 → ⊥) → in_set s v ≡ false
unfolding bit
in_set-false s v n = ne_eqb (s / 2 ^ v % 2) 1 n

-- a turn of a search: the first with p from v on
pub first-from-here : (p : ℕ → Bool) (v n : ℕ) → v < n → p v ≡ true → first p (up_from v (n - v)) ≡ some v
unfolding up_from
first-from-here p v n h e =
    let k : n - v ≡ suc (n - suc v) = omega arith in
    rw k (first-here p v (up_from (suc v) (n - suc v)) e)

pub first-from-there : (p : ℕ → Bool) (v n : ℕ) → v < n → p v ≡ false
    → first p (up_from v (n - v)) ≡ first p (up_from (v + 1) (n - (v + 1)))
unfolding up_from
first-from-there p v n h e =
    let k : n - v ≡ suc (n - suc v) = omega arith in
    rw (k, add-one v) (first-there p v (up_from (suc v) (n - suc v)) e)

-- a turn of a test over a list
pub any-from : (p : ℕ → Bool) (xs : List ℕ) (i : ℕ) → i < length xs
    → any p (drop i xs) ≡ (p (get_or xs i 0) || any p (drop (i + 1) xs))
unfolding any
any-from p xs i h = rw (add-one i) (ap (any p) (drop-cons xs i 0 h))

-- ---- the vector list that a struct holds

stuck_none : (o : Option ℕ) → is_some o ≡ false → stuck_at o ≡ none
unfolding stuck_at
stuck_none None e = refl
stuck_none (Some x) e = absurd (true≢false e)

stuck_input : (o : Option ℕ) → is_some o ≡ true → (x : ℕ) × (stuck_at o ≡ some x)
unfolding stuck_at
stuck_input None e = absurd (false≢true e)
stuck_input (Some x) e = (x, refl)

module _ (v : Vectors) where
  -- a listed vector is one of sixteen
  pub listed-below : (i : ℕ) → i < length (listed_of v).vectors → get_or (listed_of v).vectors i 0 < 16
  unfolding listed_of
  listed-below i h = rw (get_or-take v.len v.list i 0 (omega (arith, length-take v.len v.list))) (v.held.1 i)

  -- the list with x behind it
  pub listed-append : (x : ℕ) → v.len < length v.list → take (v.len + 1) (set v.list v.len x) ≡ (listed_of v).vectors ++ (x ∷ [])
  unfolding listed_of
  listed-append x h = rw (add-one v.len) (take-suc-set v.list v.len x h)

  pub listed-stuck : is_some v.stuck ≡ true → (x : ℕ) × ((listed_of v).stuck ≡ some x)
  unfolding listed_of
  listed-stuck e = stuck_input v.stuck e

  -- .. as a match says it
  pub listed-at : (x : ℕ) → v.stuck ≡ Some x → (listed_of v).stuck ≡ some x
  unfolding listed_of stuck_at
  listed-at x e = rw e

  pub listed-going : v.stuck ≡ None → (listed_of v).stuck ≡ none
  unfolding listed_of stuck_at
  listed-going e = rw e

  pub listed-free : is_some v.stuck ≡ false → (listed_of v).stuck ≡ none
  unfolding listed_of
  listed-free e = stuck_none v.stuck e

  -- how the code's step ends, by its tests
  module _ (s x : ℕ) where
    pub step-stuck : is_some v.stuck ≡ true → listed_of v ≡ list_step (listed_of v) s x
    step-stuck e =
        let i = listed-stuck e in
        sym (list_step-stuck (listed_of v) s x i.0 i.1)

    pub step-listed : any (in_set s) (listed_of v).vectors ≡ true → listed_of v ≡ list_step (listed_of v) s x
    step-listed a = sym (list_step-listed (listed_of v) s x a)

    module _ (e : is_some v.stuck ≡ false) (a : any (in_set s) (listed_of v).vectors ≡ false) where
      pub step-none : s ≡ 0 → list_step (listed_of v) s x ≡ record { vectors = (listed_of v).vectors; stuck = some x }
      step-none z = list_step-none (listed_of v) s x (listed-free e) a (ap lowest z ∙ lowest-zero)

      module _ (l : s < 65536) (n : s ≡ 0 → ⊥) where
        pub step-full : length v.list ≡ 16 → 16 ≤ v.len → listed_of v ≡ list_step (listed_of v) s x
        unfolding listed_of
        step-full k b =
            sym
            (list_step-full (listed_of v) s x (listed-free e) a (or_zero (lowest s)) (lowest-some s l n)
            (omega (arith, length-take v.len v.list)))

        pub step-append : v.len < 16 → list_step (listed_of v) s x
            ≡ record { vectors = (listed_of v).vectors ++ (or_zero (lowest s) ∷ []); stuck = (listed_of v).stuck }
        unfolding listed_of
        step-append b =
            list_step-append (listed_of v) s x (listed-free e) a (or_zero (lowest s)) (lowest-some s l n)
            (omega (arith, length-take v.len v.list))
            ∙ rw (listed-free e)
