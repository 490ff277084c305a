-- Laws of specs/Choice, and of all and up_from, by the members of a list. Assumes nothing.
use Prim.Native.Nat.{ℕ, zero, suc, ◌+◌, ◌≤◌, ◌<◌}
use mathlib.Core.Path.{◌≡◌, refl, sym, ◌∙◌, ap, subst}
use mathlib.Core.Logic.{◌↔◌, ◌⊎◌, inl, inr, ⊎_elim}
use mathlib.Core.List.Memᴰ.{cases_cons}
use mathlib.Core.List.Memᴰ.{head as here}
use mathlib.Core.List.Memᴰ.{not-nil}
use mathlib.Core.List.Memᴰ.{tail as there}
use mathlib.Core.List.{List, [], ◌∷◌, ◌++◌, map, Memᴰ as Mem}
use mathlib.Core.Bool.{Bool, true, false, cond, ◌&&◌, ◌||◌, true≢false, false≢true}
use mathlib.Core.Option.{Option, none, some, some-injective, none-ne-some, some-ne-none}
use native.Mathlib.Nat.{le_trans, eq-or-lt_of_le}
use native.Mathlib.Omega.{arith}
use borrow.Author.Tests.{lt-ltb, ltb-true, eqb-true, eq-eqb, ne_eqb}
use lib.Dec.{eqb, ltb}
use lib.ListN.{length, get_or}
use Rattle.records.specs.Bytes.{up_from, all}
use Rattle.records.proofs.Laws.Bytes.{and_left, and_right, and_both, all_cons, false_of}
use Rattle.engine.specs.Choice.{any, keep, first, found, or_zero, same}

-- ---- tests

pub not-both : {b : Bool} → b ≡ true → b ≡ false → ⊥
not-both p q = true≢false (sym p ∙ q)

pub true-or-false : (b : Bool) → (b ≡ true) ⊎ (b ≡ false)
true-or-false true = inl refl
true-or-false false = inr refl

pub and_cases : (a b : Bool) → a && b ≡ false → (a ≡ false) ⊎ (b ≡ false)
and_cases true b e = inr e
and_cases false b e = inl refl

pub or_left : (a b : Bool) → a ≡ true → (a || b) ≡ true
or_left a b e = rw e

pub or_right : (a b : Bool) → b ≡ true → (a || b) ≡ true
or_right true b e = refl
or_right false b e = e

pub or_cases : (a b : Bool) → (a || b) ≡ true → (a ≡ true) ⊎ (b ≡ true)
or_cases true b e = inl refl
or_cases false b e = inr e

-- a function of one of two, and a number by whether it is 0
pub cond_of : {A B : Type 0} (f : A → B) (b : Bool) (x y : A) → f (cond b x y) ≡ cond b (f x) (f y)
cond_of f true x y = refl
cond_of f false x y = refl

pub cond-zero : (n : ℕ) → cond (eqb n 0) 0 n ≡ n
cond-zero zero = refl
cond-zero (suc n) = rw (ne_eqb (suc n) 0 (λ e. omega arith))

-- ---- all, any

module _ {A : Type 0} (p : A → Bool) where
  pub all_true : (xs : List A) → all p xs ≡ true → (x : A) → Mem x xs → p x ≡ true
  unfolding all
  all_true [] e x m = absurd (not-nil m)
  all_true (y ∷ ys) e x m =
      ⊎_elim
      (λ (q : x ≡ y). ap p q ∙ and_left (p y) (all p ys) e)
      (λ (n : Mem x ys). all_true ys (and_right (p y) (all p ys) e) x n)
      (cases_cons m)

  pub all-of-members : (xs : List A) → ((x : A) → Mem x xs → p x ≡ true) → all p xs ≡ true
  unfolding all
  all-of-members [] h = refl
  all-of-members (y ∷ ys) h =
      and_both (p y) (all p ys) (h y (here refl)) (all-of-members ys (λ x m. h x (there m)))

  pub all-false : (xs : List A) → all p xs ≡ false → (x : A) × Mem x xs × (p x ≡ false)
  unfolding all
  all-false [] e = absurd (true≢false e)
  all-false (y ∷ ys) e =
      ⊎_elim
      (λ (q : p y ≡ false). (y, here refl, q))
      (λ (q : all p ys ≡ false). let r = all-false ys q in (r.0, there r.1, r.2))
      (and_cases (p y) (all p ys) e)

  pub any-true : (xs : List A) → any p xs ≡ true → (x : A) × Mem x xs × (p x ≡ true)
  unfolding any
  any-true [] e = absurd (false≢true e)
  any-true (y ∷ ys) e =
      ⊎_elim
      (λ (q : p y ≡ true). (y, here refl, q))
      (λ (q : any p ys ≡ true). let r = any-true ys q in (r.0, there r.1, r.2))
      (or_cases (p y) (any p ys) e)

  pub any-of-member : (xs : List A) (x : A) → Mem x xs → p x ≡ true → any p xs ≡ true
  unfolding any
  any-of-member [] x m q = absurd (not-nil m)
  any-of-member (y ∷ ys) x m q =
      ⊎_elim
      (λ (e : x ≡ y). or_left (p y) (any p ys) (ap p (sym e) ∙ q))
      (λ (n : Mem x ys). or_right (p y) (any p ys) (any-of-member ys x n q))
      (cases_cons m)

  pub any-iff-member : (xs : List A) → (any p xs ≡ true) ↔ ((x : A) × Mem x xs × (p x ≡ true))
  any-iff-member xs = (any-true xs, λ r. any-of-member xs r.0 r.1 r.2)

  pub any_false : (xs : List A) → any p xs ≡ false → (x : A) → Mem x xs → p x ≡ false
  any_false xs e x m = false_of (p x) (λ q. not-both (any-of-member xs x m q) e)

  pub all_append : (xs ys : List A) → all p xs ≡ true → all p ys ≡ true → all p (xs ++ ys) ≡ true
  unfolding all
  all_append [] ys e f = f
  all_append (x ∷ xs) ys e f =
      and_both (p x) (all p (xs ++ ys)) (and_left (p x) (all p xs) e) (all_append xs ys (and_right (p x) (all p xs) e) f)

  -- ---- keep

  -- the members of a choice, by the test's value
  mem-cond : (y : A) (ys zs : List A) (x : A) (b : Bool) → p y ≡ b → (Mem x zs ↔ (Mem x ys × (p x ≡ true)))
      → Mem x (cond b (y ∷ zs) zs) ↔ (Mem x (y ∷ ys) × (p x ≡ true))
  mem-cond y ys zs x true q h = (
    λ m.
        ⊎_elim
        (λ (e : x ≡ y). (here e, ap p e ∙ q))
        (λ (n : Mem x zs). let r = h.0 n in (there r.0, r.1))
        (cases_cons m),
    λ r. ⊎_elim (λ (e : x ≡ y). here e) (λ (n : Mem x ys). there (h.1 (n, r.1))) (cases_cons r.0),
  )
  mem-cond y ys zs x false q h = (
    λ m. let r = h.0 m in (there r.0, r.1),
    λ r.
        ⊎_elim
        (λ (e : x ≡ y). absurd (not-both r.1 (ap p e ∙ q)))
        (λ (n : Mem x ys). h.1 (n, r.1))
        (cases_cons r.0),
  )

  pub mem-keep : (xs : List A) (x : A) → Mem x (keep p xs) ↔ (Mem x xs × (p x ≡ true))
  unfolding keep
  mem-keep [] x = (λ m. absurd (not-nil m), λ r. r.0)
  mem-keep (y ∷ ys) x = mem-cond y ys (keep p ys) x (p y) refl (mem-keep ys x)

  -- ---- first

  pub first-here : (y : A) (ys : List A) → p y ≡ true → first p (y ∷ ys) ≡ some y
  unfolding first
  first-here y ys q = rw (q, first)

  pub first-there : (y : A) (ys : List A) → p y ≡ false → first p (y ∷ ys) ≡ first p ys
  unfolding first
  first-there y ys q = rw (q, first)

  pub first_some : (xs : List A) (x : A) → first p xs ≡ some x → Mem x xs × (p x ≡ true)
  unfolding first
  first_some [] x e = absurd (none-ne-some x e)
  first_some (y ∷ ys) x e =
      ⊎_elim
      (λ (q : p y ≡ true).
      let i : x ≡ y = some-injective x y (sym e ∙ first-here y ys q) in
      (here i, ap p i ∙ q))
      (λ (q : p y ≡ false). let r = first_some ys x (sym (first-there y ys q) ∙ e) in (there r.0, r.1))
      (true-or-false (p y))

  pub first-none : (xs : List A) → first p xs ≡ none → (x : A) → Mem x xs → p x ≡ false
  first-none [] e x m = absurd (not-nil m)
  first-none (y ∷ ys) e x m =
      ⊎_elim
      (λ (q : p y ≡ true). absurd (some-ne-none y (sym (first-here y ys q) ∙ e)))
      (λ (q : p y ≡ false).
      ⊎_elim
      (λ (i : x ≡ y). ap p i ∙ q)
      (λ (n : Mem x ys). first-none ys (sym (first-there y ys q) ∙ e) x n)
      (cases_cons m))
      (true-or-false (p y))

-- ---- numbers below a bound

pub all_get_d : (n : ℕ) (xs : List ℕ) → all (λ o. ltb o n) xs ≡ true → (i : ℕ) → i < length xs → get_or xs i 0 < n
all_get_d n [] e i h = let f : ⊥ = omega arith in absurd f
all_get_d n (x ∷ xs) e zero h = ltb-true x n (all_cons (λ o. ltb o n) x xs e).0
all_get_d n (x ∷ xs) e (suc i) h = all_get_d n xs (all_cons (λ o. ltb o n) x xs e).1 i (omega arith)

pub all-below-more : (n m : ℕ) → n ≤ m → (os : List ℕ) → all (λ o. ltb o n) os ≡ true → all (λ o. ltb o m) os ≡ true
unfolding all
all-below-more n m h [] e = refl
all-below-more n m h (o ∷ os) e =
    let p = all_cons (λ x. ltb x n) o os e in
    and_both _ _ (lt-ltb o m (le_trans (ltb-true o n p.0) h)) (all-below-more n m h os p.1)

-- ---- how many are kept

-- r is at least k shorter than s, and stays so with x put before r by b and before s by a, where b implies a
cond-le : {A : Type 0} (a b : Bool) (x : A) (k : ℕ) (r s : List A) → (a ≡ false → b ≡ false) → k + length r ≤ length s
    → k + length (cond b (x ∷ r) r) ≤ length (cond a (x ∷ s) s)
cond-le true true x k r s h l = omega arith
cond-le true false x k r s h l = omega arith
cond-le false true x k r s h l = absurd (true≢false (h refl))
cond-le false false x k r s h l = l

pub length-keep-le : {A : Type 0} (p : A → Bool) (xs : List A) → length (keep p xs) ≤ length xs
unfolding keep
length-keep-le p [] = omega arith
length-keep-le p (x ∷ xs) =
    let r = length-keep-le p xs in
    omega (arith, cond-le true (p x) x 0 (keep p xs) xs (λ e. absurd (true≢false e)) (omega arith))

-- where q implies p, it keeps no more than p, and less where p holds of an element of which q does not
module _ {A : Type 0} (p q : A → Bool) (h : (x : A) → p x ≡ false → q x ≡ false) where
  pub keep-le : (xs : List A) → length (keep q xs) ≤ length (keep p xs)
  unfolding keep
  keep-le [] = omega arith
  keep-le (x ∷ xs) =
      let r = keep-le xs in
      omega (arith, cond-le (p x) (q x) x 0 (keep q xs) (keep p xs) (h x) (omega arith))

  pub keep-lt : {x : A} {xs : List A} → Mem x xs → p x ≡ true → q x ≡ false → length (keep q xs) < length (keep p xs)
  unfolding keep
  keep-lt (here {xs = xs} e) a b = rw (← e, a, b) (omega (arith, keep-le xs))
  keep-lt (there {x = y} {xs = xs} m) a b =
      let r = keep-lt m a b in
      omega (arith, cond-le (p y) (q y) y 1 (keep q xs) (keep p xs) (h y) (omega arith))

-- ---- map

pub map-agree : {A B : Type 0} (f g : A → B) (xs : List A) → ((x : A) → Mem x xs → f x ≡ g x) → map f xs ≡ map g xs
map-agree f g [] h = refl
map-agree f g (x ∷ xs) h =
    let p : f x ≡ g x = h x (here refl) in
    let q : map f xs ≡ map g xs = map-agree f g xs (λ y m. h y (there m)) in
    cc

-- ---- numbers from a up

pub mem-up_from : (a n x : ℕ) → Mem x (up_from a n) ↔ ((a ≤ x) × (x < a + n))
unfolding up_from
mem-up_from a zero x = (λ m. absurd (not-nil m), λ r. let f : ⊥ = omega (arith, r.0, r.1) in absurd f)
mem-up_from a (suc n) x = (
  λ m.
      ⊎_elim
      (λ (e : x ≡ a). (omega arith, omega arith))
      (λ (k : Mem x (up_from (suc a) n)). let r = (mem-up_from (suc a) n x).0 k in (omega (arith, r.0), omega (arith, r.1)))
      (cases_cons m),
  λ r.
      ⊎_elim
      (λ (e : a ≡ x). here (sym e))
      (λ (l : a < x). there ((mem-up_from (suc a) n x).1 (l, omega (arith, r.1))))
      (eq-or-lt_of_le r.0),
)

-- the members of the numbers below n
pub mem_below : (n x : ℕ) → Mem x (up_from 0 n) ↔ (x < n)
mem_below n x = (
  λ m. omega (arith, ((mem-up_from 0 n x).0 m).1),
  λ h. (mem-up_from 0 n x).1 (omega arith, omega arith),
)

-- no number below the first with p has it
first-smaller : (p : ℕ → Bool) (a n x : ℕ) → first p (up_from a n) ≡ some x → (y : ℕ) → a ≤ y → y < x → p y ≡ false
unfolding up_from
first-smaller p a zero x e y l h = absurd (not-nil (first_some p (up_from a zero) x e).0)
first-smaller p a (suc n) x e y l h =
    ⊎_elim
    (λ (q : p a ≡ true).
    let i : x ≡ a = some-injective x a (sym e ∙ first-here p a (up_from (suc a) n) q) in
    let f : ⊥ = omega arith in absurd f)
    (λ (q : p a ≡ false).
    ⊎_elim
    (λ (i : a ≡ y). ap p (sym i) ∙ q)
    (λ (k : a < y). first-smaller p (suc a) n x (sym (first-there p a (up_from (suc a) n) q) ∙ e) y k h)
    (eq-or-lt_of_le l))
    (true-or-false (p a))

-- x is the least number below n with p
pub record Least (p : ℕ → Bool) (n x : ℕ) : Type 0 where
  pub below : x < n
  pub holds : p x ≡ true
  pub smaller : (y : ℕ) → y < x → p y ≡ false

pub none_or_some : (o : Option ℕ) → (o ≡ none) ⊎ ((x : ℕ) × (o ≡ some x))
none_or_some none = inl refl
none_or_some (some x) = inr (x, refl)

module _ (p : ℕ → Bool) (n : ℕ) where
  pub all-iff-below : (all p (up_from 0 n) ≡ true) ↔ ((x : ℕ) → x < n → p x ≡ true)
  all-iff-below = (
    λ e x h. all_true p (up_from 0 n) e x ((mem_below n x).1 h),
    λ f. all-of-members p (up_from 0 n) (λ x m. f x ((mem_below n x).0 m)),
  )

  pub first-least : (x : ℕ) → first p (up_from 0 n) ≡ some x → Least p n x
  first-least x e =
      let r = first_some p (up_from 0 n) x e in
      record { below = (mem_below n x).0 r.0; holds = r.1; smaller = λ y h. first-smaller p 0 n x e y (omega arith) h }

  pub first-none-below : first p (up_from 0 n) ≡ none → (x : ℕ) → x < n → p x ≡ false
  first-none-below e x h = first-none p (up_from 0 n) e x ((mem_below n x).1 h)

  pub first-of-least : (x : ℕ) → Least p n x → first p (up_from 0 n) ≡ some x
  first-of-least x l =
      ⊎_elim
      (λ (e : first p (up_from 0 n) ≡ none). absurd (not-both l.holds (first-none-below e x l.below)))
      (λ r.
      let z : ℕ = r.0 in
      let m = first-least z r.1 in
      let a : z < x → ⊥ = λ u. not-both m.holds (l.smaller z u) in
      let b : x < z → ⊥ = λ u. not-both l.holds (m.smaller x u) in
      let q : z ≡ x = omega arith in
      r.1 ∙ ap some q)
      (none_or_some (first p (up_from 0 n)))

  pub first-of-none : ((x : ℕ) → x < n → p x ≡ false) → first p (up_from 0 n) ≡ none
  first-of-none h =
      ⊎_elim
      (λ (e : first p (up_from 0 n) ≡ none). e)
      (λ r. let m = first-least r.0 r.1 in absurd (not-both m.holds (h r.0 m.below)))
      (none_or_some (first p (up_from 0 n)))

-- ---- found

pub found_some : (o : Option ℕ) → found o ≡ true → o ≡ some (or_zero o)
unfolding found or_zero
found_some none e = absurd (false≢true e)
found_some (some x) e = refl

pub found_none : (o : Option ℕ) → found o ≡ false → o ≡ none
unfolding found
found_none none e = refl
found_none (some x) e = absurd (true≢false e)

pub found_first : (p : ℕ → Bool) (n x : ℕ) → x < n → p x ≡ true → found (first p (up_from 0 n)) ≡ true
found_first p n x h q =
    let o : Option ℕ = first p (up_from 0 n) in
    ⊎_elim
    (λ (e : found o ≡ true). e)
    (λ (e : found o ≡ false). absurd (not-both q (first-none-below p n (found_none o e) x h)))
    (true-or-false (found o))

-- ---- same

pub same_true : (xs ys : List ℕ) → same xs ys ≡ true → xs ≡ ys
unfolding same
same_true [] [] e = refl
same_true [] (y ∷ ys) e = absurd (false≢true e)
same_true (x ∷ xs) [] e = absurd (false≢true e)
same_true (x ∷ xs) (y ∷ ys) e =
    let p : x ≡ y = eqb-true x y (and_left (eqb x y) (same xs ys) e) in
    let q : xs ≡ ys = same_true xs ys (and_right (eqb x y) (same xs ys) e) in
    cc

pub same_refl : (xs : List ℕ) → same xs xs ≡ true
unfolding same
same_refl [] = refl
same_refl (x ∷ xs) = and_both (eqb x x) (same xs xs) (eq-eqb x x refl) (same_refl xs)

pub same-iff-equal : (xs ys : List ℕ) → (same xs ys ≡ true) ↔ (xs ≡ ys)
same-iff-equal xs ys = (same_true xs ys, λ e. subst (λ (l : List ℕ). same xs l ≡ true) e (same_refl xs))
