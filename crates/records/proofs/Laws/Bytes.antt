-- Laws of specs/Bytes: numbered lists, tests over lists, and a list placed in another. Assumes nothing.
use Prim.Native.Nat.{ℕ, zero, suc, ◌+◌, ◌-◌, ◌≤◌, ◌<◌}
use mathlib.Core.Path.{◌≡◌, refl, sym, ◌∙◌, ap}
use mathlib.Core.List.{List, [], ◌∷◌, ◌++◌, map, append_assoc, append-nil}
use mathlib.Core.Logic.{◌⊎◌, inl, inr}
use mathlib.Core.Bool.{Bool, true, false, ◌&&◌, ◌||◌}
use native.Mathlib.Nat.{add-zero, zero-add, add-suc, suc-add}
use native.Mathlib.Numerals.{add-one}
use native.Mathlib.Omega.{arith}
use borrow.Author.Tests.{lt-ltb}
use lib.Dec.{ltb}
use lib.ListN.{length, get_or, take, drop, set, length-append, length-drop, length-map, take-append-drop, drop_of_length-le}
use lib.Seq.{take-nil, drop-cons, drop-length, get_or-take, ext_get_or, length-take-le, take_at, drop_at, set_at, append_snoc, drop-drop, take-append_seam, take-append-le, drop-append-le}
use Rattle.records.specs.Bytes.{up_from, tabulate, all, placed}

-- ---- tests

pub and_left : (a b : Bool) → a && b ≡ true → a ≡ true
and_left true b e = refl
and_left false b e = e

pub and_right : (a b : Bool) → a && b ≡ true → b ≡ true
and_right true b e = e
and_right false true e = refl
and_right false false e = e

pub and_both : (a b : Bool) → a ≡ true → b ≡ true → a && b ≡ true
and_both a b p q = rw (p, q)

pub and-false-left : (a b : Bool) → a ≡ false → a && b ≡ false
and-false-left a b p = rw p

pub and-false-right : (a b : Bool) → b ≡ false → a && b ≡ false
and-false-right true b p = p
and-false-right false b p = refl

pub and_assoc : (a b c : Bool) → (a && b) && c ≡ a && (b && c)
and_assoc true b c = refl
and_assoc false b c = refl

and-swap : (a b c : Bool) → (a && b) && c ≡ (a && c) && b
and-swap true true true = refl
and-swap true true false = refl
and-swap true false true = refl
and-swap true false false = refl
and-swap false b c = refl

pub or_left : (a b : Bool) → a ≡ true → a || b ≡ true
or_left a b e = rw e

pub or_right : (a b : Bool) → b ≡ true → a || b ≡ true
or_right true b e = refl
or_right false b e = e

pub or_cases : (a b : Bool) → a || b ≡ true → (a ≡ true) ⊎ (b ≡ true)
or_cases true b e = inl refl
or_cases false b e = inr e

pub all-ext : {A : Type 0} (p q : A → Bool) → ((x : A) → p x ≡ q x) → (xs : List A) → all p xs ≡ all q xs
unfolding all
all-ext p q h [] = refl
all-ext p q h (x ∷ xs) = rw (h x, all-ext p q h xs)

-- a row of tests, a && b && c .., whose first is a
abbrev pub row : Bool → List Bool → Bool
row a [] = a
row a (b ∷ bs) = row (a && b) bs

row-left : (a : Bool) (bs : List Bool) → row a bs ≡ true → a ≡ true
row-left a [] h = h
row-left a (b ∷ bs) h = and_left a b (row-left (a && b) bs h)

-- where a row passes, each of its tests does
pub row_at : (a : Bool) (bs : List Bool) → row a bs ≡ true → (i : ℕ) → get_or (a ∷ bs) i true ≡ true
row_at a bs h zero = row-left a bs h
row_at a [] h (suc i) = refl
row_at a (b ∷ bs) h (suc zero) = and_right a b (row-left (a && b) bs h)
row_at a (b ∷ bs) h (suc (suc i)) = row_at (a && b) bs h (suc i)

-- a test beside a row is a test beside its first
pub row-and : (a g : Bool) (bs : List Bool) → row a bs && g ≡ row (a && g) bs
row-and a g [] = refl
row-and a g (b ∷ bs) = row-and (a && b) g bs ∙ ap (λ (c : Bool). row c bs) (and-swap a b g)

pub false_of : (b : Bool) → (b ≡ true → ⊥) → b ≡ false
false_of true h = absurd (h refl)
false_of false h = refl

pub all_cons : {A : Type 0} (p : A → Bool) (x : A) (xs : List A) → all p (x ∷ xs) ≡ true
    → (p x ≡ true) × (all p xs ≡ true)
unfolding all
all_cons p x xs e = (and_left (p x) (all p xs) e, and_right (p x) (all p xs) e)

pub all-below : (n : ℕ) (xs : List ℕ) → ((i : ℕ) → i < length xs → get_or xs i 0 < n) → all (λ v. ltb v n) xs ≡ true
unfolding all
all-below n [] h = refl
all-below n (x ∷ xs) h =
    and_both (ltb x n) (all (λ v. ltb v n) xs) (lt-ltb x n (h 0 (omega arith)))
    (all-below n xs (λ i l. h (suc i) (omega arith)))

-- ---- a part of a list

pub drop-take : {A : Type 0} (m n : ℕ) (xs : List A) → drop m (take (m + n) xs) ≡ take n (drop m xs)
drop-take zero n xs = ap (λ (k : ℕ). take k xs) (zero-add n)
drop-take (suc m) n [] = ap (λ (k : ℕ). drop (suc m) (take k [])) (suc-add m n) ∙ sym (take-nil n)
drop-take (suc m) n (x ∷ xs) =
    ap (λ (k : ℕ). drop (suc m) (take k (x ∷ xs))) (suc-add m n) ∙ drop-take m n xs

-- ---- up_from, tabulate

pub length-up_from : (a n : ℕ) → length (up_from a n) ≡ n
unfolding up_from
length-up_from a zero = refl
length-up_from a (suc n) = ap suc (length-up_from (suc a) n)

pub get_or-up_from : (a n i d : ℕ) → i < n → get_or (up_from a n) i d ≡ a + i
unfolding up_from
get_or-up_from a (suc n) zero d h = sym (add-zero a)
get_or-up_from a (suc n) (suc i) d h =
    get_or-up_from (suc a) n i d (omega arith) ∙ suc-add a i ∙ sym (add-suc a i)
get_or-up_from a zero i d h = let f : ⊥ = omega arith in absurd f

module _ {A : Type 0} where
  get_d_map : {B : Type 0} (g : B → A) (xs : List B) (i : ℕ) (e : B) (d : A) → i < length xs → get_or (map g xs) i d ≡ g (get_or xs i e)
  get_d_map g [] i e d h = let f : ⊥ = omega arith in absurd f
  get_d_map g (x ∷ xs) zero e d h = refl
  get_d_map g (x ∷ xs) (suc i) e d h = get_d_map g xs i e d (omega arith)

  pub length-tabulate : (n : ℕ) (f : ℕ → A) → length (tabulate n f) ≡ n
  unfolding tabulate
  length-tabulate n f = length-map (up_from 0 n) f ∙ length-up_from 0 n

  pub get_d_tabulate : (n : ℕ) (f : ℕ → A) (i : ℕ) (d : A) → i < n → get_or (tabulate n f) i d ≡ f i
  unfolding tabulate
  get_d_tabulate n f i d h =
      get_d_map f (up_from 0 n) i 0 d (omega (arith, length-up_from 0 n)) ∙ ap f (get_or-up_from 0 n i 0 h ∙ zero-add i)

  -- a turn of a loop over a numbered list: what is left from i on starts with its i-th element
  pub drop-tabulate : (n : ℕ) (f : ℕ → A) (i : ℕ) → i < n → drop i (tabulate n f) ≡ f i ∷ drop (i + 1) (tabulate n f)
  drop-tabulate n f i h =
      drop-cons (tabulate n f) i (f i) (omega (arith, length-tabulate n f))
      ∙ ap (λ (x : A). x ∷ drop (suc i) (tabulate n f)) (get_d_tabulate n f i (f i) h)
      ∙ ap (λ (k : ℕ). f i ∷ drop k (tabulate n f)) (sym (add-one i))

  -- .. and at the end nothing is left
  pub drop-tabulate-end : (n : ℕ) (f : ℕ → A) → drop n (tabulate n f) ≡ []
  drop-tabulate-end n f = ap (λ (k : ℕ). drop k (tabulate n f)) (sym (length-tabulate n f)) ∙ drop-length (tabulate n f)

  -- the same where the loop's test only says that i has passed the end
  pub drop-tabulate-past : (n : ℕ) (f : ℕ → A) (i : ℕ) → n ≤ i → drop i (tabulate n f) ≡ []
  drop-tabulate-past n f i h = drop_of_length-le (tabulate n f) {i = i} (omega (arith, length-tabulate n f))

  -- a turn of a loop that tests each element
  pub all_drop : (p : A → Bool) (n : ℕ) (f : ℕ → A) (i : ℕ) → i < n
      → all p (drop i (tabulate n f)) ≡ (p (f i) && all p (drop (i + 1) (tabulate n f)))
  unfolding all
  all_drop p n f i h = ap (all p) (drop-tabulate n f i h)

  cons-cong : {x y : A} {xs ys : List A} → x ≡ y → xs ≡ ys → x ∷ xs ≡ y ∷ ys
  cons-cong p q = cc

  map-ext : (f g : ℕ → A) (a k : ℕ) → ((i : ℕ) → i < a + k → f i ≡ g i) → map f (up_from a k) ≡ map g (up_from a k)
  unfolding up_from
  map-ext f g a zero e = refl
  map-ext f g a (suc k) e = cons-cong (e a (omega arith)) (map-ext f g (suc a) k (λ i l. e i (omega arith)))

  pub tabulate-ext : (n : ℕ) (f g : ℕ → A) → ((i : ℕ) → i < n → f i ≡ g i) → tabulate n f ≡ tabulate n g
  unfolding tabulate
  tabulate-ext n f g h = map-ext f g 0 n (λ i l. h i (omega arith))

  map-up_from-snoc : (f : ℕ → A) (a n : ℕ) → map f (up_from a (suc n)) ≡ map f (up_from a n) ++ (f (a + n) ∷ [])
  unfolding up_from
  map-up_from-snoc f a zero = rw add-zero
  map-up_from-snoc f a (suc n) =
      let e : suc a + n ≡ a + suc n = omega arith in
      ap (λ (l : List A). f a ∷ l) (map-up_from-snoc f (suc a) n)
      ∙ ap (λ (k : ℕ). f a ∷ map f (up_from (suc a) n) ++ (f k ∷ [])) e

  -- one element more
  pub tabulate-snoc : (n : ℕ) (f : ℕ → A) → tabulate (n + 1) f ≡ tabulate n f ++ (f n ∷ [])
  unfolding tabulate
  tabulate-snoc n f =
      ap (λ (k : ℕ). map f (up_from 0 k)) (add-one n)
      ∙ map-up_from-snoc f 0 n
      ∙ ap (λ (k : ℕ). map f (up_from 0 n) ++ (f k ∷ [])) (zero-add n)

  -- each element of a numbered list turned into another
  pub map-tabulate : {B : Type 0} (n : ℕ) (f : ℕ → A) (g : A → B) → map g (tabulate n f) ≡ tabulate n (λ i. g (f i))
  unfolding tabulate
  map-tabulate n f g = go (up_from 0 n)
    where
      go : (xs : List ℕ) → map g (map f xs) ≡ map (λ i. g (f i)) xs
      go [] = refl
      go (x ∷ xs) = ap (λ (l : List _). g (f x) ∷ l) (go xs)

  -- the first n elements of a list, by number
  pub tabulate-take : (d : A) (xs : List A) (n : ℕ) → n ≤ length xs → tabulate n (λ i. get_or xs i d) ≡ take n xs
  tabulate-take d xs n h =
      let g : ℕ → A = λ i. get_or xs i d in
      ext_get_or d (tabulate n g) (take n xs) (length-tabulate n g ∙ sym (length-take-le n xs h))
      (λ i l.
      let k : i < n = omega (arith, length-tabulate n g) in
      get_d_tabulate n g i d k ∙ sym (get_or-take n xs i d k))

-- ---- placed

module _ {A : Type 0} where
  pub placed-nil : (d : List A) (at : ℕ) → placed d at [] ≡ d
  unfolding placed
  placed-nil d at =
      ap (λ (k : ℕ). take at d ++ [] ++ drop k d) (add-zero at)
      ∙ ap (λ (r : List A). r ++ drop at d) (append-nil (take at d))
      ∙ take-append-drop at d

  -- a part of the first of two lists
  pub part-append : (p q : List A) (a n : ℕ) → a + n ≤ length p → take n (drop a (p ++ q)) ≡ take n (drop a p)
  part-append p q a n h =
      ap (take n) (drop-append-le a p q (omega arith))
      ∙ take-append-le n (drop a p) q (omega (arith, length-drop a p))

  module _ (d : List A) (at : ℕ) (xs : List A) (h : at + length xs ≤ length d) where
    length_front : length (take at d ++ xs) ≡ at + length xs
    length_front = length-append (take at d) xs ∙ ap (λ (k : ℕ). k + length xs) (length-take-le at d (omega arith))

    pub length-placed : length (placed d at xs) ≡ length d
    unfolding placed
    length-placed =
        length-append (take at d ++ xs) (drop (at + length xs) d)
        ∙ omega (arith, length_front, length-drop (at + length xs) d)

    pub drop-placed : drop (at + length xs) (placed d at xs) ≡ drop (at + length xs) d
    unfolding placed
    drop-placed = drop_at (take at d ++ xs) (drop (at + length xs) d) (at + length xs) length_front

    pub take-placed : take (at + length xs) (placed d at xs) ≡ take at d ++ xs
    unfolding placed
    take-placed = take_at (take at d ++ xs) (drop (at + length xs) d) (at + length xs) length_front

    -- what is placed, taken out again; what stands before it and behind it is as it was
    placed-split : placed d at xs ≡ take at d ++ (xs ++ drop (at + length xs) d)
    unfolding placed
    placed-split = append_assoc (take at d) xs (drop (at + length xs) d)

    pub part-placed-same : take (length xs) (drop at (placed d at xs)) ≡ xs
    part-placed-same =
        let n : length (take at d) ≡ at = length-take-le at d (omega arith) in
        rw (placed-split, drop_at (take at d) (xs ++ drop (at + length xs) d) at n)
        (take-append_seam xs (drop (at + length xs) d))

    pub part-placed-before : (a n : ℕ) → a + n ≤ at → take n (drop a (placed d at xs)) ≡ take n (drop a d)
    part-placed-before a n l =
        let k : length (take at d) ≡ at = length-take-le at d (omega arith) in
        rw placed-split (part-append (take at d) (xs ++ drop (at + length xs) d) a n (omega arith))
        ∙ sym (part-append (take at d) (drop at d) a n (omega arith))
        ∙ ap (λ (l : List A). take n (drop a l)) (take-append-drop at d)

    pub drop-placed-behind : (n : ℕ) → at + length xs ≤ n → drop n (placed d at xs) ≡ drop n d
    drop-placed-behind n l =
        let m : ℕ = at + length xs in
        let e : m + (n - m) ≡ n = omega arith in
        rw (← e, ← drop-drop (n - m) m (placed d at xs), ← drop-drop (n - m) m d) (ap (drop (n - m)) drop-placed)

  -- what stands at a position, placed there
  pub placed_same : (d : List A) (at : ℕ) (xs : List A) → take (length xs) (drop at d) ≡ xs → placed d at xs ≡ d
  unfolding placed
  placed_same d at xs e =
      append_assoc (take at d) xs (drop (at + length xs) d)
      ∙ ap (λ (r : List A). take at d ++ (xs ++ r)) (sym (drop-drop (length xs) at d))
      ∙ ap (λ (r : List A). take at d ++ (r ++ drop (length xs) (drop at d))) (sym e)
      ∙ ap (λ (r : List A). take at d ++ r) (take-append-drop (length xs) (drop at d))
      ∙ take-append-drop at d

  -- a list placed in the first of two lists
  placed-append : (a b : List A) (at : ℕ) (xs : List A) → at + length xs ≤ length a → placed (a ++ b) at xs ≡ placed a at xs ++ b
  unfolding placed
  placed-append a b at xs h =
      ap (λ (l : List A). l ++ xs ++ drop (at + length xs) (a ++ b)) (take-append-le at a b (omega arith))
      ∙ ap (λ (l : List A). take at a ++ xs ++ l) (drop-append-le (at + length xs) a b h)
      ∙ sym (append_assoc (take at a ++ xs) (drop (at + length xs) a) b)

  -- two lists placed, one before the other, in either order
  pub placed-swap : (d : List A) (at : ℕ) (xs : List A) (p : ℕ) (ys : List A) → at + length xs ≤ p → p + length ys ≤ length d
      → placed (placed d p ys) at xs ≡ placed (placed d at xs) p ys
  placed-swap d at xs p ys l h =
      let n : length (take p d) ≡ p = length-take-le p d (omega arith) in
      let a : List A = placed (take p d) at xs in
      let m : length a ≡ p = length-placed (take p d) at xs (omega arith) ∙ n in
      let k : length (placed d at xs) ≡ length d = length-placed d at xs (omega arith) in
      let e : placed d at xs ≡ a ++ drop p d =
      ap (λ (r : List A). placed r at xs) (sym (take-append-drop p d)) ∙ placed-append (take p d) (drop p d) at xs (omega arith) in
      let f : take p (placed d at xs) ≡ a =
      ap (take p) e ∙ ap (λ (i : ℕ). take i (a ++ drop p d)) (sym m) ∙ take-append_seam a (drop p d) in
      let g : drop (p + length ys) (placed d at xs) ≡ drop (p + length ys) d =
      drop-placed-behind d at xs (omega arith) (p + length ys) (omega arith) in
      ap (λ (r : List A). placed r at xs) (placed-split d p ys h)
      ∙ placed-append (take p d) (ys ++ drop (p + length ys) d) at xs (omega arith)
      ∙ sym (placed-split (placed d at xs) p ys (omega arith) ∙ rw (f, g))

  -- one list placed after another is the two placed together
  pub placed-placed : (d : List A) (at : ℕ) (xs ys : List A) → at + length xs + length ys ≤ length d
      → placed (placed d at xs) (at + length xs) ys ≡ placed d at (xs ++ ys)
  unfolding placed
  placed-placed d at xs ys h =
      let f : at + length xs ≤ length d = omega arith in
      let n : at + length xs + length ys ≡ at + length (xs ++ ys) = omega (arith, length-append xs ys) in
      let e : drop (at + length xs + length ys) (placed d at xs) ≡ drop (at + length (xs ++ ys)) d =
      sym (drop-drop (length ys) (at + length xs) (placed d at xs))
      ∙ ap (λ (l : List A). drop (length ys) l) (drop-placed d at xs f)
      ∙ drop-drop (length ys) (at + length xs) d
      ∙ ap (λ (k : ℕ). drop k d) n in
      ap (λ (l : List A). l ++ ys ++ drop (at + length xs + length ys) (placed d at xs)) (take-placed d at xs f)
      ∙ ap (λ (l : List A). take at d ++ xs ++ ys ++ l) e
      ∙ ap (λ (l : List A). l ++ drop (at + length (xs ++ ys)) d) (append_assoc (take at d) xs ys)

  -- a store just behind what is placed adds one element
  pub set-placed : (d : List A) (at : ℕ) (xs : List A) (x : A) → at + length xs < length d
      → set (placed d at xs) (at + length xs) x ≡ placed d at (xs ++ (x ∷ []))
  unfolding placed
  set-placed d at xs x h =
      let p : List A = take at d ++ xs in
      let q : List A = drop (suc (at + length xs)) d in
      let n : suc (at + length xs) ≡ at + length (xs ++ (x ∷ [])) = omega (arith, length-append xs (x ∷ [])) in
      ap (λ (l : List A). set (p ++ l) (at + length xs) x) (drop-cons d (at + length xs) x h)
      ∙ set_at p (get_or d (at + length xs) x) q x (at + length xs) (length_front d at xs (omega arith))
      ∙ sym (append_snoc p x q)
      ∙ ap (λ (l : List A). l ++ q) (append_assoc (take at d) xs (x ∷ []))
      ∙ ap (λ (k : ℕ). take at d ++ (xs ++ (x ∷ [])) ++ drop k d) n
