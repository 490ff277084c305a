-- Laws of sets of candidates as numbers: the picked lists are the subsets, a set picks place by place, and of two sets that pick
-- as many ascending nets the one with the lowest place in which they differ comes earlier. Assumes nothing.
use Prim.Native.Nat.{ℕ, zero, suc, ◌+◌, ◌-◌, ◌*◌, ◌/◌, ◌%◌, ◌^◌, ◌≤◌, ◌<◌}
use mathlib.Core.Path.{◌≡◌, refl, sym, ◌∙◌, ap}
use mathlib.Core.Logic.{◌⊎◌, inl, inr, ⊎_elim}
use mathlib.Core.Bool.{Bool, true, false, ◌&&◌, ◌||◌}
use mathlib.Core.List.Memᴰ.{append_cases}
use mathlib.Core.List.Memᴰ.{append_left as mem-append_left}
use mathlib.Core.List.Memᴰ.{append_right as mem-append_right}
use mathlib.Core.List.Memᴰ.{cases_cons}
use mathlib.Core.List.Memᴰ.{eq_of_singleton}
use mathlib.Core.List.Memᴰ.{head as here}
use mathlib.Core.List.Memᴰ.{map as mem-map}
use mathlib.Core.List.Memᴰ.{not-nil}
use mathlib.Core.List.Memᴰ.{of_map as mem-of-map}
use mathlib.Core.List.Memᴰ.{tail as there}
use mathlib.Core.List.{List, [], ◌∷◌, ◌++◌, map, map-map, append-nil, append_assoc, Memᴰ as Mem}
use native.Mathlib.Nat.{pow-suc, div-one}
use native.Mathlib.Numerals.{add-one}
use native.Mathlib.Omega.{arith}
use borrow.Author.Tests.{ltb-true, eqb-true, eqb-false, lt-ltb, eq-eqb}
use lib.Pow.{pow_pos, shr-shr}
use lib.Dec.{ltb, eqb}
use lib.ListN.{length, get_or, take, drop, set, length-append}
use lib.Seq.{length-take-le, take-length, drop-length, take-suc, take-suc-set, drop-cons}
use Rattle.records.specs.Bytes.{up_from, tabulate}
use Rattle.records.specs.Job.{Candidate}
use Rattle.records.specs.Refusal.{ascending}
use Rattle.records.specs.Service.{candidates_from}
use Rattle.records.specs.Sheet.{weight_of, cost_of}
use Rattle.records.proofs.Laws.Bytes.{and_left, and_right, false_of}
use Rattle.records.proofs.Laws.Job.{tabulate-get_or}
use Rattle.engine.specs.Eval.{bit, bits, number_of}
use Rattle.engine.specs.Support.{subsets, earlier}
use Rattle.std.specs.List.{sum}
use Rattle.std.proofs.lemmas.List.Sums.{sum_by-append, sum_by-cons}
use Rattle.std.proofs.Common.{cond, Ordering, Less, Equal, Greater, is_lt, is_eq, nat_cmp}
use Rattle.std.specs.Ordering.{ordering_then}
use Rattle.engine.specs.Inner.Best.{picked, low_first, open_at}
use Rattle.engine.proofs.Laws.Choice.{map-agree, true-or-false}
use Rattle.engine.proofs.Laws.Eval.{Bits, bits-nil, bits-cons, bit-lt}
use Rattle.engine.proofs.Laws.Support.{subsets-among}

-- ---- bits

pub bit-first : (x : ℕ) → bit 0 x ≡ x % 2
unfolding bit
bit-first x = ap (λ (y : ℕ). y % 2) (div-one x)

pub bit-suc : (i x : ℕ) → bit (suc i) x ≡ bit i (x / 2)
unfolding bit
bit-suc i x =
    let e : 1 + i ≡ suc i = omega arith in
    ap (λ (y : ℕ). y % 2) (sym (rw e at (shr-shr x 1 i)))

map-up_from : (f : ℕ → ℕ) (a n : ℕ) → map f (up_from (suc a) n) ≡ map (λ i. f (suc i)) (up_from a n)
unfolding up_from
map-up_from f a zero = refl
map-up_from f a (suc n) = ap (λ (l : List ℕ). f (suc a) ∷ l) (map-up_from f (suc a) n)

pub bits-suc : (k x : ℕ) → bits (suc k) x ≡ x % 2 ∷ bits k (x / 2)
unfolding bits tabulate up_from
bits-suc k x =
    let p : map (λ i. bit i x) (up_from 1 k) ≡ map (λ i. bit i (x / 2)) (up_from 0 k) =
    map-up_from (λ i. bit i x) 0 k ∙ map-agree (λ i. bit (suc i) x) (λ i. bit i (x / 2)) (up_from 0 k) (λ i m. bit-suc i x) in
    let q : bit 0 x ≡ x % 2 = bit-first x in
    cc

-- the bits of a number made of bits
pub bits-number_of : {bs : List ℕ} → Bits bs → bits (length bs) (number_of bs) ≡ bs
unfolding bits tabulate up_from number_of
bits-number_of bits-nil = refl
bits-number_of (bits-cons {v} {vs} h b) =
    let n = number_of vs in
    let p : (v + 2 * n) % 2 ≡ v = omega arith in
    let q : (v + 2 * n) / 2 ≡ n = omega arith in
    bits-suc (length vs) (v + 2 * n) ∙ rw (p, q, bits-number_of b)

-- ---- picked elements

module _ {A : Type 0} (x : A) (xs : List A) (s : ℕ) where
  pub picked-in : s % 2 ≡ 1 → picked (x ∷ xs) s ≡ x ∷ picked xs (s / 2)
  unfolding picked
  picked-in e = rw (bit-first s, e)

  pub picked-out : s % 2 ≡ 0 → picked (x ∷ xs) s ≡ picked xs (s / 2)
  unfolding picked
  picked-out e = rw (bit-first s, e)

-- a set has its first place, or not
pub in-or-out : (s : ℕ) → (s % 2 ≡ 1) ⊎ (s % 2 ≡ 0)
in-or-out s = go (s % 2) (omega arith)
  where
    go : (b : ℕ) → b < 2 → (b ≡ 1) ⊎ (b ≡ 0)
    go zero h = inr refl
    go (suc zero) h = inl refl
    go (suc (suc b)) h = let f : ⊥ = omega arith in absurd f

pub length-picked-le : {A : Type 0} (xs : List A) (s : ℕ) → length (picked xs s) ≤ length xs
unfolding picked
length-picked-le [] s = omega arith
length-picked-le (x ∷ xs) s =
    let r = length-picked-le xs (s / 2) in
    ⊎_elim (λ e. rw (picked-in x xs s e) (omega arith)) (λ e. rw (picked-out x xs s e) (omega arith)) (in-or-out s)

-- a set of places that has all of them
pub picked_all : {A : Type 0} (xs : List A) → picked xs (2 ^ length xs - 1) ≡ xs
unfolding picked
picked_all [] = refl
picked_all (x ∷ xs) =
    let p = pow-suc 2 (length xs) in
    let q = pow_pos (length xs) in
    let a : (2 ^ suc (length xs) - 1) % 2 ≡ 1 = omega arith in
    let b : (2 ^ suc (length xs) - 1) / 2 ≡ 2 ^ length xs - 1 = omega arith in
    picked-in x xs (2 ^ suc (length xs) - 1) a ∙ rw (b, picked_all xs)

-- ---- the picked lists are the subsets

pub picked-subset : (is : List ℕ) (s : ℕ) → Mem (picked is s) (subsets is)
unfolding picked subsets
picked-subset [] s = here refl
picked-subset (i ∷ is) s =
    ⊎_elim
    (λ e.
    rw (picked-in i is s e)
    (mem-append_left (subsets is) (mem-map (λ (ks : List ℕ). i ∷ ks) (picked-subset is (s / 2)))))
    (λ e. rw (picked-out i is s e) (mem-append_right (map (λ (ks : List ℕ). i ∷ ks) (subsets is)) (picked-subset is (s / 2))))
    (in-or-out s)

pub subset-picked : (is ks : List ℕ) → Mem ks (subsets is) → (s : ℕ) × (s < 2 ^ length is) × (ks ≡ picked is s)
unfolding picked subsets
subset-picked [] ks m = (0, omega arith, eq_of_singleton m)
subset-picked (i ∷ is) ks m =
    let p = pow-suc 2 (length is) in
    ⊎_elim
    (λ (a : Mem ks (map (λ (ls : List ℕ). i ∷ ls) (subsets is))).
    let r = mem-of-map (λ (ls : List ℕ). i ∷ ls) (subsets is) a in
    let t = subset-picked is r.0 r.1 in
    let s : ℕ = t.0 in
    let l : s < 2 ^ length is = t.1 in
    let u : (1 + 2 * s) % 2 ≡ 1 = omega arith in
    let w : (1 + 2 * s) / 2 ≡ s = omega arith in
    (1 + 2 * s, omega arith, sym r.2 ∙ ap (λ (ls : List ℕ). i ∷ ls) t.2 ∙ sym (picked-in i is (1 + 2 * s) u ∙ rw w)))
    (λ (a : Mem ks (subsets is)).
    let t = subset-picked is ks a in
    let s : ℕ = t.0 in
    let l : s < 2 ^ length is = t.1 in
    let u : (2 * s) % 2 ≡ 0 = omega arith in
    let w : (2 * s) / 2 ≡ s = omega arith in
    (2 * s, omega arith, t.2 ∙ sym (picked-out i is (2 * s) u ∙ rw w)))
    (append_cases (map (λ (ls : List ℕ). i ∷ ls) (subsets is)) m)

-- ---- a set up to a place and from there on

module _ {A : Type 0} where
  pub picked-split : (i : ℕ) (xs : List A) (s : ℕ) → picked xs s ≡ picked (take i xs) s ++ picked (drop i xs) (s / 2 ^ i)
  unfolding picked
  picked-split zero xs s = rw (div-one s)
  picked-split (suc i) [] s = refl
  picked-split (suc i) (x ∷ xs) s =
      let r = picked-split i xs (s / 2) in
      let e : s / 2 / 2 ^ i ≡ s / 2 ^ suc i = let q : 1 + i ≡ suc i = omega arith in rw q at (shr-shr s 1 i) in
      ⊎_elim
      (λ o. picked-in x xs s o ∙ rw (r, e, picked-in x (take i xs) s o))
      (λ o. picked-out x xs s o ∙ rw (r, e, picked-out x (take i xs) s o))
      (in-or-out s)

-- the places from i on cost no more than all
pub sum-from-le : (i : ℕ) (ws : List ℕ) (s : ℕ) → sum (picked (drop i ws) (s / 2 ^ i)) ≤ sum (picked ws s)
sum-from-le i ws s =
    rw (picked-split i ws s, sum_by-append (λ (w : ℕ). w) (picked (take i ws) s) (picked (drop i ws) (s / 2 ^ i))) (omega arith)

module _ (is : List ℕ) where
  pub open_none : (s : ℕ) → open_at is 0 s ≡ picked is s
  unfolding open_at
  open_none s = refl

  pub open-all : (s : ℕ) → open_at is (length is) s ≡ is
  unfolding open_at picked
  open-all s = rw (take-length is, drop-length is) (append-nil is)

  -- a set that is s from place i on picks nets of the open support
  pub open-among : (i s : ℕ) (n : ℕ) → Mem n (picked is s) → Mem n (open_at is i (s / 2 ^ i))
  unfolding open_at
  open-among i s n m =
      ⊎_elim
      (λ (a : Mem n (picked (take i is) s)).
      mem-append_left (picked (drop i is) (s / 2 ^ i)) (subsets-among (take i is) (picked (take i is) s) (picked-subset (take i is) s) n a))
      (λ (b : Mem n (picked (drop i is) (s / 2 ^ i))). mem-append_right (take i is) b)
      (append_cases (picked (take i is) s) (rw (picked-split i is s) at m))

module _ (is : List ℕ) (i : ℕ) (h : i < length is) where
  -- the net at place i is open, in, or out
  pub open-suc : (s : ℕ) → open_at is (suc i) s ≡ take i is ++ (get_or is i 0 ∷ picked (drop (suc i) is) s)
  unfolding open_at
  open-suc s = rw (take-suc is i 0 h) (append_assoc (take i is) (get_or is i 0 ∷ []) (picked (drop (suc i) is) s))

  pub open_in : (s : ℕ) → s % 2 ≡ 1 → open_at is i s ≡ open_at is (suc i) (s / 2)
  unfolding open_at
  open_in s e = rw (drop-cons is i 0 h, picked-in (get_or is i 0) (drop (suc i) is) s e) (sym (open-suc (s / 2)))

  pub open-out : (s : ℕ) → s % 2 ≡ 0 → open_at is i s ≡ take i is ++ picked (drop (suc i) is) (s / 2)
  unfolding open_at
  open-out s e = rw (drop-cons is i 0 h, picked-out (get_or is i 0) (drop (suc i) is) s e)

module _ (ws : List ℕ) (i : ℕ) (h : i < length ws) where
  pub sum-in : (s : ℕ) → s % 2 ≡ 1 → sum (picked (drop i ws) s) ≡ get_or ws i 0 + sum (picked (drop (suc i) ws) (s / 2))
  sum-in s e =
      rw (drop-cons ws i 0 h, picked-in (get_or ws i 0) (drop (suc i) ws) s e)
      (sum_by-cons (λ (w : ℕ). w) (get_or ws i 0) (picked (drop (suc i) ws) (s / 2)))

  pub sum-out : (s : ℕ) → s % 2 ≡ 0 → sum (picked (drop i ws) s) ≡ sum (picked (drop (suc i) ws) (s / 2))
  sum-out s e = rw (drop-cons ws i 0 h, picked-out (get_or ws i 0) (drop (suc i) ws) s e)

-- ---- picking place by place

module _ {A : Type 0} where
  picked-snoc-in : (xs : List A) (x : A) (s : ℕ) → bit (length xs) s ≡ 1 → picked (xs ++ (x ∷ [])) s ≡ picked xs s ++ (x ∷ [])
  unfolding picked
  picked-snoc-in [] x s e = picked-in x [] s (sym (bit-first s) ∙ e)
  picked-snoc-in (y ∷ xs) x s e =
      let r = picked-snoc-in xs x (s / 2) (sym (bit-suc (length xs) s) ∙ e) in
      ⊎_elim
      (λ i. picked-in y (xs ++ (x ∷ [])) s i ∙ rw (r, picked-in y xs s i))
      (λ i. picked-out y (xs ++ (x ∷ [])) s i ∙ rw (r, picked-out y xs s i))
      (in-or-out s)

  picked-snoc-out : (xs : List A) (x : A) (s : ℕ) → bit (length xs) s ≡ 0 → picked (xs ++ (x ∷ [])) s ≡ picked xs s
  unfolding picked
  picked-snoc-out [] x s e = picked-out x [] s (sym (bit-first s) ∙ e)
  picked-snoc-out (y ∷ xs) x s e =
      let r = picked-snoc-out xs x (s / 2) (sym (bit-suc (length xs) s) ∙ e) in
      ⊎_elim
      (λ i. picked-in y (xs ++ (x ∷ [])) s i ∙ rw (r, picked-in y xs s i))
      (λ i. picked-out y (xs ++ (x ∷ [])) s i ∙ rw (r, picked-out y xs s i))
      (in-or-out s)

module _ (xs : List ℕ) (s i : ℕ) (h : i < length xs) where
  front : length (take i xs) ≡ i
  front = length-take-le i xs (omega arith)

  pub picked-take-in : bit i s ≡ 1 → picked (take (i + 1) xs) s ≡ picked (take i xs) s ++ (get_or xs i 0 ∷ [])
  picked-take-in e = rw (add-one i, take-suc xs i 0 h) (picked-snoc-in (take i xs) (get_or xs i 0) s (rw front e))

  pub picked-take-out : (bit i s ≡ 1 → ⊥) → picked (take (i + 1) xs) s ≡ picked (take i xs) s
  picked-take-out e =
      let z : bit i s ≡ 0 = omega (arith, bit-lt i s) in
      rw (add-one i, take-suc xs i 0 h) (picked-snoc-out (take i xs) (get_or xs i 0) s (rw front z))

  pub length-picked-in : bit i s ≡ 1 → length (picked (take (i + 1) xs) s) ≡ length (picked (take i xs) s) + 1
  length-picked-in e = rw (picked-take-in e) (length-append (picked (take i xs) s) (get_or xs i 0 ∷ []))

-- the nets picked so far, and the next one
module _ (xs ps : List ℕ) (s i len : ℕ) (h : i < length xs) (n : len ≡ length (picked (take i xs) s)) (room : len < length ps)
    (e : take len ps ≡ picked (take i xs) s) where
  pub picks-in : bit i s ≡ 1 → take (len + 1) (set ps len (get_or xs i 0)) ≡ picked (take (i + 1) xs) s
  picks-in b = rw (add-one len) (take-suc-set ps len (get_or xs i 0) room ∙ rw (e, picked-take-in xs s i h b))

-- ---- a number first, then another test
module _ (a b : ℕ) (t : Bool) where
  pub below-first : a < b → (ltb a b || (eqb a b && t)) ≡ true
  below-first h = rw (lt-ltb a b h)

  not-below : b ≤ a → ltb a b ≡ false
  not-below h = false_of (ltb a b) (λ e. let f : ⊥ = omega (arith, ltb-true a b e) in f)

  pub above-first : b < a → (ltb a b || (eqb a b && t)) ≡ false
  above-first h =
      let q : eqb a b ≡ false = false_of (eqb a b) (λ e. let f : ⊥ = omega (arith, eqb-true a b e) in f) in
      rw (not-below (omega arith), q)

  pub equal-first : a ≡ b → (ltb a b || (eqb a b && t)) ≡ t
  equal-first e = rw (not-below (omega arith), eq-eqb a b e)

-- ---- two sets of ascending nets

-- .. as orders that are joined decide it
abbrev pub decided : Ordering → Bool → Bool
decided o t = is_lt o || (is_eq o && t)

decided-then : (o p : Ordering) (t : Bool) → decided (ordering_then o p) t ≡ decided o (decided p t)
decided-then Less p t = refl
decided-then Equal p t = refl
decided-then Greater p t = refl

decided-cond : (b c t : Bool) → decided (cond b Less (cond c Equal Greater)) t ≡ (b || (c && t))
decided-cond true c t = refl
decided-cond false true t = refl
decided-cond false false t = refl

pub ranked : (c d m n k l : ℕ) (t : Bool) → decided (ordering_then (ordering_then (nat_cmp c d) (nat_cmp m n)) (nat_cmp k l)) t
    ≡ (ltb c d || (eqb c d && (ltb m n || (eqb m n && (ltb k l || (eqb k l && t))))))
ranked c d m n k l t =
    decided-then (ordering_then (nat_cmp c d) (nat_cmp m n)) (nat_cmp k l) t
    ∙ decided-then (nat_cmp c d) (nat_cmp m n) (decided (nat_cmp k l) t)
    ∙ decided-cond (ltb c d) (eqb c d) (decided (nat_cmp m n) (decided (nat_cmp k l) t))
    ∙ ap (λ (u : Bool). ltb c d || (eqb c d && u))
    (decided-cond (ltb m n) (eqb m n) (decided (nat_cmp k l) t)
    ∙ ap (λ (u : Bool). ltb m n || (eqb m n && u)) (decided-cond (ltb k l) (eqb k l) t))

-- a candidate is in both sets, or in none
pub in-both : (i a b : ℕ) → eqb (bit i a) 1 ≡ eqb (bit i b) 1 → a / 2 ^ i % 2 ≡ b / 2 ^ i % 2
unfolding bit
in-both i a b e =
    ⊎_elim
    (λ (o : eqb (a / 2 ^ i % 2) 1 ≡ true). eqb-true (a / 2 ^ i % 2) 1 o ∙ sym (eqb-true (b / 2 ^ i % 2) 1 (sym e ∙ o)))
    (λ (o : eqb (a / 2 ^ i % 2) 1 ≡ false). omega (arith, eqb-false (a / 2 ^ i % 2) 1 o, eqb-false (b / 2 ^ i % 2) 1 (sym e ∙ o)))
    (true-or-false (eqb (a / 2 ^ i % 2) 1))

low_first-same : (n a b : ℕ) → a % 2 ≡ b % 2 → low_first (suc n) a b ≡ low_first n (a / 2) (b / 2)
unfolding low_first
low_first-same n a b e = rw (eq-eqb (a % 2) (b % 2) e)

low_first-other : (n a b : ℕ) → (a % 2 ≡ b % 2 → ⊥) → low_first (suc n) a b ≡ eqb (a % 2) 1
unfolding low_first
low_first-other n a b d = rw (false_of (eqb (a % 2) (b % 2)) (λ e. d (eqb-true (a % 2) (b % 2) e)))

low_first-equal : (n a : ℕ) → low_first n a a ≡ false
unfolding low_first
low_first-equal zero a = refl
low_first-equal (suc n) a = low_first-same n a a refl ∙ low_first-equal n (a / 2)

-- place by place
module _ (a b : ℕ) where
  abbrev pub low_from : ℕ → Bool
  low_from i = low_first (10 - i) (a / 2 ^ i) (b / 2 ^ i)

  pub low_from-all : low_from 0 ≡ low_first 10 a b
  low_from-all = rw (div-one a, div-one b)

  pub low_from-end : (i : ℕ) → 10 ≤ i → low_from i ≡ false
  unfolding low_first
  low_from-end i h = let e : 10 - i ≡ 0 = omega arith in rw e

  module _ (i : ℕ) (h : i < 10) where
    left_over : 10 - i ≡ suc (10 - (i + 1))
    left_over = omega arith

    half : (x : ℕ) → x / 2 ^ i / 2 ≡ x / 2 ^ (i + 1)
    half x = shr-shr x i 1

    pub low_from-same : a / 2 ^ i % 2 ≡ b / 2 ^ i % 2 → low_from i ≡ low_from (i + 1)
    low_from-same e = rw (left_over, low_first-same (10 - (i + 1)) (a / 2 ^ i) (b / 2 ^ i) e, half a, half b)

    pub low_from-other : (a / 2 ^ i % 2 ≡ b / 2 ^ i % 2 → ⊥) → low_from i ≡ eqb (a / 2 ^ i % 2) 1
    low_from-other d = rw left_over (low_first-other (10 - (i + 1)) (a / 2 ^ i) (b / 2 ^ i) d)

ascending-tail : (x : ℕ) (xs : List ℕ) → ascending (x ∷ xs) ≡ true → ascending xs ≡ true
unfolding ascending
ascending-tail x [] e = refl
ascending-tail x (y ∷ ys) e = and_right (ltb x y) (ascending (y ∷ ys)) e

ascending-below : (x : ℕ) (xs : List ℕ) → ascending (x ∷ xs) ≡ true → (i : ℕ) → Mem i xs → x < i
unfolding ascending
ascending-below x [] e i m = absurd (not-nil m)
ascending-below x (y ∷ ys) e i m =
    let l : x < y = ltb-true x y (and_left (ltb x y) (ascending (y ∷ ys)) e) in
    ⊎_elim
    (λ (q : i ≡ y). omega arith)
    (λ (n : Mem i ys). omega (arith, ascending-below y ys (and_right (ltb x y) (ascending (y ∷ ys)) e) i n))
    (cases_cons m)

-- x comes before the first of some nets that are all above it
module _ (x : ℕ) (xs : List ℕ) where
  earlier-below : (ys : List ℕ) → 0 < length ys → ((i : ℕ) → Mem i ys → x < i) → earlier (x ∷ xs) ys ≡ true
  unfolding earlier
  earlier-below [] h f = let z : ⊥ = omega arith in absurd z
  earlier-below (y ∷ ys) h f = below-first x y _ (f y (here refl))

  earlier-above : (ys : List ℕ) → 0 < length ys → ((i : ℕ) → Mem i ys → x < i) → earlier ys (x ∷ xs) ≡ false
  unfolding earlier
  earlier-above [] h f = let z : ⊥ = omega arith in absurd z
  earlier-above (y ∷ ys) h f = above-first y x _ (f y (here refl))

pub low-earlier : (n : ℕ) (is : List ℕ) (a b : ℕ) → length is ≤ n → ascending is ≡ true → a < 2 ^ length is → b < 2 ^ length is
    → length (picked is a) ≡ length (picked is b) → low_first n a b ≡ earlier (picked is a) (picked is b)
unfolding picked earlier
low-earlier n [] a b h s p q e =
    let z : a ≡ b = omega arith in
    rw z (low_first-equal n b)
low-earlier zero (i ∷ is) a b h s p q e = let z : ⊥ = omega arith in absurd z
low-earlier (suc n) (i ∷ is) a b h s p q e =
    let x = picked is (a / 2) in
    let y = picked is (b / 2) in
    let w = pow-suc 2 (length is) in
    let r : length x ≡ length y → low_first n (a / 2) (b / 2) ≡ earlier x y =
    low-earlier n is (a / 2) (b / 2) (omega arith) (ascending-tail i is s) (omega arith) (omega arith) in
    let above : (c k : ℕ) → Mem k (picked is c) → i < k =
    λ c k m. ascending-below i is s k (subsets-among is (picked is c) (picked-subset is c) k m) in
    ⊎_elim
    (λ o.
    ⊎_elim
    (λ u.
    let l : length x ≡ length y = omega (arith, rw (picked-in i is a o, picked-in i is b u) at e) in
    low_first-same n a b (omega arith) ∙ r l ∙ rw (picked-in i is a o, picked-in i is b u) (sym (equal-first i i (earlier x y) refl)))
    (λ u.
    let l : suc (length x) ≡ length y = rw (picked-in i is a o, picked-out i is b u) at e in
    low_first-other n a b (λ z. let f : ⊥ = omega arith in f) ∙ eq-eqb (a % 2) 1 o
    ∙ rw (picked-in i is a o, picked-out i is b u) (sym (earlier-below i x y (omega arith) (above (b / 2)))))
    (in-or-out b))
    (λ o.
    ⊎_elim
    (λ u.
    let l : length x ≡ suc (length y) = rw (picked-out i is a o, picked-in i is b u) at e in
    low_first-other n a b (λ z. let f : ⊥ = omega arith in f)
    ∙ false_of (eqb (a % 2) 1) (λ z. let f : ⊥ = omega (arith, eqb-true (a % 2) 1 z) in f)
    ∙ rw (picked-out i is a o, picked-in i is b u) (sym (earlier-above i y x (omega arith) (above (a / 2)))))
    (λ u.
    let l : length x ≡ length y = rw (picked-out i is a o, picked-out i is b u) at e in
    low_first-same n a b (omega arith) ∙ r l ∙ rw (picked-out i is a o, picked-out i is b u))
    (in-or-out b))
    (in-or-out a)

-- ---- costs

-- a candidate below all of the nets has no say in their cost
cost-skip : (c : Candidate) (cs : List Candidate) (is : List ℕ) → ((i : ℕ) → Mem i is → c.net < i)
    → cost_of (c ∷ cs) is ≡ cost_of cs is
unfolding cost_of weight_of
cost-skip c cs [] h = refl
cost-skip c cs (i ∷ is) h =
    let l : c.net < i = h i (here refl) in
    let d : eqb c.net i ≡ false = false_of (eqb c.net i) (λ e. let f : ⊥ = omega (arith, eqb-true c.net i e) in f) in
    let r : cost_of (c ∷ cs) is ≡ cost_of cs is = cost-skip c cs is (λ k m. h k (there m)) in
    rw (d, r)

abbrev nets : List Candidate → List ℕ
nets cs = map (λ (c : Candidate). c.net) cs

abbrev weights : List Candidate → List ℕ
weights cs = map (λ (c : Candidate). c.weight) cs

-- the cost of picked nets is the sum of the weights at their places
pub cost-picked : (cs : List Candidate) (s : ℕ) → ascending (nets cs) ≡ true
    → cost_of cs (picked (nets cs) s) ≡ sum (picked (weights cs) s)
unfolding picked cost_of weight_of
cost-picked [] s e = refl
cost-picked (c ∷ cs) s e =
    let is = picked (nets cs) (s / 2) in
    let r : cost_of cs is ≡ sum (picked (weights cs) (s / 2)) =
    cost-picked cs (s / 2) (ascending-tail c.net (nets cs) e) in
    let k : cost_of (c ∷ cs) is ≡ cost_of cs is =
    cost-skip c cs is
    (λ i m. ascending-below c.net (nets cs) e i (subsets-among (nets cs) is (picked-subset (nets cs) (s / 2)) i m)) in
    let q : eqb c.net c.net ≡ true = eq-eqb c.net c.net refl in
    ⊎_elim
    (λ i.
    rw (picked-in c.net (nets cs) s i, picked-in c.weight (weights cs) s i, q, k, r)
    (sym (sum_by-cons (λ (w : ℕ). w) c.weight (picked (weights cs) (s / 2)))))
    (λ i. rw (picked-out c.net (nets cs) s i, picked-out c.weight (weights cs) s i) (k ∙ r))
    (in-or-out s)

-- the candidates that stand in places
module _ (k : ℕ) (is ws : List ℕ) where
  pub nets-from : k ≤ length is → nets (candidates_from k is ws) ≡ take k is
  unfolding candidates_from tabulate
  nets-from h = map-map (λ (c : Candidate). c.net) _ (up_from 0 k) ∙ tabulate-get_or is k h

  pub weights-from : k ≤ length ws → weights (candidates_from k is ws) ≡ take k ws
  unfolding candidates_from tabulate
  weights-from h = map-map (λ (c : Candidate). c.weight) _ (up_from 0 k) ∙ tabulate-get_or ws k h
