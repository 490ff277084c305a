-- Laws of specs/Gate and of a good gate: operand counts by kind, the tests of a gate, and values, which the plain kinds (the even ones)
-- carry. Assumes nothing.
use Prim.Native.Nat.{ℕ, zero, suc, ◌+◌, ◌*◌, ◌-◌, ◌%◌, min, ◌≤◌, ◌<◌}
use mathlib.Core.Path.{◌≡◌, refl, sym, ◌∙◌, ap}
use mathlib.Core.Logic.{◌⊎◌, inl, inr, ⊎_elim}
use mathlib.Core.List.{List, [], ◌∷◌, ◌++◌, map}
use mathlib.Core.Bool.{Bool, true, false, cond, ◌&&◌, and_assoc}
use native.Mathlib.Nat.{le_antisymm}
use native.Mathlib.Numerals.{add-one}
use native.Mathlib.Omega.{arith}
use borrow.Author.Tests.{lt-ltb, le-ltb, le-leb, ltb-true, ltb-false, leb-true, eqb-true, eqb-false}
use lib.ListN.{length, get_or, take, drop, replicate, length-replicate, get_or-replicate, length-take, length-map, get_or-append, get_or-eq_default, get_or-map, drop_of_length-le}
use lib.Seq.{get_or-drop, get_or-take, take-nil, drop-nil, drop-cons}
use lib.Dec.{leb, ltb, eqb, lit≤, eqb-zero-suc, eqb-suc-zero}
use Rattle.records.specs.Bytes.{up_from, tabulate, all}
use Rattle.records.specs.Gate.{Gate, gate_of, least_count, most_count, permits, operands, unused, conj, disj, parity, inverted, gate_value}
use Rattle.records.specs.Netlist.{net_at, value_of}
use Rattle.records.specs.Refusal.{gate_good}
use Rattle.records.specs.Claims.{permitted_counts, assignments, TruthTable, OperandsFold, OddInverts}
use Rattle.records.proofs.Laws.Bytes.{and_left, and_right, false_of, all_cons}

true-or-false : (b : Bool) → (b ≡ true) ⊎ (b ≡ false)
true-or-false true = inl refl
true-or-false false = inr refl

-- ---- tables

-- what stands in a run of n equal entries from position at on
get_or-run : (t : List ℕ) (at n v : ℕ) (end : List ℕ) → drop at t ≡ replicate n v ++ end
    → (k : ℕ) → at ≤ k → k < at + n → get_or t k 0 ≡ v
get_or-run t at n v end e k l h =
    let m : k ≡ at + (k - at) = omega arith in
    ap (λ (j : ℕ). get_or t j 0) m
    ∙ sym (get_or-drop at t (k - at) 0)
    ∙ ap (λ (r : List ℕ). get_or r (k - at) 0) e
    ∙ get_or-append (replicate n v) end 0 (k - at) (omega (arith, length-replicate n v))
    ∙ get_or-replicate n (k - at) v 0 (omega arith)

-- what holds of each entry, and of what stands for one past the end
pub get_or-all : (p : ℕ → Bool) (t : List ℕ) → all p t ≡ true → p 0 ≡ true → (k : ℕ) → p (get_or t k 0) ≡ true
unfolding all
get_or-all p [] e z k = z
get_or-all p (x ∷ t) e z zero = (all_cons p x t e).0
get_or-all p (x ∷ t) e z (suc k) = get_or-all p t (all_cons p x t e).1 z k

-- what holds of the first n entries holds of each of them
get_or-all-take : (p : ℕ → Bool) (n : ℕ) (t : List ℕ) → all p (take n t) ≡ true
    → (k : ℕ) → k < n → k < length t → p (get_or t k 0) ≡ true
get_or-all-take p (suc n) (x ∷ t) e zero h l = (all_cons p x (take n t) e).0
get_or-all-take p (suc n) (x ∷ t) e (suc k) h l =
    get_or-all-take p n t (all_cons p x (take n t) e).1 k (omega arith) (omega arith)
get_or-all-take p zero t e k h l = let f : ⊥ = omega arith in absurd f
get_or-all-take p (suc n) [] e k h l = let f : ⊥ = omega arith in absurd f

-- a turn of a loop that counts up, and of one that counts down
drop-next : (t : List ℕ) (i : ℕ) → i < length t → drop i t ≡ get_or t i 0 ∷ drop (i + 1) t
drop-next t i h = rw (add-one, drop-cons t i 0)

pub drop-back : (t : List ℕ) (i : ℕ) → 0 < i → i ≤ length t → drop (i - 1) t ≡ get_or t (i - 1) 0 ∷ drop i t
drop-back t i z h =
    let e : i - 1 + 1 ≡ i = omega arith in
    drop-next t (i - 1) (omega arith) ∙ ap (λ (k : ℕ). get_or t (i - 1) 0 ∷ drop k t) e

-- ---- operand counts

leasts : List ℕ
leasts = 0 ∷ 0 ∷ 1 ∷ 1 ∷ 2 ∷ 2 ∷ 2 ∷ 2 ∷ 2 ∷ 2 ∷ []

mosts : List ℕ
mosts = 0 ∷ 0 ∷ 1 ∷ 1 ∷ 4 ∷ 4 ∷ 4 ∷ 4 ∷ 4 ∷ 4 ∷ []

-- the constants have no operand, buf and not have one, the others two to four
pub count_none : (k : ℕ) → k < 2 → (least_count k ≡ 0) × (most_count k ≡ 0)
unfolding least_count most_count leasts mosts
count_none k h = (
  get_or-run leasts 0 2 0 (drop 2 leasts) refl k (omega arith) h,
  get_or-run mosts 0 2 0 (drop 2 mosts) refl k (omega arith) h,
)

pub count-one : (k : ℕ) → 2 ≤ k → k < 4 → (least_count k ≡ 1) × (most_count k ≡ 1)
unfolding least_count most_count leasts mosts
count-one k l h = (get_or-run leasts 2 2 1 (drop 4 leasts) refl k l h, get_or-run mosts 2 2 1 (drop 4 mosts) refl k l h)

pub count-many : (k : ℕ) → 4 ≤ k → k < 10 → (least_count k ≡ 2) × (most_count k ≡ 4)
unfolding least_count most_count leasts mosts
count-many k l h = (get_or-run leasts 4 6 2 [] refl k l h, get_or-run mosts 4 6 4 [] refl k l h)

pub most_count-le : (k : ℕ) → most_count k ≤ 4
unfolding most_count mosts all
most_count-le k = leb-true (most_count k) 4 (get_or-all (λ v. leb v 4) mosts refl refl k)

-- from a to a is a
leb-both : (a n : ℕ) → (leb a n && leb n a) ≡ eqb n a
leb-both a n = ⊎_elim same other (true-or-false (eqb n a))
  where
    same : eqb n a ≡ true → (leb a n && leb n a) ≡ eqb n a
    same e =
        let h = eqb-true n a e in
        let p : leb a n ≡ true = le-leb a n (omega arith) in
        let q : leb n a ≡ true = le-leb n a (omega arith) in
        rw (e, p, q)

    other : eqb n a ≡ false → (leb a n && leb n a) ≡ eqb n a
    other e =
        let h = eqb-false n a e in
        rw e
        (false_of (leb a n && leb n a)
        (λ t. h (le_antisymm (leb-true n a (and_right (leb a n) (leb n a) t)) (leb-true a n (and_left (leb a n) (leb n a) t)))))

module _ (k n : ℕ) where
  -- a kind that exists, and its least and most operands
  pub permits-parts : permits k n ≡ true → (k < 10) × (least_count k ≤ n) × (n ≤ most_count k)
  unfolding permits
  permits-parts e =
      let a : Bool = ltb k 10 in
      let b : Bool = leb (least_count k) n in
      let c : Bool = leb n (most_count k) in
      let ab = and_left (a && b) c e in (
        ltb-true k 10 (and_left a b ab),
        leb-true (least_count k) n (and_right a b ab),
        leb-true n (most_count k) (and_right (a && b) c e),
      )

  pub permits-kind : permits k n ≡ true → k < 10
  permits-kind e = (permits-parts e).0

  pub permits-count : permits k n ≡ true → n ≤ 4
  permits-count e = let h = most_count-le k in omega (arith, (permits-parts e).2)

  -- the same as a test, where the kind's least and most operands are known
  pub permits-many : (a b : ℕ) → k < 10 → (least_count k ≡ a) × (most_count k ≡ b) → permits k n ≡ (leb a n && leb n b)
  unfolding permits
  permits-many a b h e = let t : ltb k 10 ≡ true = lt-ltb k 10 h in rw (t, e.0, e.1)

  pub permits-one : (a : ℕ) → k < 10 → (least_count k ≡ a) × (most_count k ≡ a) → permits k n ≡ eqb n a
  permits-one a h e = permits-many a a h e ∙ leb-both a n

  pub permits-high : 10 ≤ k → permits k n ≡ false
  unfolding permits
  permits-high h = let t : ltb k 10 ≡ false = le-ltb k 10 h in rw t

-- ---- the test of a gate

pub zero-eqb : (n : ℕ) → eqb 0 n ≡ eqb n 0
zero-eqb zero = refl
zero-eqb (suc n) = eqb-zero-suc n ∙ sym (eqb-suc-zero n)

-- the slots xs of a gate that drives net and uses the first n of them
abbrev pub slots_good : ℕ → ℕ → List ℕ → Bool
slots_good net n xs = all (λ i. ltb i net) (take n xs) && all (eqb 0) (drop n xs)

module _ (net : ℕ) (g : Gate) where
  pub gate_good-slots : gate_good net g ≡ (permits g.kind g.count && slots_good net g.count g.slots)
  unfolding gate_good operands unused
  gate_good-slots =
      and_assoc
      (permits g.kind g.count)
      (all (λ i. ltb i net) (take g.count g.slots))
      (all (eqb 0) (drop g.count g.slots))

  pub gate_good-refused : permits g.kind g.count ≡ false → gate_good net g ≡ false
  unfolding gate_good
  gate_good-refused e = rw e

  pub gate_good-permitted : permits g.kind g.count ≡ true → gate_good net g ≡ slots_good net g.count g.slots
  gate_good-permitted e = gate_good-slots ∙ rw e

  module _ (e : gate_good net g ≡ true) where
    pub gate_good-permits : permits g.kind g.count ≡ true
    gate_good-permits =
        let p : Bool = permits g.kind g.count in
        and_left p (slots_good net g.count g.slots) (sym gate_good-slots ∙ e)

    -- used operands below net, unused slots 0
    pub gate_good-parts : (all (λ i. ltb i net) (operands g) ≡ true) × (all (eqb 0) (unused g) ≡ true)
    unfolding operands unused
    gate_good-parts =
        let u : Bool = all (λ i. ltb i net) (operands g) in
        let z : Bool = all (eqb 0) (unused g) in
        let t : (u && z) ≡ true = sym (gate_good-permitted gate_good-permits) ∙ e in
        (and_left u z t, and_right u z t)

    pub gate_good-kind : g.kind < 10
    gate_good-kind = permits-kind g.kind g.count gate_good-permits

    pub gate_good-count : g.count ≤ 4
    gate_good-count = permits-count g.kind g.count gate_good-permits

    pub operand-lt : (i : ℕ) → i < g.count → i < length g.slots → get_or g.slots i 0 < net
    unfolding operands
    operand-lt i h l =
        ltb-true (get_or g.slots i 0) net
        (get_or-all-take (λ j. ltb j net) g.count g.slots gate_good-parts.0 i h l)

slots_good-cons : (net n i x : ℕ) (xs : List ℕ)
    → slots_good net (n - i) (x ∷ xs) ≡ (cond (ltb i n) (ltb x net) (eqb 0 x) && slots_good net (n - (i + 1)) xs)
unfolding all
slots_good-cons net n i x xs = ⊎_elim used left (true-or-false (ltb i n))
  where
    used : ltb i n ≡ true
        → slots_good net (n - i) (x ∷ xs) ≡ (cond (ltb i n) (ltb x net) (eqb 0 x) && slots_good net (n - (i + 1)) xs)
    used t =
        let h = ltb-true i n t in
        let m : n - i ≡ suc (n - (i + 1)) = omega arith in
        rw (t, m)
        (and_assoc (ltb x net) (all (λ j. ltb j net) (take (n - (i + 1)) xs)) (all (eqb 0) (drop (n - (i + 1)) xs)))

    left : ltb i n ≡ false
        → slots_good net (n - i) (x ∷ xs) ≡ (cond (ltb i n) (ltb x net) (eqb 0 x) && slots_good net (n - (i + 1)) xs)
    left t =
        let h = ltb-false i n t in
        let m : n - i ≡ 0 = omega arith in
        let o : n - (i + 1) ≡ 0 = omega arith in
        rw (t, m, o)

-- a turn of the loop over the slots: slot i, and those after it
pub slots_good-drop : (net n i : ℕ) (xs : List ℕ) → i < length xs
    → slots_good net (n - i) (drop i xs)
    ≡ (cond (ltb i n) (ltb (get_or xs i 0) net) (eqb 0 (get_or xs i 0)) && slots_good net (n - (i + 1)) (drop (i + 1) xs))
slots_good-drop net n i xs h =
    ap (slots_good net (n - i)) (drop-next xs i h) ∙ slots_good-cons net n i (get_or xs i 0) (drop (i + 1) xs)

pub slots_good-end : (net n i : ℕ) (xs : List ℕ) → length xs ≤ i → slots_good net n (drop i xs) ≡ true
unfolding all
slots_good-end net n i xs h = rw (drop_of_length-le xs {i = i} h, take-nil {A = ℕ} n, drop-nil {A = ℕ} n)

-- each element is at most net where the first n are below it and the others 0
used-or-zero : (net n : ℕ) (xs : List ℕ) → all (λ i. ltb i net) (take n xs) ≡ true → all (eqb 0) (drop n xs) ≡ true
    → (j : ℕ) → get_or xs j 0 ≤ net
used-or-zero net n [] u z j = omega arith
used-or-zero net zero (x ∷ xs) u z zero = omega (arith, eqb-true 0 x (all_cons (eqb 0) x xs z).0)
used-or-zero net zero (x ∷ xs) u z (suc j) = used-or-zero net zero xs u (all_cons (eqb 0) x xs z).1 j
used-or-zero net (suc n) (x ∷ xs) u z zero =
    omega (arith, ltb-true x net (all_cons (λ i. ltb i net) x (take n xs) u).0)
used-or-zero net (suc n) (x ∷ xs) u z (suc j) =
    used-or-zero net n xs (all_cons (λ i. ltb i net) x (take n xs) u).1 z j

-- what stands in the slots of a good gate is at most its net
pub slots-le : (net : ℕ) (g : Gate) → gate_good net g ≡ true → (j : ℕ) → get_or g.slots j 0 ≤ net
unfolding operands unused
slots-le net g e = let t = gate_good-parts net g e in used-or-zero net g.count g.slots t.0 t.1

-- ---- values

-- what holds of 0 and 1 holds of bits
pub on_bit : (P : ℕ → Type 0) → P 0 → P 1 → (x : ℕ) → x < 2 → P x
on_bit P p q zero h = p
on_bit P p q (suc zero) h = q
on_bit P p q (suc (suc x)) h = let f : ⊥ = omega arith in absurd f

pub on-bits : (P : ℕ → ℕ → Type 0) → P 0 0 → P 0 1 → P 1 0 → P 1 1 → (x y : ℕ) → x < 2 → y < 2 → P x y
on-bits P p q r s x y h l = on_bit (λ x. P x y) (on_bit (P 0) p q y l) (on_bit (P 1) r s y l) x h

-- v is the value of kind k on x and y
abbrev pub Gives : ℕ → ℕ → ℕ → ℕ → Type 0
Gives k x y v = (v ≡ gate_value k (x ∷ y ∷ [])) × (v < 2)

pub and-bits : (x y : ℕ) → x < 2 → y < 2 → Gives 4 x y (x * y)
unfolding gate_value conj
and-bits = on-bits (λ x y. Gives 4 x y (x * y)) (refl, lit≤ tt) (refl, lit≤ tt) (refl, lit≤ tt) (refl, lit≤ tt)

pub or-bits : (x y : ℕ) → x < 2 → y < 2 → Gives 6 x y ((x + y + x * y) % 2)
unfolding gate_value disj
or-bits = on-bits (λ x y. Gives 6 x y ((x + y + x * y) % 2)) (refl, lit≤ tt) (refl, lit≤ tt) (refl, lit≤ tt) (refl, lit≤ tt)

pub xor-bits : (x y : ℕ) → x < 2 → y < 2 → Gives 8 x y ((x + y) % 2)
unfolding gate_value parity
xor-bits = on-bits (λ x y. Gives 8 x y ((x + y) % 2)) (refl, lit≤ tt) (refl, lit≤ tt) (refl, lit≤ tt) (refl, lit≤ tt)

-- what holds of 0 and two above any even number holds of even numbers
by_two : (P : ℕ → Type 0) → P 0 → ((k : ℕ) → k % 2 ≡ 0 → P (suc (suc k))) → (k : ℕ) → k % 2 ≡ 0 → P k
by_two P z s zero e = z
by_two P z s (suc zero) e = let f : ⊥ = omega arith in absurd f
by_two P z s (suc (suc k)) e = s k (omega arith)

-- what holds of each plain kind and of what is no kind holds of even numbers
pub on-plain : (P : ℕ → Type 0) → P 0 → P 2 → P 4 → P 6 → P 8 → ((k : ℕ) → 10 ≤ k → P k) → (k : ℕ) → k % 2 ≡ 0 → P k
on-plain P a b c d e h =
    let second : ℕ → Type 0 = λ k. P (suc (suc k)) in
    let fourth : ℕ → Type 0 = λ k. second (suc (suc k)) in
    let sixth : ℕ → Type 0 = λ k. fourth (suc (suc k)) in
    let eighth : ℕ → Type 0 = λ k. sixth (suc (suc k)) in
    by_two P a (by_two second b (by_two fourth c (by_two sixth d (by_two eighth e (λ k p. h _ (omega arith))))))

pub gate_value-high : (k : ℕ) (vs : List ℕ) → 10 ≤ k → gate_value k vs ≡ 0
unfolding tabulate up_from gate_value
gate_value-high k vs h = get_or-eq_default (tabulate 10 (λ j. gate_value j vs)) 0 h

-- k is none of the numbers, the last first, as the last arm of a match has it
abbrev pub NoneOf : List ℕ → ℕ → Type 0
NoneOf [] k = Unit {0}
NoneOf (n ∷ ns) k = NoneOf ns k × (k ≡ n → ⊥)

pub gate_value-other : (vs : List ℕ) (k : ℕ) → k % 2 ≡ 0 → NoneOf (8 ∷ 6 ∷ 4 ∷ 2 ∷ []) k → gate_value k vs ≡ 0
unfolding gate_value
gate_value-other vs =
    on-plain (λ k. NoneOf (8 ∷ 6 ∷ 4 ∷ 2 ∷ []) k → gate_value k vs ≡ 0) (λ n. refl) (λ n. absurd (n.0.0.0.1 refl))
    (λ n. absurd (n.0.0.1 refl)) (λ n. absurd (n.0.1 refl)) (λ n. absurd (n.1 refl)) (λ k h n. gate_value-high k vs h)

-- and of no operands is 1, each other plain kind of none 0
pub gate_value-nil : (k : ℕ) → k % 2 ≡ 0 → (k ≡ 4 → ⊥) → gate_value k [] ≡ 0
unfolding gate_value disj parity
gate_value-nil =
    on-plain (λ k. (k ≡ 4 → ⊥) → gate_value k [] ≡ 0) (λ n. refl) (λ n. refl) (λ n. absurd (n refl)) (λ n. refl) (λ n. refl)
    (λ k h n. gate_value-high k [] h)

conj-le : (vs : List ℕ) → conj vs ≤ 1
unfolding conj
conj-le [] = omega arith
conj-le (v ∷ vs) = let h = conj-le vs in omega arith

parity-lt : (vs : List ℕ) → parity vs < 2
unfolding parity
parity-lt [] = omega arith
parity-lt (v ∷ vs) = omega arith

pub operands-fold : OperandsFold
unfolding gate_value conj disj parity
operands-fold k v vs =
    let b = conj-le vs in
    let c = parity-lt vs in
    on-plain (λ k. gate_value k (v ∷ vs) ≡ gate_value k (v ∷ gate_value k vs ∷ [])) refl refl (omega arith) (omega arith) (omega arith)
    (λ k h. gate_value-high k (v ∷ vs) h ∙ sym (gate_value-high k (v ∷ gate_value k vs ∷ []) h))
    k

pub odd-inverts : OddInverts
unfolding gate_value inverted
odd-inverts k vs =
    on-plain (λ k. k < 10 → gate_value (suc k) vs ≡ inverted (gate_value k vs)) (λ h. refl) (λ h. refl) (λ h. refl) (λ h. refl)
    (λ h. refl) (λ k l h. let f : ⊥ = omega arith in absurd f)
    k

-- ---- the value of a gate, from its last operand to its first

-- the lowest bits of the first count operands
abbrev pub lowest : ℕ → List ℕ → List ℕ
lowest count xs = take count (map (λ v. v % 2) xs)

pub length-lowest : (count : ℕ) (xs : List ℕ) → length (lowest count xs) ≡ min count (length xs)
length-lowest count xs = simp (length-take, length-map)

get_or-lowest : (count : ℕ) (xs : List ℕ) (i : ℕ) → i < count → get_or (lowest count xs) i 0 ≡ get_or xs i 0 % 2
get_or-lowest count xs i h =
    get_or-take count (map (λ v. v % 2) xs) i 0 h ∙ get_or-map {A = ℕ} {B = ℕ} (λ v. v % 2) xs i 0

module _ (k : ℕ) (e : k % 2 ≡ 0) (count : ℕ) (xs : List ℕ) where
  -- before the first turn
  pub fold-none : (i r : ℕ) → i ≡ length (lowest count xs) → r ≡ gate_value k [] → r ≡ gate_value k (drop i (lowest count xs))
  fold-none i r h q = q ∙ ap (gate_value k) (sym (drop_of_length-le (lowest count xs) {i = i} (omega arith)))

  -- a turn
  pub fold-back : (i r : ℕ) → 0 < i → i ≤ length (lowest count xs) → r ≡ gate_value k (drop i (lowest count xs))
      → gate_value k (get_or xs (i - 1) 0 % 2 ∷ r ∷ []) ≡ gate_value k (drop (i - 1) (lowest count xs))
  fold-back i r z h q =
      let l : i - 1 < count = omega (arith, length-lowest count xs) in
      let a : get_or xs (i - 1) 0 % 2 ≡ get_or (lowest count xs) (i - 1) 0 = sym (get_or-lowest count xs (i - 1) l) in
      rw (a, q)
      (sym
      (ap (gate_value k) (drop-back (lowest count xs) i z h)
      ∙ operands-fold k (get_or (lowest count xs) (i - 1) 0) (drop i (lowest count xs)) e))

pub truth-table : TruthTable
unfolding tabulate up_from permitted_counts assignments value_of net_at operands gate_of least_count most_count gate_value conj disj parity inverted
truth-table = refl
