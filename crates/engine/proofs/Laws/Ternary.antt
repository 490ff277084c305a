-- Laws of specs/Ternary: the values that a gate may turn out to have are those that complete its value on what is known, whatever the
-- kind and however many the operands; and that value from the tables, operand by operand. Assumes nothing.
use Prim.Native.Nat.{ℕ, zero, suc, ◌-◌, ◌%◌, ◌<◌, ◌≤◌, min}
use mathlib.Core.Path.{◌≡◌, refl, sym, ◌∙◌, ap}
use mathlib.Core.Logic.{◌⊎◌, ◌≢◌, ◌↔◌, inl, inr, ⊎_elim}
use mathlib.Core.Bool.{true, false}
use mathlib.Core.List.Memᴰ.{append_cases}
use mathlib.Core.List.Memᴰ.{append_left}
use mathlib.Core.List.Memᴰ.{append_right}
use mathlib.Core.List.Memᴰ.{cases_cons}
use mathlib.Core.List.Memᴰ.{eq_of_singleton}
use mathlib.Core.List.Memᴰ.{head as here}
use mathlib.Core.List.Memᴰ.{map as mem-map}
use mathlib.Core.List.Memᴰ.{not-nil}
use mathlib.Core.List.Memᴰ.{of_map as map-mem}
use mathlib.Core.List.Memᴰ.{tail as there}
use mathlib.Core.List.{List, [], ◌∷◌, ◌++◌, map, Memᴰ as Mem}
use native.Mathlib.Omega.{arith}
use native.Mathlib.Nat.{eq-or-lt_of_le}
use borrow.Author.Tests.{eqb-true, eqb-false, ne_eqb, lt-ltb, ltb-true, le-leb, leb-true}
use lib.Dec.{eqb, leb, ltb, lit≤}
use lib.ListN.{length, get_or, take, drop, replicate, length-take, length-map, drop_of_length-le, get_or-map}
use lib.Seq.{get_or-take}
use Rattle.records.specs.Bytes.{up_from, tabulate, all}
use Rattle.records.specs.Gate.{conj, disj, parity, inverted, gate_value}
use Rattle.records.proofs.Laws.Bytes.{all_cons, get_d_tabulate}
use Rattle.records.proofs.Laws.Gate.{get_or-all, drop-back, on_bit, gate_value-high, operands-fold, odd-inverts}
use Rattle.engine.specs.Ternary.{unknown, completions_of, agreed, ternary_value, ternary_table, Completes, CompletesAll, Possible, PossibleOf, entry}
use Rattle.engine.specs.Claims.{TernaryListKnown, TernaryListUnknown, TernaryInverts}
use Rattle.engine.proofs.Laws.Choice.{true-or-false, all_true, all-false}
use Rattle.engine.proofs.Laws.EvalWords.{map-take}

-- ---- tables

-- a number that is no kind has the value 0 throughout
pub ternary_table-high : (k : ℕ) → 10 ≤ k → ternary_table k ≡ replicate 3 (replicate 3 0)
unfolding ternary_table ternary_value completions_of agreed all
ternary_table-high k h = simp gate_value-high

-- the entry of a kind's table at two operands is the kind's value on them
pub entry-table : (k x y : ℕ) → x ≤ 2 → y ≤ 2 → entry (ternary_table k) x y ≡ ternary_value k (x ∷ y ∷ [])
unfolding entry ternary_table tabulate up_from
entry-table k x y h l =
    let i : min x 2 ≡ x = omega arith in
    let j : min y 2 ≡ y = omega arith in
    rw (i, j)
    (ap
    (λ (r : List ℕ). get_or r y 0)
    (get_d_tabulate 3 (λ u. tabulate 3 (λ w. ternary_value k (u ∷ w ∷ []))) x [] (omega arith))
    ∙ get_d_tabulate 3 (λ w. ternary_value k (x ∷ w ∷ [])) y 0 (omega arith))

-- ---- what completes a number, and a list

pub completes-unknown : (a : ℕ) → a < 2 → Completes a unknown
completes-unknown a h = record { bit = h; kept = λ l. let f : ⊥ = omega arith in absurd f }

completes-self : (t : ℕ) → t < 2 → Completes t t
completes-self t h = record { bit = h; kept = λ l. refl }

-- a known value that all completions of t complete is t
known-of-completes : (s t : ℕ) → s < 2 → t ≤ 2 → ((v : ℕ) → Completes v t → Completes v s) → s ≡ t
known-of-completes s t h l f =
    ⊎_elim
    (λ (e : t ≡ 2).
    let c = rw e at f in
    let z : 1 - s ≡ s = (c (1 - s) (completes-unknown (1 - s) (omega arith))).kept h in
    let g : ⊥ = omega arith in
    absurd g)
    (λ (b : t < 2). sym ((f t (completes-self t b)).kept h))
    (eq-or-lt_of_le l)

-- what has the same completions is the same
completes-ext : (s t : ℕ) → s ≤ 2 → t ≤ 2 → ((v : ℕ) → Completes v s ↔ Completes v t) → s ≡ t
completes-ext s t h l f =
    ⊎_elim
    (λ (e : s ≡ 2).
    ⊎_elim
    (λ (q : t ≡ 2). e ∙ sym q)
    (λ (b : t < 2). sym (known-of-completes t s b h (λ v. (f v).0)))
    (eq-or-lt_of_le l))
    (λ (b : s < 2). known-of-completes s t b l (λ v. (f v).1))
    (eq-or-lt_of_le h)

pub completes-nil : CompletesAll [] []
completes-nil = record { long = refl; each = λ i h. let f : ⊥ = omega arith in absurd f }

pub completes-cons : (a x : ℕ) (vs xs : List ℕ) → Completes a x → CompletesAll vs xs → CompletesAll (a ∷ vs) (x ∷ xs)
completes-cons a x vs xs c d = record { long = ap suc d.long; each = each }
  where
    each : (i : ℕ) → i < length (x ∷ xs) → Completes (get_or (a ∷ vs) i 0) (get_or (x ∷ xs) i 0)
    each zero h = c
    each (suc i) h = d.each i (omega arith)

module _ (a x : ℕ) (vs xs : List ℕ) (c : CompletesAll (a ∷ vs) (x ∷ xs)) where
  completes-first : Completes a x
  completes-first = c.each 0 (omega arith)

  completes-rest : CompletesAll vs xs
  completes-rest = let e = c.long in record { long = omega arith; each = λ i h. c.each (suc i) (omega arith) }

some-completes : (xs : List ℕ) → CompletesAll (map (λ x. x % 2) xs) xs
some-completes xs = record {
  long = length-map xs (λ x. x % 2);
  each =
      λ i h. rw (get_or-map {A = ℕ} {B = ℕ} (λ x. x % 2) xs i 0) (record { bit = omega arith; kept = λ l. omega arith });
}

-- ---- the members of completions_of are the lists that complete it

-- each element is 0, 1 or 2
abbrev pub Ternaries : List ℕ → Type 0
Ternaries xs = all (λ x. leb x unknown) xs ≡ true

module _ (x : ℕ) (xs : List ℕ) (h : Ternaries (x ∷ xs)) where
  pub ternary-first : x ≤ 2
  ternary-first = leb-true x 2 (all_cons (λ y. leb y unknown) x xs h).0

  pub ternary-rest : Ternaries xs
  ternary-rest = (all_cons (λ y. leb y unknown) x xs h).1

pub ternaries-map : (f : ℕ → ℕ) → ((x : ℕ) → f x ≤ 2) → (xs : List ℕ) → Ternaries (map f xs)
unfolding all
ternaries-map f h [] = refl
ternaries-map f h (x ∷ xs) = rw (le-leb (f x) 2 (h x), ternaries-map f h xs)

-- the lists vss, each behind a
behind : ℕ → List (List ℕ) → List (List ℕ)
behind a vss = map (λ (vs : List ℕ). a ∷ vs) vss

completions_of-unknown : (xs : List ℕ)
    → completions_of (unknown ∷ xs) ≡ behind 0 (completions_of xs) ++ behind 1 (completions_of xs)
unfolding completions_of behind
completions_of-unknown xs = refl

completions_of-known : (x : ℕ) (xs : List ℕ) → x < 2 → completions_of (x ∷ xs) ≡ behind x (completions_of xs)
unfolding completions_of behind
completions_of-known x xs h = let e : eqb x 2 ≡ false = ne_eqb x 2 (omega arith) in rw e

module _ (x : ℕ) (xs : List ℕ) (f : (us : List ℕ) → Mem us (completions_of xs) → CompletesAll us xs) where
  behind-completes : (a : ℕ) (vs : List ℕ) → Completes a x → Mem vs (behind a (completions_of xs)) → CompletesAll vs (x ∷ xs)
  unfolding behind
  behind-completes a vs c m =
      let r = map-mem (λ (us : List ℕ). a ∷ us) (completions_of xs) m in
      rw (← r.2) (completes-cons a x r.0 xs c (f r.0 r.1))

completes-of-mem : (xs vs : List ℕ) → Ternaries xs → Mem vs (completions_of xs) → CompletesAll vs xs
unfolding completions_of
completes-of-mem [] vs h m =
    let e = eq_of_singleton m in
    record { long = ap length e; each = λ i l. let f : ⊥ = omega arith in absurd f }
completes-of-mem (x ∷ xs) vs h m =
    let f : (us : List ℕ) → Mem us (completions_of xs) → CompletesAll us xs =
    λ us. completes-of-mem xs us (ternary-rest x xs h) in
    ⊎_elim
    (λ (e : x ≡ 2).
    ⊎_elim
    (behind-completes x xs f 0 vs (rw e (completes-unknown 0 (omega arith))))
    (behind-completes x xs f 1 vs (rw e (completes-unknown 1 (omega arith))))
    (append_cases (behind 0 (completions_of xs)) (rw (e, completions_of-unknown xs) at m)))
    (λ (b : x < 2). behind-completes x xs f x vs (completes-self x b) (rw (completions_of-known x xs b) at m))
    (eq-or-lt_of_le (ternary-first x xs h))

mem-of-completes : (xs vs : List ℕ) → Ternaries xs → CompletesAll vs xs → Mem vs (completions_of xs)
unfolding completions_of behind
mem-of-completes [] [] h c = here refl
mem-of-completes [] (v ∷ vs) h c = let e = c.long in let f : ⊥ = omega arith in absurd f
mem-of-completes (x ∷ xs) [] h c = let e = c.long in let f : ⊥ = omega arith in absurd f
mem-of-completes (x ∷ xs) (v ∷ vs) h c =
    let d = completes-first v x vs xs c in
    let m : Mem vs (completions_of xs) = mem-of-completes xs vs (ternary-rest x xs h) (completes-rest v x vs xs c) in
    let put : (a : ℕ) → Mem (a ∷ vs) (behind a (completions_of xs)) = λ a. mem-map (λ (us : List ℕ). a ∷ us) m in
    ⊎_elim
    (λ (e : x ≡ 2).
    rw (e, completions_of-unknown xs)
    (on_bit (λ b. Mem (b ∷ vs) (behind 0 (completions_of xs) ++ behind 1 (completions_of xs)))
    (append_left (behind 1 (completions_of xs)) (put 0))
    (append_right (behind 0 (completions_of xs)) (put 1))
    v
    d.bit))
    (λ (b : x < 2). rw (completions_of-known x xs b, d.kept b) (put x))
    (eq-or-lt_of_le (ternary-first x xs h))

-- ---- agreed

module _ (v : ℕ) (vs : List ℕ) where
  agreed-same : all (eqb v) vs ≡ true → agreed (v ∷ vs) ≡ v
  unfolding agreed
  agreed-same e = rw e

  agreed-differ : all (eqb v) vs ≡ false → agreed (v ∷ vs) ≡ unknown
  unfolding agreed
  agreed-differ e = rw e

  member-same : all (eqb v) vs ≡ true → (w : ℕ) → Mem w (v ∷ vs) → w ≡ v
  member-same e w m =
      ⊎_elim
      (λ (q : w ≡ v). q)
      (λ (n : Mem w vs). sym (eqb-true v w (all_true (eqb v) vs e w n)))
      (cases_cons m)

-- of two bits that differ, each bit is one
one_of_two : (u w v : ℕ) → u < 2 → w < 2 → v < 2 → u ≢ w → (v ≡ u) ⊎ (v ≡ w)
one_of_two u w v h l m d =
    ⊎_elim
    (λ e. inl (eqb-true v u e))
    (λ e. let n = eqb-false v u e in inr (omega arith))
    (true-or-false (eqb v u))

-- the members of a list of bits that is not empty are the completions of its agreed value
record Hull (vs : List ℕ) (t : ℕ) : Type 0 where
  le : t ≤ 2
  members : (v : ℕ) → Mem v vs ↔ Completes v t

agreed-hull : (vs : List ℕ) (m : ℕ) → Mem m vs → ((w : ℕ) → Mem w vs → w < 2) → Hull vs (agreed vs)
agreed-hull [] m n b = absurd (not-nil n)
agreed-hull (u ∷ us) m n b = ⊎_elim same differ (true-or-false (all (eqb u) us))
  where
    l : u < 2
    l = b u (here refl)

    same : all (eqb u) us ≡ true → Hull (u ∷ us) (agreed (u ∷ us))
    same e =
        rw (agreed-same u us e) (record {
          le = omega (arith, l);
          members = λ v. (
            λ i. record { bit = b v i; kept = λ t. member-same u us e v i },
            λ c. here (c.kept l),
          );
        })

    differ : all (eqb u) us ≡ false → Hull (u ∷ us) (agreed (u ∷ us))
    differ e =
        let r = all-false (eqb u) us e in
        let w = r.0 in
        let i : Mem w (u ∷ us) = there r.1 in
        rw (agreed-differ u us e) (record {
          le = omega arith;
          members = λ v. (
            λ j. completes-unknown v (b v j),
            λ c.
                ⊎_elim
                (λ (q : v ≡ u). here q)
                (λ (q : v ≡ w). rw q i)
                (one_of_two u w v l (b w i) c.bit (eqb-false u w r.2)),
          );
        })

-- ---- a gate's value on 0 and 1 is 0 or 1

-- each of us, and its inversion behind it
paired : List ℕ → List ℕ
paired [] = []
paired (u ∷ us) = u ∷ inverted u ∷ paired us

-- the values of the plain kinds
plains : List ℕ → List ℕ
plains vs = 0 ∷ get_or vs 0 0 ∷ conj vs ∷ disj vs ∷ parity vs ∷ []

bit_test : List ℕ → Type 0
bit_test us = all (λ v. ltb v 2) us ≡ true

all-paired : (us : List ℕ) → bit_test us → bit_test (paired us)
unfolding bit_test paired all inverted
all-paired [] e = refl
all-paired (u ∷ us) e =
    let p = all_cons (λ v. ltb v 2) u us e in
    on_bit (λ v. bit_test (v ∷ inverted v ∷ paired us)) (all-paired us p.1) (all-paired us p.1) u (ltb-true u 2 p.0)

plain-bits : (vs xs : List ℕ) → CompletesAll vs xs
    → (get_or vs 0 0 < 2) × (conj vs < 2) × (disj vs < 2) × (parity vs < 2)
unfolding conj disj parity
plain-bits [] xs c = (lit≤ tt, lit≤ tt, lit≤ tt, lit≤ tt)
plain-bits (v ∷ vs) [] c = let e = c.long in let f : ⊥ = omega arith in absurd f
plain-bits (v ∷ vs) (x ∷ xs) c =
    let b = (completes-first v x vs xs c).bit in
    let r = plain-bits vs xs (completes-rest v x vs xs c) in
    (b, omega (arith, r.1), omega (arith, r.2), omega arith)

plains-bits : (vs xs : List ℕ) → CompletesAll vs xs → bit_test (plains vs)
unfolding bit_test plains all
plains-bits vs xs c =
    let r = plain-bits vs xs c in
    rw (lt-ltb (get_or vs 0 0) 2 r.0, lt-ltb (conj vs) 2 r.1, lt-ltb (disj vs) 2 r.2, lt-ltb (parity vs) 2 r.3)

pub gate_value-bit : (k : ℕ) (vs xs : List ℕ) → CompletesAll vs xs → gate_value k vs < 2
unfolding bit_test gate_value plains paired inverted
gate_value-bit k vs xs c =
    ltb-true (gate_value k vs) 2
    (get_or-all (λ v. ltb v 2) (paired (plains vs)) (all-paired (plains vs) (plains-bits vs xs c)) refl k)

-- ---- the rule

module _ (k : ℕ) (xs : List ℕ) (h : Ternaries xs) where
  mem-possible : (v : ℕ) → Mem v (map (gate_value k) (completions_of xs)) ↔ PossibleOf k xs v
  mem-possible v = (
    λ m.
        let r = map-mem (gate_value k) (completions_of xs) m in
        record { choice = r.0; completes = completes-of-mem xs r.0 h r.1; gives = r.2 },
    λ p. rw (← p.gives) (mem-map (gate_value k) (mem-of-completes xs p.choice h p.completes)),
  )

  pub possible : (vs : List ℕ) → CompletesAll vs xs → PossibleOf k xs (gate_value k vs)
  possible vs c = record { choice = vs; completes = c; gives = refl }

  hull : Hull (map (gate_value k) (completions_of xs)) (ternary_value k xs)
  unfolding ternary_value
  hull =
      let some = map (λ x. x % 2) xs in
      agreed-hull (map (gate_value k) (completions_of xs)) (gate_value k some)
      ((mem-possible (gate_value k some)).1 (possible some (some-completes xs)))
      (λ w m. let p = (mem-possible w).0 m in rw (← p.gives) (gate_value-bit k p.choice xs p.completes))

  pub ternary_value-le : ternary_value k xs ≤ 2
  ternary_value-le = hull.le

  -- The values that the gate may turn out to have are those that complete its value on what is known.
  pub possible-iff : (v : ℕ) → PossibleOf k xs v ↔ Completes v (ternary_value k xs)
  possible-iff v = (
    λ p. (hull.members v).0 ((mem-possible v).1 p),
    λ c. (mem-possible v).0 ((hull.members v).1 c),
  )

-- Known exactly when every completion gives that value.
pub list-known-iff : TernaryListKnown
list-known-iff k v xs h b = (
  λ e vs c. let d = (possible-iff k xs h (gate_value k vs)).0 (possible k xs h vs c) in (rw e at d).kept b,
  λ f.
      sym
      (known-of-completes v (ternary_value k xs) b (ternary_value-le k xs h)
      (λ w c.
      let p = (possible-iff k xs h w).1 c in
      rw (sym p.gives ∙ f p.choice p.completes) (completes-self v b))),
)

-- Not yet known exactly when two completions give different values.
pub list-unknown-iff : TernaryListUnknown
list-unknown-iff k xs h = (
  λ e.
      let some : (v : ℕ) → v < 2 → PossibleOf k xs v =
      λ v b. (possible-iff k xs h v).1 (rw e (completes-unknown v b)) in
      (0, 1, some 0 (omega arith), some 1 (omega arith), λ z. omega arith),
  λ d.
      ⊎_elim
      (λ (e : ternary_value k xs ≡ 2). e)
      (λ (b : ternary_value k xs < 2).
      absurd
      (d.4 (((possible-iff k xs h d.0).0 d.2).kept b ∙ sym (((possible-iff k xs h d.1).0 d.3).kept b))))
      (eq-or-lt_of_le (ternary_value-le k xs h)),
)

-- ---- two operands

module _ (x y : ℕ) where
  ternaries-two : x ≤ 2 → y ≤ 2 → Ternaries (x ∷ y ∷ [])
  unfolding all
  ternaries-two h l = rw (le-leb x 2 h, le-leb y 2 l)

  completes-two : (a b : ℕ) → Completes a x → Completes b y → CompletesAll (a ∷ b ∷ []) (x ∷ y ∷ [])
  completes-two a b c d =
      completes-cons a x (b ∷ []) (y ∷ []) c
      (completes-cons b y [] [] d completes-nil)

  module _ (k : ℕ) where
    two-of-list : (vs : List ℕ) → CompletesAll vs (x ∷ y ∷ []) → Possible k x y (gate_value k vs)
    two-of-list [] c = let e = c.long in let f : ⊥ = omega arith in absurd f
    two-of-list (a ∷ []) c = let e = c.long in let f : ⊥ = omega arith in absurd f
    two-of-list (a ∷ b ∷ []) c = record {
      left = a;
      right = b;
      completes_left = c.each 0 (omega arith);
      completes_right = c.each 1 (omega arith);
      gives = refl;
    }
    two-of-list (a ∷ b ∷ d ∷ vs) c = let e = c.long in let f : ⊥ = omega arith in absurd f

    possible-two : (v : ℕ) → PossibleOf k (x ∷ y ∷ []) v ↔ Possible k x y v
    possible-two v = (
      λ p. rw p.gives at (two-of-list p.choice p.completes),
      λ p. record {
        choice = p.left ∷ p.right ∷ [];
        completes = completes-two p.left p.right p.completes_left p.completes_right;
        gives = p.gives;
      },
    )

    module _ (h : x ≤ 2) (l : y ≤ 2) where
      -- the rule of document 01 at an entry of a table
      pub entry-known-iff : (v : ℕ) → v < 2
          → (entry (ternary_table k) x y ≡ v)
          ↔ ((a b : ℕ) → Completes a x → Completes b y → gate_value k (a ∷ b ∷ []) ≡ v)
      entry-known-iff v b =
          let r = list-known-iff k v (x ∷ y ∷ []) (ternaries-two h l) b in
          rw (entry-table k x y h l) (
            λ e u w c d. r.0 e (u ∷ w ∷ []) (completes-two u w c d),
            λ f.
                r.1 (λ vs c.
                let p = two-of-list vs c in
                sym p.gives ∙ f p.left p.right p.completes_left p.completes_right),
          )

      pub entry-unknown-iff : (entry (ternary_table k) x y ≡ unknown)
          ↔ ((v : ℕ) × (w : ℕ) × Possible k x y v × Possible k x y w × (v ≢ w))
      entry-unknown-iff =
          let r = list-unknown-iff k (x ∷ y ∷ []) (ternaries-two h l) in
          rw (entry-table k x y h l) (
            λ e. let d = r.0 e in (d.0, d.1, (possible-two d.0).0 d.2, (possible-two d.1).0 d.3, d.4),
            λ d. r.1 (d.0, d.1, (possible-two d.0).1 d.2, (possible-two d.1).1 d.3, d.4),
          )

      -- a value on a list with the possible values of an entry is the entry
      entry-of-possible : (m : ℕ) (xs : List ℕ) → Ternaries xs → ((v : ℕ) → PossibleOf m xs v ↔ Possible k x y v)
          → ternary_value m xs ≡ entry (ternary_table k) x y
      entry-of-possible m xs i f =
          let two = x ∷ y ∷ [] in
          let j = ternaries-two h l in
          completes-ext (ternary_value m xs) (ternary_value k two) (ternary_value-le m xs i) (ternary_value-le k two j)
          (λ v. (
            λ c. (possible-iff k two j v).0 ((possible-two v).1 ((f v).0 ((possible-iff m xs i v).1 c))),
            λ c. (possible-iff m xs i v).0 ((f v).1 ((possible-two v).0 ((possible-iff k two j v).1 c))),
          ))
          ∙ sym (entry-table k x y h l)

-- ---- from the tables, operand by operand

module _ (k x : ℕ) (xs : List ℕ) (e : k % 2 ≡ 0) (h : Ternaries (x ∷ xs)) where
  -- an operand more: it is joined with what the others give
  two-of-more : (vs : List ℕ) → CompletesAll vs (x ∷ xs) → Possible k x (ternary_value k xs) (gate_value k vs)
  two-of-more [] c = let n = c.long in let f : ⊥ = omega arith in absurd f
  two-of-more (a ∷ vs) c =
      let i = ternary-rest x xs h in record {
        left = a;
        right = gate_value k vs;
        completes_left = completes-first a x vs xs c;
        completes_right = (possible-iff k xs i (gate_value k vs)).0 (possible k xs i vs (completes-rest a x vs xs c));
        gives = sym (operands-fold k a vs e);
      }

  more-of-two : (v : ℕ) → Possible k x (ternary_value k xs) v → PossibleOf k (x ∷ xs) v
  more-of-two v q =
      let p = (possible-iff k xs (ternary-rest x xs h) q.right).1 q.completes_right in record {
        choice = q.left ∷ p.choice;
        completes = completes-cons q.left x p.choice xs q.completes_left p.completes;
        gives =
            operands-fold k q.left p.choice e
            ∙ ap (λ (w : ℕ). gate_value k (q.left ∷ w ∷ [])) p.gives
            ∙ q.gives;
      }

  pub fold_more : ternary_value k (x ∷ xs) ≡ entry (ternary_table k) x (ternary_value k xs)
  fold_more =
      entry-of-possible x (ternary_value k xs) k (ternary-first x xs h) (ternary_value-le k xs (ternary-rest x xs h)) k (x ∷ xs) h
      (λ v. (λ p. rw p.gives at (two-of-more p.choice p.completes), more-of-two v))

pub fold-inverts : TernaryInverts
unfolding gate_value inverted
fold-inverts k xs e l h =
    let w = ternary_value k xs in
    entry-of-possible w 0 3 (ternary_value-le k xs h) (omega arith) (suc k) xs h
    (λ v. (
      λ p. record {
        left = gate_value k p.choice;
        right = 0;
        completes_left = (possible-iff k xs h (gate_value k p.choice)).0 (possible k xs h p.choice p.completes);
        completes_right = completes-self 0 (omega arith);
        gives = sym (odd-inverts k p.choice e l) ∙ p.gives;
      },
      λ q.
          let p = (possible-iff k xs h q.left).1 q.completes_left in
          record {
            choice = p.choice;
            completes = p.completes;
            gives = odd-inverts k p.choice e l ∙ ap inverted p.gives ∙ q.gives;
          },
    ))

-- a number that is no kind has the value 0
pub ternary_value-high : (k : ℕ) (xs : List ℕ) → 10 ≤ k → Ternaries xs → ternary_value k xs ≡ 0
ternary_value-high k xs h t = (list-known-iff k 0 xs t (omega arith)).1 (λ vs c. gate_value-high k vs h)

-- ---- the value of a gate, from its last operand to its first

-- what is known of the first count operands
abbrev pub knowns : ℕ → List ℕ → List ℕ
knowns count xs = take count (map (λ x. min x unknown) xs)

module _ (count : ℕ) (xs : List ℕ) where
  pub knowns-map : knowns count xs ≡ map (λ x. min x unknown) (take count xs)
  knowns-map = sym (map-take (λ x. min x unknown) count xs)

  pub length-knowns : length (knowns count xs) ≡ min count (length xs)
  length-knowns = simp (length-take, length-map)

  get_or-knowns : (i : ℕ) → i < count → get_or (knowns count xs) i 0 ≡ min (get_or xs i 0) unknown
  get_or-knowns i h =
      get_or-take count (map (λ x. min x unknown) xs) i 0 h ∙ get_or-map {A = ℕ} {B = ℕ} (λ x. min x unknown) xs i 0

  pub ternaries-knowns : Ternaries (knowns count xs)
  ternaries-knowns = rw knowns-map (ternaries-map (λ x. min x unknown) (λ x. omega arith) (take count xs))

ternaries-drop : (i : ℕ) (xs : List ℕ) → Ternaries xs → Ternaries (drop i xs)
ternaries-drop zero xs h = h
ternaries-drop (suc i) [] h = h
ternaries-drop (suc i) (x ∷ xs) h = ternaries-drop i xs (ternary-rest x xs h)

-- any number above 1 stands for not yet known
entry-min : (t : List (List ℕ)) (x y : ℕ) → entry t x y ≡ entry t (min x unknown) y
unfolding entry
entry-min t x y =
    let e : min x unknown ≡ min (min x unknown) unknown = omega arith in
    ap (λ (i : ℕ). get_or (get_or t i []) (min y unknown) 0) e

-- one value alone is agreed on
ternary_value-nil : (k : ℕ) → ternary_value k [] ≡ gate_value k []
unfolding ternary_value agreed completions_of all
ternary_value-nil k = refl

module _ (k : ℕ) (e : k % 2 ≡ 0) (count : ℕ) (xs : List ℕ) where
  -- before the first turn
  pub known-none : (i r : ℕ) → i ≡ length (knowns count xs) → r ≡ gate_value k [] → r ≡ ternary_value k (drop i (knowns count xs))
  known-none i r h q =
      q ∙ sym (ternary_value-nil k)
      ∙ ap (ternary_value k) (sym (drop_of_length-le (knowns count xs) {i = i} (omega arith)))

  -- a turn
  pub known-back : (i r : ℕ) → 0 < i → i ≤ length (knowns count xs) → r ≡ ternary_value k (drop i (knowns count xs))
      → entry (ternary_table k) (get_or xs (i - 1) 0) r ≡ ternary_value k (drop (i - 1) (knowns count xs))
  known-back i r z h q =
      let ks = knowns count xs in
      let x = get_or ks (i - 1) 0 in
      let l : i - 1 < count = omega (arith, length-knowns count xs) in
      let b : drop (i - 1) ks ≡ x ∷ drop i ks = drop-back ks i z h in
      let t : Ternaries (x ∷ drop i ks) = rw b at (ternaries-drop (i - 1) ks (ternaries-knowns count xs)) in
      entry-min (ternary_table k) (get_or xs (i - 1) 0) r
      ∙ rw (← (get_or-knowns count xs (i - 1) l), q, b) (sym (fold_more k x (drop i ks) e t))
