-- What the sets of vectors of a support's readings say of it: at each reading the shared vector is the lowest of the set, so the
-- support is sound where no set is empty. Leaving out a net joins two sets each. Assumes nothing.
use Prim.Native.Nat.{ℕ, zero, suc, ◌+◌, ◌-◌, ◌*◌, ◌/◌, ◌%◌, ◌^◌, min, ◌≤◌, ◌<◌}
use mathlib.Core.Path.{◌≡◌, refl, sym, ◌∙◌, ap}
use mathlib.Core.Logic.{◌↔◌, ◌⊎◌, inl, inr, ⊎_elim}
use mathlib.Core.List.{List, [], ◌∷◌, ◌++◌, map}
use mathlib.Core.Bool.{true, false, false≢true}
use mathlib.Core.Option.{Option, none, some}
use native.Mathlib.Nat.{mul_assoc, mul_comm, mod-eq_of_lt, pow-suc, div-one, eq-or-lt_of_le, eq-zero-or-pos}
use native.Mathlib.Omega.{arith}
use borrow.Author.Tests.{eqb-true, eq-eqb}
use lib.Dec.{eqb}
use lib.Pow.{pow_mono, shr-shr}
use lib.ListN.{length, get_or, take, length-append}
use lib.Seq.{length-take-le, get_or-take, ext_get_or}
use Rattle.records.specs.Job.{Job}
use Rattle.records.specs.Netlist.{net_at}
use Rattle.records.proofs.Laws.Bytes.{false_of}
use Rattle.engine.specs.Choice.{found, or_zero}
use Rattle.engine.specs.Eval.{bit, number_of, old_values}
use Rattle.engine.specs.Support.{reading, shared, sound, table_of, candidate_nets}
use Rattle.engine.specs.Verdict.{blind_reading}
use Rattle.engine.specs.Inner.List.{max_vectors, lowest}
use Rattle.engine.specs.Inner.Kernel.{Filled}
use Rattle.engine.proofs.Laws.Fill.{fill-at}
use Rattle.engine.specs.Inner.Best.{RectifiesAll, SetsOf, NotEmpty, GivenBits, FilledTo, LeftOut, spread, joined_at}
use Rattle.engine.proofs.Laws.Choice.{Least, none_or_some, first-least, first-none-below, found_first, not-both}
use Rattle.engine.proofs.Laws.Eval.{bit-lt, net_at-lt, old_values-bits}
use Rattle.engine.proofs.Laws.Shift.{bit-mod}
use Rattle.engine.proofs.Laws.Support.{shared-least, shared-none, sound-iff-found, length-table_of, get_or-table_of}
use Rattle.engine.proofs.Laws.VectorSets.{lowest-some, lowest-bit}
use Rattle.engine.proofs.Laws.Verdict.{LeastBlind, blind-least, blind-unique, unsound-of-blind}
use Rattle.engine.proofs.Laws.Word.{bit-and, bit-zero}

-- ---- the lowest vector of a set

module _ (t : ℕ) where
  lowest-least : (v : ℕ) → lowest t ≡ some v → Least (λ u. eqb (bit u t) 1) max_vectors v
  unfolding lowest
  lowest-least v e = first-least (λ u. eqb (bit u t) 1) max_vectors v e

  lowest-none : lowest t ≡ none → (v : ℕ) → v < max_vectors → bit v t ≡ 1 → ⊥
  unfolding lowest
  lowest-none e v h q =
      not-both (eq-eqb (bit v t) 1 q) (first-none-below (λ u. eqb (bit u t) 1) max_vectors e v h)

  pub found-lowest : NotEmpty t → found (lowest t) ≡ true
  unfolding lowest
  found-lowest h = found_first (λ u. eqb (bit u t) 1) max_vectors h.0 h.1 (eq-eqb (bit h.0 t) 1 h.2)

-- a set whose low 16 bits are not 0 has a vector
pub holds-some : (t : ℕ) → (t % 65536 ≡ 0 → ⊥) → NotEmpty t
holds-some t z =
    let u = t % 65536 in
    let v = or_zero (lowest u) in
    let l = lowest-least u v (lowest-some u (omega arith) z) in
    (v, l.below, sym (bit-mod 16 v t l.below) ∙ eqb-true (bit v u) 1 l.holds)

-- .. and one where they are 0 has none
lowest-empty : (t : ℕ) → t % 65536 ≡ 0 → lowest t ≡ none
lowest-empty t z =
    ⊎_elim
    (λ (e : lowest t ≡ none). e)
    (λ r.
    let v = r.0 in
    let b = lowest-bit t v r.1 in
    let f : ⊥ = omega (arith, b.1, bit-mod 16 v t b.0, ap (bit v) z, bit-zero v) in
    absurd f)
    (none_or_some (lowest t))

-- ---- the shared vector at a reading

few-vectors : (m : ℕ) → m ≤ 4 → 2 ^ m ≤ max_vectors
few-vectors m h = pow_mono h

-- the set t holds the vectors that rectify every input giving reading r of the nets is
module _ (j : Job) (is : List ℕ) (r t : ℕ) (few : j.targets ≤ 4)
    (h : (v : ℕ) → v < max_vectors → (bit v t ≡ 1) ↔ ((v < 2 ^ j.targets) × RectifiesAll j is r v)) where
  shared-least-unique : (u v : ℕ) → shared j is r ≡ some u → lowest t ≡ some v → u ≡ v
  shared-least-unique u v p q =
      let l = shared-least j is r u p in
      let m = lowest-least t v q in
      let n = (h v m.below).0 (eqb-true (bit v t) 1 m.holds) in
      let w : u < max_vectors = omega (arith, l.below, few-vectors j.targets few) in
      let a : (v < u → ⊥) = λ i. let f = l.smaller v i in not-both (n.1 f.0 f.1 f.2) f.3 in
      let b : (u < v → ⊥) = λ i. not-both (eq-eqb (bit u t) 1 ((h u w).1 (l.below, l.rectifies))) (m.smaller u i) in
      omega arith

  pub shared-lowest : shared j is r ≡ lowest t
  shared-lowest = go (shared j is r) (lowest t) refl refl
    where
      go : (a b : Option ℕ) → shared j is r ≡ a → lowest t ≡ b → a ≡ b
      go none none p q = refl
      go (some u) (some v) p q = ap some (shared-least-unique u v p q)
      go (some u) none p q =
          let l = shared-least j is r u p in
          let w : u < max_vectors = omega (arith, l.below, few-vectors j.targets few) in
          absurd (lowest-none t q u w ((h u w).1 (l.below, l.rectifies)))
      go none (some v) p q =
          let m = lowest-least t v q in
          let n = (h v m.below).0 (eqb-true (bit v t) 1 m.holds) in
          let f = shared-none j is r p v n.0 in
          absurd (not-both (n.1 f.0 f.1 f.2) f.3)

both_one : (a b : ℕ) → a < 2 → b < 2 → (min a b ≡ 1) ↔ ((a ≡ 1) × (b ≡ 1))
both_one a b h l = (λ e. (omega arith, omega arith), λ e. omega (arith, e.0, e.1))

-- ---- a support's sets

-- the set of reading r is t r
module _ (j : Job) (is : List ℕ) (t : ℕ → ℕ) (few : j.targets ≤ 4)
    (h : (r v : ℕ) → r < 2 ^ length is → v < max_vectors
    → (bit v (t r) ≡ 1) ↔ ((v < 2 ^ j.targets) × RectifiesAll j is r v)) where
  shared_at : (r : ℕ) → r < 2 ^ length is → shared j is r ≡ lowest (t r)
  shared_at r l = shared-lowest j is r (t r) few (λ v m. h r v l m)

  sound-at : ((r : ℕ) → r < 2 ^ length is → NotEmpty (t r)) → sound j is ≡ true
  sound-at f = (sound-iff-found j is).1 (λ r l. rw (shared_at r l) (found-lowest (t r) (f r l)))

  unsound-at : (r : ℕ) → r < 2 ^ length is → t r % 65536 ≡ 0 → sound j is ≡ false
  unfolding found
  unsound-at r l z =
      let e : shared j is r ≡ none = shared_at r l ∙ lowest-empty (t r) z in
      false_of (sound j is) (λ s. not-both ((sound-iff-found j is).0 s r l) (ap found e))

module _ (j : Job) (is ss : List ℕ) (h : SetsOf j is ss) where
  pub shared-sets : (r : ℕ) → r < 2 ^ length is → shared j is r ≡ lowest (get_or ss r 0)
  shared-sets = shared_at j is (λ r. get_or ss r 0) h.targets h.sets

  -- the places of a table that hold the lowest vectors of the sets
  pub table-sets : (ts : List ℕ) → 2 ^ length is ≤ length ts
      → ((r : ℕ) → r < 2 ^ length is → get_or ts r 0 ≡ or_zero (lowest (get_or ss r 0))) → take (2 ^ length is) ts ≡ table_of j is
  table-sets ts l f =
      let e = length-take-le (2 ^ length is) ts l in
      let n = length-table_of j is in
      ext_get_or 0 (take (2 ^ length is) ts) (table_of j is) (e ∙ sym n)
      (λ r i.
      let b : r < 2 ^ length is = omega arith in
      get_or-take (2 ^ length is) ts r 0 b ∙ f r b ∙ sym (ap or_zero (shared-sets r b)) ∙ sym (get_or-table_of j is r b))

-- ---- readings with one net more

twice : (a b : ℕ) → a * (b * 2) ≡ 2 * (a * b)
twice a b = sym (mul_assoc a b 2) ∙ mul_comm (a * b) 2

pub spread-shift : (i q : ℕ) → q + q / 2 ^ i * 2 ^ i ≡ spread i q
unfolding spread
spread-shift zero q = let e = div-one q in omega arith
spread-shift (suc i) q =
    let e : q / 2 / 2 ^ i ≡ q / 2 ^ suc i = let n : 1 + i ≡ suc i = omega arith in rw n at (shr-shr q 1 i) in
    let r = spread-shift i (q / 2) in
    let d : q / 2 ^ suc i * 2 ^ suc i ≡ 2 * (q / 2 / 2 ^ i * 2 ^ i) = rw (← e, pow-suc 2 i) (twice (q / 2 / 2 ^ i) (2 ^ i)) in
    omega arith

pub spread-lt : (i n q : ℕ) → i ≤ n → q < 2 ^ n → spread i q + 2 ^ i < 2 ^ suc n
unfolding spread
spread-lt zero n q h l = let e = pow-suc 2 n in omega arith
spread-lt (suc i) zero q h l = let f : ⊥ = omega arith in absurd f
spread-lt (suc i) (suc n) q h l =
    let a = pow-suc 2 i in
    let b = pow-suc 2 n in
    let c = pow-suc 2 (suc n) in
    let r = spread-lt i n (q / 2) (omega arith) (omega arith) in
    omega arith

-- .. as the code makes them: they are readings of n nets
pub spread-word : (i n q : ℕ) → i < n → n ≤ 10 → q < 2 ^ (n - 1)
    → (q + q / 2 ^ i * 2 ^ i % 18446744073709551616 ≡ spread i q) × (spread i q + 2 ^ i < 2 ^ n)
spread-word i n q h few l =
    let e = spread-shift i q in
    let p : suc (n - 1) ≡ n = omega arith in
    let s : spread i q + 2 ^ i < 2 ^ n = rw p at (spread-lt i (n - 1) q (omega arith) l) in
    let m : 2 ^ n ≤ 2 ^ 10 = pow_mono few in
    let d : q / 2 ^ i * 2 ^ i % 18446744073709551616 ≡ q / 2 ^ i * 2 ^ i = mod-eq_of_lt (omega arith) in
    (omega arith, s)

-- both readings with one net more come from the same
spread_same : (i q r c d : ℕ) → c < 2 → d < 2 → spread i q + c * 2 ^ i ≡ spread i r + d * 2 ^ i → q ≡ r
unfolding spread
spread_same zero q r c d h l e = omega arith
spread_same (suc i) q r c d h l e =
    let p : c * 2 ^ suc i ≡ 2 * (c * 2 ^ i) = rw (pow-suc 2 i) (twice c (2 ^ i)) in
    let s : d * 2 ^ suc i ≡ 2 * (d * 2 ^ i) = rw (pow-suc 2 i) (twice d (2 ^ i)) in
    let n : q / 2 ≡ r / 2 = spread_same i (q / 2) (r / 2) c d h l (omega arith) in
    omega arith

reading-with : (j : Job) (xs : List ℕ) (x : ℕ) (ks : List ℕ) (y : ℕ)
    → reading j (xs ++ (x ∷ ks)) y ≡ spread (length xs) (reading j (xs ++ ks) y) + net_at (old_values j y 0) x * 2 ^ length xs
unfolding reading number_of spread
reading-with j [] x ks y = omega arith
reading-with j (z ∷ xs) x ks y =
    let f : ℕ → ℕ = net_at (old_values j y 0) in
    let q = number_of (map f (xs ++ ks)) in
    let b : f z < 2 = net_at-lt (old_values-bits j y 0) z in
    let r = reading-with j xs x ks y in
    let p : f x * 2 ^ suc (length xs) ≡ 2 * (f x * 2 ^ length xs) = rw (pow-suc 2 (length xs)) (twice (f x) (2 ^ length xs)) in
    let m : (f z + 2 * q) % 2 ≡ f z = omega arith in
    let d : (f z + 2 * q) / 2 ≡ q = omega arith in
    rw (m, d) (omega arith)

-- ---- a net left out

module _ (j : Job) (xs : List ℕ) (x : ℕ) (ks ss : List ℕ) where
  abbrev others : List ℕ
  others = xs ++ ks

  -- the readings with the net that come from reading q of the others, and their sets
  abbrev low : ℕ → ℕ
  low q = spread (length xs) q

  abbrev high : ℕ → ℕ
  high q = low q + 2 ^ length xs

  both-lt : (q : ℕ) → q < 2 ^ length others → (low q < 2 ^ length (xs ++ (x ∷ ks))) × (high q < 2 ^ length (xs ++ (x ∷ ks)))
  both-lt q l =
      let n : length (xs ++ (x ∷ ks)) ≡ suc (length others) = omega (arith, length-append xs (x ∷ ks), length-append xs ks) in
      let w = spread-lt (length xs) (length others) q (omega (arith, length-append xs ks)) l in
      rw n (omega arith, w)

  bit-joined : (v q : ℕ) → bit v (joined_at ss (length xs) q) ≡ min (bit v (get_or ss (low q) 0)) (bit v (get_or ss (high q) 0))
  unfolding joined_at
  bit-joined v q = bit-and v (get_or ss (low q) 0) (get_or ss (high q) 0)

  joined-one : (v q : ℕ) → (bit v (joined_at ss (length xs) q) ≡ 1) ↔ ((bit v (get_or ss (low q) 0) ≡ 1) × (bit v (get_or ss (high q) 0) ≡ 1))
  joined-one v q =
      let a = get_or ss (low q) 0 in
      let b = get_or ss (high q) 0 in
      rw (bit-joined v q) (both_one (bit v a) (bit v b) (bit-lt v a) (bit-lt v b))

  -- an input gives reading q of the others exactly when it gives one of both
  module _ (y q : ℕ) where
    from-others : (c : ℕ) → c < 2 → reading j (xs ++ (x ∷ ks)) y ≡ low q + c * 2 ^ length xs → reading j others y ≡ q
    from-others c l e =
        spread_same (length xs) (reading j others y) q (net_at (old_values j y 0) x) c (net_at-lt (old_values-bits j y 0) x) l
        (sym (reading-with j xs x ks y) ∙ e)

    from_low : reading j (xs ++ (x ∷ ks)) y ≡ low q → reading j others y ≡ q
    from_low e = from-others 0 (omega arith) (e ∙ omega arith)

    from-high : reading j (xs ++ (x ∷ ks)) y ≡ high q → reading j others y ≡ q
    from-high e = from-others 1 (omega arith) (e ∙ omega arith)

    with-net : reading j others y ≡ q → (reading j (xs ++ (x ∷ ks)) y ≡ low q) ⊎ (reading j (xs ++ (x ∷ ks)) y ≡ high q)
    with-net e =
        let v = net_at (old_values j y 0) x in
        let r : reading j (xs ++ (x ∷ ks)) y ≡ low q + v * 2 ^ length xs = reading-with j xs x ks y ∙ rw e in
        ⊎_elim
        (λ (z : v ≡ 1). inr (rw z at r ∙ omega arith))
        (λ (z : v < 1). let o : v ≡ 0 = omega arith in inl (rw o at r ∙ omega arith))
        (eq-or-lt_of_le (omega (arith, net_at-lt (old_values-bits j y 0) x)))

  module _ (h : SetsOf j (xs ++ (x ∷ ks)) ss) where
    joined-iff : (q v : ℕ) → q < 2 ^ length others → v < max_vectors
        → (bit v (joined_at ss (length xs) q) ≡ 1) ↔ ((v < 2 ^ j.targets) × RectifiesAll j others q v)
    joined-iff q v l m =
        let s = h.sets (low q) v (both-lt q l).0 m in
        let t = h.sets (high q) v (both-lt q l).1 m in
        let both = joined-one v q in (
          λ e.
              let u = both.0 e in
              ((s.0 u.0).0, λ y b d. ⊎_elim ((s.0 u.0).1 y b) ((t.0 u.1).1 y b) (with-net y q d)),
          λ e.
              both.1 (
                s.1 (e.0, λ y b d. e.1 y b (from_low y q d)),
                t.1 (e.0, λ y b d. e.1 y b (from-high y q d)),
              ),
        )

    pub left-sets : (ps : List ℕ) → ((q : ℕ) → q < 2 ^ length others → get_or ps q 0 ≡ joined_at ss (length xs) q) → SetsOf j others ps
    left-sets ps f = record { targets = h.targets; sets = λ q v l m. rw (f q l) (joined-iff q v l m) }

    pub left-sound : ((q : ℕ) → q < 2 ^ length others → NotEmpty (joined_at ss (length xs) q)) → sound j others ≡ true
    left-sound = sound-at j others (joined_at ss (length xs)) h.targets joined-iff

    pub left-unsound : (q : ℕ) → q < 2 ^ length others → joined_at ss (length xs) q % 65536 ≡ 0 → sound j others ≡ false
    left-unsound = unsound-at j others (joined_at ss (length xs)) h.targets joined-iff

  -- the bits above the vectors are joined too: some input gives reading q of the others where one gives one of both
  pub left-given : (ps : List ℕ) → ((q : ℕ) → q < 2 ^ length others → get_or ps q 0 ≡ joined_at ss (length xs) q)
      → (k : ℕ) → GivenBits j (xs ++ (x ∷ ks)) ss k → GivenBits j others ps k
  left-given ps f k h =
      record {
        given =
            λ q l e.
            let m = bit-joined max_vectors q in
            let z : bit max_vectors (joined_at ss (length xs) q) ≡ 0 = rw (f q l) at e in
            ⊎_elim
            (λ i. let g = h.given (low q) (both-lt q l).0 i in (g.0, g.1, from_low g.0 q g.2))
            (λ i. let g = h.given (high q) (both-lt q l).1 (omega arith) in (g.0, g.1, from-high g.0 q g.2))
            (eq-zero-or-pos (bit max_vectors (get_or ss (low q) 0)));
        unmet =
            λ q l e y b n d.
            let u = (joined-one max_vectors q).0 (rw (f q l) at e) in
            ⊎_elim
            (h.unmet (low q) (both-lt q l).0 u.0 y b n)
            (h.unmet (high q) (both-lt q l).1 u.1 y b n)
            (with-net y q d);
      }

-- .. as it is put into places, up to the first that is empty
module _ {ss : List ℕ} {n i : ℕ} where
  pub left-filled : {xs ys : List ℕ} → Filled (joined_at ss i) 0 (2 ^ n) xs ys → ((q : ℕ) → q < 2 ^ n → NotEmpty (joined_at ss i q))
      → LeftOut ss n i true ys
  left-filled f z = record { filled = λ e q l. (fill-at f q l, z q l); empty = λ e. absurd (false≢true (sym e)) }

  pub left-empty : {q : ℕ} {ps : List ℕ} → q < 2 ^ n → joined_at ss i q % 65536 ≡ 0 → LeftOut ss n i false ps
  left-empty {q} l e = record { filled = λ t. absurd (false≢true t); empty = λ t. (q, l, e) }

-- ---- the first empty set of all

module _ (j : Job) (ss : List ℕ) (h : SetsOf j (candidate_nets j) ss) where
  found_to : {n : ℕ} → n ≤ 2 ^ length (candidate_nets j) → FilledTo ss n → (q : ℕ) → q < n → found (shared j (candidate_nets j) q) ≡ true
  found_to m f q l = rw (shared-sets j (candidate_nets j) ss h q (omega arith)) (found-lowest (get_or ss q 0) (f q l))

  -- where there is none, all candidates together are sound
  pub sound-of-filled : FilledTo ss (2 ^ length (candidate_nets j)) → sound j (candidate_nets j) ≡ true
  sound-of-filled f = (sound-iff-found j (candidate_nets j)).1 (found_to (omega arith) f)

  -- .. and else it is the blind reading
  module _ (r : ℕ) (l : r < 2 ^ length (candidate_nets j)) (e : get_or ss r 0 % 65536 ≡ 0) (f : FilledTo ss r) where
    least-blind : LeastBlind j r
    unfolding found
    least-blind =
        record {
          below = l;
          none-shared = shared-sets j (candidate_nets j) ss h r l ∙ lowest-empty (get_or ss r 0) e;
          smaller = λ q i o. not-both (found_to (omega arith) f q i) (ap found o);
        }

    pub blind-of-empty : (sound j (candidate_nets j) ≡ false) × (r ≡ blind_reading j)
    blind-of-empty =
        let u = unsound-of-blind j r least-blind in
        (u, blind-unique j r (blind_reading j) least-blind (blind-least j u))
