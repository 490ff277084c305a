-- Laws of the first fields of a record and of what stands behind them: where they end, that cutting the record there leaves them as
-- they are, and that it is whole exactly when both parts are; and that a field behind whole ones is one of the record's. Assumes nothing.
use Prim.Native.Nat.{ℕ, zero, suc, ◌+◌, ◌-◌, ◌≤◌, ◌<◌, min}
use mathlib.Core.Path.{◌≡◌, refl, sym, ◌∙◌, ap}
use mathlib.Core.List.{List, [], ◌∷◌, ◌++◌}
use mathlib.Core.Bool.{Bool, true, false, ◌&&◌}
use native.Mathlib.Omega.{arith}
use borrow.Author.Tests.{le-leb, lt-leb, leb-true, leb-false, eqb-true}
use lib.Dec.{leb}
use lib.ListN.{length, get_or, take, drop, length-take, length-drop, length-append, get_or-append}
use lib.Seq.{get_or-take, take-take, drop-drop, drop-append-le, take-append_seam}
use Rattle.records.specs.Bytes.{all, word, body_length, body, rest, fits, whole, nth}
use Rattle.records.proofs.Laws.Bytes.{and_left, and_right, and_assoc, drop-take}
use Rattle.records.proofs.Laws.Field.{skip-drop, position_of, fits-room, nth-body}

-- ---- a cut behind the first field

leb-min : (a n l : ℕ) → a ≤ n → leb a (min n l) ≡ leb a l
leb-min a n l h = pick (leb a l) refl
  where
    pick : (b : Bool) → leb a l ≡ b → leb a (min n l) ≡ b
    pick true e = le-leb a (min n l) (omega (arith, leb-true a l e))
    pick false e = lt-leb a (min n l) (omega (arith, leb-false a l e))

module _ (s : List ℕ) (p : ℕ) where
  abbrev cut : List ℕ
  cut = take (3 + body_length s + p) s

  body_length-cut : body_length cut ≡ body_length s
  unfolding body_length word
  body_length-cut =
      let n = 3 + word s 1 + p in
      rw (get_or-take n s 1 0 (omega arith), get_or-take n s 2 0 (omega arith))

  rest-cut : rest cut ≡ take p (rest s)
  unfolding rest
  rest-cut = rw body_length-cut (drop-take (3 + body_length s) p s)

  body-cut : body cut ≡ body s
  unfolding body
  body-cut =
      let n : 3 + body_length s + p ≡ 3 + (body_length s + p) = omega arith in
      rw body_length-cut
      (ap (λ (k : ℕ). take (body_length s) (drop 3 (take k s))) n
      ∙ ap (take (body_length s)) (drop-take 3 (body_length s + p) s)
      ∙ take-take (body_length s) (body_length s + p) (drop 3 s) (omega arith))

  fits_cut : (t : ℕ) → fits t cut ≡ fits t s
  unfolding fits
  fits_cut t =
      rw (body_length-cut, length-take (3 + body_length s + p) s, get_or-take (3 + body_length s + p) s 0 0 (omega arith), leb-min 3 (3 + body_length s + p) (length s) (omega arith), leb-min (3 + body_length s) (3 + body_length s + p) (length s) (omega arith))
      refl

-- ---- a cut behind the first n fields

pub position_of-cut : (n k : ℕ) (s : List ℕ) → k ≤ n → position_of k (take (position_of n s) s) ≡ position_of k s
unfolding position_of
position_of-cut n zero s h = refl
position_of-cut zero (suc k) s h = let f : ⊥ = omega arith in absurd f
position_of-cut (suc n) (suc k) s h =
    let p = position_of n (rest s) in
    rw (body_length-cut s p, rest-cut s p, position_of-cut n k (rest s) (omega arith)) refl

pub nth_cut : (n k : ℕ) (s : List ℕ) → k < n → nth k (take (position_of n s) s) ≡ nth k s
unfolding position_of nth
nth_cut zero k s h = let f : ⊥ = omega arith in absurd f
nth_cut (suc n) zero s h = body-cut s (position_of n (rest s))
nth_cut (suc n) (suc k) s h = rw (rest-cut s (position_of n (rest s))) (nth_cut n k (rest s) (omega arith))

-- a field behind the cut is the first one there
pub nth-behind : (n : ℕ) (s : List ℕ) → nth n s ≡ nth 0 (drop (position_of n s) s)
unfolding nth
nth-behind n s = nth-body n s ∙ ap body (skip-drop n s)

-- fields and further fields are whole exactly when what stands before the cut and what stands behind it are
pub whole_append : (ts us s : List ℕ)
    → whole (ts ++ us) s
    ≡ (whole ts (take (position_of (length ts) s) s) && whole us (drop (position_of (length ts) s) s))
unfolding whole position_of rest
whole_append [] us s = refl
whole_append (t ∷ ts) us s =
    let p = position_of (length ts) (rest s) in
    rw (fits_cut s p t, rest-cut s p, whole_append ts us (rest s), ← drop-drop p (3 + body_length s) s)
    (sym (and_assoc (fits t s) (whole ts (take p (rest s))) (whole us (drop p (rest s)))))

-- whole fields end where they do, whatever stands behind them
body_length-append : (a b : List ℕ) → 3 ≤ length a → body_length (a ++ b) ≡ body_length a
unfolding body_length word
body_length-append a b h = rw (get_or-append a b 0 1 (omega arith), get_or-append a b 0 2 (omega arith))

rest-append : (a b : List ℕ) → 3 + body_length a ≤ length a → rest (a ++ b) ≡ rest a ++ b
unfolding rest
rest-append a b h = rw (body_length-append a b (omega arith)) (drop-append-le (3 + body_length a) a b h)

length_rest : (a : List ℕ) → length (rest a) ≡ length a - (3 + body_length a)
unfolding rest
length_rest a = length-drop (3 + body_length a) a

pub whole-front : (ts a b : List ℕ) → whole ts a ≡ true → position_of (length ts) (a ++ b) ≡ length a
unfolding whole position_of
whole-front [] a b w = sym (eqb-true (length a) 0 w)
whole-front (t ∷ ts) a b w =
    let r = fits-room t a (and_left (fits t a) (whole ts (rest a)) w) in
    let e = whole-front ts (rest a) b (and_right (fits t a) (whole ts (rest a)) w) in
    rw (body_length-append a b (omega arith), rest-append a b r) (omega (arith, e, length_rest a))

-- .. and so are they
pub nth-front : (ts a b : List ℕ) → whole ts a ≡ true → (k : ℕ) → k < length ts → nth k (a ++ b) ≡ nth k a
nth-front ts a b w k h =
    sym (nth_cut (length ts) k (a ++ b) h)
    ∙ ap (λ (n : ℕ). nth k (take n (a ++ b))) (whole-front ts a b w)
    ∙ ap (nth k) (take-append_seam a b)

-- ---- a field behind whole fields is one of the record's

fits-tag : (t : ℕ) (s : List ℕ) → fits t s ≡ true → get_or s 0 0 ≡ t
unfolding fits
fits-tag t s h = eqb-true _ _ (and_right (leb 3 (length s)) _ (and_left _ (leb (3 + body_length s) (length s)) h))

-- what holds of each tag of a record holds of that field's
pub whole-behind : (p : ℕ → Bool) (t : ℕ) (ts us a b : List ℕ) → whole ts a ≡ true → fits t b ≡ true → whole us (a ++ b) ≡ true
    → all p us ≡ true → p t ≡ true
unfolding whole all
whole-behind p t ts [] a b v f w h =
    absurd (omega (arith, eqb-true (length (a ++ b)) 0 w, length-append a b, fits-room t b f))
whole-behind p t [] (u ∷ us) [] b v f w h =
    ap p (sym (fits-tag t b f) ∙ fits-tag u b (and_left _ _ w)) ∙ and_left (p u) (all p us) h
whole-behind p t [] (u ∷ us) (x ∷ a) b v f w h = absurd (omega (arith, eqb-true (length (x ∷ a)) 0 v))
whole-behind p t (q ∷ ts) (u ∷ us) a b v f w h =
    let r = rest-append a b (fits-room q a (and_left (fits q a) (whole ts (rest a)) v)) in
    let k : whole us (rest a ++ b) ≡ true = rw (← r) (and_right (fits u (a ++ b)) (whole us (rest (a ++ b))) w) in
    whole-behind p t ts us (rest a) b (and_right (fits q a) (whole ts (rest a)) v) f k (and_right (p u) (all p us) h)
