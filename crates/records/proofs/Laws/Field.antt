-- Laws of fields: what stands at a position, and where each field of a walk starts and ends. Assumes nothing.
use Prim.Native.Nat.{ℕ, zero, suc, ◌+◌, ◌-◌, ◌≤◌, ◌<◌}
use mathlib.Core.Path.{◌≡◌, refl, sym, ◌∙◌, ap}
use mathlib.Core.List.{List, [], ◌∷◌}
use mathlib.Core.Bool.{true, false, ◌&&◌}
use native.Mathlib.Nat.{add-zero, add_assoc}
use native.Mathlib.Omega.{arith}
use borrow.Author.Tests.{lt-leb, le-leb, eq-eqb, ne_eqb, leb-true, eqb-true}
use lib.Dec.{leb, eqb}
use lib.ListN.{length, get_or, take, drop, length-drop, get_or-map}
use lib.Seq.{get_or-drop, drop-drop, length-take-le}
use Rattle.records.specs.Bytes.{word, body_length, body, rest, fits, whole, nth}
use Rattle.std.specs.Prelude.{Some, None}
use Rattle.records.specs.Inner.{start_of, field_at, starts_in, lens_in}
use Rattle.records.specs.declared.field.Span.{Span}
use Rattle.records.proofs.Laws.Option.{pick-some, pick-none}
use Rattle.records.proofs.Laws.Bytes.{and_left, and_right, and_both, and-false-left, and-false-right}

-- ---- a field at a position

pub word-drop : (s : List ℕ) (a i : ℕ) → word (drop a s) i ≡ word s (a + i)
unfolding word
word-drop s a i = rw (get_or-drop a s i 0, get_or-drop a s (i + 1) 0, ← add_assoc a i 1)

pub body_length-drop : (s : List ℕ) (at : ℕ) → body_length (drop at s) ≡ word s (at + 1)
unfolding body_length
body_length-drop s at = word-drop s at 1

module _ (s : List ℕ) (at t : ℕ) where
  fits-drop : fits t (drop at s) ≡ (leb 3 (length s - at) && eqb (get_or s at 0) t && leb (3 + word s (at + 1)) (length s - at))
  unfolding fits
  fits-drop = rw (length-drop at s, body_length-drop s at, get_or-drop at s 0 0, add-zero at)

  pub fits-short : length s < at + 3 → fits t (drop at s) ≡ false
  fits-short h =
      fits-drop
      ∙ and-false-left _ (leb (3 + word s (at + 1)) (length s - at))
      (and-false-left _ (eqb (get_or s at 0) t) (lt-leb 3 (length s - at) (omega arith)))

  pub fits-other-tag : (get_or s at 0 ≡ t → ⊥) → fits t (drop at s) ≡ false
  fits-other-tag h =
      fits-drop
      ∙ and-false-left _ (leb (3 + word s (at + 1)) (length s - at))
      (and-false-right (leb 3 (length s - at)) _ (ne_eqb (get_or s at 0) t h))

  pub fits-long : length s < at + 3 + word s (at + 1) → fits t (drop at s) ≡ false
  fits-long h =
      fits-drop
      ∙ and-false-right (leb 3 (length s - at) && eqb (get_or s at 0) t) _
      (lt-leb (3 + word s (at + 1)) (length s - at) (omega arith))

  pub fits_whole : get_or s at 0 ≡ t → at + 3 + word s (at + 1) ≤ length s → fits t (drop at s) ≡ true
  fits_whole e h =
      fits-drop
      ∙ and_both _ _
      (and_both _ _ (le-leb 3 (length s - at) (omega arith)) (eq-eqb (get_or s at 0) t e))
      (le-leb (3 + word s (at + 1)) (length s - at) (omega arith))

-- ---- the fields of a walk

-- what stands after k fields, and its position
pub skip : ℕ → List ℕ → List ℕ
skip zero s = s
skip (suc k) s = skip k (rest s)

unfoldable pub position_of : ℕ → List ℕ → ℕ
position_of zero s = 0
position_of (suc k) s = 3 + body_length s + position_of k (rest s)

pub position_of-zero : (s : List ℕ) → position_of 0 s ≡ 0
unfolding position_of
position_of-zero s = refl

pub start_of-position : (k : ℕ) (s : List ℕ) → start_of k s ≡ position_of k s + 3
unfolding start_of position_of
start_of-position zero s = refl
start_of-position (suc k) s =
    let e = start_of-position k (rest s) in
    omega arith

pub skip-drop : (k : ℕ) (s : List ℕ) → skip k s ≡ drop (position_of k s) s
unfolding skip position_of rest
skip-drop zero s = refl
skip-drop (suc k) s = skip-drop k (rest s) ∙ drop-drop (position_of k (rest s)) (3 + body_length s) s

pub position_of-suc : (k : ℕ) (s : List ℕ) → position_of (suc k) s ≡ position_of k s + 3 + body_length (skip k s)
unfolding position_of skip
position_of-suc zero s = omega arith
position_of-suc (suc k) s =
    let e = position_of-suc k (rest s) in
    omega arith

pub position_of-next : (k : ℕ) (s : List ℕ) (at : ℕ) → at ≡ position_of k s → position_of (suc k) s ≡ at + 3 + word s (at + 1)
position_of-next k s at e =
    rw e (position_of-suc k s ∙ ap (λ (n : ℕ). position_of k s + 3 + n) (ap body_length (skip-drop k s) ∙ body_length-drop s (position_of k s)))

position_of-le : (k n : ℕ) (s : List ℕ) → k ≤ n → position_of k s ≤ position_of n s
unfolding position_of
position_of-le zero n s h = omega arith
position_of-le (suc k) zero s h = let f : ⊥ = omega arith in absurd f
position_of-le (suc k) (suc n) s h = omega (arith, position_of-le k n (rest s) (omega arith))

-- where a field's length reaches past the end, so do the fields up to any later one
pub position_past : (k n : ℕ) (s : List ℕ) (at : ℕ) → at ≡ position_of k s → k < n → length s < at + 3 + word s (at + 1)
    → length s + 3 < start_of n s
position_past k n s at e h l =
    omega (arith, position_of-next k s at e, position_of-le (suc k) n s (omega arith), start_of-position n s)

pub nth-body : (k : ℕ) (s : List ℕ) → nth k s ≡ body (skip k s)
unfolding nth skip
nth-body zero s = refl
nth-body (suc k) s = nth-body k (rest s)

pub fits-room : (t : ℕ) (s : List ℕ) → fits t s ≡ true → 3 + body_length s ≤ length s
unfolding fits
fits-room t s h = leb-true _ _ (and_right (leb 3 (length s) && eqb (get_or s 0 0) t) _ h)

pub length-body : (s : List ℕ) → 3 + body_length s ≤ length s → length (body s) ≡ body_length s
unfolding body
length-body s h = length-take-le (body_length s) (drop 3 s) (omega (arith, length-drop 3 s))

pub length-nth : (k t : ℕ) (s : List ℕ) → fits t (skip k s) ≡ true → length (nth k s) ≡ body_length (skip k s)
length-nth k t s h = ap length (nth-body k s) ∙ length-body (skip k s) (fits-room t (skip k s) h)

whole-fits : (ts s : List ℕ) (k : ℕ) → whole ts s ≡ true → k < length ts → fits (get_or ts k 0) (skip k s) ≡ true
unfolding whole skip
whole-fits [] s k w h = let f : ⊥ = omega arith in absurd f
whole-fits (t ∷ ts) s zero w h = and_left (fits t s) (whole ts (rest s)) w
whole-fits (t ∷ ts) s (suc k) w h = whole-fits ts (rest s) k (and_right (fits t s) (whole ts (rest s)) w) (omega arith)

-- the fields of a whole record fill it
pub whole-end : (ts s : List ℕ) → whole ts s ≡ true → position_of (length ts) s ≡ length s
unfolding whole position_of rest
whole-end [] s w = sym (eqb-true (length s) 0 w)
whole-end (t ∷ ts) s w =
    let r = fits-room t s (and_left (fits t s) (whole ts (rest s)) w) in
    let e = whole-end ts (rest s) (and_right (fits t s) (whole ts (rest s)) w) in
    omega (arith, length-drop (3 + body_length s) s)

module _ (ts s : List ℕ) (w : whole ts s ≡ true) (k : ℕ) (h : k < length ts) where
  nth-length : length (nth k s) ≡ body_length (skip k s)
  nth-length = length-nth k (get_or ts k 0) s (whole-fits ts s k w h)

  pub start_of-suc : start_of (suc k) s ≡ start_of k s + length (nth k s) + 3
  start_of-suc =
      omega (arith, nth-length, start_of-position k s, start_of-position (suc k) s, position_of-suc k s)

  pub start_of-le : start_of k s + length (nth k s) ≤ length s
  start_of-le =
      let l = ap length (skip-drop k s) in
      let r = fits-room (get_or ts k 0) (skip k s) (whole-fits ts s k w h) in
      omega (arith, nth-length, start_of-position k s, length-drop (position_of k s) s)

  -- the part of a whole record between a field's bounds is the field's bytes
  pub nth-slice : take (length (nth k s)) (drop (start_of k s) s) ≡ nth k s
  unfolding body
  nth-slice =
      ap (λ (n : ℕ). take n (drop (start_of k s) s)) nth-length
      ∙ ap (λ (n : ℕ). take (body_length (skip k s)) (drop n s)) (start_of-position k s)
      ∙ ap (λ (l : List ℕ). take (body_length (skip k s)) l) (sym (drop-drop 3 (position_of k s) s))
      ∙ ap (λ (l : List ℕ). take (body_length (skip k s)) (drop 3 l)) (sym (skip-drop k s))
      ∙ sym (nth-body k s)

-- ---- what reading a field answers

module _ (s : List ℕ) (at t : ℕ) where
  pub field_at-some : (x : Span) → field_at s at t ≡ Some x
      → (fits t (drop at s) ≡ true) × (x.start ≡ at + 3) × (x.len ≡ body_length (drop at s))
  unfolding field_at
  field_at-some x e =
      let p = pick-some (fits t (drop at s)) _ x e in
      (p.0, ap (λ (y : Span). y.start) p.1, ap (λ (y : Span). y.len) p.1)

  pub field_at-none : field_at s at t ≡ None → fits t (drop at s) ≡ false
  unfolding field_at
  field_at-none e = pick-none (fits t (drop at s)) _ e

  -- the field found ends within the bytes
  pub end-within : (x : Span) → field_at s at t ≡ Some x → x.start + x.len ≤ length s
  end-within x e =
      let f = field_at-some x e in
      omega (arith, f.1, f.2, fits-room t (drop at s) f.0, length-drop at s)

-- ---- a list of spans

abbrev pub no_span : Span
no_span = record { start = 0; len = 0 }

pub start-at : (spans : List Span) (i : ℕ) → get_or (starts_in spans) i 0 ≡ (get_or spans i no_span).start
unfolding starts_in
start-at spans i = get_or-map (λ (x : Span). x.start) spans i no_span

pub len-at : (spans : List Span) (i : ℕ) → get_or (lens_in spans) i 0 ≡ (get_or spans i no_span).len
unfolding lens_in
len-at spans i = get_or-map (λ (x : Span). x.len) spans i no_span
