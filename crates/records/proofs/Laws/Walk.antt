-- Laws of a walk: what it knows after k fields, and that at its end it says whether the record is whole. Assumes nothing.
use Prim.Native.Nat.{ℕ, suc, ◌+◌, ◌-◌, ◌≤◌, ◌<◌}
use mathlib.Core.Path.{◌≡◌, refl, sym, ◌∙◌, ap}
use mathlib.Core.List.{List}
use mathlib.Core.Bool.{Bool, true, false}
use native.Mathlib.Nat.{add-zero}
use native.Mathlib.Omega.{arith}
use borrow.Author.Tests.{eq-eqb, ne_eqb, eqb-true, eqb-false}
use borrow.Author.Count.{below_none, below_more}
use lib.Dec.{eqb}
use lib.ListN.{length, get_or, drop, set, length-drop, length-set, length-map}
use Rattle.std.proofs.lemmas.List.{map-set}
use lib.Seq.{drop-drop, get_or-set_same, get_or-set_other}
use Rattle.std.specs.Prelude.{Some, None}
use Rattle.records.specs.Bytes.{up_from, body_length, rest, whole, nth}
use Rattle.records.specs.Inner.{start_of, field_at, starts_in, lens_in, Spanned}
use Rattle.records.specs.declared.field.Span.{Span}
use Rattle.records.proofs.Laws.Field.{skip, skip-drop, position_of, position_of-zero, position_of-suc, start_of-position, length-nth, field_at-some, field_at-none, end-within}

-- ---- one field more

module _ (s : List ℕ) (at t : ℕ) where
  pub whole-none : (n : ℕ) → field_at s at t ≡ None → whole (up_from t (suc n)) (drop at s) ≡ false
  unfolding whole up_from
  whole-none n e = rw (field_at-none s at t e)

  module _ (x : Span) (e : field_at s at t ≡ Some x) where
    whole-some : (n : ℕ) → whole (up_from t (suc n)) (drop at s) ≡ whole (up_from (suc t) n) (drop (x.start + x.len) s)
    unfolding whole up_from rest
    whole-some n =
        let f = field_at-some s at t x e in
        let q : at + (3 + body_length (drop at s)) ≡ x.start + x.len = omega (arith, f.1, f.2) in
        rw (f.0, drop-drop (3 + body_length (drop at s)) at s, q)

    module _ (k : ℕ) (p : at ≡ position_of k s) where
      skipped : drop at s ≡ skip k s
      skipped = ap (λ (n : ℕ). drop n s) p ∙ sym (skip-drop k s)

      body-start : x.start ≡ start_of k s
      body-start = omega (arith, p, (field_at-some s at t x e).1, start_of-position k s)

      body-length : x.len ≡ length (nth k s)
      body-length =
          let f = field_at-some s at t x e in
          f.2 ∙ ap body_length skipped ∙ sym (length-nth k t s (rw skipped at f.0))

      body_end : x.start + x.len ≡ position_of (suc k) s
      body_end =
          let f = field_at-some s at t x e in
          omega (arith, p, f.1, f.2, ap body_length skipped, position_of-suc k s)

store-more : (f : ℕ → ℕ) (xs : List ℕ) (k x : ℕ) → k < length xs → x ≡ f k → ((i : ℕ) → i < k → get_or xs i 0 ≡ f i)
    → (i : ℕ) → i < suc k → get_or (set xs k x) i 0 ≡ f i
store-more f xs k x h e old i l =
    below_more (λ j. get_or (set xs k x) j 0 ≡ f j) k
    (λ j m. get_or-set_other xs k j x 0 (omega arith) ∙ old j m)
    (get_or-set_same xs k x 0 h ∙ e)
    i (omega arith)

-- ---- a walk after k of n fields

-- the reader stands at at behind them; what is left decides whether the record is whole
pub record Walking (s : List ℕ) (t n k at : ℕ) (spans : List Span) : Type 0 where
  pub long : length spans ≡ 6
  pub inside : at ≤ length s
  pub place : at ≡ position_of k s
  pub spanned : Spanned s k spans
  pub left : whole (up_from t n) s ≡ whole (up_from (t + k) (n - k)) (drop at s)

pub walk-start : (s : List ℕ) (t n : ℕ) (spans : List Span) → length spans ≡ 6 → Walking s t n 0 0 spans
walk-start s t n spans h =
    record {
      long = h;
      inside = omega arith;
      place = sym (position_of-zero s);
      spanned = record { starts = below_none _; lens = below_none _ };
      left = ap (λ (m : ℕ). whole (up_from m n) s) (sym (add-zero t)) ∙ ap (λ (m : ℕ). whole (up_from (t + 0) m) s) (omega arith);
    }

module _ (s : List ℕ) (t n k at : ℕ) (spans : List Span) (p : Walking s t n k at spans) (h : k < n) where
  left-more : whole (up_from t n) s ≡ whole (up_from (t + k) (suc (n - k - 1))) (drop at s)
  left-more =
      let e : n - k ≡ suc (n - k - 1) = omega arith in
      p.left ∙ ap (λ (m : ℕ). whole (up_from (t + k) m) (drop at s)) e

  pub walk-missing : field_at s at (t + k) ≡ None → whole (up_from t n) s ≡ false
  walk-missing e = left-more ∙ whole-none s at (t + k) (n - k - 1) e

  module _ (x : Span) (e : field_at s at (t + k) ≡ Some x) where
    pub walk-more : k < 6 → Walking s t n (k + 1) (x.start + x.len) (set spans k x)
    unfolding starts_in lens_in
    walk-more l =
        let b = p.spanned in
        record {
          long = length-set spans k x ∙ p.long;
          inside = end-within s at (t + k) x e;
          place = body_end s at (t + k) x e k p.place ∙ ap (λ (m : ℕ). position_of m s) (omega arith);
          spanned =
              record {
                starts = λ i h.
                    ap (λ (ys : List ℕ). get_or ys i 0) (map-set _ spans k x)
                    ∙ store-more (λ j. start_of j s) (starts_in spans) k x.start
                    (omega (arith, length-map spans (λ (y : Span). y.start), p.long)) (body-start s at (t + k) x e k p.place) b.starts i (omega arith);
                lens = λ i h.
                    ap (λ (ys : List ℕ). get_or ys i 0) (map-set _ spans k x)
                    ∙ store-more (λ j. length (nth j s)) (lens_in spans) k x.len
                    (omega (arith, length-map spans (λ (y : Span). y.len), p.long)) (body-length s at (t + k) x e k p.place) b.lens i (omega arith);
              };
          left =
              left-more
              ∙ whole-some s at (t + k) x e (n - k - 1)
              ∙ ap (λ (m : ℕ). whole (up_from m (n - k - 1)) (drop (x.start + x.len) s)) (omega arith)
              ∙ ap (λ (m : ℕ). whole (up_from (t + (k + 1)) m) (drop (x.start + x.len) s)) (omega arith);
        }

-- ---- the walk's end

pub ends_there : (s : List ℕ) (at : ℕ) → at ≤ length s → eqb (length (drop at s)) 0 ≡ eqb at (length s)
ends_there s at h = go (eqb at (length s)) refl
  where
    go : (b : Bool) → eqb at (length s) ≡ b → eqb (length (drop at s)) 0 ≡ b
    go true e = eq-eqb (length (drop at s)) 0 (omega (arith, length-drop at s, eqb-true at (length s) e))
    go false e = ne_eqb (length (drop at s)) 0 (λ z. eqb-false at (length s) e (omega (arith, length-drop at s)))

pub walk-ends : (s : List ℕ) (t n at : ℕ) (spans : List Span) → Walking s t n n at spans → whole (up_from t n) s ≡ eqb at (length s)
unfolding whole up_from
walk-ends s t n at spans p =
    let e : n - n ≡ 0 = omega arith in
    p.left ∙ ap (λ (m : ℕ). whole (up_from (t + n) m) (drop at s)) e ∙ ends_there s at p.inside
