-- Laws of the order of the vectors (specs/Inner/Masks): each comes once, and differs from the one before in one target. The sixteen
-- cases are computed. Assumes nothing.
use Prim.Native.Nat.{ℕ, zero, suc, ◌+◌, ◌/◌, ◌%◌, ◌^◌, ◌<◌}
use mathlib.Core.Path.{◌≡◌, refl, sym, ◌∙◌, ap}
use mathlib.Core.Logic.{⊎_elim}
use mathlib.Core.List.{[], ◌∷◌}
use mathlib.Core.Bool.{Bool, true, false, cond, not, true≢false}
use borrow.Author.Tests.{lt-ltb, eq-eqb, ne_eqb}
use native.Mathlib.Omega.{arith}
use native.Mathlib.Nat.{eq-or-lt_of_le, add-zero, div-one}
use lib.Dec.{T, eqb, ltb, eqb→eq, ltb→lt}
use lib.Bits.{bit_xor}
use lib.ListN.{get_or}
use Rattle.engine.specs.Eval.{bit}
use Rattle.engine.specs.Inner.Masks.{swapped, ordered, rank, turns, Among}

-- ---- a test computed for each number below a bound

abbrev both : Bool → Bool → Bool
both true b = b
both false b = false

both_left : (a b : Bool) → T (both a b) → T a
both_left true b t = tt
both_left false b t = t

both_right : (a b : Bool) → T (both a b) → T b
both_right true b t = t
both_right false b t = absurd t

abbrev every : (ℕ → Bool) → ℕ → Bool
every p zero = true
every p (suc n) = both (p n) (every p n)

at : (p : ℕ → Bool) (n : ℕ) → T (every p n) → (i : ℕ) → i < n → T (p i)
at p zero t i h = let f : ⊥ = omega arith in absurd f
at p (suc n) t i h =
    ⊎_elim
    (λ (e : i ≡ n). rw e (both_left (p n) (every p n) t))
    (λ (l : i < n). at p n (both_right (p n) (every p n) t) i l)
    (eq-or-lt_of_le (omega arith))

abbrev or : Bool → Bool → Bool
or a b = cond a true b

or_left : (a b : Bool) → a ≡ true → or a b ≡ true
or_left a b e = rw e

or_right : (a b : Bool) → b ≡ true → or a b ≡ true
or_right true b e = refl
or_right false b e = e

holds : (a b : Bool) → T (cond (not a) true b) → a ≡ true → T b
holds true b t e = t
holds false b t e = absurd (true≢false (sym e))

keeps : (a b : Bool) → T (cond a true b) → a ≡ false → T b
keeps true b t e = absurd (true≢false e)
keeps false b t e = t

-- ---- the order, for each of the targets u that may be set most often

module _ (u : ℕ) (l : u < 4) where
  pub rank-ordered : (s : ℕ) → s < 16 → rank u (ordered u s) ≡ s
  unfolding rank ordered swapped bit
  rank-ordered s h =
      let p : ℕ → ℕ → Bool = λ u s. eqb (rank u (ordered u s)) s in
      eqb→eq (rank u (ordered u s)) s (at (p u) 16 (at (λ u. every (p u) 16) 4 tt u l) s h)

  pub ordered-rank : (v : ℕ) → v < 16 → ordered u (rank u v) ≡ v
  unfolding rank ordered swapped bit
  ordered-rank v h =
      let p : ℕ → ℕ → Bool = λ u v. eqb (ordered u (rank u v)) v in
      eqb→eq (ordered u (rank u v)) v (at (p u) 16 (at (λ u. every (p u) 16) 4 tt u l) v h)

  pub ordered-lt : (s : ℕ) → s < 16 → ordered u s < 16
  unfolding ordered swapped bit
  ordered-lt s h =
      let p : ℕ → ℕ → Bool = λ u s. ltb (ordered u s) 16 in
      ltb→lt (ordered u s) 16 (at (p u) 16 (at (λ u. every (p u) 16) 4 tt u l) s h)

  pub ordered-none : ordered u 0 ≡ 0
  unfolding ordered swapped bit
  ordered-none = eqb→eq (ordered u 0) 0 (at (λ u. eqb (ordered u 0) 0) 4 tt u l)

  pub turns-lt : (s : ℕ) → s < 16 → turns u s < 4
  unfolding turns
  turns-lt s h =
      let p : ℕ → ℕ → Bool = λ u s. ltb (turns u s) 4 in
      ltb→lt (turns u s) 4 (at (p u) 16 (at (λ u. every (p u) 16) 4 tt u l) s h)

  -- the targets that a step does not set keep their bits
  pub ordered-kept : (s k : ℕ) → s < 15 → k < 4 → (k ≡ turns u (s + 1) → ⊥) → bit k (ordered u (s + 1)) ≡ bit k (ordered u s)
  unfolding turns ordered swapped bit
  ordered-kept s k h n d =
      let p : ℕ → ℕ → ℕ → Bool = λ u s k. cond (eqb k (turns u (s + 1))) true (eqb (bit k (ordered u (s + 1))) (bit k (ordered u s))) in
      eqb→eq (bit k (ordered u (s + 1))) (bit k (ordered u s))
      (keeps (eqb k (turns u (s + 1))) (eqb (bit k (ordered u (s + 1))) (bit k (ordered u s)))
      (at (p u s) 4 (at (λ s. every (p u s) 4) 15 (at (λ u. every (λ s. every (p u s) 4) 15) 4 tt u l) s h) k n)
      (ne_eqb k (turns u (s + 1)) d))

  module _ (m : ℕ) (h : m < 5) (a : Among m u) where
    among : or (eqb u 0) (ltb u m) ≡ true
    among = ⊎_elim (λ (e : u ≡ 0). or_left (eqb u 0) (ltb u m) (eq-eqb u 0 e)) (λ (e : u < m). or_right (eqb u 0) (ltb u m) (lt-ltb u m e)) a

    -- a vector of m targets comes among the first 2 ^ m steps, and no other does
    pub rank-side : (v : ℕ) → v < 16 → cond {A = ℕ} (ltb (rank u v) (2 ^ m)) 1 0 ≡ cond (ltb v (2 ^ m)) 1 0
    unfolding rank swapped bit
    rank-side v k =
        let q : ℕ → ℕ → ℕ → Bool = λ m u v. eqb (cond {A = ℕ} (ltb (rank u v) (2 ^ m)) 1 0) (cond {A = ℕ} (ltb v (2 ^ m)) 1 0) in
        let p : ℕ → ℕ → ℕ → Bool = λ m u v. cond (not (or (eqb u 0) (ltb u m))) true (q m u v) in
        eqb→eq (cond (ltb (rank u v) (2 ^ m)) 1 0) (cond (ltb v (2 ^ m)) 1 0)
        (holds (or (eqb u 0) (ltb u m)) (q m u v)
        (at (p m u) 16 (at (λ u. every (p m u) 16) 4 (at (λ m. every (λ u. every (p m u) 16) 4) 5 tt m h) u l) v k)
        among)

    -- the target that a step sets is one of the m whose vectors are taken
    pub turns-among : (s : ℕ) → 0 < s → s < 2 ^ m → s < 16 → turns u s < m
    unfolding turns
    turns-among s z w k =
        let q : ℕ → ℕ → ℕ → Bool = λ m u s. cond (not (ltb s (2 ^ m))) true (ltb (turns u s) (m + cond (eqb s 0) 4 0)) in
        let p : ℕ → ℕ → ℕ → Bool = λ m u s. cond (not (or (eqb u 0) (ltb u m))) true (q m u s) in
        let t =
        holds (ltb s (2 ^ m)) (ltb (turns u s) (m + cond (eqb s 0) 4 0))
        (holds (or (eqb u 0) (ltb u m)) (q m u s)
        (at (p m u) 16 (at (λ u. every (p m u) 16) 4 (at (λ m. every (λ u. every (p m u) 16) 4) 5 tt m h) u l) s k)
        among)
        (lt-ltb s (2 ^ m) w) in
        let e : eqb s 0 ≡ false = ne_eqb s 0 (λ x. omega arith) in
        rw add-zero at (rw e at (ltb→lt (turns u s) (m + cond (eqb s 0) 4 0) t))

-- ---- as the code finds them

abbrev flips : ℕ → ℕ
flips s = get_or (0 ∷ 0 ∷ 1 ∷ 0 ∷ 2 ∷ 0 ∷ 1 ∷ 0 ∷ 3 ∷ 0 ∷ 1 ∷ 0 ∷ 2 ∷ 0 ∷ 1 ∷ 0 ∷ []) s 0

pub flips-lt : (s : ℕ) → s < 16 → flips s < 4
flips-lt s h = ltb→lt (flips s) 4 (at (λ s. ltb (flips s) 4) 16 tt s h)

module _ (u s : ℕ) where
  pub turns-first : flips s ≡ 0 → u ≡ turns u s
  unfolding turns
  turns-first e = rw (eq-eqb (flips s) 0 e)

  pub turns-other : (flips s ≡ 0 → ⊥) → flips s ≡ u → 0 ≡ turns u s
  unfolding turns
  turns-other n e = rw (ne_eqb (flips s) 0 n, eq-eqb (flips s) u e)

  pub turns_same : (flips s ≡ 0 → ⊥) → (flips s ≡ u → ⊥) → flips s ≡ turns u s
  unfolding turns
  turns_same n e = rw (ne_eqb (flips s) 0 n, ne_eqb (flips s) u e)

  abbrev code : ℕ
  code = bit_xor s (s / 2)

  pub ordered-plain : code / 2 ^ u % 2 ≡ code % 2 → code ≡ ordered u s
  unfolding ordered swapped bit
  ordered-plain e = rw (eq-eqb (code / 2 ^ u % 2) (code / 2 ^ 0 % 2) (e ∙ ap (λ (x : ℕ). x % 2) (sym (div-one code))))

  pub ordered-swapped : (x : ℕ) → x ≡ 2 ^ u → (code / 2 ^ u % 2 ≡ code % 2 → ⊥) → bit_xor code (1 + x) ≡ ordered u s
  unfolding ordered swapped bit
  ordered-swapped x q n =
      rw (q, ne_eqb (code / 2 ^ u % 2) (code / 2 ^ 0 % 2) (λ e. n (e ∙ ap (λ (x : ℕ). x % 2) (div-one code))))
