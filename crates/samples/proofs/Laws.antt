-- Laws of the hash of a list. Assumes nothing.
use Rattle.std.proofs.Common.{ℕ, suc, ◌+◌, ◌≤◌, ◌<◌, ◌≡◌, List, length, drop, get_or, refl, sym, ap, add-one, arith, drop-cons}
use Rattle.std.proofs.Math.Seq.{drop-length}
use Rattle.samples.specs.Sample.{mixed, hashed_by}

module _ {A : Type 0} (f : A → ℕ) (h : ℕ) (a : List A) (i : ℕ) where
  -- the value at i, and then those after it
  pub hashed-cons : (x : A) → i < length a → x ≡ get_or a i x → hashed_by f h (drop i a) ≡ hashed_by f (mixed h (f x)) (drop (i + 1) a)
  unfolding hashed_by
  hashed-cons x l e =
      rw (add-one i, drop-cons a i x l) (ap (λ (y : A). hashed_by f (mixed h (f y)) (drop (suc i) a)) (sym e))

  pub hashed_nil : i ≤ length a → length a ≤ i → hashed_by f h (drop i a) ≡ h
  unfolding hashed_by
  hashed_nil l m = let e : i ≡ length a = omega arith in rw (e, drop-length a) refl
