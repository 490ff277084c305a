-- Laws of arrays that are made element by element: one element more, and those that `array::from_fn` makes by a closure that keeps its
-- captures. Assumes nothing.
use Prim.Native.Nat.{ℕ, zero, suc, ◌+◌, ◌-◌, ◌≤◌, ◌<◌}
use mathlib.Core.Path.{◌≡◌}
use mathlib.Core.List.{List}
use mathlib.Core.Logic.{⊎_elim}
use native.Mathlib.Nat.{eq-zero-or-pos}
use native.Mathlib.Omega.{arith}
use denote.Param.Members.{Mut}
use lib.ListN.{length, get_or, set}
use lib.Seq.{get_or-set_same, get_or-set_other}
use Rattle.std.specs.Array.{IsFromFnResult, IsFromFnResultFrom}
use Rattle.std.specs.Fn.{Called}

-- what holds of the elements before n holds of one more
pub set_next : (P : ℕ → ℕ → Type 0) (xs : List ℕ) (n x : ℕ) → n < length xs → ((k : ℕ) → k < n → P k (get_or xs k 0)) → P n x
    → (k : ℕ) → k < n + 1 → P k (get_or (set xs n x) k 0)
set_next P xs n x l h p k b =
    ⊎_elim
    (λ (e : n - k ≡ 0). let s : n ≡ k = omega arith in rw (← s, get_or-set_same xs n x 0 l) p)
    (λ (e : 0 < n - k). rw (get_or-set_other xs n k x 0 (λ q. omega arith)) (h k (omega arith)))
    (eq-zero-or-pos (n - k))

module _ {F : Type 0} {g : Mut F (ℕ × Unit {0}) ℕ} (P : ℕ → ℕ → Type 0) (f : F) where
  made_from : (ys : List ℕ) (i n : ℕ) → ((k y : ℕ) (q : F) → k < i + n → Called g f (k, tt) y q → (q ≡ f) × P k y)
      → IsFromFnResultFrom g f ys i n → (k : ℕ) → i ≤ k → k < i + n → P k (get_or ys k 0)
  made_from ys i zero h m k a b = let e : ⊥ = omega arith in absurd e
  made_from ys i (suc n) h (q, y, at, call, rest) k a b =
      let c = h i y q (omega arith) call in
      ⊎_elim
      (λ (e : k - i ≡ 0). let s : i ≡ k = omega arith in rw (← s) (rw (at.1 0) c.1))
      (λ (e : 0 < k - i).
      made_from ys (i + 1) n (λ j z p l. h j z p (omega arith)) (rw c.0 at rest) k (omega arith) (omega arith))
      (eq-zero-or-pos (k - i))

  -- what each call gives holds of each element
  pub from_fn_each : {ys : List ℕ} {n : ℕ} → IsFromFnResult g f ys n
      → ((k y : ℕ) (q : F) → k < n → Called g f (k, tt) y q → (q ≡ f) × P k y) → (k : ℕ) → k < n → P k (get_or ys k 0)
  from_fn_each {ys} {n} m h k l = made_from ys 0 n (λ j y q b. h j y q (omega arith)) m.each k (omega arith) (omega arith)
