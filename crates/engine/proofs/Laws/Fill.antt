-- Laws of a loop that fills places of a list one after the other. Assumes nothing.
use Prim.Native.Nat.{ℕ, ◌+◌, ◌-◌, ◌≤◌, ◌<◌}
use mathlib.Core.Path.{◌≡◌, refl, ◌∙◌, ap}
use mathlib.Core.List.{List}
use mathlib.Core.Logic.{inl, inr, ⊎_elim}
use native.Mathlib.Omega.{arith}
use native.Mathlib.Nat.{eq-zero-or-pos, zero-add}
use lib.ListN.{length, get_or, set, length-set}
use lib.Seq.{get_or-set_same, get_or-set_other}
use Rattle.engine.specs.Inner.Kernel.{Filled}

pub fill_none : (f : ℕ → ℕ) (at : ℕ) (d : List ℕ) → Filled f at 0 d d
fill_none f at d = record { long = refl; put = λ k h. let z : ⊥ = omega arith in absurd z; kept = λ p h. refl }

-- a store of the next value, at place q
pub fill-next : (f : ℕ → ℕ) (at n : ℕ) (before after : List ℕ) → Filled f at n before after → (q v : ℕ) → q ≡ at + n
    → q < length after → v ≡ f n → Filled f at (n + 1) before (set after q v)
fill-next f at n before after l q v e h s =
    record {
      long = length-set after q v ∙ l.long;
      put =
          λ k o.
          ⊎_elim
          (λ (m : n - k ≡ 0). let i : at + k ≡ q = omega arith in let j : n ≡ k = omega arith in
          rw i (get_or-set_same after q v 0 h) ∙ s ∙ ap f j)
          (λ (m : 0 < n - k). get_or-set_other after q (at + k) v 0 (λ x. omega arith) ∙ l.put k (omega arith))
          (eq-zero-or-pos (n - k));
      kept =
          λ p o.
          get_or-set_other after q p v 0 (λ x. ⊎_elim (λ w. omega arith) (λ w. omega arith) o)
          ∙ l.kept p (⊎_elim (λ w. inl w) (λ (w : at + (n + 1) ≤ p). inr (omega arith)) o);
    }

-- from place 0 on
pub fill-at : {f : ℕ → ℕ} {n : ℕ} {before after : List ℕ} → Filled f 0 n before after → (k : ℕ) → k < n → get_or after k 0 ≡ f k
fill-at l k h = rw zero-add at (l.put k h)
