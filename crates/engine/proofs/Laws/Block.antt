-- Laws of blocks of 64 inputs: the six patterns, and the bits that are the same in a whole block. Assumes nothing.
use Prim.Native.Nat.{ℕ, zero, suc, ◌+◌, ◌-◌, ◌*◌, ◌/◌, ◌%◌, ◌^◌, ◌≤◌, ◌<◌}
use mathlib.Core.Path.{◌≡◌, sym, ◌∙◌, ap}
use mathlib.Core.Bool.{Bool, true}
use native.Mathlib.Nat.{div-one}
use native.Mathlib.Omega.{arith}
use borrow.Author.Tests.{eqb-true}
use lib.Dec.{eqb}
use lib.Pow.{shr-shr}
use Rattle.records.specs.Bytes.{up_from, all}
use Rattle.engine.specs.Eval.{bit}
use Rattle.engine.proofs.Laws.Choice.{all-iff-below}

-- ---- patterns: a test over the 64 scenarios, computed, and the rule at each

unfoldable pub pattern : ℕ → ℕ → Bool
pattern i p = all (λ j. eqb (bit j p) (bit i j)) (up_from 0 64)

pattern-at : (i p : ℕ) → pattern i p ≡ true → (j : ℕ) → j < 64 → bit j p ≡ bit i j
unfolding pattern
pattern-at i p e j h =
    eqb-true (bit j p) (bit i j) ((all-iff-below (λ k. eqb (bit k p) (bit i k)) 64).0 e j h)

-- the lowest six bits of an input are those of its scenario
low_bit : (i b j : ℕ) → i < 6 → bit i (64 * b + j) ≡ bit i j
unfolding bit
low_bit zero b j h = omega arith
low_bit (suc zero) b j h = omega arith
low_bit (suc (suc zero)) b j h = omega arith
low_bit (suc (suc (suc zero))) b j h = omega arith
low_bit (suc (suc (suc (suc zero)))) b j h = omega arith
low_bit (suc (suc (suc (suc (suc zero))))) b j h = omega arith
low_bit (suc (suc (suc (suc (suc (suc i)))))) b j h = let f : ⊥ = omega arith in absurd f

pub block-pattern : (i p b j : ℕ) → i < 6 → j < 64 → pattern i p ≡ true → bit j p ≡ bit i (64 * b + j)
block-pattern i p b j l h e = pattern-at i p e j h ∙ sym (low_bit i b j l)

-- the others are those of its block
pub high_bit : (i b j : ℕ) → 6 ≤ i → j < 64 → bit 0 (b / 2 ^ (i - 6)) ≡ bit i (64 * b + j)
unfolding bit
high_bit i b j l h =
    let n : 6 + (i - 6) ≡ i = omega arith in
    let d : (64 * b + j) / 64 ≡ b = omega arith in
    ap (λ (x : ℕ). x % 2) (div-one (b / 2 ^ (i - 6)) ∙ ap (λ (x : ℕ). x / 2 ^ (i - 6)) (sym d) ∙ shr-shr (64 * b + j) 6 (i - 6) ∙ ap (λ (k : ℕ). (64 * b + j) / 2 ^ k) n)
