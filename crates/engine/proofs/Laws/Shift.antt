-- Laws of the bits of a number that is shifted or cut. Assumes nothing.
use Prim.Native.Nat.{ℕ, ◌+◌, ◌-◌, ◌*◌, ◌/◌, ◌%◌, ◌^◌, ◌≤◌, ◌<◌}
use mathlib.Core.Path.{◌≡◌, sym, ◌∙◌, ap}
use native.Mathlib.Nat.{add-zero, mul-le-mul_right}
use native.Mathlib.Omega.{arith}
use lib.Pow.{split, shr-shr, shl-shr, field, mod-mod-pow}
use Rattle.engine.specs.Eval.{bit}

pub bit-shr : (j r a : ℕ) → bit j (a / 2 ^ r) ≡ bit (r + j) a
unfolding bit
bit-shr j r a = ap (λ (y : ℕ). y % 2) (shr-shr a r j)

pub bit_shifted : (r a : ℕ) → bit r a ≡ bit 0 (a / 2 ^ r)
bit_shifted r a = sym (bit-shr 0 r a ∙ ap (λ (k : ℕ). bit k a) (add-zero r))

-- a bit below n is not lost where the number is cut to n bits
pub bit-mod : (n j x : ℕ) → j < n → bit j (x % 2 ^ n) ≡ bit j x
unfolding bit
bit-mod n j x h =
    let e : (n - 1 - j + 1) + j ≡ n = omega arith in
    ap (λ (m : ℕ). x % 2 ^ m / 2 ^ j % 2) (sym e)
    ∙ ap (λ (y : ℕ). y % 2) (field x (n - 1 - j + 1) j)
    ∙ mod-mod-pow (x / 2 ^ j) (n - 1 - j) 1

pub bit-shl : (j l b : ℕ) → l ≤ j → j < 64 → bit j (b * 2 ^ l % 2 ^ 64) ≡ bit (j - l) b
unfolding bit
bit-shl j l b h u =
    let e : l + (j - l) ≡ j = omega arith in
    bit-mod 64 j (b * 2 ^ l) u
    ∙ ap (λ (m : ℕ). bit m (b * 2 ^ l)) (sym e)
    ∙ sym (bit-shr (j - l) l (b * 2 ^ l))
    ∙ ap (bit (j - l)) (shl-shr b l)

-- a bit's share of the number
pub bit_le : (e i : ℕ) → bit e i * 2 ^ e ≤ i
unfolding bit
bit_le e i =
    let q = i / 2 ^ e in
    let h : q % 2 ≤ q = omega arith in
    omega (arith, split i e, mul-le-mul_right (2 ^ e) h)
