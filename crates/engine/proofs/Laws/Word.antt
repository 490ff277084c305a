-- Laws of the bits of words: and, or, xor and complement bit by bit. Assumes nothing.
use Prim.Native.Nat.{ℕ, zero, suc, ◌+◌, ◌-◌, ◌*◌, ◌/◌, ◌%◌, ◌^◌, min, max, ◌<◌}
use mathlib.Core.Path.{◌≡◌, ◌∙◌, ap}
use native.Mathlib.Omega.{arith}
use lib.Arith.{digits_div}
use lib.Bits.{bit_and, bit_or, bit_xor, differ, and_step, or_step, xor_step, and_shr, or_shr, xor_shr}
use lib.Pow.{pow_pos, pow-add, split, shr_lt, ones_split}
use native.Mathlib.Nat.{add-mul, mod-lt, zero-div, div-one, eq-zero-or-pos}
use Rattle.engine.specs.Eval.{bit}
use Rattle.std.specs.Int.{trailing_ones}
use Rattle.std.specs.Int.Count.{count_trailing_zeros, trailing_of_zero}
use Rattle.std.proofs.Common.{w64}
use Rattle.std.proofs.lemmas.Nat.{trailing_le}
use Rattle.std.proofs.lemmas.Nat.Bits.{bit_at-trailing_ones, bit_at_ones}
use mathlib.Core.Logic.{◌⊎◌, inl, inr, ⊎_elim}

-- the lowest bit of a number made of a number and a bit
low : (q b : ℕ) → b < 2 → (q * 2 + b) % 2 ≡ b
low q b h = omega arith

differ-lt : (x y : ℕ) → x < 2 → y < 2 → differ x y < 2
differ-lt zero zero h k = omega arith
differ-lt zero (suc y) h k = k
differ-lt (suc zero) zero h k = omega arith
differ-lt (suc zero) (suc y) h k = omega arith
differ-lt (suc (suc x)) y h k = let f : ⊥ = omega arith in absurd f

pub bit-and : (i a b : ℕ) → bit i (bit_and a b) ≡ min (bit i a) (bit i b)
unfolding bit
bit-and i a b =
    ap (λ (x : ℕ). x % 2) (and_shr a b i ∙ and_step (a / 2 ^ i) (b / 2 ^ i))
    ∙ low (bit_and (a / 2 ^ i / 2) (b / 2 ^ i / 2)) (min (a / 2 ^ i % 2) (b / 2 ^ i % 2)) (omega arith)

pub bit-or : (i a b : ℕ) → bit i (bit_or a b) ≡ max (bit i a) (bit i b)
unfolding bit
bit-or i a b =
    ap (λ (x : ℕ). x % 2) (or_shr a b i ∙ or_step (a / 2 ^ i) (b / 2 ^ i))
    ∙ low (bit_or (a / 2 ^ i / 2) (b / 2 ^ i / 2)) (max (a / 2 ^ i % 2) (b / 2 ^ i % 2)) (omega arith)

pub bit-xor : (i a b : ℕ) → bit i (bit_xor a b) ≡ differ (bit i a) (bit i b)
unfolding bit
bit-xor i a b =
    ap (λ (x : ℕ). x % 2) (xor_shr a b i ∙ xor_step (a / 2 ^ i) (b / 2 ^ i))
    ∙ low (bit_xor (a / 2 ^ i / 2) (b / 2 ^ i / 2)) (differ (a / 2 ^ i % 2) (b / 2 ^ i % 2))
    (differ-lt (a / 2 ^ i % 2) (b / 2 ^ i % 2) (omega arith) (omega arith))

-- the complement of x in 1 + h + i bits, as the complement of its upper part and of its lower i bits
complement-split : (h i x : ℕ) → x < 2 ^ (1 + h + i)
    → (2 ^ (1 + h + i) - 1) - x ≡ ((2 ^ (1 + h) - 1) - x / 2 ^ i) * 2 ^ i + ((2 ^ i - 1) - x % 2 ^ i)
complement-split h i x l =
    let q = x / 2 ^ i in
    let d = (2 ^ (1 + h) - 1) - q in
    let u : q < 2 ^ (1 + h) = shr_lt (1 + h) i l in
    let a : 2 ^ (1 + h) - 1 ≡ q + d = omega arith in
    let e : (2 ^ (1 + h) - 1) * 2 ^ i ≡ q * 2 ^ i + d * 2 ^ i = ap (λ (y : ℕ). y * 2 ^ i) a ∙ add-mul q d (2 ^ i) in
    let s = split x i in
    let r : x % 2 ^ i < 2 ^ i = mod-lt x (pow_pos i) in
    let o = ones_split (1 + h) i in
    omega arith

half-complement : (p q : ℕ) → q < 2 * p → ((2 * p - 1) - q) % 2 ≡ 1 - q % 2
half-complement p q l = omega arith

bit-complement : (h i x : ℕ) → x < 2 ^ (1 + h + i) → bit i ((2 ^ (1 + h + i) - 1) - x) ≡ 1 - bit i x
unfolding bit
bit-complement h i x l =
    let q = x / 2 ^ i in
    let u : q < 2 ^ (1 + h) = shr_lt (1 + h) i l in
    let t : 2 ^ (1 + h) ≡ 2 * 2 ^ h = pow-add 2 1 h in
    let p = pow_pos i in
    ap (λ (y : ℕ). y / 2 ^ i % 2) (complement-split h i x l)
    ∙ ap (λ (y : ℕ). y % 2) (digits_div ((2 ^ (1 + h) - 1) - q) (omega arith))
    ∙ ap (λ (y : ℕ). ((y - 1) - q) % 2) t
    ∙ half-complement (2 ^ h) q (omega arith)

-- bit i of a word's complement is the other value
pub bit_not : (i x : ℕ) → i < 64 → x < 2 ^ 64 → bit i ((2 ^ 64 - 1) - x) ≡ 1 - bit i x
bit_not i x h l =
    let n : 1 + (63 - i) + i ≡ 64 = omega arith in
    rw n at (bit-complement (63 - i) i x (rw n l))

pub bit-lowest : (x : ℕ) → bit 0 x ≡ x % 2
unfolding bit
bit-lowest x = ap (λ (y : ℕ). y % 2) (div-one x)

pub bit-zero : (i : ℕ) → bit i 0 ≡ 0
unfolding bit
bit-zero i = ap (λ (x : ℕ). x % 2) (zero-div (2 ^ i))

pub bit-ones : (i : ℕ) → i < 64 → bit i (2 ^ 64 - 1) ≡ 1
bit-ones i h = bit_not i 0 h (omega arith) ∙ ap (λ (v : ℕ). 1 - v) (bit-zero i)

-- ---- the ones that a word begins with

-- a word has a 0, or is all ones
word_cases : (x : ℕ) → x < 2 ^ 64 → (x + 1 < 2 ^ 64) ⊎ (x ≡ 2 ^ 64 - 1)
word_cases x h =
    ⊎_elim (λ (e : 2 ^ 64 - 1 - x ≡ 0). inr (omega arith)) (λ (e : 0 < 2 ^ 64 - 1 - x). inl (omega arith)) (eq-zero-or-pos (2 ^ 64 - 1 - x))

pub ones_below : (x : ℕ) → x < 2 ^ 64 → (i : ℕ) → i < trailing_ones w64 x → bit i x ≡ 1
unfolding bit
ones_below x h i l =
    ⊎_elim
    (λ (k : x + 1 < 2 ^ 64). (bit_at-trailing_ones w64 x k).2 i l)
    (λ (e : x ≡ 2 ^ 64 - 1). rw e (bit_at_ones 64 i (omega (arith, trailing_le 64 (2 ^ 64 - 1 - x)))))
    (word_cases x h)

-- .. and the place behind them
pub zero_after : (x : ℕ) → x < 2 ^ 64 → trailing_ones w64 x < 64 → bit (trailing_ones w64 x) x ≡ 0
unfolding bit
zero_after x h l =
    ⊎_elim
    (λ (k : x + 1 < 2 ^ 64). (bit_at-trailing_ones w64 x k).1)
    (λ (e : x ≡ 2 ^ 64 - 1). let f : count_trailing_zeros 64 0 < 64 = rw e at l in absurd (omega (arith, trailing_of_zero 64)))
    (word_cases x h)
