-- Laws of a table's entries for the readings of a block (src/drive.rt): quarter by quarter in the transposed rows. Assumes nothing.
use Prim.Native.Nat.{ℕ, zero, suc, ◌+◌, ◌*◌, ◌/◌, ◌%◌, ◌^◌, ◌<◌}
use mathlib.Core.Path.{◌≡◌, sym, ◌∙◌, ap}
use mathlib.Core.List.{List}
use native.Mathlib.Nat.{div-one}
use native.Mathlib.Omega.{arith}
use lib.ListN.{get_or}
use Rattle.engine.specs.Inner.Note.{gathered}
use Rattle.engine.specs.Inner.Turn.{ColumnsTurned, Looked}
use Rattle.engine.proofs.Laws.Rows.{turned-back, gathered-quarter, mod-small}

-- ---- four numbers in a word

module _ (a b c d : ℕ) (h : a < 65536) (i : b < 65536) (j : c < 65536) (k : d < 65536) where
  abbrev four : ℕ
  four = a + b * 65536 + c * 4294967296 + d * 281474976710656

  four-first : four % 65536 ≡ a
  four-first = omega arith

  four-second : four / 65536 % 65536 ≡ b
  four-second = omega arith

  four-third : four / 4294967296 % 65536 ≡ c
  four-third = omega arith

  four-fourth : four / 281474976710656 % 65536 ≡ d
  four-fourth = omega arith

  -- as the code makes it
  pub four-word : a + b * 2 ^ 16 % 2 ^ 64 + c * 2 ^ 32 % 2 ^ 64 + d * 2 ^ 48 % 2 ^ 64 ≡ four
  four-word = omega arith

pub looked-four : (t : List ℕ) (x a b c d : ℕ) → a < 65536 → b < 65536 → c < 65536 → d < 65536 → a ≡ get_or t (x % 1024) 0
    → b ≡ get_or t (x / 2 ^ 16 % 1024) 0 → c ≡ get_or t (x / 2 ^ 32 % 1024) 0 → d ≡ get_or t (x / 2 ^ 48 % 1024) 0
    → Looked t x (a + b * 2 ^ 16 % 2 ^ 64 + c * 2 ^ 32 % 2 ^ 64 + d * 2 ^ 48 % 2 ^ 64)
looked-four t x a b c d h i j k p q r s zero l =
    rw (four-word a b c d h i j k, div-one x) (ap (λ (n : ℕ). n % 65536) (div-one _) ∙ four-first a b c d h i j k ∙ p)
looked-four t x a b c d h i j k p q r s (suc zero) l = rw (four-word a b c d h i j k) (four-second a b c d h i j k ∙ q)
looked-four t x a b c d h i j k p q r s (suc (suc zero)) l = rw (four-word a b c d h i j k) (four-third a b c d h i j k ∙ r)
looked-four t x a b c d h i j k p q r s (suc (suc (suc zero))) l =
    rw (four-word a b c d h i j k) (four-fourth a b c d h i j k ∙ s)
looked-four t x a b c d h i j k p q r s (suc (suc (suc (suc n)))) l = let f : ⊥ = omega arith in absurd f

-- ---- all the words

module _ (t x read found r : List ℕ) (p : ColumnsTurned 16 x read) (q : ColumnsTurned 16 found r)
    (l : (i : ℕ) → i < 256 → Looked t (get_or read i 0) (get_or found i 0)) where
  pub looked-rows : (y : ℕ) → y < 1024 → gathered r y ≡ get_or t (gathered x y % 1024) 0
  looked-rows y h =
      let i : ℕ = 16 * (y % 16) + y / 64 in
      let k : ℕ = y / 16 % 4 in
      gathered-quarter r found (turned-back 16 found r q) y h
      ∙ l i (omega arith) k (omega arith)
      ∙ ap (λ (m : ℕ). get_or t m 0)
      (mod-small (get_or read i 0 / 2 ^ (16 * k)) ∙ ap (λ (z : ℕ). z % 1024) (sym (gathered-quarter x read p y h)))
