-- The transposition of 16 words by 16 bits, made of four swaps of an index bit, and of the rows of a block, column by column
-- (src/turn.rt, src/drive.rt). No public contract cites this file. Assumes nothing.
--
--   put e t i           the number i with bit e set to t
--   Moved e i r         r is i's share of bit e: 2 ^ e where i has bit e, and else 0
--   HalfMask e low      the word low has a bit at each place below 64 whose number has no bit e
--   SwappedRow e x i r  the word r is row i of the rows x after bit e of the row's number and of the bit's place change places
--   Swapped e x y       .. for all 16 rows y
--   Turned x y          bit 16 k + j of word i becomes bit 16 k + i of word j
--   Column x w c        c has word w of each of the 16 rows x, 16 words to a row
--   Placed w m c x y    y is x with the first m words of c in the column w
--   ColumnsTurned n x y the first n columns are turned
--   Looked t x r        each quarter of the word r is the entry of the table t at that quarter of x
use Rattle.std.specs.Prelude.{ℕ, ◌+◌, ◌-◌, ◌*◌, ◌/◌, ◌%◌, ◌^◌, ◌≤◌, ◌<◌, ◌≡◌, List, length, get_or}
use Rattle.engine.specs.Eval.{bit}

unfoldable pub put : ℕ → ℕ → ℕ → ℕ
put e t i = i - bit e i * 2 ^ e + t * 2 ^ e

-- i without its share has room for it among 16
pub record Moved (e i r : ℕ) : Type 0 where
  pub value : r ≡ bit e i * 2 ^ e
  pub most : r ≤ i
  pub room : i - r + 2 ^ e < 16
  pub share : r ≤ 2 ^ e

abbrev pub HalfMask : ℕ → ℕ → Type 0
HalfMask e low = (j : ℕ) → j < 64 → bit j low ≡ 1 - bit e j

abbrev pub SwappedRow : ℕ → List ℕ → ℕ → ℕ → Type 0
SwappedRow e x i r = (j : ℕ) → j < 64 → bit j r ≡ bit (put e (bit e i) j) (get_or x (put e (bit e j) i) 0)

abbrev pub Swapped : ℕ → List ℕ → List ℕ → Type 0
Swapped e x y = (i : ℕ) → i < 16 → SwappedRow e x i (get_or y i 0)

abbrev pub Turned : List ℕ → List ℕ → Type 0
Turned x y =
    (k i j : ℕ) → k < 4 → i < 16 → j < 16 → bit (16 * k + i) (get_or y j 0) ≡ bit (16 * k + j) (get_or x i 0)

-- ---- columns

abbrev pub Column : List ℕ → ℕ → List ℕ → Type 0
Column x w c = (i : ℕ) → i < 16 → get_or c i 0 ≡ get_or x (16 * i + w) 0

pub record Placed (w m : ℕ) (c x y : List ℕ) : Type 0 where
  pub long : length y ≡ 256
  pub here : (i : ℕ) → i < m → get_or c i 0 ≡ get_or y (16 * i + w) 0
  pub others : (n : ℕ) → (n % 16 ≡ w → ⊥) → get_or y n 0 ≡ get_or x n 0

abbrev pub TurnedAt : List ℕ → List ℕ → ℕ → Type 0
TurnedAt x y w =
    (k i j : ℕ) → k < 4 → i < 16 → j < 16
    → bit (16 * k + i) (get_or y (16 * j + w) 0) ≡ bit (16 * k + j) (get_or x (16 * i + w) 0)

abbrev pub ColumnsTurned : ℕ → List ℕ → List ℕ → Type 0
ColumnsTurned n x y = (w : ℕ) → w < n → TurnedAt x y w

-- ---- the quarters of a word

abbrev pub Looked : List ℕ → ℕ → ℕ → Type 0
Looked t x r = (k : ℕ) → k < 4 → r / 2 ^ (16 * k) % 65536 ≡ get_or t (x / 2 ^ (16 * k) % 1024) 0
