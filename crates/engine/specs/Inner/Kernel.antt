-- What the evaluation of packed gates gives: words of 64 scenarios, 16 words a net, word w of net i at 16 * i + w; a scenario is one
-- of 1,024 settings of inputs and targets (src/kernel.rt). No public contract cites this file. Assumes nothing.
--
--   applied op a b         the operation on words
--   Filled f at n b a      list a is list b with f 0 .. f (n - 1) in the n places from at on
--   value_in words y i     the value of net i in scenario y: bit y % 64 of word y / 64 of the net
--   column words y         those of all 1,024 nets
--   Ran cs before after    in every scenario the values after are those that the gates cs give
--   row_value r y          bit y % 64 of word y / 64 of the 16 words r: what a row says of scenario y
--   FirstZero row r        r is the first scenario of which the row says 0; 1,024 where there is none
use Rattle.std.specs.Prelude.{ℕ, ◌+◌, ◌*◌, ◌/◌, ◌%◌, ◌≤◌, ◌<◌, ◌≡◌, List, ◌⊎◌, cond, eqb, length, get_or}
use Rattle.std.specs.Int.Bits.{bit_and, bit_or, bit_xor}
use Rattle.records.specs.Bytes.{tabulate}
use Rattle.engine.specs.Eval.{bit}
use Rattle.engine.specs.Inner.Packed.{code_value, evaluated}

unfoldable pub applied : ℕ → ℕ → ℕ → ℕ
applied op a b = cond (eqb op 2) (bit_and a b) (cond (eqb op 3) (bit_or a b) (bit_xor a b))

pub record Filled (f : ℕ → ℕ) (at n : ℕ) (before after : List ℕ) : Type 0 where
  pub long : length after ≡ length before
  pub put : (k : ℕ) → k < n → get_or after (at + k) 0 ≡ f k
  pub kept : (p : ℕ) → (p < at) ⊎ (at + n ≤ p) → get_or after p 0 ≡ get_or before p 0

unfoldable pub row_value : List ℕ → ℕ → ℕ
row_value r y = bit (y % 64) (get_or r (y / 64) 0)

unfoldable pub value_in : List ℕ → ℕ → ℕ → ℕ
value_in words y i = bit (y % 64) (get_or words (16 * i + y / 64) 0)

unfoldable pub column : List ℕ → ℕ → List ℕ
column words y = tabulate 1024 (value_in words y)

pub record Ran (cs before after : List ℕ) : Type 0 where
  pub long : length after ≡ length before
  pub values : (y : ℕ) → y < 1024 → column after y ≡ evaluated code_value (column before y) cs

-- the values of one net are set, from a row; the others stay
pub record NetSet (i : ℕ) (f : ℕ → ℕ) (before after : List ℕ) : Type 0 where
  pub long : length after ≡ length before
  pub put : (y : ℕ) → y < 1024 → value_in after y i ≡ f y
  pub kept : (y k : ℕ) → y < 1024 → (k < i) ⊎ (i < k) → value_in after y k ≡ value_in before y k

-- the values of the nets at .. at + n - 1 are set; the others stay
pub record NetsSet (at n : ℕ) (f : ℕ → ℕ → ℕ) (before after : List ℕ) : Type 0 where
  pub long : length after ≡ length before
  pub put : (y k : ℕ) → y < 1024 → k < n → value_in after y (at + k) ≡ f y k
  pub kept : (y k : ℕ) → y < 1024 → (k < at) ⊎ (at + n ≤ k) → value_in after y k ≡ value_in before y k

pub record FirstZero (row : List ℕ) (r : ℕ) : Type 0 where
  pub most : r ≤ 1024
  pub ones : (y : ℕ) → y < r → row_value row y ≡ 1
  pub zero : r < 1024 → row_value row r ≡ 0
