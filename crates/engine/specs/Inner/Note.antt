-- What a block of 1,024 inputs does to the vector list and to the sets of all readings (src/note.rt): 16 rows of 16 words, word w of row i
-- at 16 * i + w; what row i says of input y of the block is its value in scenario y. No public contract cites this file. Assumes nothing.
--
--   narrowed ss r s              the sets ss with the one of reading r cut down to its part in s
--   sets_from f g ss x k          .. after the k inputs from x on, where g says the reading of each
--   gathered x y     the number whose bit i is what row i of x says of scenario y
--   visited n        the scenario to which a block's walk comes after n others
--   Stepped R f g n ss ts        the sets after n steps, each as R says
--   filled count     how many scenarios the columns of 64 have that count inputs fill
--   Covered ..       a listed vector is in the set of a scenario
--   Joined ..        .. of each of which a row says 1
--   CoveredTo ..     .. of each from one on to another
--   ListNoted ..     the list after a block's inputs
use Rattle.std.specs.Prelude.{ℕ, zero, suc, ◌+◌, ◌*◌, ◌/◌, ◌%◌, ◌≤◌, ◌<◌, ◌≡◌, List, true, eqb, get_or, set}
use Rattle.std.specs.Int.Bits.{bit_and}
use Rattle.records.specs.Bytes.{tabulate}
use Rattle.engine.specs.Choice.{any, first}
use Rattle.engine.specs.Eval.{bit, number_of}
use Rattle.engine.specs.declared.list.Vectors.{Vectors}
use Rattle.engine.specs.Inner.List.{listed_of, listed_from}
use Rattle.engine.specs.Inner.Kernel.{row_value, value_in}

abbrev pub max_readings : ℕ
max_readings = 1024

-- ---- the sets of all readings

unfoldable pub narrowed : List ℕ → ℕ → ℕ → List ℕ
narrowed ss r s = set ss r (bit_and (get_or ss r 0) s)

unfoldable pub sets_from : (ℕ → ℕ) → (ℕ → ℕ) → List ℕ → ℕ → ℕ → List ℕ
sets_from f g ss x zero = ss
sets_from f g ss x (suc k) = sets_from f g (narrowed ss (g x) (f x)) (suc x) k

unfoldable pub gathered : List ℕ → ℕ → ℕ
gathered x y = number_of (tabulate 16 (value_in x y))

-- the scenario to which a block's walk comes after n others: column by column, and in each word by word of the transposed rows
abbrev pub visited : ℕ → ℕ
visited n = 64 * (n / 64) + (16 * (n % 4) + n % 64 / 4)

-- the sets ts after a step for each of the first n scenarios, from the sets ss, where f says the set of each, and g its reading
abbrev pub Stepped : (List ℕ → ℕ → ℕ → List ℕ → Type 0) → (ℕ → ℕ) → (ℕ → ℕ) → ℕ → List ℕ → List ℕ → Type 0
Stepped R f g zero ss ts = ts ≡ ss
Stepped R f g (suc n) ss ts = (us : List ℕ) × Stepped R f g n ss us × R us (g (visited n) % 1024) (f (visited n)) ts

abbrev pub filled : ℕ → ℕ
filled count = 64 * ((count + 63) / 64)

-- a vector of vs is in the set of scenario y
abbrev pub Covered : List ℕ → List ℕ → ℕ → Type 0
Covered masks vs y = any (λ v. eqb (bit v (gathered masks y)) 1) vs ≡ true

-- .. of each scenario of which the row says 1
abbrev pub Joined : List ℕ → List ℕ → List ℕ → Type 0
Joined masks vs row = (y : ℕ) → y < 1024 → row_value row y ≡ 1 → Covered masks vs y

-- .. of each scenario from y on to r, for the list that a struct holds
pub record CoveredTo (masks : List ℕ) (v : Vectors) (y r : ℕ) : Type 0 where
  pub past : y ≤ r
  pub covered : (k : ℕ) → y ≤ k → k < r → Covered masks (listed_of v).vectors k

-- what f says of the count inputs from first on is what the masks say of the first count scenarios
abbrev pub Gathers : List ℕ → ℕ → ℕ → (ℕ → ℕ) → Type 0
Gathers masks first count f = (y : ℕ) → y < count → gathered masks y ≡ f (first + y)

-- the list w after the count inputs from first on, from the list v
pub record ListNoted (masks : List ℕ) (first count : ℕ) (v w : Vectors) : Type 0 where
  pub listed : (f : ℕ → ℕ) → Gathers masks first count f → listed_of w ≡ listed_from f (listed_of v) first count
