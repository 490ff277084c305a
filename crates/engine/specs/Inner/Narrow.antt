-- The values of a net at all inputs in one word, where there are at most six (src/narrow.rt). No public contract cites this file.
-- Assumes nothing.
--
--   values_at words y    the values of all nets at input y: bit y of each net's word
--   leaf_at n v y i      leaf i at input y and vector v: the n inputs, and the targets behind them
--   LeavesLoaded ..      the first k nets have the words of the leaves
--   WordsRan cs ..       at each of 64 inputs the values after are those that the gates cs give
--   NarrowOf j n m cs    the job j has n inputs, six at most, and m targets, and the gates cs may stand for its miter's
--   ValuesOf j v words   at each of 64 inputs the nets of the miter have their values at vector v
--   MasksOf j masks      the rows of the masks: the set of the vectors that rectify each input
use Rattle.std.specs.Prelude.{ℕ, ◌+◌, ◌-◌, ◌≤◌, ◌<◌, ◌≡◌, List, map, true, cond, ltb, length, get_or}
use Rattle.records.specs.Gate.{Gate}
use Rattle.records.specs.Job.{Job}
use Rattle.records.specs.Claims.{PartsGood}
use Rattle.engine.specs.Eval.{bit}
use Rattle.engine.specs.Inner.Packed.{packed_from, code_value, evaluated}
use Rattle.engine.specs.Inner.Miter.{miter_gates, SameGates}
use Rattle.engine.specs.Inner.Masks.{rectifiers}
use Rattle.engine.specs.Inner.Note.{gathered}
use Rattle.engine.specs.Inner.Plan.{Agrees}

abbrev pub values_at : List ℕ → ℕ → List ℕ
values_at words y = map (bit y) words

unfoldable pub leaf_at : ℕ → ℕ → ℕ → ℕ → ℕ
leaf_at n v y i = cond (ltb i n) (bit i y) (bit (i - n) v)

pub record LeavesLoaded (n v k : ℕ) (before after : List ℕ) : Type 0 where
  pub long : length after ≡ length before
  pub leaves : (y i : ℕ) → y < 64 → i < k → bit y (get_or after i 0) ≡ leaf_at n v y i

pub record WordsRan (cs before after : List ℕ) : Type 0 where
  pub long : length after ≡ length before
  pub values : (y : ℕ) → y < 64 → values_at after y ≡ evaluated code_value (values_at before y) cs

pub record NarrowOf (j : Job) (n m : ℕ) (cs : List ℕ) : Type 0 where
  pub good : PartsGood j
  pub few : j.inputs ≤ 6
  pub inputs : n ≡ j.inputs
  pub targets : m ≡ j.targets
  pub merged : List Gate
  pub same : SameGates (j.inputs + j.targets) (miter_gates j) merged
  pub gates : cs ≡ packed_from (j.inputs + j.targets) merged

abbrev pub ValuesOf : Job → ℕ → List ℕ → Type 0
ValuesOf j v words = (y : ℕ) → y < 64 → Agrees j (λ i. true) y v (values_at words y)

pub record MasksOf (j : Job) (masks : List ℕ) : Type 0 where
  pub long : length masks ≡ 256
  pub sets : (y : ℕ) → y < 1024 → gathered masks y ≡ rectifiers j y
