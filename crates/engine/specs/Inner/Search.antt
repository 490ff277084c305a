-- What the walk over a job's inputs keeps, block by block (src/masks.rt, src/search.rt). No public contract cites this file.
-- Assumes nothing.
--
--   SetsTo j x k ss     the sets of all readings after the inputs below x. Bit 16 of a set is 0 only where one of them gives the reading; where
--                       it is 1, none does but in ranges of 2 ^ 15 inputs that were skipped, bit i of k for range i
--   BlockLoaded ..      the words of a block on the nets that no target leads to
--   BlockRead ..        .. and the rows of the nets read
--   BlockVector ..      the words of a block at a vector, from those
--   RowEqual ..         where the outputs of both circuits have the same values in a block
--   RowsSay ..          rows from some row on have the bits of vectors
--   DrivenRow ..        where vectors rectify a block's inputs
--   sole_of s           the only vector of the set s
--   SoleTable ss t      the table t of the readings' only vectors
--   BlockKept ..        the sets stay as they are in a block
--   TargetTurned ..     the words of a block at one vector have become those at another, which differs in target t alone
--   BlockMasks ..       the rows of a block's masks: the set of the vectors that rectify each of its inputs
--   BlockRange n b count     the first count inputs of block b: all 1,024, or all inputs of a job with fewer
--   SettledFrom ..      some blocks from b on in which every vector rectifies every input
--   BlockMet ..         the sets after a block, from those before
use Rattle.std.specs.Prelude.{ℕ, ◌+◌, ◌*◌, ◌/◌, ◌%◌, ◌^◌, ◌≤◌, ◌<◌, ◌≡◌, ◌↔◌, ◌⊎◌, List, eqb, length, get_or, take, true, cond, map}
use Rattle.records.specs.Bytes.{all}
use Rattle.records.specs.Job.{Job}
use Rattle.records.specs.Refusal.{candidate_good}
use Rattle.engine.specs.Choice.{or_zero, same}
use Rattle.engine.specs.Eval.{bit}
use Rattle.engine.specs.Support.{candidate_nets, reading}
use Rattle.engine.specs.Inner.Cover.{reading_in}
use Rattle.engine.specs.Inner.Masks.{rectifiers}
use Rattle.engine.specs.Rectify.{rectifies}
use Rattle.engine.specs.Inner.Kernel.{value_in, row_value}
use Rattle.engine.specs.Inner.List.{max_vectors, lowest}
use Rattle.engine.specs.Inner.Plan.{BlockAt, BlockFree, ReadsOf, PlannedOf, TurnsOf}
use Rattle.engine.specs.Inner.Note.{gathered, max_readings}
use Rattle.engine.specs.declared.plan.Plan.{Plan}

pub record SetsTo (j : Job) (x k : ℕ) (ss : List ℕ) : Type 0 where
  pub long : length ss ≡ max_readings
  pub sets : (r v : ℕ) → r < max_readings → v < max_vectors
      → (bit v (get_or ss r 0) ≡ 1)
      ↔ ((v < 2 ^ j.targets) × ((y : ℕ) → y < x → reading j (candidate_nets j) y ≡ r → rectifies j y v ≡ true))
  pub given : (r : ℕ) → r < max_readings → bit max_vectors (get_or ss r 0) ≡ 0
      → (y : ℕ) × (y < x) × (reading j (candidate_nets j) y ≡ r)
  pub unmet : (r : ℕ) → r < max_readings → bit max_vectors (get_or ss r 0) ≡ 1
      → (y : ℕ) → y < x → bit (y / 32768) k ≡ 0 → reading j (candidate_nets j) y ≡ r → ⊥

-- the nets read are priced ones, or might be: no target leads to them
pub record BlockLoaded (p : Plan) (b : ℕ) (words : List ℕ) : Type 0 where
  pub free : (j : Job) (is : List ℕ) (q : ReadsOf j is p) → BlockFree j q.live b words
  pub readings : (j : Job) (is : List ℕ) → ReadsOf j is p → all (candidate_good j) is ≡ true
      → (y : ℕ) → y < 1024 → reading_in words (take p.reads.len p.reads.nets) y ≡ reading j is (1024 * b + y)

pub record BlockRead (p : Plan) (b : ℕ) (words rows : List ℕ) : Type 0 where
  pub free : (j : Job) (is : List ℕ) (q : ReadsOf j is p) → BlockFree j q.live b words
  pub readings : (j : Job) (is : List ℕ) → ReadsOf j is p → all (candidate_good j) is ≡ true
      → (y : ℕ) → y < 1024 → gathered rows y ≡ reading j is (1024 * b + y)

pub record BlockVector (p : Plan) (v : ℕ) (before after : List ℕ) : Type 0 where
  pub values : (j : Job) (is : List ℕ) (q : PlannedOf j is p) (b : ℕ) → BlockFree j q.live b before
      → BlockAt j q.live b (λ y. v) after

-- what the words before say of the nets that no target leads to, those after say
abbrev pub FreeKept : Plan → List ℕ → List ℕ → Type 0
FreeKept p before after =
    (j : Job) (is : List ℕ) (q : PlannedOf j is p) (b : ℕ) → BlockFree j q.live b before → BlockFree j q.live b after

-- the row says where the outputs of both circuits have the same values
abbrev pub RowEqual : Plan → List ℕ → List ℕ → Type 0
RowEqual p words r =
    (y : ℕ) → y < 1024
    → row_value r y
    ≡ cond (same (map (value_in words y) (take p.outs p.outputs)) (map (value_in words y) (take p.outs p.goldens))) 1 0

-- the n rows from row first on have the bits of the vectors u
abbrev pub RowsSay : List ℕ → ℕ → ℕ → (ℕ → ℕ) → Type 0
RowsSay rows first n u = (y k : ℕ) → y < 1024 → k < n → value_in rows y (first + k) ≡ bit k (u y)

-- bit y of the row is 1 exactly when vector u y rectifies input y of the block
pub record DrivenRow (p : Plan) (u : ℕ → ℕ) (before row after : List ℕ) : Type 0 where
  pub free : FreeKept p before after
  pub values : (j : Job) (is : List ℕ) (q : PlannedOf j is p) (b : ℕ) → BlockFree j q.live b before
      → (y : ℕ) → y < 1024 → row_value row y ≡ cond (rectifies j (1024 * b + y) (u y)) 1 0

-- 16 where the set is 0, 32 where it has two or more vectors, or no input gave the reading
unfoldable pub sole_of : ℕ → ℕ
sole_of s = cond (eqb s 0) 16 (cond (eqb s (2 ^ or_zero (lowest s))) (or_zero (lowest s)) 32)

abbrev pub SoleTable : List ℕ → List ℕ → Type 0
SoleTable ss table = (r : ℕ) → r < max_readings → get_or table r 0 ≡ sole_of (get_or ss r 0)

-- an input gave the reading of each input before, and each vector in its set rectifies the input
abbrev pub BlockKept : Plan → List ℕ → List ℕ → List ℕ → Type 0
BlockKept p readings before ss =
    (j : Job) (is : List ℕ) (q : PlannedOf j is p) (b : ℕ) → BlockFree j q.live b before
    → (y : ℕ) → y < 1024
    → let s = get_or ss (gathered readings y % 1024) 0 in
    (bit max_vectors s ≡ 0) × ((v : ℕ) → v < max_vectors → bit v s ≡ 1 → rectifies j (1024 * b + y) v ≡ true)

-- the lowest bit of x is the new bit of target t
pub record TargetTurned (p : Plan) (t x : ℕ) (before after : List ℕ) : Type 0 where
  pub turned : (j : Job) (is : List ℕ) (q : TurnsOf j is p) (b v u : ℕ) → t < j.targets → bit t u ≡ bit 0 x
      → ((k : ℕ) → k < j.targets → (k < t) ⊎ (t < k) → bit k u ≡ bit k v)
      → BlockAt j q.planned.live b (λ y. v) before → BlockAt j q.planned.live b (λ y. u) after

pub record BlockMasks (p : Plan) (words masks : List ℕ) : Type 0 where
  pub sets : (j : Job) (is : List ℕ) (q : TurnsOf j is p) (b : ℕ) → BlockAt j q.planned.live b (λ y. 0) words
      → (y : ℕ) → y < 1024 → gathered masks y ≡ rectifiers j (1024 * b + y)

pub record BlockRange (n b count : ℕ) : Type 0 where
  pub few : count ≤ 1024
  pub within : 1024 * b + count ≤ 2 ^ n
  pub whole : (count ≡ 1024) ⊎ ((b ≡ 0) × (count ≡ 2 ^ n))

-- the inputs of r blocks from b on are rectified by every vector
pub record SettledFrom (p : Plan) (b r : ℕ) : Type 0 where
  pub within : 1024 * (b + r) ≤ 2 ^ p.inputs
  pub few : r ≤ 32
  pub range : 0 < r → (r ≡ 32) × (b % 32 ≡ 0)
  pub settled : (j : Job) (is : List ℕ) → PlannedOf j is p
      → (x v : ℕ) → 1024 * b ≤ x → x < 1024 * (b + r) → rectifies j x v ≡ true

pub record BlockMet (p : Plan) (b count : ℕ) (before after : List ℕ) : Type 0 where
  pub sets : (j : Job) (k : ℕ) → TurnsOf j (candidate_nets j) p → SetsTo j (1024 * b) k before
      → SetsTo j (1024 * b + count) k after
