-- The walk that gives a job's vector list (src/guess.rt). No public contract cites this file. Assumes nothing.
--
--   ListTo j x v         the list v is the one after the inputs below x
--   listed_pair s x      the smallest vectors that the set s and either of the two sets in x have, 0 where there is none: a table's entry
--   OfListed v t         the entries of the table t are of vectors of the list v, or 0
--   BlockGuessed ..      each of the first count inputs of a block is rectified by one of the two vectors of the table's entry at its reading
--   BlockShown ..        each of the first count inputs of a block is rectified by a listed vector
--   BlockListed ..       the list after a block, from the one before
use Rattle.std.specs.Prelude.{ℕ, ◌+◌, ◌-◌, ◌*◌, ◌/◌, ◌%◌, ◌^◌, ◌<◌, min, ◌≡◌, ◌⊎◌, List, true, eqb, get_or}
use Rattle.records.specs.Job.{Job}
use Rattle.std.specs.Int.Bits.{bit_and}
use Rattle.engine.specs.Choice.{any, or_zero}
use Rattle.engine.specs.Rectify.{rectifies}
use Rattle.engine.specs.Support.{candidate_nets}
use Rattle.engine.specs.Inner.Masks.{rectifiers}
use Rattle.engine.specs.Inner.List.{lowest, listed_of, listed_from, start_list}
use Rattle.engine.specs.Inner.Note.{gathered, max_readings}
use Rattle.engine.specs.Inner.Plan.{BlockFree, PlannedOf, TurnsOf}
use Rattle.engine.specs.declared.list.Vectors.{Vectors}
use Rattle.engine.specs.declared.plan.Plan.{Plan}

abbrev pub ListTo : Job → ℕ → Vectors → Type 0
ListTo j x v = listed_of v ≡ listed_from (rectifiers j) start_list 0 x

-- the sets stand in 16 bits each
unfoldable pub listed_pair : ℕ → ℕ → ℕ
listed_pair s x = or_zero (lowest (bit_and x s)) + 16 * or_zero (lowest (bit_and (x / 2 ^ 16) s))

-- an entry holds two vectors, the second 16 times
pub record OfListed (v : Vectors) (t : List ℕ) : Type 0 where
  pub first : (r : ℕ) → r < max_readings → (get_or t r 0 % 16 ≡ 0) ⊎ (any (eqb (get_or t r 0 % 16)) (listed_of v).vectors ≡ true)
  pub second : (r : ℕ) → r < max_readings → (get_or t r 0 / 16 % 16 ≡ 0) ⊎ (any (eqb (get_or t r 0 / 16 % 16)) (listed_of v).vectors ≡ true)

-- the block's words before, and the rows of its readings
abbrev pub BlockGuessed : Plan → List ℕ → List ℕ → List ℕ → ℕ → Type 0
BlockGuessed p before readings table count =
    (j : Job) (is : List ℕ) (q : PlannedOf j is p) (b : ℕ) → BlockFree j q.live b before
    → (y : ℕ) → y < count
    → let e = get_or table (gathered readings y % 1024) 0 in
    (rectifies j (1024 * b + y) (e % 16) ≡ true) ⊎ (rectifies j (1024 * b + y) (e / 16 % 16) ≡ true)

-- the block's words before
abbrev pub BlockShown : Plan → List ℕ → Vectors → ℕ → Type 0
BlockShown p before v count =
    (j : Job) (is : List ℕ) (q : PlannedOf j is p) (b : ℕ) → BlockFree j q.live b before
    → (y : ℕ) → y < count
    → (u : ℕ) × (any (eqb u) (listed_of v).vectors ≡ true) × (rectifies j (1024 * b + y) u ≡ true)

pub record BlockListed (p : Plan) (b : ℕ) (before after : Vectors) : Type 0 where
  pub listed : (j : Job) → TurnsOf j (candidate_nets j) p → ListTo j (1024 * b) before
      → ListTo j (1024 * b + min (2 ^ p.inputs - 1024 * b) 1024) after
