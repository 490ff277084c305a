-- Which readings of a support inputs give (src/given.rt). A reading is unseen while no input looked at gives it: bit 16 of its set is 1. No public
-- contract cites this file. Assumes nothing.
--
--   SameVectors ss ts      the sets ss and ts have the same vectors
--   GivenCover p ..        the unseen readings that an input gives are in the cover
--   Covered p ss c         .. in the first cover of the struct c, and no values of the gates give one of the second
--   GivenBy g x k r        one of the k inputs from x on gives reading r
--   BlockSeen ..           the sets after the count inputs of a block, where no target leads to the nets read
--   Unseen j is ss         bit 16 of a reading of the nets is is 0 exactly when some input gives the reading
--   AllSeen ..             the sets after all inputs of the ranges that were skipped
use Rattle.std.specs.Prelude.{ℕ, ◌+◌, ◌*◌, ◌^◌, ◌≤◌, ◌<◌, ◌≡◌, ◌↔◌, ◌⊎◌, List, true, length, get_or}
use Rattle.records.specs.Bytes.{all as all'}
use Rattle.records.specs.Job.{Job}
use Rattle.records.specs.Refusal.{candidate_good}
use Rattle.engine.specs.Eval.{bit}
use Rattle.engine.specs.Support.{reading}
use Rattle.engine.specs.Claims.{SomeGives}
use Rattle.engine.specs.Inner.Best.{GivenBits}
use Rattle.engine.specs.Inner.Cover.{InCover}
use Rattle.engine.specs.Inner.List.{max_vectors}
use Rattle.engine.specs.Inner.Plan.{ReadsOf}
use Rattle.engine.specs.declared.cube.Cover.{Cover}
use Rattle.engine.specs.declared.given.Covering.{Covering}
use Rattle.engine.specs.Inner.Imply.{NoneGives}
use Rattle.engine.specs.declared.plan.Plan.{Plan}

abbrev pub SameVectors : List ℕ → List ℕ → Type 0
SameVectors ss ts = (r v : ℕ) → v < max_vectors → bit v (get_or ts r 0) ≡ bit v (get_or ss r 0)

pub record GivenCover (p : Plan) (ss : List ℕ) (c : Cover) : Type 0 where
  pub covers : (j : Job) (is : List ℕ) → ReadsOf j is p → all' (candidate_good j) is ≡ true → (x : ℕ)
      → bit max_vectors (get_or ss (reading j is x) 0) ≡ 1 → InCover c (reading j is x)

pub record Covered (p : Plan) (ss : List ℕ) (c : Covering) : Type 0 where
  pub left : GivenCover p ss c.left
  pub never : NoneGives p c.never

abbrev pub GivenBy : (ℕ → ℕ) → ℕ → ℕ → ℕ → Type 0
GivenBy g x k r = (y : ℕ) × (x ≤ y) × (y < x + k) × (g y ≡ r)

-- a bit is 0 exactly when it was, or one of the inputs gives its reading
pub record BlockSeen (p : Plan) (b count : ℕ) (before after : List ℕ) : Type 0 where
  pub long : length after ≡ length before
  pub seen : (j : Job) (is : List ℕ) → ReadsOf j is p → all' (candidate_good j) is ≡ true → (r : ℕ) → r < length before
      → (bit max_vectors (get_or after r 0) ≡ 0) ↔ ((bit max_vectors (get_or before r 0) ≡ 0) ⊎ GivenBy (reading j is) (1024 * b) count r)
  pub same : SameVectors before after

abbrev pub Unseen : Job → List ℕ → List ℕ → Type 0
Unseen j is ss = (r : ℕ) → r < 2 ^ length is → (bit max_vectors (get_or ss r 0) ≡ 0) ↔ SomeGives j is r

abbrev pub AllSeen : Plan → ℕ → List ℕ → List ℕ → Type 0
AllSeen p k before after =
    (j : Job) (is : List ℕ) → ReadsOf j is p → all' (candidate_good j) is ≡ true → GivenBits j is before k → Unseen j is after
