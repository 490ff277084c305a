-- A cover of the unseen readings of a support (src/cover.rt, src/cube.rt): cubes that have them all. A reading is unseen while no input looked at
-- gives it: bit 16 of its set is 1. No public contract cites this file. Assumes nothing.
--
--   NextUnseen ss at n o     o is the first of the readings from at on, below n, whose bit 16 is 1, if there is one
--   InCube u q               q has the bits of the cube's value at the nets that its care says
--   InCover c q              q is in one of the cubes of the cover c
--   CubeAdded c u d          d has one cube more than c, and the readings of c and of that cube alone
--   CoverTo ss n e c         the unseen ones of the first n readings are in the cover e or in c
--   reading_in words is y    the reading of the nets is in scenario y of a block
--   GivesNone ..             .. is in no scenario in the cover
use lib.Dec.{lit<}
use Rattle.std.specs.Prelude.{ℕ, ◌+◌, ◌≤◌, ◌<◌, ◌≡◌, ◌⊎◌, List, map, get_or, Option, unwrap_or}
use Rattle.engine.specs.Eval.{bit, number_of}
use Rattle.engine.specs.Inner.Kernel.{value_in}
use Rattle.engine.specs.Inner.List.{max_vectors}
use Rattle.engine.specs.declared.cube.Cover.{Cover}
use Rattle.engine.specs.declared.cube.Cube.{Cube}

-- the reading is n where there is none
pub record NextUnseen (ss : List ℕ) (at n : ℕ) (o : Option ℕ) : Type 0 where
  pub past : at ≤ unwrap_or o n
  pub most : unwrap_or o n ≤ n
  pub seen : (q : ℕ) → at ≤ q → q < unwrap_or o n → bit max_vectors (get_or ss q 0) ≡ 0

abbrev pub InCube : Cube → ℕ → Type 0
InCube u q = (k : ℕ) → bit k u.care ≡ 1 → bit k q ≡ bit k u.value

-- behind the cubes of a cover; it says that its value and care are below 1,024, as each cube does
abbrev pub no_cube : Cube
no_cube = record { value = 0; care = 0; value_below = lit< tt; care_below = lit< tt }

pub record InCover (c : Cover) (q : ℕ) : Type 0 where
  pub place : ℕ
  pub within : place < c.count
  pub cube : InCube (get_or c.cubes place no_cube) q

pub record CubeAdded (c : Cover) (u : Cube) (d : Cover) : Type 0 where
  pub count : d.count ≡ c.count + 1
  pub added : (q : ℕ) → InCube u q → InCover d q
  pub kept : (r : ℕ) → InCover c r → InCover d r
  pub only : (q : ℕ) → InCover d q → InCover c q ⊎ InCube u q

abbrev pub CoverTo : List ℕ → ℕ → Cover → Cover → Type 0
CoverTo ss n e c = (q : ℕ) → q < n → bit max_vectors (get_or ss q 0) ≡ 1 → InCover e q ⊎ InCover c q

abbrev pub reading_in : List ℕ → List ℕ → ℕ → ℕ
reading_in words is y = number_of (map (value_in words y) is)

abbrev pub GivesNone : Cover → List ℕ → List ℕ → Type 0
GivesNone c words is = (y : ℕ) → y < 1024 → InCover c (reading_in words is y) → ⊥
