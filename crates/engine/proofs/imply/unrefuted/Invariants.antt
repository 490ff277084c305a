-- `engine::imply::unrefuted` meets its contract. The invariant: what values give of the cubes so far is in those left. Assumes nothing.
use Prim.Native.Nat.{ℕ, ◌≤◌, ◌<◌}
use mathlib.Core.List.{List}
use lib.ListN.{get_or}
use Rattle.engine.specs.Inner.Cover.{InCube, no_cube, InCover}
use Rattle.engine.specs.Inner.Imply.{PlanValues, plan_reading, NoneGives}
use Rattle.engine.proofs.imply.unrefuted.Given as goal

abbrev pub invariant-loop-cube : goal.invariant-loop-cube
invariant-loop-cube l =
    (l.left.count ≤ l.cube-index)
    × ((vs : List ℕ) → PlanValues l.plan vs → (k : ℕ) → k < l.cube-index → InCube (get_or l.cube-items k no_cube) (plan_reading l.plan vs)
    → InCover l.left (plan_reading l.plan vs))
    × NoneGives l.plan l.never
