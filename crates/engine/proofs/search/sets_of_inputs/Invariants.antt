-- `engine::search::sets_of_inputs` meets its contract. The invariant: the sets after the blocks passed, and, where the table is tried
-- next, that it is theirs. Assumes nothing.
use Prim.Native.Nat.{ℕ, ◌-◌, ◌*◌, ◌≤◌}
use mathlib.Core.Path.{◌≡◌}
use mathlib.Core.List.{List}
use Rattle.records.specs.Job.{Job}
use Rattle.engine.specs.Support.{candidate_nets}
use Rattle.engine.specs.Inner.Plan.{TurnsOf}
use Rattle.engine.specs.Inner.Search.{SetsTo, SoleTable}
use Rattle.engine.specs.declared.plan.Plan.{Plan}
use Rattle.engine.proofs.Laws.Search.{WalkTo}
use Rattle.engine.proofs.search.sets_of_inputs.Given as goal

-- the sets are those after the inputs below x, for every job of the plan
abbrev pub SetsAfter : Plan → ℕ → List ℕ → ℕ → Type 0
SetsAfter p skipped sets x = (j : Job) → TurnsOf j (candidate_nets j) p → SetsTo j x skipped sets

abbrev pub invariant-loop-b : goal.invariant-loop-b
invariant-loop-b l =
    (l.pace.wait ≡ 0 → SoleTable l.sets l.table)
    × WalkTo (SetsAfter l.plan l.skipped l.sets) l.plan.inputs l.size l.b
    × (l.tries ≤ 64)

abbrev pub decreases-loop-b : goal.decreases-loop-b
decreases-loop-b l = l.size - 1024 * l.b
