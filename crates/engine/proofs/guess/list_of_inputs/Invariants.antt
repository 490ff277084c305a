-- `engine::guess::list_of_inputs` meets its contract. The invariant: the list after the inputs passed, and a table of its vectors
-- while the tables are trusted. Assumes nothing.
use Prim.Native.Nat.{ℕ, ◌-◌, ◌*◌, ◌≤◌, ◌<◌}
use mathlib.Core.List.{List}
use Rattle.engine.specs.Inner.Guess.{OfListed}
use Rattle.engine.specs.declared.list.Vectors.{Vectors}
use Rattle.engine.proofs.Laws.Guess.{ListsTo}
use Rattle.engine.proofs.Laws.Search.{WalkTo}
use Rattle.engine.proofs.guess.list_of_inputs.Given as goal

-- the list, the table and the trust between two blocks
pub record Trusted (v : Vectors) (t : List ℕ) (n : ℕ) : Type 0 where
  pub few : n ≤ 64
  pub table : 0 < n → OfListed v t

abbrev pub invariant-loop-b : goal.invariant-loop-b
invariant-loop-b l =
    Trusted l.list l.table l.trust
    × WalkTo (ListsTo l.plan l.list) l.plan.inputs l.size l.b
    × (l.tries ≤ 64)

abbrev pub decreases-loop-b : goal.decreases-loop-b
decreases-loop-b l = l.size - 1024 * l.b
