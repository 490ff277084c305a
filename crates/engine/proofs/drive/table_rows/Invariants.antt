-- `engine::drive::table_rows` meets its contract. The invariant: the words passed have become their entries. Assumes nothing.
use Prim.Native.Nat.{ℕ, ◌≤◌, ◌<◌}
use mathlib.Core.Path.{◌≡◌}
use lib.ListN.{get_or}
use Rattle.engine.specs.Inner.Turn.{Looked}
use Rattle.engine.proofs.drive.table_rows.Given as goal

abbrev pub invariant-loop-four : goal.invariant-loop-four
invariant-loop-four l =
    ((k : ℕ) → k < l.four-index → Looked l.table (get_or l.initial.four-items k 0) (get_or l.four-items k 0))
    × ((k : ℕ) → l.four-index ≤ k → get_or l.four-items k 0 ≡ get_or l.initial.four-items k 0)
