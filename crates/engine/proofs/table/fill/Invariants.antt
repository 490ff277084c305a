-- `engine::table::fill` meets its contract. The invariant: the entries before r are made. Assumes nothing.
use Prim.Native.Nat.{ℕ, ◌<◌}
use mathlib.Core.Path.{◌≡◌}
use lib.ListN.{length, get_or}
use Rattle.engine.proofs.table.fill.Given as goal

abbrev pub invariant-loop-r : goal.invariant-loop-r
invariant-loop-r g l = (length l.entries ≡ 1024) × ((r : ℕ) → r < l.r → goal.F-post g l.entry (get_or l.sets r 0) (get_or l.entries r 0))
