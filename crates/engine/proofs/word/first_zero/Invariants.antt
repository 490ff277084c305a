-- `engine::word::first_zero` meets its contract. The invariant: of the scenarios of the words passed the row says 1. Assumes
-- nothing.
use Prim.Native.Nat.{ℕ, ◌*◌, ◌≤◌, ◌<◌}
use mathlib.Core.Path.{◌≡◌}
use Rattle.engine.specs.Inner.Kernel.{row_value}
use Rattle.engine.proofs.word.first_zero.Given as goal

abbrev pub invariant-loop-w : goal.invariant-loop-w
invariant-loop-w l = (l.w ≤ 16) × ((y : ℕ) → y < 64 * l.w → row_value l.fn.row y ≡ 1)
