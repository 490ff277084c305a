-- `engine::cover::cube_row` meets its contract. The invariant: where the reading is in the cube, the row says 1. Assumes nothing.
use Prim.Native.Nat.{ℕ, ◌<◌}
use mathlib.Core.Path.{◌≡◌}
use lib.ListN.{take}
use Rattle.engine.specs.Inner.Cover.{InCube, reading_in}
use Rattle.engine.specs.Inner.Kernel.{row_value}
use Rattle.engine.proofs.cover.cube_row.Given as goal

abbrev pub invariant-loop-k : goal.invariant-loop-k
invariant-loop-k l =
    (y : ℕ) → y < 1024 → InCube l.fn.cube (reading_in l.words (take l.plan.reads.len l.plan.reads.nets) y) → row_value l.r y ≡ 1
