-- `engine::leaves::equal_row` meets its contract. The invariant: the row says where the first k outputs are equal. Assumes nothing.
use Prim.Native.Nat.{ℕ, ◌<◌}
use mathlib.Core.Path.{◌≡◌}
use mathlib.Core.List.{map}
use mathlib.Core.Bool.{cond}
use lib.ListN.{take}
use Rattle.engine.specs.Choice.{same}
use Rattle.engine.specs.Inner.Kernel.{row_value, value_in}
use Rattle.engine.proofs.leaves.equal_row.Given as goal

abbrev pub invariant-loop-k : goal.invariant-loop-k
invariant-loop-k l =
    (y : ℕ) → y < 1024
    → row_value l.r y
    ≡ cond (same (map (value_in l.words y) (take l.k l.plan.outputs)) (map (value_in l.words y) (take l.k l.plan.goldens))) 1 0
