-- `engine::narrow::equal_word` meets its contract. The invariant: the word says where the outputs taken so far are equal. Assumes nothing.
use Prim.Native.Nat.{ℕ, ◌<◌}
use mathlib.Core.Path.{◌≡◌}
use mathlib.Core.List.{map}
use mathlib.Core.Bool.{cond}
use lib.ListN.{length, take}
use Rattle.records.specs.Netlist.{net_at}
use Rattle.engine.specs.Choice.{same}
use Rattle.engine.specs.Eval.{bit}
use Rattle.engine.specs.Inner.Narrow.{values_at}
use Rattle.engine.proofs.narrow.equal_word.Given as goal

abbrev pub invariant-loop-output : goal.invariant-loop-output
invariant-loop-output l =
    (y : ℕ) → y < 64
    → bit y l.r
    ≡ cond (same (map (net_at (values_at l.words y)) (take (length l.yielded) l.outputs)) (map (net_at (values_at l.words y)) (take (length l.yielded) l.goldens))) 1 0
