-- `engine::ternary::ternary_value` meets its contract. The loop's invariant: r is what is known of the plain kind on the operands from i
-- on; at the end the table of not inverts it for an odd kind. Assumes nothing.
use lib.ListN.{length, drop}
use mathlib.Core.Path.{◌≡◌}
use Prim.Native.Nat.{◌≤◌}
use Rattle.engine.specs.Ternary.{ternary_value}
use Rattle.engine.proofs.Laws.Ternary.{knowns}
use Rattle.engine.proofs.ternary.ternary_value.Given as goal

abbrev pub invariant-loop-i : goal.invariant-loop-i
invariant-loop-i l =
    (l.i ≤ length (knowns l.count l.operands)) × (l.r ≡ ternary_value l.plain (drop l.i (knowns l.count l.operands)))
