-- `engine::ranges::known_operands` meets its contract. The loop's invariant: what is read, and then what the slots left give, is what
-- is known of all operands. Assumes nothing.
use lib.ListN.{length}
use mathlib.Core.Path.{◌≡◌}
use Prim.Native.Nat.{◌/◌}
use Rattle.records.specs.Netlist.{net_at}
use Rattle.engine.proofs.Laws.Partial.{ReadTo}
use Rattle.engine.proofs.ranges.known_operands.Given as goal

abbrev pub invariant-loop-i : goal.invariant-loop-i
invariant-loop-i l =
    (length l.r ≡ 4) × ReadTo (net_at l.known) l.count (l.c / 131072) l.r l.rest l.i
