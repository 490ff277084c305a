-- `records::gate::value` meets its contract. The loop's invariant: r is the plain kind's value on the operands from i on; at
-- the end an odd kind inverts it. Assumes nothing.
use lib.ListN.{length, drop}
use mathlib.Core.Path.{◌≡◌}
use Prim.Native.Nat.{◌≤◌, ◌<◌}
use Rattle.records.specs.Gate.{gate_value}
use Rattle.records.proofs.Laws.Gate.{lowest}
use Rattle.records.proofs.gate.value.Given as goal

abbrev pub invariant-loop-i : goal.invariant-loop-i
invariant-loop-i l =
    (l.i ≤ length (lowest l.count l.operands)) × (l.r < 2) × (l.r ≡ gate_value l.plain (drop l.i (lowest l.count l.operands)))
