-- `records::netlist::gate_mark` meets its contract. The loop's invariant: r is the greatest mark of the operands from i on.
-- Assumes nothing.
use lib.ListN.{take, drop}
use mathlib.Core.List.{map}
use mathlib.Core.Path.{◌≡◌}
use Prim.Native.Nat.{◌≤◌}
use Rattle.records.specs.Gate.{disj}
use Rattle.records.specs.Netlist.{net_at}
use Rattle.records.proofs.netlist.gate_mark.Given as goal

abbrev pub invariant-loop-i : goal.invariant-loop-i
invariant-loop-i l = (l.i ≤ l.initial.i) × (l.r ≡ disj (map (net_at l.marks) (drop l.i (take l.initial.i l.slots))))
