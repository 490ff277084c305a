-- `records::gate::gate_good` meets its contract. The loop's invariant: the slots from i on are good exactly when all are.
-- Assumes nothing.
use lib.ListN.{drop}
use mathlib.Core.Path.{◌≡◌}
use Prim.Native.Nat.{◌-◌}
use Rattle.records.proofs.Laws.Gate.{slots_good}
use Rattle.records.proofs.gate.gate_good.Given as goal

abbrev pub invariant-loop-i : goal.invariant-loop-i
invariant-loop-i l = slots_good l.net (l.count - l.i) (drop l.i l.slots) ≡ slots_good l.net l.count l.slots
