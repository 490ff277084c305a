-- `records::netlist::fanout_marks` meets its contract. The loop's invariant: the marks so far, extended by the gates
-- from i on, are the fanout, and those gates are good, so that gate i's operands have their marks. Assumes nothing.
use lib.ListN.{length, take, drop}
use mathlib.Core.Bool.{true}
use mathlib.Core.Path.{◌≡◌}
use Prim.Native.Nat.{◌+◌}
use Rattle.records.specs.Netlist.{extended, mark_of, fanout}
use Rattle.records.specs.Job.{gates_of}
use Rattle.records.specs.Refusal.{gates_good}
use Rattle.records.proofs.netlist.fanout_marks.Given as goal

abbrev pub invariant-loop-i : goal.invariant-loop-i
invariant-loop-i l =
    (length l.marks ≡ 424)
    × (gates_good (l.base + l.i) (drop l.i (gates_of l.s)) ≡ true)
    × (extended mark_of (take (l.base + l.i) l.marks) (drop l.i (gates_of l.s)) ≡ fanout l.inputs l.targets (gates_of l.s))
