-- `records::netlist::check_gates` meets its contract. The loop's invariant: the gates from i on are good exactly when
-- all are. Assumes nothing.
use lib.ListN.{drop}
use mathlib.Core.Bool.{Bool}
use mathlib.Core.List.{List}
use mathlib.Core.Path.{◌≡◌}
use Prim.Native.Nat.{ℕ, ◌+◌}
use Rattle.records.specs.Job.{gates_of}
use Rattle.records.specs.Refusal.{gates_good}
use Rattle.records.proofs.netlist.check_gates.Given as goal

-- the gates from i on are good
abbrev pub good : ℕ → List ℕ → ℕ → Bool
good base s i = gates_good (base + i) (drop i (gates_of s))

abbrev pub invariant-loop-i : goal.invariant-loop-i
invariant-loop-i l = good l.base l.s l.i ≡ gates_good l.base (gates_of l.s)
