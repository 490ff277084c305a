-- `records::netlist::check_outputs` meets its contract. The loop's invariant: the nets from i on pass the test exactly
-- when all do. Assumes nothing.
use Prim.Native.Nat.{ℕ}
use mathlib.Core.Path.{◌≡◌}
use mathlib.Core.List.{List}
use mathlib.Core.Bool.{Bool}
use lib.ListN.{drop}
use lib.Dec.{ltb}
use Rattle.records.specs.Bytes.{all}
use Rattle.records.specs.Job.{nets_of}
use Rattle.records.proofs.netlist.check_outputs.Given as goal

-- the nets from i on pass the test
abbrev pub below : ℕ → List ℕ → ℕ → Bool
below nets s i = all (λ k. ltb k nets) (drop i (nets_of s))

abbrev pub invariant-loop-i : goal.invariant-loop-i
invariant-loop-i l = below l.nets l.s l.i ≡ below l.nets l.s 0
