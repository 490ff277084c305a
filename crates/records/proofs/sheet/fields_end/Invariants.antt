-- `records::sheet::fields_end` meets its contract. The loop's invariant: at is where the fields before the next end. Assumes nothing.
use Prim.Native.Nat.{◌≤◌}
use mathlib.Core.Path.{◌≡◌}
use lib.ListN.{length}
use Rattle.records.proofs.Laws.Field.{position_of}
use Rattle.records.proofs.sheet.fields_end.Given as goal

abbrev pub invariant-loop : goal.invariant-loop
invariant-loop l = (l.counter ≤ l.count) × (l.at ≤ length l.s) × (l.at ≡ position_of l.counter l.s)
