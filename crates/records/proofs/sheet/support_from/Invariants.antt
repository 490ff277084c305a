-- `records::sheet::support_from` meets its contract. The loop's invariant: the places hold the first i nets, and zeros
-- after them. Assumes nothing.
use Prim.Native.Nat.{◌≤◌}
use mathlib.Core.Path.{◌≡◌}
use Rattle.records.specs.Inner.{word_column}
use Rattle.records.proofs.Laws.Sheet.{ten}
use Rattle.records.proofs.sheet.support_from.Given as goal

abbrev pub invariant-loop-i : goal.invariant-loop-i
invariant-loop-i l = (l.i ≤ l.len) × (l.nets ≡ ten (word_column l.s 2 3 l.len) l.i)
