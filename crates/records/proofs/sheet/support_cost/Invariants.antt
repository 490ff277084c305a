-- `records::sheet::support_cost` meets its contract. The loop's invariant: the nets left from place i on, above `least`
-- and after `sum`, cost what the whole support costs. Assumes nothing.
use Prim.Native.Nat.{◌*◌, ◌≤◌}
use mathlib.Core.Path.{◌≡◌}
use Rattle.records.specs.Service.{candidates_from}
use Rattle.records.specs.Inner.{word_column, support_of}
use Rattle.records.proofs.Laws.Sheet.{support_left}
use Rattle.records.proofs.sheet.support_cost.Given as goal

abbrev pub invariant-loop-i : goal.invariant-loop-i
invariant-loop-i l =
    (l.i ≤ l.long)
    × (l.sum ≤ 65535 * l.i)
    × (support_left (word_column l.s 2 3 l.long) l.count l.nets l.weights l.least l.sum l.i
    ≡ support_of (candidates_from l.count l.nets l.weights) (word_column l.s 2 3 l.long))
