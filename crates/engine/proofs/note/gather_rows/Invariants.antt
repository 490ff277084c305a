-- `engine::note::gather_rows` meets its contract. The invariant: the rows from i on are gathered. Assumes nothing.
use Prim.Native.Nat.{◌≤◌}
use mathlib.Core.Path.{◌≡◌}
use Rattle.engine.proofs.Laws.Note.{rows_from}
use Rattle.engine.proofs.note.gather_rows.Given as goal

abbrev pub invariant-loop-i : goal.invariant-loop-i
invariant-loop-i l = (l.i ≤ 16) × (l.r ≡ rows_from l.masks l.y l.i)
