-- `engine::turn::put_column` meets its contract. The invariant: the words below i are put. Assumes nothing.
use Prim.Native.Nat.{◌≤◌}
use Rattle.engine.specs.Inner.Turn.{Placed}
use Rattle.engine.proofs.turn.put_column.Given as goal

abbrev pub invariant-loop-i : goal.invariant-loop-i
invariant-loop-i l = (l.i ≤ 16) × Placed l.w l.i l.c l.initial.x l.x
