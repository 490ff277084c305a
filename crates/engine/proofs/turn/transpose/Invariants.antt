-- `engine::turn::transpose` meets its contract. The invariant: the columns below w are turned. Assumes nothing.
use Prim.Native.Nat.{◌≤◌}
use Rattle.engine.proofs.Laws.Turn.{TurnedTo}
use Rattle.engine.proofs.turn.transpose.Given as goal

abbrev pub invariant-loop-w : goal.invariant-loop-w
invariant-loop-w l = (l.w ≤ l.columns) × TurnedTo l.w l.initial.x l.x
