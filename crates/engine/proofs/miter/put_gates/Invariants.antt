-- `engine::miter::put_gates` meets its contract: at each turn the gates before it stand packed in their places. Assumes nothing.
use Rattle.engine.proofs.Laws.MiterCode.{Putting}
use Rattle.engine.proofs.miter.put_gates.Given as goal

abbrev pub invariant-loop-i : goal.invariant-loop-i
invariant-loop-i l = Putting l.gates l.inputs l.shift l.base l.i l.out
