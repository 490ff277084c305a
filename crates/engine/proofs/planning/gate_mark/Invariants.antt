-- `engine::planning::gate_mark` meets its contract. The invariant: the greatest mark so far, with those of the operands left, gives the
-- gate's. Assumes nothing.
use Rattle.engine.specs.Inner.Operands.{operands_left}
use Rattle.engine.proofs.Laws.PlanCode.{MarkLeft}
use Rattle.engine.proofs.planning.gate_mark.Given as goal

abbrev pub invariant-loop-net : goal.invariant-loop-net
invariant-loop-net l = MarkLeft l.marks l.c l.mark (operands_left l.net-iterator)
