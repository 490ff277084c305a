-- `engine::planning::pick` meets its contract. The invariant: the wanted ones of the gates passed are put, as far as there is room.
-- Assumes nothing.
use Rattle.engine.proofs.Laws.PlanCode.{Picking}
use Rattle.engine.proofs.planning.pick.Given as goal

abbrev pub invariant-loop-c : goal.invariant-loop-c
invariant-loop-c l = Picking l.live l.marks l.led l.gates l.initial.out l.at l.out l.end l.c-index
