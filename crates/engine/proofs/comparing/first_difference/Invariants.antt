-- `engine::comparing::first_difference` meets its contract. The invariant: at no input of the blocks passed do the driven outputs
-- differ. Assumes nothing.
use Rattle.engine.proofs.Laws.Compare.{Scanning}
use Rattle.engine.proofs.comparing.first_difference.Given as goal

abbrev pub invariant-loop-b : goal.invariant-loop-b
invariant-loop-b l = Scanning l.plan l.table l.size l.b
