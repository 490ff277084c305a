-- `engine::cover::widened` meets its contract: what it gives is below 1,024, whichever nets it leaves open. Assumes nothing.
use Rattle.engine.proofs.cover.widened.Given as goal

abbrev pub invariant-loop-i : goal.invariant-loop-i
invariant-loop-i l = Unit {0}
