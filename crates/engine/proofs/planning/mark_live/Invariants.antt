-- `engine::planning::mark_live` meets its contract. The invariant: the marks so far, with those of the gates left, give the whole.
-- Assumes nothing.
use mathlib.Core.Path.{◌≡◌}
use Rattle.engine.specs.Inner.Plan.{live_from}
use Rattle.engine.proofs.planning.mark_live.Given as goal

abbrev pub invariant-loop-c : goal.invariant-loop-c
invariant-loop-c l = live_from l.marks l.c-iterator.iter.rest.now ≡ live_from l.initial.marks l.gates
