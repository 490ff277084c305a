-- `engine::planning::mark_from` meets its contract. The invariant: the marks so far, with those of the gates left, give the whole.
-- Assumes nothing.
use mathlib.Core.Path.{◌≡◌}
use lib.ListN.{drop}
use Rattle.engine.specs.Inner.Packed.{evaluated}
use Rattle.engine.specs.Inner.Plan.{code_mark, marks_from}
use Rattle.engine.proofs.planning.mark_from.Given as goal

abbrev pub invariant-loop-c : goal.invariant-loop-c
invariant-loop-c l = evaluated code_mark l.marks (drop l.c-index l.gates) ≡ marks_from l.gates l.from l.k
