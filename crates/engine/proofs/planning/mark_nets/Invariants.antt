-- `engine::planning::mark_nets` meets its contract. The invariant: the marks so far, with those of the nets left, give the whole.
-- Assumes nothing.
use mathlib.Core.Path.{◌≡◌}
use lib.ListN.{drop}
use Rattle.engine.specs.Inner.Plan.{marked_all}
use Rattle.engine.proofs.planning.mark_nets.Given as goal

abbrev pub invariant-loop-net : goal.invariant-loop-net
invariant-loop-net l = marked_all l.marks (drop l.net-index l.nets) ≡ marked_all l.initial.marks l.nets
