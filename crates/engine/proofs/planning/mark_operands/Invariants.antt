-- `engine::planning::mark_operands` meets its contract. The invariant: the marks so far, with those of the operands left, give the
-- whole. Assumes nothing.
use mathlib.Core.Path.{◌≡◌}
use Rattle.engine.specs.Inner.Operands.{operands_left}
use Rattle.engine.specs.Inner.Packed.{operands_of}
use Rattle.engine.specs.Inner.Plan.{marked_all}
use Rattle.engine.proofs.planning.mark_operands.Given as goal

abbrev pub invariant-loop-net : goal.invariant-loop-net
invariant-loop-net l = marked_all l.marks (operands_left l.net-iterator) ≡ marked_all l.initial.marks (operands_of l.c)
