-- `engine::cover::cover_of` meets its contract. The invariant: the unseen readings before r are in one of the two covers. Assumes nothing.
use native.Mathlib.Omega.{arith}
use Rattle.engine.proofs.Laws.Rule.{readings-many}
use Rattle.engine.proofs.cover.cover_of.Goals as goal

pub bounds-sets-r : goal.bounds-sets-r
bounds-sets-r c = omega (arith, c.reading_count-r-end.ensures, readings-many c.requires)

pub widened-requires : goal.widened-requires
widened-requires c = (c.requires, omega (arith, c.reading_count-r-end.ensures, readings-many c.requires))
