-- `engine::cover::cover_of` meets its contract. The invariant: the unseen readings before r are in one of the two covers. Assumes nothing.
use Rattle.engine.specs.Inner.Cover.{CoverTo}
use Rattle.engine.proofs.cover.cover_of.Given as goal

abbrev pub invariant-loop-r : goal.invariant-loop-r
invariant-loop-r l = CoverTo l.sets l.r l.never l.cover
