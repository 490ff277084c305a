-- `engine::guess::listed_pair` meets its contract. Assumes nothing.
use native.Mathlib.Omega.{arith}
use Rattle.engine.specs.Inner.Guess.{listed_pair}
use Rattle.engine.proofs.Laws.VectorSets.{lowest-lt}
use Rattle.engine.proofs.guess.listed_pair.Goals as goal

pub overflow_mul-result : goal.overflow_mul-result
overflow_mul-result c = omega (arith, lowest-lt)

pub overflow_add-result : goal.overflow_add-result
overflow_add-result c = omega (arith, lowest-lt)

pub overflow_cast-result : goal.overflow_cast-result
overflow_cast-result c = omega (arith, lowest-lt)

pub returns : goal.returns
unfolding listed_pair
returns c = rw (c.lowest_of-first.ensures, c.lowest_of-second.ensures)
