-- `engine::word::lowest_of` meets its contract: the place of the lowest 1 is the first vector of the set. Assumes nothing.
use mathlib.Core.Path.{sym, ap}
use native.Mathlib.Omega.{arith}
use Rattle.engine.specs.Choice.{or_zero}
use Rattle.engine.proofs.word.lowest_of.Goals as goal
use Rattle.engine.proofs.Laws.VectorSets.{lowest-here, lowest-nowhere}

pub returns-then-v-lt-VECTORS : goal.returns-then-v-lt-VECTORS
unfolding or_zero
returns-then-v-lt-VECTORS c = ap or_zero (sym (lowest-here c.args.set (omega arith) c.if-v-lt-VECTORS.true))

pub returns-else-v-lt-VECTORS : goal.returns-else-v-lt-VECTORS
unfolding or_zero
returns-else-v-lt-VECTORS c = ap or_zero (sym (lowest-nowhere c.args.set (omega arith) (omega arith)))
