-- `engine::table::lowest_vector` meets its contract: a vector is below 16. Assumes nothing.
use native.Mathlib.Omega.{arith}
use Rattle.engine.proofs.Laws.VectorSets.{lowest-lt}
use Rattle.engine.proofs.table.lowest_vector.Goals as goal

pub overflow_cast-result : goal.overflow_cast-result
overflow_cast-result c = omega (arith, lowest-lt c.args.set)
