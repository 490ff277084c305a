-- `engine::narrow::eval_vector` meets its contract: the leaves loaded, and all gates run. Assumes nothing.
use native.Mathlib.Omega.{arith}
use Rattle.engine.proofs.Laws.Narrow.{values-run}
use Rattle.engine.proofs.narrow.eval_vector.Goals as goal

pub returns : goal.returns
returns c j q =
    let d = c.load_leaves.ensures in
    values-run c.args.vector q (omega (arith, d.long)) d c.run_words.ensures
