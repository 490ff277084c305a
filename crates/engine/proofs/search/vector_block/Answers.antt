-- `engine::search::vector_block` meets its contract: the targets are set, and the gates that one leads to run. Assumes nothing.
use Rattle.engine.proofs.Laws.Searching.{block-vectored}
use Rattle.engine.proofs.search.vector_block.Goals as goal

pub returns : goal.returns
returns c =
    block-vectored c.args.plan.now c.args.vector c.set_vector.ensures c.run.ensures
