-- `engine::search::free_block` meets its contract: the inputs are loaded, and the gates that no target leads to run. Assumes nothing.
use Rattle.engine.proofs.Laws.Searching.{block-loaded}
use Rattle.engine.proofs.search.free_block.Goals as goal

pub returns : goal.returns
returns c =
    block-loaded c.args.plan.now c.args.b c.load_inputs.ensures c.run.ensures
