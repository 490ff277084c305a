-- `engine::merge::merged_miter` meets its contract: of few inputs the miter stands for itself. Assumes nothing.
use Rattle.engine.proofs.Laws.Merge.{merged-self}
use Rattle.engine.proofs.merge.merged_miter.Goals as goal

pub returns-then-miter-lt-LEAST_TO_MERGE : goal.returns-then-miter-lt-LEAST_TO_MERGE
returns-then-miter-lt-LEAST_TO_MERGE c j p = merged-self (c.of_parts-miter.ensures j p)
