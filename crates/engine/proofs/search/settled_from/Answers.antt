-- `engine::search::settled_from` meets its contract: the range that is tried has 32 blocks from b on. Assumes nothing.
use native.Mathlib.Omega.{arith}
use Rattle.engine.proofs.Laws.Searching.{settled-none, settled-blocks}
use Rattle.engine.proofs.search.settled_from.Goals as goal

pub returns-then-tries-eq0 : goal.returns-then-tries-eq0
returns-then-tries-eq0 c = settled-none c.requires

pub returns-then-plan-lt-RANGE_INPUTS : goal.returns-then-plan-lt-RANGE_INPUTS
returns-then-plan-lt-RANGE_INPUTS c = settled-none c.requires

pub returns-then-b-ne0 : goal.returns-then-b-ne0
returns-then-b-ne0 c = settled-none c.requires

pub returns-then-settled : goal.returns-then-settled
returns-then-settled c =
    settled-blocks c.requires (omega arith) (omega arith) (c.settled.ensures c.if-settled.true)

pub returns : goal.returns
returns c = settled-none c.requires
