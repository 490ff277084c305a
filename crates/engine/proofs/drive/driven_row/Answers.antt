-- `engine::drive::driven_row` meets its contract: the targets are set to the vectors of the rows, the gates that one leads to run, and
-- the outputs compared. Assumes nothing.
use Rattle.engine.proofs.Laws.Searching.{row-driven}
use Rattle.engine.proofs.drive.driven_row.Goals as goal

pub returns : goal.returns
returns c =
    row-driven c.args.plan.now c.args.rows.now c.args.first c.equal_row.result c.set_targets.ensures c.run.ensures c.equal_row.ensures
