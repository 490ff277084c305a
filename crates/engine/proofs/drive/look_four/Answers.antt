-- `engine::drive::look_four` meets its contract. Assumes nothing.
use Rattle.engine.proofs.Laws.TableRows.{looked-four}
use Rattle.engine.proofs.drive.look_four.Goals as goal

pub returns : goal.returns
returns c =
    let a = c.args in
    looked-four a.table.now a.readings c.look-a.result c.look-b.result c.look-c.result c.look-d.result
    c.look-a.ensures.1
    c.look-b.ensures.1
    c.look-c.ensures.1
    c.look-d.ensures.1
    c.look-a.ensures.0
    c.look-b.ensures.0
    c.look-c.ensures.0
    c.look-d.ensures.0
