-- `engine::drive::table_rows` meets its contract. The invariant: the words passed have become their entries. Assumes nothing.
use native.Mathlib.Omega.{arith}
use Rattle.engine.proofs.Laws.TableRows.{looked-rows}
use Rattle.engine.proofs.drive.table_rows.Goals as goal

pub returns : goal.returns
returns c =
    let l = c.loop-four in
    let a = c.args in
    looked-rows a.table.now a.readings c.transpose.new.x l.four-items c.transpose-2.new.x c.transpose.ensures c.transpose-2.ensures
    (λ k h. l.invariant.0 k (omega arith))
