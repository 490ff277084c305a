-- `records::put::put_side` meets its contract: a head, and behind the gates' bytes a head and the outputs. Assumes nothing.
use Rattle.records.proofs.Laws.Put.{side-done}
use Rattle.records.proofs.put.put_side.Goals as goal

pub returns : goal.returns
returns c =
    let a = c.args in
    side-done a.job.bytes a.job.len a.tag a.counts a.outputs.now c.requires.0 c.requires.1
    c.headed-first.ensures c.headed-second.ensures c.put_column-third.ensures
