-- `records::reading::check_room` meets its contract: the test is that of `room`. Assumes nothing.
use Rattle.records.specs.Inner.{room}
use Rattle.records.proofs.Laws.Counts.{passed, failed-of}
use Rattle.records.proofs.reading.check_room.Goals as goal

pub returns-then-old-golden : goal.returns-then-old-golden
unfolding room
returns-then-old-golden c =
    let l = c.args.lent in passed (room l.old.gates l.old.outputs l.golden.gates l.golden.outputs l.nets l.weights) c.if-old-golden.true

pub returns-else-old-golden : goal.returns-else-old-golden
unfolding room
returns-else-old-golden c =
    let l = c.args.lent in failed-of (room l.old.gates l.old.outputs l.golden.gates l.golden.outputs l.nets l.weights) c.if-old-golden.false
