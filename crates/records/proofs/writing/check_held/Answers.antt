-- `records::writing::check_held` meets its contract: the test is the definition's. Assumes nothing.
use Rattle.records.specs.Inner.{holds}
use Rattle.records.proofs.Laws.Counts.{passed, failed-of}
use Rattle.records.proofs.writing.check_held.Goals as goal

pub returns-then-old-golden : goal.returns-then-old-golden
unfolding holds
returns-then-old-golden c =
    let l = c.args.lent in
    passed (holds c.args.counts l.old.gates l.old.outputs l.golden.gates l.golden.outputs l.nets l.weights) c.if-old-golden.true

pub returns-else-old-golden : goal.returns-else-old-golden
unfolding holds
returns-else-old-golden c =
    let l = c.args.lent in
    failed-of (holds c.args.counts l.old.gates l.old.outputs l.golden.gates l.golden.outputs l.nets l.weights) c.if-old-golden.false
