-- `records::job::counted` meets its contract: the test is the definition's. Assumes nothing.
use Rattle.records.specs.Inner.{counted_from, lengths_good}
use Rattle.records.proofs.Laws.Field.{len-at}
use Rattle.records.proofs.job.counted.Goals as goal

pub returns-then-first-golden : goal.returns-then-first-golden
unfolding counted_from lengths_good
returns-then-first-golden c = let n = len-at c.args.spans in rw (n 0, n 1, n 2, n 3, n 4, n 5, c.if-first-golden.true)

pub returns : goal.returns
unfolding counted_from lengths_good
returns c = let n = len-at c.args.spans in rw (n 0, n 1, n 2, n 3, n 4, n 5, c.if-first-golden.false)
