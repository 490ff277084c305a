-- `records::job::check_counts` meets its contract: the test is the definition's. Assumes nothing.
use Rattle.records.specs.Inner.{side_within, counts_within}
use Rattle.records.proofs.Laws.Counts.{passed, failed-of}
use Rattle.records.proofs.job.check_counts.Goals as goal

pub returns-then-c-old : goal.returns-then-c-old
unfolding counts_within side_within
returns-then-c-old c = passed (counts_within c.args.c) c.if-c-old.true

pub returns : goal.returns
unfolding counts_within side_within
returns c = failed-of (counts_within c.args.c) c.if-c-old.false
