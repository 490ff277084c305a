-- `records::sheet::spanned` meets its contract: past the first test, the second is the rest of the definition's. Assumes nothing.
use borrow.Author.Tests.{le-leb, lt-leb}
use Rattle.records.specs.Inner.{spanned_from, sheet_lengths}
use Rattle.records.proofs.Laws.Field.{start-at, len-at}
use Rattle.records.proofs.sheet.spanned.Goals as goal

pub returns-then-long-gt31 : goal.returns-then-long-gt31
unfolding spanned_from sheet_lengths
returns-then-long-gt31 c = rw (len-at c.args.spans 0, lt-leb _ _ c.if-long-gt31.true)

pub returns-then-long-spans : goal.returns-then-long-spans
unfolding spanned_from sheet_lengths
returns-then-long-spans c =
    let n = len-at c.args.spans in
    let a = start-at c.args.spans in
    rw (n 0, n 1, n 2, a 1, a 2, le-leb _ _ c.if-long-gt31.false, ← c.power.ensures, c.if-long-spans.true)

pub returns : goal.returns
unfolding spanned_from sheet_lengths
returns c =
    let n = len-at c.args.spans in
    rw (n 0, n 1, n 2, le-leb _ _ c.if-long-gt31.false, ← c.power.ensures, c.if-long-spans.false)
