-- `records::columns::check_columns` meets its contract: the test is the definition's, but for a division in place of a product.
-- Assumes nothing.
use mathlib.Core.Path.{sym, ◌∙◌}
use Rattle.records.specs.Inner.{columns_hold}
use Rattle.records.proofs.Laws.Counts.{passed, failed-of, columns_hold-quarter}
use Rattle.records.proofs.columns.check_columns.Goals as goal

pub returns-then-count-kinds : goal.returns-then-count-kinds
returns-then-count-kinds c =
    let a = c.args in
    passed (columns_hold a.count a.kinds a.counts a.slots)
    (sym (columns_hold-quarter a.count a.kinds a.counts a.slots) ∙ c.if-count-kinds.true)

pub returns : goal.returns
returns c =
    let a = c.args in
    failed-of (columns_hold a.count a.kinds a.counts a.slots)
    (sym (columns_hold-quarter a.count a.kinds a.counts a.slots) ∙ c.if-count-kinds.false)
