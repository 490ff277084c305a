-- `records::sheet::sheet_shaped` meets its contract: the walk and the lengths say whether the sheet is whole. Assumes nothing.
use mathlib.Core.Path.{◌∙◌}
use Rattle.records.proofs.Laws.SheetShape.{broken-of-walk, walk-spans}
use Rattle.records.proofs.sheet.sheet_shaped.Goals as goal

pub returns-in_err-spans : goal.returns-in_err-spans
returns-in_err-spans c = c.from_residual.ensures ∙ broken-of-walk _ c.in_err-spans.ensures

pub returns : goal.returns
returns c = c.spanned.ensures ∙ walk-spans _ _ c.in_ok-spans.ensures (λ i. (c.type_inv.sheet i).fits)
