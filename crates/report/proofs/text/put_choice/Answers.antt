-- The first tag tells which of the two sheets it is.
use Rattle.std.proofs.Common.{sym, ◌∙◌}
use Rattle.report.proofs.Laws.Sheet.{choice-some, choice-patch, choice-blind}
use Rattle.report.proofs.Laws.Text.{choice-patched, choice-blinded}
use Rattle.report.proofs.text.put_choice.Goals as goal

pub bounds-sheet-0 : goal.bounds-sheet-0
bounds-sheet-0 c = choice-some c.args.sheet.now c.requires.0

pub put_patch-requires : goal.put_patch-requires
put_patch-requires c = (choice-patch c.args.sheet.now c.requires.0 c.if-sheet-eq16.true, c.requires.1, c.requires.2)

pub returns-then-sheet-eq16 : goal.returns-then-sheet-eq16
returns-then-sheet-eq16 c =
    let a = c.args in
    c.put_patch.ensures ∙ sym (choice-patched a.sheet.now a.vectors.now c.if-sheet-eq16.true)

pub put_blind-requires : goal.put_blind-requires
put_blind-requires c = (choice-blind c.args.sheet.now c.requires.0 c.if-sheet-eq16.false, c.requires.1, c.requires.2)

pub returns : goal.returns
returns c =
    let a = c.args in
    c.put_blind.ensures ∙ sym (choice-blinded a.sheet.now a.vectors.now c.if-sheet-eq16.false)
