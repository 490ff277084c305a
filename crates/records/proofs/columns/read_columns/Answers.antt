-- `records::columns::read_columns` meets its contract: past the checks of its columns it replies what read replies, and splits the
-- gates that read leaves. Assumes nothing.
use mathlib.Core.Path.{sym, ◌∙◌}
use mathlib.Core.List.{[]}
use Rattle.records.specs.Service.{no_gate, no_gates}
use Rattle.records.specs.Columns.{side_columns, columns}
use Rattle.records.proofs.Laws.Counts.{passes, fails}
use Rattle.records.proofs.Laws.Columns.{small-old, small-golden, old-splits, golden-splits, read-columns-refused, read-columns-ends}
use Rattle.records.proofs.Laws.Option.{err-is}
use Rattle.records.proofs.Laws.Reply.{replied}
use Rattle.records.proofs.columns.read_columns.Goals as goal

pub returns-in_default : goal.returns-in_default
returns-in_default c = replied (small-old _ _ (fails _ (sym c.check_columns-old_room.ensures ∙ c.in_default.is)))

pub returns-in_default-golden_room : goal.returns-in_default-golden_room
returns-in_default-golden_room c =
    replied (small-golden _ _ (fails _ (sym c.check_columns-golden_room.ensures ∙ c.in_default-golden_room.is)))

pub returns-in_err-counts : goal.returns-in_err-counts
unfolding no_gates no_gate
returns-in_err-counts c =
    let a = c.args in
    let e = c.in_err-counts.ensures in
    rw (err-is _ _ c.from_residual.ensures.1)
    (replied
    (read-columns-refused
    (columns
    (side_columns a.old_kinds.now a.old_counts.now a.old_slots.now a.old_outputs.now)
    (side_columns a.golden_kinds.now a.golden_counts.now a.golden_slots.now a.golden_outputs.now)
    a.nets.now a.weights.now)
    _ e.lent _ e.reply (passes _ (sym c.check_columns-old_room.ensures ∙ c.in-Passed.is))
    (passes _ (sym c.check_columns-golden_room.ensures ∙ c.in-Passed-golden_room.is))))

-- the kinds, counts and slots of the other netlist play no part: none stand for them
pub split-requires : goal.split-requires
unfolding no_gates no_gate
split-requires c =
    let e = c.in_ok-counts.ensures in
    old-splits (columns _ (side_columns [] [] [] _) _ _) _ e.lent _ e.reply
    (passes _ (sym c.check_columns-old_room.ensures ∙ c.in-Passed.is))

pub split-requires-2 : goal.split-requires-2
unfolding no_gates no_gate
split-requires-2 c =
    let e = c.in_ok-counts.ensures in
    golden-splits (columns (side_columns [] [] [] _) _ _ _) _ e.lent _ e.reply
    (passes _ (sym c.check_columns-golden_room.ensures ∙ c.in-Passed-golden_room.is))

pub returns : goal.returns
unfolding no_gates no_gate
returns c =
    let e = c.in_ok-counts.ensures in
    replied
    (read-columns-ends _ _ e.lent _ e.reply (passes _ (sym c.check_columns-old_room.ensures ∙ c.in-Passed.is))
    (passes _ (sym c.check_columns-golden_room.ensures ∙ c.in-Passed-golden_room.is)) c.split.ensures c.split-2.ensures)
