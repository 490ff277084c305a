-- `records::columns::write_columns` meets its contract: past the checks of its counts and columns it replies what write replies for the
-- gates joined from them. Assumes nothing.
use mathlib.Core.Path.{◌≡◌, sym, ◌∙◌}
use mathlib.Core.Bool.{true}
use native.Mathlib.Nat.{le_refl}
use lib.ListN.{length}
use Rattle.records.specs.Inner.{Within, columns_hold}
use Rattle.records.proofs.Laws.Counts.{passes, fails, counts_within-facts}
use Rattle.records.proofs.Laws.Columns.{splits_of, write-columns-ends, put-short, put-counts, unheld-old, unheld-golden}
use Rattle.records.proofs.Laws.Reply.{replied}
use Rattle.records.proofs.columns.write_columns.Goals as goal
use Rattle.records.proofs.columns.write_columns.Goals.{In-Passed-golden_held}

pub returns-then-buf-lt-LONGEST_JOB : goal.returns-then-buf-lt-LONGEST_JOB
returns-then-buf-lt-LONGEST_JOB c = replied (put-short _ _ _ c.if-buf-lt-LONGEST_JOB.true)

pub returns-in_default : goal.returns-in_default
returns-in_default c =
    replied (put-counts _ _ _ c.if-buf-lt-LONGEST_JOB.false (fails _ (sym c.check_counts.ensures ∙ c.in_default.is)))

pub returns-in_default-old_held : goal.returns-in_default-old_held
returns-in_default-old_held c =
    replied
    (unheld-old _ _ _ c.if-buf-lt-LONGEST_JOB.false (fails _ (sym c.check_columns-old_held.ensures ∙ c.in_default-old_held.is)))

pub returns-in_default-golden_held : goal.returns-in_default-golden_held
returns-in_default-golden_held c =
    replied
    (unheld-golden _ _ _ c.if-buf-lt-LONGEST_JOB.false (fails _ (sym c.check_columns-golden_held.ensures ∙ c.in_default-golden_held.is)))

-- past the checks the counts are within their ranges, and each netlist's columns hold its gates
within : (c : In-Passed-golden_held) → Within c.args.counts
within c = counts_within-facts _ (passes _ (sym c.check_counts.ensures ∙ c.in-Passed.is))

old-holds : (c : In-Passed-golden_held)
    → let a = c.args in
    columns_hold a.counts.old.gates (length a.old_kinds.now) (length a.old_counts.now) (length a.old_slots.now) ≡ true
old-holds c = passes _ (sym c.check_columns-old_held.ensures ∙ c.in-Passed-old_held.is)

golden-holds : (c : In-Passed-golden_held)
    → let a = c.args in
    columns_hold a.counts.golden.gates (length a.golden_kinds.now) (length a.golden_counts.now) (length a.golden_slots.now) ≡ true
golden-holds c = passes _ (sym c.check_columns-golden_held.ensures ∙ c.in-Passed-golden_held.is)

pub joined-old_gates-requires : goal.joined-old_gates-requires
joined-old_gates-requires c =
    let t = (goal.at.joined-old_gates-requires c).In-Passed-golden_held in
    splits_of _ _ _ _ _ _ (within t).old.gates (le_refl _) (old-holds t)

pub joined-golden_gates-requires : goal.joined-golden_gates-requires
joined-golden_gates-requires c =
    let t = (goal.at.joined-golden_gates-requires c).In-Passed-golden_held in
    splits_of _ _ _ _ _ _ (within t).golden.gates (le_refl _) (golden-holds t)

pub returns : goal.returns
returns c =
    let t = (goal.at.returns c).In-Passed-golden_held in
    replied
    (write-columns-ends _ _ _ (old-holds t) (golden-holds t) _ _ _ _ c.joined-old_gates.ensures c.joined-golden_gates.ensures
    (c.write.ensures.reply, c.write.ensures.lent))
