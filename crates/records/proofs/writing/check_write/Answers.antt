-- `records::writing::check_write` meets its contract: at each return the tests so far are known. Assumes nothing.
use mathlib.Core.Path.{sym, ◌∙◌}
use borrow.Author.Tests.{lt-leb, le-leb}
use Rattle.records.specs.Refusal.{first_failing}
use Rattle.records.specs.Service.{number_of}
use Rattle.records.specs.Inner.{write_tests_number}
use Rattle.records.proofs.Laws.Counts.{passes, fails}
use Rattle.records.proofs.writing.check_write.Goals as goal

pub returns-then-size-lt-LONGEST_JOB : goal.returns-then-size-lt-LONGEST_JOB
unfolding number_of write_tests_number first_failing
returns-then-size-lt-LONGEST_JOB c = rw (lt-leb _ _ c.if-size-lt-LONGEST_JOB.true)

pub returns-in_default : goal.returns-in_default
unfolding number_of write_tests_number first_failing
returns-in_default c =
    let f = fails _ (sym c.check_counts.ensures ∙ c.in_default.is) in
    rw (le-leb _ _ c.if-size-lt-LONGEST_JOB.false, f)

pub returns-in_default-check_held : goal.returns-in_default-check_held
unfolding number_of write_tests_number first_failing
returns-in_default-check_held c =
    let p = passes _ (sym c.check_counts.ensures ∙ c.in-Passed.is) in
    let f = fails _ (sym c.check_held.ensures ∙ c.in_default-check_held.is) in
    rw (le-leb _ _ c.if-size-lt-LONGEST_JOB.false, p, f)

pub returns : goal.returns
unfolding write_tests_number first_failing
returns c =
    let p = passes _ (sym c.check_counts.ensures ∙ c.in-Passed.is) in
    let q = passes _ (sym c.check_held.ensures ∙ c.in-Passed-check_held.is) in
    rw (le-leb _ _ c.if-size-lt-LONGEST_JOB.false, p, q)
