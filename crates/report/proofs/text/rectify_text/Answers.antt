-- The text of the verdict at the start of the lent buffer.
use Rattle.std.proofs.Common.{◌≤◌, ◌∙◌, arith, length}
use Rattle.report.proofs.Laws.Printed.{told-short, told}
use Rattle.report.proofs.text.rectify_text.Goals as goal

pub returns-then-text-lt-LONGEST_TEXT : goal.returns-then-text-lt-LONGEST_TEXT
returns-then-text-lt-LONGEST_TEXT c =
    let a = c.args in
    let whole = told-short a.text.now a.job.now c.if-text-lt-LONGEST_TEXT.true in
    record { value = whole.0; text_after = whole.1.0; upper_bound = whole.1.1 }

pub returns : goal.returns
returns c =
    let a = c.args in
    let n = c.len-len.ensures in
    let copied = c.copy_from_slice.ensures.after ∙ c.as_slice.ensures.value in
    let short : length c.put_verdict.new.text.items ≤ 8366 = omega (arith, n.value, n.fits) in
    let whole = told a.text.now a.job.now c.if-text-lt-LONGEST_TEXT.false c.put_verdict.ensures short in
    rw (n.value, copied) (record { value = whole.0; text_after = whole.1.0; upper_bound = whole.1.1 })
