-- `records::field::field_at` meets its contract: each test that fails says that no whole field with the tag stands
-- at the position. Assumes nothing.
use native.Mathlib.Omega.{arith}
use Rattle.records.specs.Inner.{field_at}
use Rattle.records.proofs.Laws.Field.{body_length-drop, fits-short, fits-other-tag, fits-long, fits_whole}
use Rattle.records.proofs.field.field_at.Goals as goal

pub returns-then-s-at : goal.returns-then-s-at
unfolding field_at
returns-then-s-at c = let a = c.args in rw (fits-short a.s.now a.at a.tag (omega arith))

pub returns-then-s-at-lt3 : goal.returns-then-s-at-lt3
unfolding field_at
returns-then-s-at-lt3 c = let a = c.args in rw (fits-short a.s.now a.at a.tag (omega arith))

pub returns-then-s-at-2 : goal.returns-then-s-at-2
unfolding field_at
returns-then-s-at-2 c =
    let a = c.args in
    rw (fits-other-tag a.s.now a.at a.tag c.if-s-at-2.true)

pub returns-then-s-start : goal.returns-then-s-start
unfolding field_at
returns-then-s-start c =
    let a = c.args in
    rw (fits-long a.s.now a.at a.tag (omega arith))

pub returns : goal.returns
unfolding field_at
returns c =
    let a = c.args in
    rw (fits_whole a.s.now a.at a.tag (omega arith) (omega arith), body_length-drop a.s.now a.at, c.word_at-len.ensures)
