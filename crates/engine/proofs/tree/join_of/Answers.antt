-- `engine::tree::join_of` meets its contract. Assumes nothing.
use mathlib.Core.Bool.{true, false}
use Rattle.engine.proofs.Laws.Join.{join-zeros, join-ones, join-low, join-both}
use Rattle.engine.proofs.tree.join_of.Goals as goal

pub returns-then-column_is-2 : goal.returns-then-column_is-2
returns-then-column_is-2 c =
    join-zeros _ _ c.column_is.ensures true c.column_is-then-column_is.ensures c.if-column_is.true
    c.if-column_is-2.true

pub returns-then-column_is : goal.returns-then-column_is
returns-then-column_is c =
    join-zeros _ _ c.column_is.ensures false c.column_is-then-column_is.ensures c.if-column_is.true
    c.if-column_is-2.false

pub returns-then-column_is-4 : goal.returns-then-column_is-4
returns-then-column_is-4 c =
    join-ones _ _ c.column_is.ensures c.column_is-2.ensures c.column_is-then-column_is-3.ensures
    c.if-column_is.false
    true
    c.if-column_is-3.true
    c.if-column_is-4.true

pub returns-then-column_is-3 : goal.returns-then-column_is-3
returns-then-column_is-3 c =
    join-ones _ _ c.column_is.ensures c.column_is-2.ensures c.column_is-then-column_is-3.ensures
    c.if-column_is.false
    false
    c.if-column_is-3.true
    c.if-column_is-4.false

pub returns-then-column_is-5 : goal.returns-then-column_is-5
returns-then-column_is-5 c =
    join-low _ _ c.column_is.ensures c.column_is-2.ensures c.column_is-3.ensures
    c.if-column_is.false
    c.if-column_is-3.false
    c.if-column_is-5.true

pub returns-then-column_is-6 : goal.returns-then-column_is-6
returns-then-column_is-6 c =
    join-both _ _ c.column_is.ensures c.column_is-2.ensures c.column_is-3.ensures c.if-column_is.false
    true
    c.column_is-4.ensures
    c.if-column_is-3.false
    c.if-column_is-5.false
    c.if-column_is-6.true

pub returns : goal.returns
returns c =
    join-both _ _ c.column_is.ensures c.column_is-2.ensures c.column_is-3.ensures c.if-column_is.false
    false
    c.column_is-4.ensures
    c.if-column_is-3.false
    c.if-column_is-5.false
    c.if-column_is-6.false
