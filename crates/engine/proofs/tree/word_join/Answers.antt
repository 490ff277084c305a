-- `engine::tree::word_join` meets its contract. Assumes nothing.
use mathlib.Core.Bool.{true, false}
use borrow.Author.Tests.{eq-eqb, ne_eqb}
use Rattle.engine.specs.Eval.{bits}
use Rattle.engine.proofs.Laws.Join.{join-zeros, join-ones, join-low, join-both}
use Rattle.engine.proofs.Laws.TreeWord.{zeros-word, ones-word}
use Rattle.engine.proofs.tree.word_join.Goals as goal

pub returns-then-high-ones : goal.returns-then-high-ones
returns-then-high-ones c =
    λ n o l h.
    let a = c.args in
    join-zeros (bits n a.low) (bits n a.high) (zeros-word n a.low l) true (ones-word n a.high h a.ones o)
    (eq-eqb _ _ c.if-low-eq0.true)
    (eq-eqb _ _ c.if-high-ones.true)

pub returns-then-low-eq0 : goal.returns-then-low-eq0
returns-then-low-eq0 c =
    λ n o l h.
    let a = c.args in
    join-zeros (bits n a.low) (bits n a.high) (zeros-word n a.low l) false (ones-word n a.high h a.ones o)
    (eq-eqb _ _ c.if-low-eq0.true)
    (ne_eqb _ _ c.if-high-ones.false)

pub returns-then-high-eq0 : goal.returns-then-high-eq0
returns-then-high-eq0 c =
    λ n o l h.
    let a = c.args in
    join-ones (bits n a.low) (bits n a.high) (zeros-word n a.low l) (ones-word n a.low l a.ones o) (zeros-word n a.high h)
    (ne_eqb _ _ c.if-low-eq0.false)
    true
    (eq-eqb _ _ c.if-low-ones.true)
    (eq-eqb _ _ c.if-high-eq0.true)

pub returns-then-low-ones : goal.returns-then-low-ones
returns-then-low-ones c =
    λ n o l h.
    let a = c.args in
    join-ones (bits n a.low) (bits n a.high) (zeros-word n a.low l) (ones-word n a.low l a.ones o) (zeros-word n a.high h)
    (ne_eqb _ _ c.if-low-eq0.false)
    false
    (eq-eqb _ _ c.if-low-ones.true)
    (ne_eqb _ _ c.if-high-eq0.false)

pub returns-then-high-eq0-2 : goal.returns-then-high-eq0-2
returns-then-high-eq0-2 c =
    λ n o l h.
    let a = c.args in
    join-low (bits n a.low) (bits n a.high) (zeros-word n a.low l) (ones-word n a.low l a.ones o) (zeros-word n a.high h)
    (ne_eqb _ _ c.if-low-eq0.false)
    (ne_eqb _ _ c.if-low-ones.false)
    (eq-eqb _ _ c.if-high-eq0-2.true)

pub returns-then-high-ones-2 : goal.returns-then-high-ones-2
returns-then-high-ones-2 c =
    λ n o l h.
    let a = c.args in
    join-both (bits n a.low) (bits n a.high) (zeros-word n a.low l) (ones-word n a.low l a.ones o) (zeros-word n a.high h)
    (ne_eqb _ _ c.if-low-eq0.false)
    true
    (ones-word n a.high h a.ones o)
    (ne_eqb _ _ c.if-low-ones.false)
    (ne_eqb _ _ c.if-high-eq0-2.false)
    (eq-eqb _ _ c.if-high-ones-2.true)

pub returns : goal.returns
returns c =
    λ n o l h.
    let a = c.args in
    join-both (bits n a.low) (bits n a.high) (zeros-word n a.low l) (ones-word n a.low l a.ones o) (zeros-word n a.high h)
    (ne_eqb _ _ c.if-low-eq0.false)
    false
    (ones-word n a.high h a.ones o)
    (ne_eqb _ _ c.if-low-ones.false)
    (ne_eqb _ _ c.if-high-eq0-2.false)
    (ne_eqb _ _ c.if-high-ones-2.false)
