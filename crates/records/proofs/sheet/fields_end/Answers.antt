-- `records::sheet::fields_end` meets its contract. The loop's invariant: at is where the fields before the next end. Assumes nothing.
use mathlib.Core.Path.{◌≡◌, sym}
use native.Mathlib.Omega.{arith}
use native.Mathlib.Numerals.{add-one}
use Rattle.records.proofs.Laws.Field.{position_of-zero, position_of-next, position_past, start_of-position}
use Rattle.records.proofs.sheet.fields_end.Goals as goal

pub loop-init : goal.loop-init
loop-init c = (omega arith, omega arith, sym (position_of-zero c.args.s.now))

pub returns-then-s-at-lt3 : goal.returns-then-s-at-lt3
returns-then-s-at-lt3 c =
    let a = c.args in
    let p = position_past c.loop.counter a.count a.s.now c.loop.at c.loop.invariant.2 (omega arith) (omega arith) in
    (omega arith, λ h. let f : ⊥ = omega arith in absurd f)

pub returns-then-s-at : goal.returns-then-s-at
returns-then-s-at c =
    let a = c.args in
    let p = position_past c.loop.counter a.count a.s.now c.loop.at c.loop.invariant.2 (omega arith) (omega (arith, c.word_at-len.ensures)) in
    (omega arith, λ h. let f : ⊥ = omega arith in absurd f)

pub loop-preserved : goal.loop-preserved
loop-preserved c =
    let a = c.args in
    let n = position_of-next c.loop.counter a.s.now c.loop.at c.loop.invariant.2 in
    (omega arith, omega arith, rw add-one (omega (arith, n, c.word_at-len.ensures)))

pub returns : goal.returns
returns c =
    let a = c.args in
    let i : c.loop.counter ≡ a.count = omega arith in
    (omega arith, λ h. rw (← i) (omega (arith, c.loop.invariant.2, start_of-position c.loop.counter a.s.now)))
