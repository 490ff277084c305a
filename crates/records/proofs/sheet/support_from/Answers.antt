-- `records::sheet::support_from` meets its contract. The loop's invariant: the places hold the first i nets, and zeros
-- after them. Assumes nothing.
use Prim.Native.Nat.{ℕ}
use mathlib.Core.Path.{◌≡◌, refl, sym, ◌∙◌, ap}
use native.Mathlib.Omega.{arith}
use lib.ListN.{length, get_or}
use Rattle.records.specs.Inner.{word_column}
use Rattle.records.proofs.Laws.Sheet.{column-at, length-column, ten, ten-next, ten-all}
use Rattle.records.proofs.sheet.support_from.Goals as goal

pub loop-i-init : goal.loop-i-init
unfolding ten
loop-i-init c = (omega arith, refl)

pub loop-i-preserved : goal.loop-i-preserved
loop-i-preserved c =
    let a = c.args in
    let s = a.s.now in
    let xs = word_column s 2 3 a.len in
    let e : c.u16_at.result ≡ get_or xs c.loop-i.i 0 =
    c.u16_at.ensures ∙ sym (column-at s 2 3 a.len c.loop-i.i (omega arith)) in
    (omega arith, rw (c.loop-i.invariant.1, e) (ten-next xs c.loop-i.i (omega (arith, length-column s 2 3 a.len)) (omega arith)))

pub returns : goal.returns
returns c =
    let a = c.args in
    let s = a.s.now in
    let n = length-column s 2 3 a.len in
    let e : c.loop-i.i ≡ length (word_column s 2 3 a.len) = omega (arith, n) in
    rw (c.loop-i.invariant.1, e) (ap (λ (k : ℕ). record { nets = ten (word_column s 2 3 a.len) (length (word_column s 2 3 a.len)); len = k }) (sym n) ∙ ten-all (word_column s 2 3 a.len))
