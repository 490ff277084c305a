-- `engine::best::low_first` meets its contract. The invariant: what is left of the sets from place i on decides. Assumes nothing.
use Prim.Native.Nat.{ℕ, ◌/◌, ◌%◌, ◌^◌}
use mathlib.Core.Path.{◌≡◌, sym, ◌∙◌, ap}
use native.Mathlib.Omega.{arith}
use borrow.Author.Tests.{tests}
use lib.Dec.{eqb}
use Rattle.std.proofs.Common.{rules}
use Rattle.engine.specs.Eval.{bit}
use Rattle.engine.proofs.Laws.Picked.{in-both, low_from-end, low_from-same, low_from-other}
use Rattle.engine.proofs.best.low_first.Goals as goal

pub returns-then-has : goal.returns-then-has
unfolding bit
returns-then-has c =
    let a = c.args in
    let l = c.loop-i in
    let d : (a.a / 2 ^ l.i % 2 ≡ a.b / 2 ^ l.i % 2 → ⊥) =
    λ e.
    let s : c.has.result ≡ c.has-in-loop-i.result = c.has.ensures ∙ ap (λ (t : ℕ). eqb t 1) e ∙ sym c.has-in-loop-i.ensures in
    search (rules, tests) in
    c.has-then-has.ensures ∙ sym (low_from-other a.a a.b l.i c.loop-i-test.true d) ∙ l.invariant.1

pub loop-i-preserved : goal.loop-i-preserved
loop-i-preserved c =
    let a = c.args in
    let l = c.loop-i in
    let s : c.has.result ≡ c.has-in-loop-i.result = search (rules, tests) in
    let e = in-both l.i a.a a.b (sym c.has.ensures ∙ s ∙ c.has-in-loop-i.ensures) in
    (omega arith, sym (low_from-same a.a a.b l.i c.loop-i-test.true e) ∙ l.invariant.1)

pub returns : goal.returns
returns c =
    let a = c.args in
    let l = c.loop-i in
    sym (low_from-end a.a a.b l.i (omega arith)) ∙ l.invariant.1
