-- `engine::sole::sole_of` meets its contract, by the four cases of a set. Assumes nothing.
use mathlib.Core.Path.{sym, ◌∙◌}
use native.Mathlib.Omega.{arith}
use Rattle.engine.proofs.Laws.Sole.{lone-power, power-lone, sole-above, sole_none, sole-one, sole-more}
use Rattle.engine.proofs.Laws.VectorSets.{lowest-lt}
use Rattle.engine.proofs.sole.sole_of.Goals as goal

pub returns-then-set-eq0 : goal.returns-then-set-eq0
returns-then-set-eq0 c = sym (sole_none c.args.set c.if-set-eq0.true)

pub returns-then-set-ge-UNSEEN : goal.returns-then-set-ge-UNSEEN
returns-then-set-ge-UNSEEN c =
    let s = c.args.set in
    sym (sole-more s c.if-set-eq0.false (sole-above s c.if-set-ge-UNSEEN.true))

pub returns-then-set-ne0 : goal.returns-then-set-ne0
returns-then-set-ne0 c =
    let s = c.args.set in
    sym (sole-more s c.if-set-eq0.false (λ e. c.if-set-ne0.true (power-lone s _ e)))

pub overflow_cast-result : goal.overflow_cast-result
overflow_cast-result c = omega (arith, c.lowest_of.ensures, lowest-lt c.args.set)

pub returns : goal.returns
returns c =
    let s = c.args.set in
    c.lowest_of.ensures ∙ sym (sole-one s c.if-set-eq0.false (lone-power s (omega (arith, c.if-set-ge-UNSEEN.false)) c.if-set-eq0.false c.if-set-ne0.false))
