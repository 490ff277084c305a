-- `engine::ranges::load_unknown` meets its contract. The invariant: the first i of the places are not yet known.
-- Assumes nothing.
use mathlib.Core.Path.{refl}
use native.Mathlib.Omega.{arith}
use Rattle.engine.specs.Ternary.{unknown}
use Rattle.engine.proofs.Laws.Partial.{filling-none, filling-next}
use Rattle.engine.proofs.ranges.load_unknown.Goals as goal

pub loop-i-init : goal.loop-i-init
loop-i-init c = filling-none _ _ _

pub loop-i-preserved : goal.loop-i-preserved
loop-i-preserved c =
    let a = c.args in
    let l = c.loop-i in
    filling-next a.known.now a.at (λ k. unknown) l.known l.i _ _ refl (omega arith) refl l.invariant
