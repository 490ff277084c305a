-- `engine::ranges::load_partial` meets its contract. The invariant: what is known of the first i inputs stands in its places.
-- Assumes nothing.
use mathlib.Core.Path.{sym}
use native.Mathlib.Nat.{zero-add}
use native.Mathlib.Omega.{arith}
use Rattle.engine.specs.Inner.Ranges.{partial_input}
use Rattle.engine.proofs.Laws.Partial.{filling-none, filling-next}
use Rattle.engine.proofs.ranges.load_partial.Goals as goal

pub loop-i-init : goal.loop-i-init
loop-i-init c = filling-none _ _ _

pub loop-i-preserved : goal.loop-i-preserved
loop-i-preserved c =
    let a = c.args in
    let l = c.loop-i in
    filling-next a.known.now 0 (partial_input a.low a.prefix) l.known l.i l.i c.partial_input.result (sym (zero-add l.i))
    (omega arith)
    c.partial_input.ensures l.invariant
