-- `engine::ranges::load_partial` meets its contract. The invariant: what is known of the first i inputs stands in its places.
-- Assumes nothing.
use Rattle.engine.specs.Inner.Ranges.{partial_input}
use Rattle.engine.proofs.Laws.Partial.{Filling}
use Rattle.engine.proofs.ranges.load_partial.Given as goal

abbrev pub invariant-loop-i : goal.invariant-loop-i
invariant-loop-i l = Filling l.initial.known 0 (partial_input l.low l.prefix) l.known l.i
