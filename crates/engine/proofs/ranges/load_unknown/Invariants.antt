-- `engine::ranges::load_unknown` meets its contract. The invariant: the first i of the places are not yet known.
-- Assumes nothing.
use Rattle.engine.specs.Ternary.{unknown}
use Rattle.engine.proofs.Laws.Partial.{Filling}
use Rattle.engine.proofs.ranges.load_unknown.Given as goal

abbrev pub invariant-loop-i : goal.invariant-loop-i
invariant-loop-i l = Filling l.initial.known l.at (λ k. unknown) l.known l.i
