-- `engine::ranges::eval_partial` meets its contract. The invariant: what is known so far, with the gates left, gives the whole.
-- Assumes nothing.
use mathlib.Core.Path.{◌≡◌}
use lib.ListN.{drop}
use Rattle.engine.specs.Inner.Packed.{evaluated}
use Rattle.engine.specs.Inner.Ranges.{code_ternary}
use Rattle.engine.proofs.ranges.eval_partial.Given as goal

abbrev pub invariant-loop-c : goal.invariant-loop-c
invariant-loop-c l = evaluated code_ternary l.known (drop l.c-index l.gates) ≡ evaluated code_ternary l.initial.known l.gates
