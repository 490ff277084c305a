-- `engine::ranges::known_equal` meets its contract. The invariant: each of the first i outputs has one known value in both.
-- Assumes nothing.
use Prim.Native.Nat.{ℕ, ◌<◌}
use mathlib.Core.List.{List}
use lib.ListN.{get_or}
use Rattle.engine.specs.Inner.Ranges.{Known}
use Rattle.engine.proofs.ranges.known_equal.Given as goal

-- output i has one known value in both
abbrev pub KnownAt : List ℕ → List ℕ → List ℕ → ℕ → Type 0
KnownAt known os ps i = Known (get_or known (get_or os i 0) 0) (get_or known (get_or ps i 0) 0)

abbrev pub invariant-loop-i : goal.invariant-loop-i
invariant-loop-i l = (k : ℕ) → k < l.i → KnownAt l.known l.plan.outputs l.plan.goldens k
