-- `engine::narrow::run_words` meets its contract. The invariant: at each input the values so far, with the gates left, give the whole.
-- Assumes nothing.
use Prim.Native.Nat.{ℕ, ◌<◌}
use mathlib.Core.Path.{◌≡◌}
use lib.ListN.{length, drop}
use Rattle.engine.specs.Inner.Packed.{code_value, evaluated}
use Rattle.engine.specs.Inner.Narrow.{values_at}
use Rattle.engine.proofs.narrow.run_words.Given as goal

abbrev pub invariant-loop-gate : goal.invariant-loop-gate
invariant-loop-gate l =
    (length l.words ≡ length l.initial.words)
    × ((y : ℕ) → y < 64
    → evaluated code_value (values_at l.words y) (drop l.gate-index l.gates) ≡ evaluated code_value (values_at l.initial.words y) l.gates)
