-- `engine::kernel::run` meets its contract. The invariant: in each scenario the values so far, with the gates left, give the whole.
-- Assumes nothing.
use Prim.Native.Nat.{ℕ, ◌<◌}
use mathlib.Core.Path.{◌≡◌}
use lib.ListN.{length}
use lib.Seq.{slice}
use Rattle.engine.specs.Inner.Packed.{code_value, evaluated}
use Rattle.engine.specs.Inner.Kernel.{column}
use Rattle.engine.proofs.kernel.run.Given as goal

abbrev pub invariant-loop-i : goal.invariant-loop-i
invariant-loop-i l =
    (length l.words ≡ length l.initial.words)
    × ((y : ℕ) → y < 1024
    → evaluated code_value (column l.words y) (slice l.i l.to l.gates) ≡ evaluated code_value (column l.initial.words y) (slice l.from l.to l.gates))
