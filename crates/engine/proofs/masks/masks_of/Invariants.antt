-- `engine::masks::masks_of` meets its contract. The invariant: the words are those at the vector of the step before, and the rows of
-- the steps so far are done. Assumes nothing.
use Prim.Native.Nat.{◌^◌, ◌<◌}
use mathlib.Core.Path.{◌≡◌}
use Rattle.engine.proofs.Laws.Searching.{MasksDone}
use Rattle.engine.proofs.masks.masks_of.Given as goal

abbrev pub invariant-loop-step : goal.invariant-loop-step
invariant-loop-step l =
    (0 < l.step) × (l.vectors ≡ 2 ^ l.plan.targets) × MasksDone l.plan l.u l.initial.words l.step l.words l.masks
