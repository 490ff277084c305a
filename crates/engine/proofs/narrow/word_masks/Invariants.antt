-- `engine::narrow::word_masks` meets its contract. The invariant: the rows of the vectors taken so far are done, and the words are those at the
-- last of them. Assumes nothing.
use Prim.Native.Nat.{◌^◌, ◌≤◌}
use mathlib.Core.Path.{◌≡◌}
use lib.ListN.{length}
use Rattle.records.specs.Job.{Job}
use Rattle.engine.specs.Inner.Miter.{MergedOf}
use Rattle.engine.proofs.Laws.Narrow.{WordsTo}
use Rattle.engine.proofs.narrow.word_masks.Given as goal

abbrev pub invariant-loop-step : goal.invariant-loop-step
invariant-loop-step l =
    (length l.words ≡ 1024)
    × (length l.masks ≡ 256)
    × (l.step ≤ l.vectors)
    × (l.vectors ≡ 2 ^ l.miter.targets)
    × ((j : Job) → MergedOf j l.miter → WordsTo j l.miter l.step l.words l.masks)
