-- `records::fill::fill_words` meets its contract: after i turns the first i numbers of the column stand at the places'
-- start, and at is where the number of record i stands. Assumes nothing.
use Prim.Native.Nat.{◌+◌, ◌≤◌, ◌*◌}
use mathlib.Core.Path.{◌≡◌}
use Rattle.records.specs.Bytes.{word}
use Rattle.records.proofs.Laws.Job.{Filled}
use Rattle.records.proofs.fill.fill_words.Given as goal

abbrev pub invariant-loop-i : goal.invariant-loop-i
invariant-loop-i l =
    (l.i ≤ l.count) × (l.at ≡ l.size * l.i + l.offset) × Filled l.initial.places l.places l.i (λ k. word l.s (l.size * k + l.offset))
