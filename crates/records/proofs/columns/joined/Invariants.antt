-- `records::columns::joined` meets its contract: after i turns the first i gates of the columns stand at the start.
-- Assumes nothing.
use Prim.Native.Nat.{ℕ, ◌+◌, ◌*◌, ◌≤◌}
use mathlib.Core.List.{List}
use lib.ListN.{get_or}
use Rattle.records.specs.Inner.{no_gates}
use Rattle.records.specs.declared.gate.Gate.{Gate}
use Rattle.records.proofs.Laws.Job.{Filled}
use Rattle.records.proofs.columns.joined.Given as goal

-- gate i of columns
abbrev pub gate : List ℕ → List ℕ → List ℕ → ℕ → Gate
gate kinds counts slots i =
    record {
      kind = get_or kinds i 0;
      count = get_or counts i 0;
      first = get_or slots (4 * i) 0;
      second = get_or slots (4 * i + 1) 0;
      third = get_or slots (4 * i + 2) 0;
      fourth = get_or slots (4 * i + 3) 0;
    }

abbrev pub invariant-loop-k : goal.invariant-loop-k
invariant-loop-k l = (l.k ≤ l.count) × Filled no_gates l.gates l.k (gate l.kinds l.counts l.slots)
