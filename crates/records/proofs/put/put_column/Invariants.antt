-- `records::put::put_column` meets its contract: after i turns the first i numbers stand in bytes, and p is where the next one goes.
-- Assumes nothing.
use Prim.Native.Nat.{◌+◌, ◌*◌, ◌≤◌}
use mathlib.Core.Path.{◌≡◌}
use lib.ListN.{length, get_or}
use Rattle.records.specs.Inner.{spread}
use Rattle.records.proofs.put.put_column.Given as goal

abbrev pub invariant-loop-i : goal.invariant-loop-i
invariant-loop-i l =
    (l.i ≤ l.count)
    × (l.p ≡ l.at + l.size * l.i)
    × (length l.bytes ≡ 8188)
    × (l.bytes ≡ spread l.initial.bytes l.at l.size l.i (λ k. get_or l.xs k 0))
