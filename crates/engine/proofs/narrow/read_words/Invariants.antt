-- `engine::narrow::read_words` meets its contract. The invariant: the first k rows are those of their nets, the others 0.
-- Assumes nothing.
use Prim.Native.Nat.{◌%◌, ◌≤◌}
use lib.ListN.{length, get_or, replicate}
use Rattle.records.specs.Netlist.{net_at}
use Rattle.engine.specs.Inner.Kernel.{NetsSet}
use Rattle.engine.specs.Inner.Narrow.{values_at}
use Rattle.engine.proofs.narrow.read_words.Given as goal

abbrev pub invariant-loop-k : goal.invariant-loop-k
invariant-loop-k l =
    (l.k ≤ length l.nets) × NetsSet 0 l.k (λ y i. net_at (values_at l.words (y % 64)) (get_or l.nets i 0)) (replicate 256 0) l.rows
