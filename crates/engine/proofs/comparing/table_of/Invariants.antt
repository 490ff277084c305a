-- `engine::comparing::table_of` meets its contract. The invariant: the first k entries are copied. Assumes nothing.
use Prim.Native.Nat.{◌+◌}
use lib.ListN.{get_or, replicate}
use Rattle.engine.specs.Inner.Kernel.{Filled}
use Rattle.engine.proofs.comparing.table_of.Given as goal

abbrev pub invariant-loop-k : goal.invariant-loop-k
invariant-loop-k l =
    Filled (λ i. get_or l.sheet (l.start + i) 0) 0 l.k (replicate 1024 0) l.table
