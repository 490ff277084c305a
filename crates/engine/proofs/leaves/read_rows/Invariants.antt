-- `engine::leaves::read_rows` meets its contract. The invariant: the first k rows are those of their nets, the others 0.
-- Assumes nothing.
use lib.ListN.{get_or, replicate}
use Rattle.engine.specs.Inner.Kernel.{value_in, NetsSet}
use Rattle.engine.proofs.leaves.read_rows.Given as goal

abbrev pub invariant-loop-k : goal.invariant-loop-k
invariant-loop-k l = NetsSet 0 l.k (λ y i. value_in l.words y (get_or l.plan.reads.nets i 0)) (replicate 256 0) l.rows
