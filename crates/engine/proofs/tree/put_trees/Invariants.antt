-- `engine::tree::put_trees` meets its contract. The invariant: the gates so far and the trees left are the whole.
-- Assumes nothing.
use lib.ListN.{length}
use Rattle.engine.proofs.Laws.Tree.{Growing}
use Rattle.engine.proofs.tree.put_trees.Given as goal

abbrev pub invariant-loop-t : goal.invariant-loop-t
invariant-loop-t l =
    Growing l.targets (length l.nets) l.base l.nets l.table l.count l.initial.numbers l.initial.gates l.numbers l.gates l.next l.t
