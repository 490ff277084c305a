-- `engine::merge::merge_gates` meets its contract. The invariant: the gates may stand for those at the start, each net has one that
-- stands for it, and the chains are of earlier gates. Assumes nothing.
use Rattle.engine.proofs.Laws.Merge.{Merging}
use Rattle.engine.proofs.merge.merge_gates.Given as goal

abbrev pub invariant-loop-i : goal.invariant-loop-i
invariant-loop-i l =
    Merging l.base l.count l.initial.gates l.i l.gates l.stands l.heads l.next
