-- `engine::tree::tree_size`: the number of nets falls.
use Rattle.engine.proofs.tree.+tree_size.Given as goal

abbrev pub decreases-tree_size : goal.decreases-tree_size
decreases-tree_size l = l.k
