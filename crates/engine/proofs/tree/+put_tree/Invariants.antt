-- `engine::tree::put_tree`: the number of nets falls.
use lib.ListN.{length}
use Rattle.engine.proofs.tree.+put_tree.Given as goal

abbrev pub decreases-put_tree : goal.decreases-put_tree
decreases-put_tree l = length l.nets.now
