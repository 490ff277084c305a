-- `engine::tree::word_size`: the number of nets falls.
use Rattle.engine.proofs.tree.+word_size.Given as goal

abbrev pub decreases-word_size : goal.decreases-word_size
decreases-word_size l = l.k
