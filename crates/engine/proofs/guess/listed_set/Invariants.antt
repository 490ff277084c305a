-- `engine::guess::listed_set` meets its contract. The invariant: each vector of the set is one of those passed. Assumes nothing.
use lib.ListN.{take}
use Rattle.engine.specs.Inner.List.{listed_of}
use Rattle.engine.proofs.Laws.Guess.{SetOf}
use Rattle.engine.proofs.guess.listed_set.Given as goal

abbrev pub invariant-loop-v : goal.invariant-loop-v
invariant-loop-v l = SetOf (take l.v-index (listed_of l.list).vectors) l.set
