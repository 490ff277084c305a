-- `engine::list::Vectors::meets` meets its contract. The invariant: what is left from place v on decides. Assumes nothing.
use mathlib.Core.Path.{◌≡◌}
use lib.ListN.{drop}
use Rattle.engine.specs.Choice.{any}
use Rattle.engine.specs.Inner.List.{listed_of}
use Rattle.engine.proofs.Laws.VectorSets.{in_set}
use Rattle.engine.proofs.list.Vectors.meets.Given as goal

abbrev pub invariant-loop-v : goal.invariant-loop-v
invariant-loop-v l = any (in_set l.set) (drop l.v-index (listed_of l.self).vectors) ≡ any (in_set l.set) (listed_of l.self).vectors
