-- `engine::note::listed_row` meets its contract. The invariant: where the words say 1, one of the vectors before place v is in
-- the set. Assumes nothing.
use lib.ListN.{take}
use Rattle.engine.specs.Inner.List.{listed_of}
use Rattle.engine.specs.Inner.Note.{Joined}
use Rattle.engine.proofs.note.listed_row.Given as goal

abbrev pub invariant-loop-v : goal.invariant-loop-v
invariant-loop-v l = Joined l.masks (take l.v-index (listed_of l.list).vectors) l.words
