-- `engine::guess::try_listed` meets its contract. The invariant: the row says 1 only of inputs that a listed vector rectifies. Assumes
-- nothing.
use Rattle.engine.specs.Inner.List.{listed_of}
use Rattle.engine.specs.Inner.Search.{FreeKept}
use Rattle.engine.proofs.Laws.Guess.{RowShown}
use Rattle.engine.proofs.guess.try_listed.Given as goal

abbrev pub invariant-loop-v : goal.invariant-loop-v
invariant-loop-v l =
    FreeKept l.plan l.initial.words l.words × RowShown l.plan l.initial.words (listed_of l.fn.list).vectors l.row
