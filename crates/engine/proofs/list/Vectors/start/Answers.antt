-- `engine::list::Vectors::start` meets its contract. Assumes nothing.
use mathlib.Core.Path.{refl}
use Rattle.engine.specs.Inner.List.{stuck_at, listed_of}
use Rattle.engine.proofs.list.Vectors.start.Goals as goal

pub returns : goal.returns
unfolding listed_of stuck_at
returns c = refl
