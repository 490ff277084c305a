-- `engine::list::Vectors::listed` meets its contract. Assumes nothing.
use mathlib.Core.Path.{refl}
use Rattle.engine.specs.Inner.List.{listed_of}
use Rattle.engine.proofs.list.Vectors.listed.Goals as goal

pub returns : goal.returns
unfolding listed_of
returns c = refl
