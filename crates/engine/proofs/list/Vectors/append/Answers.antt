-- `engine::list::Vectors::append` meets its contract. Assumes nothing.
use native.Mathlib.Omega.{arith}
use Rattle.engine.specs.Inner.List.{listed_of}
use Rattle.engine.proofs.Laws.Stream.{listed-append}
use Rattle.engine.proofs.list.Vectors.append.Goals as goal

pub returns : goal.returns
unfolding listed_of
returns c = rw (listed-append c.args.self.now c.args.vector (omega arith))
