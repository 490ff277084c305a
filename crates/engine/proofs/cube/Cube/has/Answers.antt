-- `engine::cube::Cube::has` meets its contract: where the reading differs from the value, care has no bit. Assumes nothing.
use borrow.Author.Tests.{eqb-true}
use Rattle.engine.proofs.Laws.Cover.{in-cube}
use Rattle.engine.proofs.cube.Cube.has.Goals as goal

pub returns : goal.returns
returns c e = in-cube c.args.self _ (eqb-true _ 0 e)
