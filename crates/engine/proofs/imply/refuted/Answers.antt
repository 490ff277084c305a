-- `engine::imply::refuted` meets its contract: of values that have the cube's the first step would go well. Assumes nothing.
use Rattle.std.proofs.Common.{rules}
use Rattle.engine.proofs.Laws.Imply.{known-none, learns-never}
use Rattle.engine.proofs.imply.refuted.Goals as goal

pub returns-then-is_err : goal.returns-then-is_err
returns-then-is_err c o vs a m = learns-never c.learn_cube.ensures (search rules) vs (known-none vs) m

pub returns : goal.returns
returns c o vs a m = c.contradicts.ensures o vs a (c.learn_cube.ensures.more vs (known-none vs) m)
