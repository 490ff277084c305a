-- `engine::table::is_unseen` meets its contract by computing. Assumes nothing.
use mathlib.Core.Path.{refl}
use Rattle.engine.specs.Eval.{bit}
use Rattle.engine.proofs.table.is_unseen.Goals as goal

pub returns : goal.returns
unfolding bit
returns c = refl
