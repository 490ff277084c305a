-- `engine::given::is_skipped` meets its contract by computing. Assumes nothing.
use mathlib.Core.Path.{refl}
use Rattle.engine.specs.Eval.{bit}
use Rattle.engine.proofs.given.is_skipped.Goals as goal

pub returns : goal.returns
unfolding bit
returns c = refl
