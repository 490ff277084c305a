-- `engine::sheet::put_number` meets its contract. Assumes nothing.
use mathlib.Core.Path.{◌∙◌}
use native.Mathlib.Omega.{arith}
use Rattle.engine.proofs.Laws.Sheet.{word-bytes}
use Rattle.engine.proofs.sheet.put_number.Goals as goal

pub returns : goal.returns
returns c = let e = c.to_be_bytes.ensures ∙ word-bytes c.args.x (omega arith) in rw e at c.put_bytes.ensures
