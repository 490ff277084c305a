-- `engine::sheet::put_blind` meets its contract. Assumes nothing.
use mathlib.Core.Path.{◌∙◌}
use native.Mathlib.Omega.{arith}
use Rattle.engine.proofs.Laws.Sheet.{pair-bytes}
use Rattle.engine.proofs.sheet.put_blind.Goals as goal

pub returns : goal.returns
returns c = let e = c.to_be_bytes.ensures ∙ pair-bytes c.args.reading (omega arith) in rw e at c.put_bytes.ensures
