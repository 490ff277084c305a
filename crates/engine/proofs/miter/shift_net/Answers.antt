-- `engine::miter::shift_net` meets its contract: its two cases are those of the definition. Assumes nothing.
use mathlib.Core.Path.{sym}
use native.Mathlib.Omega.{arith}
use Rattle.engine.proofs.Laws.Miter.{shifted_net-input, shifted_net-gate}
use Rattle.engine.proofs.miter.shift_net.Goals as goal

pub returns-then-net-inputs : goal.returns-then-net-inputs
returns-then-net-inputs c = let a = c.args in (sym (shifted_net-input a.inputs a.shift a.net (omega arith)), omega arith)

pub returns : goal.returns
returns c = let a = c.args in (sym (shifted_net-gate a.inputs a.shift a.net (omega arith)), omega arith)
