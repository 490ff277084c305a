-- `engine::leaves::set_net` meets its contract: 16 words of the same bit. Assumes nothing.
use Prim.Native.Nat.{◌%◌}
use mathlib.Core.Path.{◌∙◌}
use native.Mathlib.Omega.{arith}
use Rattle.engine.proofs.Laws.Kernel.{row-replicate}
use Rattle.engine.proofs.Laws.Leaves.{net-alike}
use Rattle.engine.proofs.leaves.set_net.Goals as goal

pub returns : goal.returns
returns c =
    let b = c.broadcast in
    net-alike _ _ _ _ _ c.set_row.ensures (λ y h. row-replicate b.result y h ∙ b.ensures (y % 64) (omega arith))
