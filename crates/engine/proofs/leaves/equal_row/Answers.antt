-- `engine::leaves::equal_row` meets its contract. The invariant: the row says where the first k outputs are equal. Assumes nothing.
use mathlib.Core.Path.{◌∙◌}
use native.Mathlib.Omega.{arith}
use Rattle.engine.specs.Choice.{same}
use Rattle.engine.proofs.Laws.Kernel.{row-replicate}
use Rattle.engine.proofs.Laws.Leaves.{equal_next}
use Rattle.engine.proofs.Laws.Word.{bit-ones}
use Rattle.engine.proofs.leaves.equal_row.Goals as goal

pub loop-k-init : goal.loop-k-init
unfolding same
loop-k-init c y h = row-replicate _ y h ∙ bit-ones _ (omega arith)

pub loop-k-preserved : goal.loop-k-preserved
loop-k-preserved c y h =
    let l = c.loop-k in
    equal_next _ _ _ l.k _ _ (omega arith) (omega arith) (l.invariant y h) (c.keep_equal.ensures y h)
