-- `engine::leaves::set_vector` meets its contract. The invariant: the first i targets have their bits. Assumes nothing.
use mathlib.Core.Path.{refl, sym}
use native.Mathlib.Omega.{arith}
use Rattle.engine.proofs.Laws.Leaves.{net-alike, nets-next}
use Rattle.engine.proofs.Laws.Shift.{bit_shifted}
use Rattle.engine.proofs.leaves.set_vector.Goals as goal

pub loop-i-preserved : goal.loop-i-preserved
loop-i-preserved c =
    let l = c.loop-i in (
      omega arith,
      nets-next _ l.i _ _ _ l.words _ l.invariant.1 refl
          (net-alike _ _ _ _ _ c.set_net.ensures (λ y h. sym (bit_shifted l.i _))),
    )
