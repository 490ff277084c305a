-- `engine::word::first_zero` meets its contract. The invariant: of the scenarios of the words passed the row says 1. Assumes
-- nothing.
use native.Mathlib.Omega.{arith}
use Rattle.engine.proofs.Laws.Leaves.{ones-more, zero-found}
use Rattle.engine.proofs.word.first_zero.Goals as goal

pub returns-then-ones-lt-WORD : goal.returns-then-ones-lt-WORD
returns-then-ones-lt-WORD c =
    let l = c.loop-w in
    zero-found c.args.row l.w _ l.invariant.1 c.trailing_ones-ones.ensures (omega arith) (omega arith) c.if-ones-lt-WORD.true

pub loop-w-preserved : goal.loop-w-preserved
loop-w-preserved c =
    let l = c.loop-w in (
      omega arith,
      λ y h. ones-more c.args.row l.w _ l.invariant.1 c.trailing_ones-ones.ensures (omega arith) y (omega arith) (omega arith),
    )
