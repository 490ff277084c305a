-- `engine::imply::learn_cube` meets its contract. The invariant: the steps so far went well. Assumes nothing.
use native.Mathlib.Omega.{arith}
use Rattle.std.proofs.Common.{rules}
use Rattle.engine.specs.Eval.{bit}
use Rattle.engine.proofs.Laws.Imply.{learns-then}
use Rattle.engine.proofs.imply.learn_cube.Goals as goal
use Rattle.engine.proofs.imply.learn_cube.Goals.{then-care-k-eq1+in_ok-learn, else-care-k-eq1}

pub returns-in_err-learn : goal.returns-in_err-learn
unfolding bit
returns-in_err-learn c =
    let l = c.loop-k in
    learns-then l.invariant (λ vs k a. a l.k (omega arith) c.if-care-k-eq1.true) c.learn.ensures (search rules)

pub loop-k-preserved : goal.loop-k-preserved
unfolding bit
loop-k-preserved c =
    let l = c.loop-k in
    elim c.if-care-k-eq1.branch [
      | then-care-k-eq1+in_ok-learn w ↦
          rw w.known-is (learns-then l.invariant (λ vs k a. a l.k (omega arith) w.if-care-k-eq1.true) w.learn.ensures (search rules))
      | else-care-k-eq1 w ↦ rw w.known-is l.invariant
    ]
