-- `engine::imply::contradicts` meets its contract: it calls itself for both values of a net. Assumes nothing.
use native.Mathlib.Omega.{arith}
use Rattle.std.proofs.Common.{rules}
use Rattle.engine.proofs.Laws.Imply.{both-never}
use Rattle.engine.proofs.imply.+contradicts.Goals as goal

pub returns : goal.returns
returns t c o vs v m =
    both-never c.learn_backward.ensures c.learn_forward.ensures (λ us u. u.0) (omega arith) c.in-Some.i (search rules)
    (c.contradicts.ensures c.if-not-contradicts.false)
    (c.contradicts-2.ensures o)
    vs
    v
    m
