-- `engine::imply::learn_from_net` meets its contract. Assumes nothing.
use mathlib.Core.Path.{refl}
use native.Mathlib.Omega.{arith}
use Rattle.engine.specs.Inner.Packed.{own}
use Rattle.engine.proofs.Laws.Imply.{learns_none, learns-then, gate-plain}
use Rattle.engine.proofs.imply.learn_from_net.Goals as goal

pub returns-then-forces : goal.returns-then-forces
returns-then-forces c =
    learns-then (learns_none _)
    (λ vs k g.
    c.forces.ensures c.if-forces.true vs g.binary
    (gate-plain c.args.c _ vs g (k (own c.args.c) (omega arith) (omega arith))))
    c.learn_operands.ensures
    refl
