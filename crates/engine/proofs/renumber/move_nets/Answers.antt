-- `engine::renumber::move_nets` meets its contract. Assumes nothing.
use mathlib.Core.Path.{refl}
use native.Mathlib.Omega.{arith}
use lib.ListN.{get_or}
use Rattle.engine.proofs.Laws.InPlace.{mapped-at, mapped-next, mapped-all}
use Rattle.engine.proofs.renumber.move_nets.Goals as goal

pub bounds-numbers-net : goal.bounds-numbers-net
bounds-numbers-net c =
    let l = c.loop-net in
    omega (arith, mapped-at (λ o. get_or c.args.numbers.now o 0) l.net-index c.args.nets.now l.invariant, c.requires l.net-index)

pub loop-net-preserved : goal.loop-net-preserved
loop-net-preserved c = mapped-next (λ o. get_or c.args.numbers.now o 0) c.loop-net.net-index c.args.nets.now c.loop-net.invariant c.loop-net-test.true refl

pub returns : goal.returns
returns c = mapped-all _ c.loop-net.net-index c.args.nets.now c.loop-net.invariant (omega (arith, c.loop-net.auto.net-index-end))
