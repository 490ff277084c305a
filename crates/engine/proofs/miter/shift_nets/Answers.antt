-- `engine::miter::shift_nets` meets its contract. Assumes nothing.
use native.Mathlib.Omega.{arith}
use Rattle.engine.specs.Inner.Shifted.{shifted_net}
use Rattle.engine.proofs.Laws.InPlace.{mapped-at, mapped-next, mapped-all}
use Rattle.engine.proofs.miter.shift_nets.Goals as goal

pub shift_net-requires : goal.shift_net-requires
shift_net-requires c =
    let l = c.loop-net in
    omega (arith, mapped-at (shifted_net c.args.inputs c.args.shift) l.net-index c.args.nets.now l.invariant, c.requires l.net-index)

pub loop-net-preserved : goal.loop-net-preserved
loop-net-preserved c = mapped-next _ c.loop-net.net-index c.args.nets.now c.loop-net.invariant c.loop-net-test.true c.shift_net.ensures.0

pub returns : goal.returns
returns c = mapped-all _ c.loop-net.net-index c.args.nets.now c.loop-net.invariant (omega (arith, c.loop-net.auto.net-index-end))
