-- `engine::miter::shift_nets` meets its contract: at each turn the nets before it stand shifted. Assumes nothing.
use mathlib.Core.Path.{◌≡◌}
use Rattle.engine.specs.Inner.Shifted.{shifted_net}
use Rattle.engine.proofs.Laws.InPlace.{mapped}
use Rattle.engine.proofs.miter.shift_nets.Given as goal

abbrev pub invariant-loop-net : goal.invariant-loop-net
invariant-loop-net l = l.nets ≡ mapped (shifted_net l.inputs l.shift) l.net-index l.initial.nets
