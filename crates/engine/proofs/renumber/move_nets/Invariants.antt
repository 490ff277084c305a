-- `engine::renumber::move_nets` meets its contract: at each turn the nets before it stand at their new numbers. Assumes nothing.
use mathlib.Core.Path.{◌≡◌}
use lib.ListN.{get_or}
use Rattle.engine.proofs.Laws.InPlace.{mapped}
use Rattle.engine.proofs.renumber.move_nets.Given as goal

abbrev pub invariant-loop-net : goal.invariant-loop-net
invariant-loop-net l = l.nets ≡ mapped (λ o. get_or l.numbers o 0) l.net-index l.initial.nets
