-- `engine::masks::shortest_list` meets its contract. The invariant: the best so far is 0 or a target. Assumes nothing.
use Prim.Native.Nat.{◌<◌}
use Rattle.engine.specs.Inner.Masks.{Among}
use Rattle.engine.proofs.masks.shortest_list.Given as goal

abbrev pub invariant-loop-t : goal.invariant-loop-t
invariant-loop-t l = (l.best < 4) × Among l.plan.targets l.best
