-- `engine::planning::lists_of` meets its contract. The invariant: the first t + 2 lists stand. Assumes nothing.
use Prim.Native.Nat.{◌+◌}
use Rattle.engine.specs.Inner.Plan.{ListsUpTo}
use Rattle.engine.proofs.planning.lists_of.Given as goal

abbrev pub invariant-loop-t : goal.invariant-loop-t
invariant-loop-t l = ListsUpTo (l.t + 2) l.inputs l.targets l.live l.gates l.ends l.out
