-- `engine::narrow::load_leaves` meets its contract. The invariant: the first i nets have their words. Assumes nothing.
use Prim.Native.Nat.{◌≤◌}
use Rattle.engine.specs.Inner.Narrow.{LeavesLoaded}
use Rattle.engine.proofs.narrow.load_leaves.Given as goal

abbrev pub invariant-loop-i : goal.invariant-loop-i
invariant-loop-i l = (l.i ≤ l.count) × LeavesLoaded l.inputs l.vector l.i l.initial.words l.words
