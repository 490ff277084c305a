-- `engine::tree::trees_size` meets its contract. The invariant: the sum and the sizes of the trees left are the whole.
-- Assumes nothing.
use Prim.Native.Nat.{◌+◌, ◌-◌, ◌≤◌}
use mathlib.Core.Path.{◌≡◌}
use Rattle.engine.specs.Inner.Tree.{trees_size}
use Rattle.engine.proofs.tree.trees_size.Given as goal

abbrev pub invariant-loop-t : goal.invariant-loop-t
invariant-loop-t l =
    (l.t ≤ l.targets) × (l.sum + trees_size (l.targets - l.t) l.t l.k l.table ≡ trees_size l.targets 0 l.k l.table)
