-- `engine::tree::put_trees` meets its contract. The invariant: the gates so far and the trees left are the whole.
-- Assumes nothing.
use Prim.Native.Nat.{◌+◌, ◌≤◌, ◌<◌}
use native.Mathlib.Omega.{arith}
use Rattle.engine.proofs.Laws.Tree.{growing-room, growing-net, growing-next, growing-all}
use Rattle.engine.proofs.tree.put_trees.Goals as goal
use Rattle.engine.proofs.tree.put_trees.Goals.{After-put_tree-next}

pub put_tree-next-requires : goal.put_tree-next-requires
put_tree-next-requires c =
    let p = c.requires.nets_bound in record {
      table_part = (record { most = p.0; within = p.1; target = omega (arith, c.requires.targets_bound.0) }, p.2);
      gate_room = growing-room c.loop-t.invariant c.loop-t-test.true c.requires.gate_room;
    }

-- the tree's net is one of 1,024
net : (c : After-put_tree-next) → (0 < c.put_tree-next.result) × (c.args.base + c.put_tree-next.result ≤ 1024)
net c = growing-net c.loop-t.invariant c.loop-t-test.true c.requires.gate_room c.put_tree-next.ensures

pub overflow_add-numbers : goal.overflow_add-numbers
overflow_add-numbers c = let n = net (goal.at.overflow_add-numbers c).After-put_tree-next in omega arith

pub overflow_sub-numbers : goal.overflow_sub-numbers
overflow_sub-numbers c = let n = net (goal.at.overflow_sub-numbers c).After-put_tree-next in omega arith

pub overflow_cast-numbers : goal.overflow_cast-numbers
overflow_cast-numbers c = let n = net (goal.at.overflow_cast-numbers c).After-put_tree-next in omega arith

pub loop-t-preserved : goal.loop-t-preserved
loop-t-preserved c =
    growing-next c.loop-t.invariant c.loop-t-test.true (omega arith) (omega (arith, c.requires.targets_bound.1)) c.put_tree-next.ensures

pub returns : goal.returns
returns c = growing-all c.loop-t.invariant (omega arith) (omega arith)
