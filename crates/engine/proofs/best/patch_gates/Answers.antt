-- `engine::best::patch_gates` meets its contract: the table that is filled is the support's, and its trees are counted. Assumes nothing.
use native.Mathlib.Omega.{arith}
use Rattle.engine.specs.Support.{patch_gates}
use Rattle.engine.proofs.Laws.Rule.{readings-many}
use Rattle.engine.proofs.Laws.Tree.{length-patch}
use Rattle.engine.proofs.best.patch_gates.Goals as goal

pub trees_size-requires : goal.trees_size-requires
trees_size-requires c =
    let p = c.requires in
    (p.0, omega (arith, readings-many p.0), p.2)

pub returns : goal.returns
unfolding patch_gates
returns c =
    λ j is h e t.
    let f = c.fill_table-table in
    rw (← f.ensures.table j is h e, length-patch j is f.result e, t) c.trees_size.ensures
