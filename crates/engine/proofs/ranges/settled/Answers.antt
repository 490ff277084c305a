-- `engine::ranges::settled` meets its contract: outputs that are known in both circuits are those of every input of the range and
-- every vector. Assumes nothing.
use native.Mathlib.Omega.{arith}
use lib.ListN.{replicate}
use Rattle.engine.proofs.Laws.Partial.{leaves-loaded}
use Rattle.engine.proofs.Laws.Ranges.{rectifies-range}
use Rattle.engine.proofs.ranges.settled.Goals as goal

pub returns : goal.returns
returns c t j is o =
    let a = c.args in
    let p = a.plan.now in
    let w = leaves-loaded p.inputs p.targets a.low a.prefix (replicate 1024 0) _ _ (omega (arith, p.inputs_bound, p.targets_bound))
    c.load_partial.ensures
    c.load_unknown.ensures in
    rectifies-range j is p o a.low a.prefix _ w.0 w.1 (omega (arith, p.outs_bound)) (omega (arith, p.outs_bound))
    (rw c.eval_partial.ensures at (c.known_equal.ensures.0 t))
