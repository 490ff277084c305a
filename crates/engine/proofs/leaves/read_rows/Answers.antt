-- `engine::leaves::read_rows` meets its contract. The invariant: the first k rows are those of their nets, the others 0.
-- Assumes nothing.
use mathlib.Core.Path.{◌≡◌}
use native.Mathlib.Omega.{arith}
use Rattle.engine.proofs.Laws.Leaves.{gathered-nets}
use Rattle.engine.proofs.leaves.read_rows.Goals as goal

pub returns : goal.returns
returns c =
    let l = c.loop-k in
    let e : l.k ≡ c.args.plan.now.reads.len = omega arith in
    let p = c.args.plan.now in
    gathered-nets _ _ _ _ (omega (arith, p.reads_bound, p.reads_long)) (omega (arith, p.reads_bound)) (rw e at l.invariant)
