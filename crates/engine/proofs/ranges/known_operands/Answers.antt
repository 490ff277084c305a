-- `engine::ranges::known_operands` meets its contract. The loop's invariant: what is read, and then what the slots left give, is what
-- is known of all operands. Assumes nothing.
use lib.ListN.{length-set}
use mathlib.Core.Path.{◌∙◌}
use native.Mathlib.Omega.{arith}
use Prim.Native.Nat.{◌/◌, ◌%◌}
use Rattle.records.specs.Netlist.{net_at}
use Rattle.engine.proofs.Laws.Partial.{read-used, read-unused}
use Rattle.engine.proofs.ranges.known_operands.Goals as goal
use Rattle.engine.proofs.ranges.known_operands.Goals.{then-i-count, else-i-count}

pub loop-i-preserved : goal.loop-i-preserved
unfolding net_at
loop-i-preserved c =
    let x = c.args in
    let t = c.loop-i in
    let f = net_at x.known.now in
    let n = x.c / 16 % 8 in
    let z = x.c / 131072 in
    elim c.if-i-count.branch [
      | then-i-count w ↦
          rw w.r-is (
            length-set t.r t.i (f (t.rest % 1024)) ∙ t.invariant.0,
            read-used f n z t.r t.rest t.i t.invariant.1 w.if-i-count.true (omega arith) t.invariant.0,
          )
      | else-i-count w ↦ rw w.r-is (t.invariant.0, read-unused f n z t.r t.rest t.i t.invariant.1 w.if-i-count.false)
    ]
