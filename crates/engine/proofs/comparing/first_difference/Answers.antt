-- `engine::comparing::first_difference` meets its contract. The invariant: at no input of the blocks passed do the driven outputs
-- differ. Assumes nothing.
use Prim.Native.Nat.{◌*◌, ◌%◌, ◌^◌, ◌<◌}
use native.Mathlib.Omega.{arith}
use Rattle.engine.specs.Inner.Note.{gathered}
use Rattle.engine.proofs.Laws.Compare.{row-compared, scanning-none, scanning-next, scanned-differs, scanned-equal}
use Rattle.engine.proofs.Laws.Rows.{rows_whole}
use Rattle.engine.proofs.comparing.first_difference.Goals as goal
use Rattle.engine.proofs.comparing.first_difference.Goals.{In-loop-b}

pub loop-b-init : goal.loop-b-init
loop-b-init c = scanning-none _ _ c.args.plan.now.inputs_bound

-- the block has inputs
block-lt : (c : In-loop-b) → 1024 * c.loop-b.b < 1 * 2 ^ c.args.plan.now.inputs % 18446744073709551616
block-lt c = omega (arith, c.loop-b-test.true, c.div_ceil-b-end.ensures)

pub returns-then-y-count : goal.returns-then-y-count
returns-then-y-count c =
    let v = c.table_rows-vectors in
    let row = c.driven_row-row.ensures (gathered v.result) (rows_whole v.result _ (omega (arith, c.args.plan.now.targets_bound))) in
    scanned-differs c.loop-b.invariant (row-compared c.args.table.now v.result c.read_block-readings.ensures v.ensures row)
    c.first_zero-y.ensures (block-lt (goal.at.returns-then-y-count c).In-loop-b)
    c.block_inputs-count.ensures c.if-y-count.true

pub loop-b-preserved : goal.loop-b-preserved
loop-b-preserved c =
    let v = c.table_rows-vectors in
    let row = c.driven_row-row.ensures (gathered v.result) (rows_whole v.result _ (omega (arith, c.args.plan.now.targets_bound))) in
    scanning-next c.loop-b.invariant (row-compared c.args.table.now v.result c.read_block-readings.ensures v.ensures row)
    c.first_zero-y.ensures (block-lt (goal.at.loop-b-preserved c).In-loop-b)
    c.block_inputs-count.ensures c.if-y-count.false

pub returns : goal.returns
returns c = scanned-equal c.loop-b.invariant (omega (arith, c.loop-b-test.false, c.div_ceil-b-end.ensures))
