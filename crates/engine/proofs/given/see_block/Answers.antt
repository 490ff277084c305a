-- `engine::given::see_block` meets its contract: where the cover is not met, the sets stay; else the block's readings, and the sets after them.
-- Assumes nothing.
use Prim.Native.Nat.{◌+◌, ◌/◌}
use mathlib.Core.Path.{◌≡◌}
use native.Mathlib.Omega.{arith}
use Rattle.engine.proofs.Laws.Given.{block-seen, block-passed}
use Rattle.engine.proofs.Laws.Searching.{block-small, block-rows}
use Rattle.engine.proofs.given.see_block.Goals as goal

pub free_block-requires : goal.free_block-requires
free_block-requires c = block-small c.requires.0 c.args.plan.now.inputs_bound

pub returns-then-not-gives_cover : goal.returns-then-not-gives_cover
returns-then-not-gives_cover c =
    block-passed c.args.b c.args.count c.requires.0 c.free_block.ensures c.requires.1 (c.gives_cover.ensures c.if-not-gives_cover.true)

pub returns : goal.returns
returns c =
    let p = c.args.plan.now in
    let e = c.read_rows-readings in
    let b = block-rows p c.free_block.ensures e.ensures in
    let n : c.div_ceil.result ≡ (c.args.count + 63) / 64 = omega (arith, c.div_ceil.ensures) in
    block-seen c.args.b c.args.count e.result _ _ _ p.reads_bound c.requires.0 b (rw n at c.meet_block.ensures)
