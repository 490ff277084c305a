-- `engine::search::meet_inputs` meets its contract: the block's readings; where the table does, the sets stay, and else they are those after
-- its masks. Assumes nothing.
use Prim.Native.Nat.{◌+◌, ◌/◌}
use mathlib.Core.Path.{◌≡◌, refl}
use native.Mathlib.Omega.{arith}
use Rattle.engine.proofs.Laws.Choice.{not-both}
use Rattle.engine.proofs.Laws.Search.{block-met, block-kept}
use Rattle.engine.proofs.Laws.Searching.{block-small}
use Rattle.engine.proofs.search.meet_inputs.Goals as goal
use Rattle.engine.proofs.search.meet_inputs.Goals.{else-tried, then-tried+else-keep_block}

pub read_block-readings-requires : goal.read_block-readings-requires
read_block-readings-requires c = block-small c.requires.0 c.args.plan.now.inputs_bound

-- ---- where the table is tried
pub returns-then-keep_block : goal.returns-then-keep_block
returns-then-keep_block c =
    let p = c.requires in
    let e = c.keep_block.ensures in record {
      block_met = block-kept c.args.b c.args.count c.read_block-readings.ensures p.0.few
          (e.block_kept c.if-keep_block.true c.args.sets.now (p.1 c.if-tried.true));
      tried_value = λ h. (c.if-tried.true, refl);
    }

pub returns : goal.returns
returns c =
    let n : c.div_ceil.result ≡ (c.args.count + 63) / 64 = omega (arith, c.div_ceil.ensures) in record {
      block_met = block-met c.args.b c.args.count c.read_block-readings.ensures c.requires.0
          (elim c.if-tried.branch [ then-tried+else-keep_block w ↦ rw w.words-is w.keep_block.ensures.free_kept | else-tried w ↦ rw w.words-is (λ j is q b f. f) ])
          c.vector_block.ensures
          c.masks_of-masks.ensures
          (rw n at c.meet_block.ensures);
      tried_value = λ h. absurd (not-both h refl);
    }
