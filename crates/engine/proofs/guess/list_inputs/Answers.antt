-- `engine::guess::list_inputs` meets its contract: listed vectors or the tables do, or all vectors are evaluated. Assumes nothing.
use Prim.Native.Nat.{ℕ, ◌^◌, ◌≤◌}
use native.Mathlib.Omega.{arith}
use borrow.Author.Tests.{lt-ltb}
use lib.Pow.{pow_mono}
use Rattle.engine.specs.Inner.Search.{FreeKept}
use Rattle.engine.proofs.Laws.Choice.{not-both}
use Rattle.engine.proofs.Laws.Guess.{block-guessed, block-shown, block_noted}
use Rattle.engine.proofs.guess.list_inputs.Goals as goal
use Rattle.engine.proofs.guess.list_inputs.Goals.{else-b-gt0, then-b-gt0+in-Not}

-- the inputs are at most 2 ^ 20
few : {n : ℕ} → n ≤ 20 → 2 ^ n ≤ 1048576
few h = pow_mono {j = 20} h

pub read_block-readings-requires : goal.read_block-readings-requires
read_block-readings-requires c =
    omega (arith, few c.args.plan.now.inputs_bound)

-- ---- where listed vectors or the tables are tried

pub returns-in-Listed : goal.returns-in-Listed
returns-in-Listed c =
    let p = c.requires in (
      block-shown c.read_block-readings.ensures (omega (arith, few c.args.plan.now.inputs_bound)) (c.shown_by-by.ensures.block_shown.0 c.in-Listed.is),
      p.2,
      λ k. p.1,
    )

pub returns-in-Tables : goal.returns-in-Tables
returns-in-Tables c =
    let p = c.requires in
    let p = c.requires in
    let z = c.shown_by-by.ensures.block_shown.1 c.in-Tables.is in (
      block-guessed c.read_block-readings.ensures (omega (arith, few c.args.plan.now.inputs_bound)) (p.1 z.0) z.1,
      c.more.ensures.1,
      λ k h. p.1 z.0,
    )

-- ---- where all vectors are evaluated

pub returns : goal.returns
returns c =
    let a = c.args in
    let r = c.read_block-readings in
    -- the words have the same values on the nets that no target leads to as those read
    let kept : FreeKept a.plan.now r.new.words c.if-b-gt0.words =
    elim c.if-b-gt0.branch [
      | then-b-gt0+in-Not w ↦ rw w.words-is w.shown_by-by.ensures.free_kept
      | else-b-gt0 w ↦ rw w.words-is (λ j is q b f. f)
    ] in (
      block_noted r.ensures (omega (arith, few a.plan.now.inputs_bound)) kept c.vector_block.ensures c.masks_of-masks.ensures
          c.list_block.ensures,
      c.next_trust-next.ensures,
      λ k h. absurd (not-both (lt-ltb 0 c.next_trust-next.result h) k),
    )
