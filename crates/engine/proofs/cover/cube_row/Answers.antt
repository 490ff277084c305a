-- `engine::cover::cube_row` meets its contract. The invariant: where the reading is in the cube, the row says 1. Assumes nothing.
use mathlib.Core.Path.{◌∙◌}
use native.Mathlib.Omega.{arith}
use Rattle.engine.specs.Eval.{bit}
use Rattle.engine.proofs.Laws.Cover.{cube-next}
use Rattle.engine.proofs.Laws.Kernel.{row-replicate}
use Rattle.engine.proofs.Laws.Word.{bit-ones}
use Rattle.engine.proofs.cover.cube_row.Goals as goal
use Rattle.engine.proofs.cover.cube_row.Goals.{then-care-k-eq1, else-care-k-eq1}

pub loop-k-init : goal.loop-k-init
loop-k-init c y h m = row-replicate _ y h ∙ bit-ones _ (omega arith)

pub loop-k-preserved : goal.loop-k-preserved
unfolding bit
loop-k-preserved c =
    let l = c.loop-k in
    let p = c.args.plan.now in
    elim c.if-care-k-eq1.branch [
      | then-care-k-eq1 w ↦
          rw w.r-is
          (λ y h m.
          w.keep_value.ensures y h
          ∙ cube-next c.args.words.now p.reads.nets p.reads.len c.args.cube y l.k (omega (arith, p.reads_bound, p.reads_long)) (omega arith) w.if-care-k-eq1.true m
          (l.invariant y h m))
      | else-care-k-eq1 w ↦ rw w.r-is l.invariant
    ]
