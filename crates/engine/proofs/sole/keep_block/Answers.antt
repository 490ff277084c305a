-- `engine::sole::keep_block` meets its contract: the table's vectors at the block's readings, and where they rectify. Assumes nothing.
use Prim.Native.Nat.{ℕ, max}
use mathlib.Core.Path.{sym, ◌∙◌, ap}
use borrow.Author.Tests.{leb-true}
use native.Mathlib.Omega.{arith}
use Rattle.engine.specs.Inner.Kernel.{row_value}
use Rattle.engine.specs.Inner.Note.{gathered}
use Rattle.engine.proofs.Laws.Rows.{rows_whole}
use Rattle.engine.proofs.Laws.Sole.{sole-kept}
use Rattle.engine.proofs.sole.keep_block.Goals as goal

pub returns : goal.returns
returns c =
    let row = c.driven_row-row in
    let a = row.ensures (gathered c.table_rows-vectors.result) (rows_whole c.table_rows-vectors.result c.args.plan.now.targets (omega (arith, c.args.plan.now.targets_bound))) in record {
      free_kept = a.free;
      block_kept = λ o.
          sole-kept c.args.readings c.args.table.now c.table_rows-vectors.result row.result c.table_rows-vectors.ensures
          (λ y l. sym (c.row_of.ensures y l) ∙ c.zero_row.ensures c.if-not-zero_row.false y l)
          (λ y l.
          ap (λ (n : ℕ). max (row_value row.result y) n) (sym (c.row_of-2.ensures y l))
          ∙ sym (c.join_rows.ensures y l)
          ∙ c.first_zero.ensures.ones y (omega (arith, leb-true)))
          a;
    }
