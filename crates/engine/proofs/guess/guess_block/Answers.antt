-- `engine::guess::guess_block` meets its contract: the inputs before the first of which a row says 0 are rectified. Assumes nothing.
use borrow.Author.Tests.{leb-true}
use lib.Dec.{lit≤}
use Rattle.engine.proofs.Laws.Guess.{vectors_at, guessed-first, guessed-either}
use Rattle.engine.proofs.Laws.Rows.{rows_four}
use Rattle.engine.proofs.guess.guess_block.Goals as goal

pub returns-then-count-first_zero : goal.returns-then-count-first_zero
returns-then-count-first_zero c =
    let v = c.table_rows-vectors in
    let e = c.driven_row-one.ensures (vectors_at v.result 0) (rows_four v.result 0 _ (lit≤ tt) c.args.plan.now.targets_bound) in
    record {
      free_kept = e.free;
      block_guessed = λ t.
          guessed-first c.args.readings c.args.table.now v.result v.ensures e c.first_zero.ensures
          c.if-count-first_zero.true;
    }

pub returns : goal.returns
returns c =
    let v = c.table_rows-vectors in
    let e = c.driven_row-one.ensures (vectors_at v.result 0) (rows_four v.result 0 _ (lit≤ tt) c.args.plan.now.targets_bound) in
    let e₂ = c.driven_row-two.ensures (vectors_at v.result 4) (rows_four v.result 4 _ (lit≤ tt) c.args.plan.now.targets_bound) in
    record {
      free_kept = λ j is q b f. e₂.free j is q b (e.free j is q b f);
      block_guessed = λ t.
          guessed-either c.args.readings c.args.table.now v.result v.ensures e e₂ c.join_rows.ensures c.first_zero-2.ensures
          (leb-true _ _ t);
    }
