-- `records_c::records_write` meets its contract: write_columns gets the counts that stand in the row.
use mathlib.Core.Path.{◌∙◌, ap}
use Rattle.records.specs.Service.{WriteReply}
use Rattle.records_c.specs.Row.{row_counts}
use Rattle.records_c.proofs.records_write.Goals as goal

pub returns-in-Ok : goal.returns-in-Ok
unfolding row_counts
returns-in-Ok c =
    let e = c.in-Ok.ensures in
    record {
      length = ap (λ (r : WriteReply). r.len) e.reply;
      number = ap (λ (r : WriteReply). r.number) e.reply;
      lent = e.lent;
    }

pub returns-in-Err : goal.returns-in-Err
unfolding row_counts
returns-in-Err c =
    let e = c.in-Err.ensures in
    record {
      length = ap (λ (r : WriteReply). r.len) e.reply;
      number = c.from-in-Err.ensures ∙ c.from.ensures ∙ ap (λ (r : WriteReply). r.number) e.reply;
      lent = e.lent;
    }
