-- `engine::table::fill_table` meets its contract, reading by reading. Assumes nothing.
use native.Mathlib.Omega.{arith}
use Rattle.std.proofs.Common.{rules}
use Rattle.engine.proofs.Laws.Rule.{readings-many}
use Rattle.engine.proofs.Laws.Sets.{table-sets}
use Rattle.engine.proofs.table.fill_table.Goals as goal

pub returns : goal.returns
returns c =
    let m = readings-many c.requires.0 in
    record {
      table =
          λ j is h e.
          rw (← e) (table-sets j is c.args.sets.now h _ (rw e (omega arith)) (λ r i. search (rules, c.fill.ensures r (rw e at i))));
    }
