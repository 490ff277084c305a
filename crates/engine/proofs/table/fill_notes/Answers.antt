-- `engine::table::fill_notes` meets its contract, reading by reading. Assumes nothing.
use native.Mathlib.Omega.{arith}
use Rattle.std.proofs.Common.{rules}
use Rattle.engine.proofs.Laws.Notes.{notes-sets}
use Rattle.engine.proofs.Laws.Rule.{readings-many}
use Rattle.engine.proofs.table.fill_notes.Goals as goal

pub fill-requires-clause-within : goal.fill-requires-clause-within
fill-requires-clause-within c = let m = readings-many c.requires in (c.requires, omega arith)

pub returns : goal.returns
returns c =
    let m = readings-many c.requires in
    record {
      notes =
          λ j is h g e.
          rw (← e) (notes-sets j is c.args.sets.now h g _ (rw e (omega arith)) (λ r i. search (rules, c.fill.ensures r (rw e at i))));
    }
