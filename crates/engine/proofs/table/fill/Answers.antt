-- `engine::table::fill` meets its contract. The invariant: the entries before r are made. Assumes nothing.
use native.Mathlib.Omega.{arith}
use mathlib.Core.Path.{◌∙◌}
use lib.ListN.{get_or, length-set}
use Rattle.engine.proofs.Laws.Array.{set_next}
use Rattle.engine.proofs.Laws.Rule.{readings-many}
use Rattle.engine.proofs.table.fill.Goals as goal

pub bounds-entries-r : goal.bounds-entries-r
bounds-entries-r g c = let m = readings-many c.requires.within.0 in omega (arith, c.reading_count-r-end.ensures)

pub loop-r-preserved : goal.loop-r-preserved
loop-r-preserved g c =
    let l = c.loop-r in
    let m = readings-many c.requires.within.0 in (
      length-set l.entries l.r c.entry.result ∙ l.invariant.0,
      set_next (λ r v. goal.F-post g c.args.entry (get_or c.args.sets.now r 0) v) l.entries l.r c.entry.result (omega (arith, c.reading_count-r-end.ensures, l.invariant.0)) l.invariant.1 c.entry.ensures,
    )

pub returns : goal.returns
returns g c r h = c.loop-r.invariant.1 r (omega (arith, c.reading_count-r-end.ensures))
