-- `engine::given::see_skipped` meets its contract: where ranges were skipped and a reading is unseen, their inputs are looked at. Assumes nothing.
use native.Mathlib.Omega.{arith}
use Rattle.engine.proofs.Laws.Given.{none-skipped}
use Rattle.engine.proofs.Laws.Rule.{readings-many}
use Rattle.engine.proofs.given.see_skipped.Goals as goal

pub returns-then-skipped-eq0-clause-unseen : goal.returns-then-skipped-eq0-clause-unseen
returns-then-skipped-eq0-clause-unseen c j is m e good g = none-skipped g c.if-skipped-eq0.true

pub next_unseen-requires : goal.next_unseen-requires
next_unseen-requires c =
    let m = readings-many c.requires.few in
    (omega arith, omega (arith, c.reading_count-count.ensures))
