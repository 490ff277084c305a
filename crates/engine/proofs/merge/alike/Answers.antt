-- `engine::merge::alike` meets its contract. Assumes nothing.
use mathlib.Core.Path.{sym, ◌∙◌}
use lib.Dec.{eqb}
use borrow.Author.Tests.{eqb-true}
use Rattle.records.proofs.Laws.Bytes.{and_left, and_right}
use Rattle.engine.proofs.Laws.Merge.{alike_same}
use Rattle.engine.proofs.merge.alike.Goals as goal

pub returns : goal.returns
returns c =
    let k = eqb c.form_of.result c.form_of-2.result in
    let n = eqb c.slots_number.result c.slots_number-2.result in
    λ e.
    alike_same c.args.a c.args.b
    (sym c.form_of.ensures ∙ eqb-true c.form_of.result c.form_of-2.result (and_left k n e) ∙ c.form_of-2.ensures)
    (sym c.slots_number.ensures ∙ eqb-true c.slots_number.result c.slots_number-2.result (and_right k n e) ∙ c.slots_number-2.ensures)
