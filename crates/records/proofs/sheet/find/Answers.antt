-- `records::sheet::find` meets its contract: the first place that passes the test is the definition's. Assumes nothing.
use mathlib.Core.Path.{◌≡◌, ◌∙◌}
use lib.Dec.{eqb}
use lib.ListN.{take}
use Rattle.std.specs.List.{position}
use Rattle.std.proofs.lemmas.Iterator.Adapters.{position_from-zero}
use Rattle.std.proofs.Common.{rules, tests}
use Rattle.std.proofs.lemmas.Iterator.{YieldsList-from_slice}
use Rattle.std.proofs.lemmas.Iterator.Search.{position_from_yields_List}
use Rattle.records.specs.Inner.{found_in}
use Rattle.records.proofs.Laws.Sheet.{position-found}
use Rattle.records.proofs.sheet.find.Goals as goal

pub returns : goal.returns
unfolding found_in
returns c =
    let a = c.args in
    let first : c.position.result ≡ position (λ n. eqb n a.net) (take a.count a.nets.now) =
    position_from_yields_List (λ n. eqb n a.net) _ _ c.position.result c.position.ensures.ran (YieldsList-from_slice _ c.iter.ensures.rest) (λ x b q k. search (rules, tests)) in
    first ∙ position_from-zero _ (take a.count a.nets.now) ∙ position-found a.net 0 (take a.count a.nets.now)
