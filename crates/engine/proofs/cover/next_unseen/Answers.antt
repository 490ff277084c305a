-- `engine::cover::next_unseen` meets its contract. Assumes nothing.
use mathlib.Core.Path.{◌≡◌}
use borrow.Author.Tests.{tests}
use lib.Dec.{eqb}
use lib.ListN.{get_or}
use mathlib.Core.Bool.{false}
use Rattle.std.proofs.Common.{rules}
use Rattle.std.proofs.lemmas.Iterator.{first_from_Range}
use Rattle.engine.specs.Eval.{bit}
use Rattle.engine.proofs.Laws.Cover.{next-of}
use Rattle.engine.proofs.cover.next_unseen.Goals as goal

pub returns : goal.returns
returns c =
    let ss = c.args.sets.now in
    next-of ss c.args.at c.args.count c.find.result c.requires.0
    (first_from_Range _ _ _ c.find.result (λ x. Unit {0}) (λ k. eqb (bit 16 (get_or ss k 0)) 1 ≡ false) c.find.ensures.ran (λ x q k. tt) (λ x q k. search (rules, tests)))
