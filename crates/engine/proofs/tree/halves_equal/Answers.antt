-- `engine::tree::halves_equal` meets its contract. Assumes nothing.
use Rattle.std.proofs.Common.{rules, IsTrue, EachIndex, ◌↔◌, ◌≡◌, get_or}
use Rattle.engine.specs.Eval.{bit}
use Rattle.engine.proofs.Laws.Tree.{same-each}
use Rattle.engine.proofs.tree.halves_equal.Goals as goal

pub returns : goal.returns
returns c =
    let a = c.args in
    let e : IsTrue c.all.result ↔ EachIndex a.low.now (λ k. bit a.t (get_or a.low.now k 0) ≡ bit a.t (get_or a.high.now k 0)) = search rules in
    same-each a.low.now a.high.now a.t c.requires.1 e
