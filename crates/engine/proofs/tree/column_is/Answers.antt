-- `engine::tree::column_is` meets its contract. Assumes nothing.
use Rattle.std.proofs.Common.{rules, IsTrue, EachIndex, ◌↔◌, ◌≡◌, get_or}
use Rattle.engine.specs.Eval.{bit}
use Rattle.engine.proofs.Laws.Tree.{column-each}
use Rattle.engine.proofs.tree.column_is.Goals as goal

pub returns : goal.returns
returns c =
    let a = c.args in
    let e : IsTrue c.all.result ↔ EachIndex a.table.now (λ k. bit a.t (get_or a.table.now k 0) ≡ a.x) = search rules in
    column-each a.table.now a.t a.x e
