-- `engine::turn::row` meets its contract. Assumes nothing.
use Rattle.engine.proofs.Laws.Turn.{row-swapped}
use borrow.Author.Rules.{rules}
use Rattle.engine.proofs.turn.row.Goals as goal

pub returns : goal.returns
returns c =
    let a = c.args in
    row-swapped a.e a.x.now a.i a.low c.moved-right.result c.power-d.result c.moved-right.ensures.value
    c.power-d.ensures.0
    c.requires.2
    (search rules)
