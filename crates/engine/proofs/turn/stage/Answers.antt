-- `engine::turn::stage` meets its contract, row by row. Assumes nothing.
use Rattle.std.proofs.Common.{rules}
use Rattle.engine.specs.Inner.Turn.{SwappedRow}
use Rattle.engine.proofs.Laws.Array.{from_fn_each}
use Rattle.engine.proofs.turn.stage.Goals as goal

pub returns : goal.returns
returns c i h =
    let a = c.args in
    from_fn_each (λ k v. SwappedRow a.e a.x k v) _ c.from_fn.ensures.items (λ k v q l r. search rules) i h
