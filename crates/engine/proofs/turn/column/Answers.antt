-- `engine::turn::column` meets its contract, word by word. Assumes nothing.
use Prim.Native.Nat.{◌+◌, ◌*◌}
use mathlib.Core.Path.{◌≡◌}
use lib.ListN.{get_or}
use Rattle.std.proofs.Common.{rules}
use Rattle.engine.proofs.Laws.Array.{from_fn_each}
use Rattle.engine.proofs.turn.column.Goals as goal

pub returns : goal.returns
returns c i h =
    let a = c.args in
    from_fn_each (λ k v. v ≡ get_or a.x.now (16 * k + a.w) 0) _ c.from_fn.ensures.items (λ k v q l r. search rules) i h
