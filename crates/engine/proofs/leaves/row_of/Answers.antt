-- `engine::leaves::row_of` meets its contract, word by word. Assumes nothing.
use Prim.Native.Nat.{◌+◌, ◌*◌, ◌/◌, ◌%◌}
use mathlib.Core.Path.{◌≡◌, ap}
use native.Mathlib.Omega.{arith}
use lib.ListN.{get_or}
use Rattle.std.proofs.Common.{rules}
use Rattle.engine.specs.Eval.{bit}
use Rattle.engine.specs.Inner.Kernel.{row_value, value_in}
use Rattle.engine.proofs.Laws.Array.{from_fn_each}
use Rattle.engine.proofs.leaves.row_of.Goals as goal

pub returns : goal.returns
unfolding row_value value_in
returns c y h =
    let a = c.args in
    ap (bit (y % 64))
    (from_fn_each (λ w v. v ≡ get_or a.words.now (16 * a.i + w) 0) _ c.from_fn.ensures.items (λ w v q l k. search rules) (y / 64) (omega arith))
