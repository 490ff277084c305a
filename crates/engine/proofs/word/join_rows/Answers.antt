-- `engine::word::join_rows` meets its contract, word by word. Assumes nothing.
use Prim.Native.Nat.{◌/◌, ◌%◌}
use mathlib.Core.Path.{◌≡◌, ◌∙◌, ap}
use native.Mathlib.Omega.{arith}
use lib.Bits.{bit_or}
use lib.ListN.{get_or}
use Rattle.std.proofs.Common.{rules}
use Rattle.engine.specs.Eval.{bit}
use Rattle.engine.specs.Inner.Kernel.{row_value}
use Rattle.engine.proofs.Laws.Array.{from_fn_each}
use Rattle.engine.proofs.Laws.Word.{bit-or}
use Rattle.engine.proofs.word.join_rows.Goals as goal

pub returns : goal.returns
unfolding row_value
returns c y h =
    let a = c.args in
    let each = from_fn_each (λ w v. v ≡ bit_or (get_or a.a w 0) (get_or a.b w 0)) _ c.from_fn.ensures.items (λ w v q l k. search rules) in
    ap (bit (y % 64)) (each (y / 64) (omega arith)) ∙ bit-or (y % 64) (get_or a.a (y / 64) 0) (get_or a.b (y / 64) 0)
