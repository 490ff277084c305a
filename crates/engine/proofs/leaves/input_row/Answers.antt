-- `engine::leaves::input_row` meets its contract, word by word. Assumes nothing.
use Prim.Native.Nat.{ℕ, ◌+◌, ◌*◌, ◌/◌, ◌%◌, ◌<◌}
use mathlib.Core.Path.{◌≡◌, ◌∙◌, ap}
use native.Mathlib.Omega.{arith}
use Rattle.std.proofs.Common.{rules}
use Rattle.engine.specs.Eval.{bit}
use Rattle.engine.specs.Inner.Kernel.{row_value}
use Rattle.engine.proofs.Laws.Array.{from_fn_each}
use Rattle.engine.proofs.Laws.Leaves.{input-place}
use Rattle.engine.proofs.leaves.input_row.Goals as goal

pub returns : goal.returns
unfolding row_value
returns c y h =
    let a = c.args in
    from_fn_each (λ w v. (j : ℕ) → j < 64 → bit j v ≡ bit a.i (64 * (16 * a.b + w) + j)) _ c.from_fn.ensures.items (λ w v q l k. search rules) (y / 64)
    (omega arith) (y % 64) (omega arith)
    ∙ ap (bit a.i) (input-place a.b y)
