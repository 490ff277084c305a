-- `engine::block::broadcast` meets its contract: all bits of 0 are 0, and all of its complement are 1. Assumes nothing.
use mathlib.Core.Path.{◌≡◌, sym, ◌∙◌, ap}
use native.Mathlib.Omega.{arith}
use Prim.Native.Nat.{ℕ, ◌-◌, ◌%◌}
use Rattle.engine.proofs.Laws.Word.{bit-zero, bit_not, bit-lowest}
use Rattle.engine.proofs.word.broadcast.Goals as goal

pub returns-then-x-eq0 : goal.returns-then-x-eq0
returns-then-x-eq0 c j h = bit-zero j ∙ sym (bit-lowest c.args.x ∙ c.if-x-eq0.true)

pub returns-else-x-eq0 : goal.returns-else-x-eq0
returns-else-x-eq0 c j h =
    let x = c.args.x in
    let n = c.if-x-eq0.false in
    let o : 1 ≡ x % 2 = omega arith in
    bit_not j 0 h (omega arith) ∙ ap (λ (v : ℕ). 1 - v) (bit-zero j) ∙ o ∙ sym (bit-lowest x)
