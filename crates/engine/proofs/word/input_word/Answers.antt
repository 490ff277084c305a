-- `engine::block::input_word` meets its contract: a low input has its pattern in every block, and a high one is the same in
-- the whole block. Assumes nothing.
use mathlib.Core.Path.{◌≡◌, refl, ◌∙◌}
use native.Mathlib.Omega.{arith}
use lib.Dec.{lit<}
use Prim.Native.Nat.{ℕ, ◌+◌, ◌*◌}
use Rattle.records.specs.Bytes.{up_from, all}
use Rattle.engine.specs.Eval.{bit}
use Rattle.engine.proofs.Laws.Block.{pattern, block-pattern, high_bit}
use Rattle.engine.proofs.word.input_word.Goals as goal

-- an input that is k has the word of input k
at-input : (b j : ℕ) {i k v : ℕ} → i ≡ k → v ≡ bit k (64 * b + j) → v ≡ bit i (64 * b + j)
at-input b j e p = rw e p

pub returns-then-i-ge6 : goal.returns-then-i-ge6
returns-then-i-ge6 c j h =
    let a = c.args in
    c.broadcast.ensures j h ∙ high_bit a.i a.b j c.if-i-ge6.true h

pub returns-in-0 : goal.returns-in-0
unfolding pattern bit up_from all
returns-in-0 c j h =
    let b = c.args.b in
    at-input b j c.in-0.is (block-pattern 0 0xaaaa_aaaa_aaaa_aaaa b j (lit< tt) h refl)

pub returns-in-1 : goal.returns-in-1
unfolding pattern bit up_from all
returns-in-1 c j h =
    let b = c.args.b in
    at-input b j c.in-1.is (block-pattern 1 0xcccc_cccc_cccc_cccc b j (lit< tt) h refl)

pub returns-in-2 : goal.returns-in-2
unfolding pattern bit up_from all
returns-in-2 c j h =
    let b = c.args.b in
    at-input b j c.in-2.is (block-pattern 2 0xf0f0_f0f0_f0f0_f0f0 b j (lit< tt) h refl)

pub returns-in-3 : goal.returns-in-3
unfolding pattern bit up_from all
returns-in-3 c j h =
    let b = c.args.b in
    at-input b j c.in-3.is (block-pattern 3 0xff00_ff00_ff00_ff00 b j (lit< tt) h refl)

pub returns-in-4 : goal.returns-in-4
unfolding pattern bit up_from all
returns-in-4 c j h =
    let b = c.args.b in
    at-input b j c.in-4.is (block-pattern 4 0xffff_0000_ffff_0000 b j (lit< tt) h refl)

pub returns-in_default : goal.returns-in_default
unfolding pattern bit up_from all
returns-in_default c j h =
    let b = c.args.b in
    let e : c.args.i ≡ 5 = omega arith in
    at-input b j e (block-pattern 5 0xffff_ffff_0000_0000 b j (lit< tt) h refl)
