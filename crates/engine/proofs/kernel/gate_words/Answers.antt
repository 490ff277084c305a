-- `engine::kernel::gate_words` meets its contract. The invariant: the words so far, with the operands left, give the whole. Assumes nothing.
use Prim.Native.Nat.{◌+◌, ◌-◌, ◌/◌, ◌%◌}
use mathlib.Core.Path.{◌≡◌, refl, sym, ◌∙◌}
use mathlib.Core.List.{map}
use native.Mathlib.Omega.{arith}
use Rattle.engine.specs.Inner.Packed.{operation, operands_of}
use Rattle.engine.specs.Inner.Kernel.{value_in}
use Rattle.engine.proofs.Laws.Word.{bit-zero}
use Rattle.engine.proofs.Laws.Kernel.{row-replicate, left-all, words-next, left-none}
use Rattle.engine.proofs.kernel.gate_words.Goals as goal

pub loop-init : goal.loop-init
loop-init c =
    let x = c.args.c in
    let all : x / 16 % 8 - 0 ≡ x / 16 % 8 = omega arith in
    (refl, λ y h. rw (row-replicate 0 y h, bit-zero (y % 64), all) (left-all (operation x) (map (value_in c.args.words.now y) (operands_of x))))

pub loop-preserved : goal.loop-preserved
loop-preserved c =
    let a = c.args in
    let l = c.loop in
    let one : a.c / 16 % 8 - (l.counter + 1) ≡ a.c / 16 % 8 - l.counter - 1 = omega arith in (
      c.join.ensures.long ∙ l.invariant.0,
      λ y h.
          rw one (words-next a.words.now l.r _ l.op (operation a.c) (a.c / 16 % 8 - l.counter) l.rest c.join.ensures (omega arith) y h)
          ∙ l.invariant.1 y h,
    )

pub returns : goal.returns
returns c y h =
    let l = c.loop in
    sym (left-none _ _ _ _ (c.args.c / 16 % 8 - l.counter) l.rest (omega arith)) ∙ l.invariant.1 y h
