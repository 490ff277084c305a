-- `engine::kernel::run` meets its contract. The invariant: in each scenario the values so far, with the gates left, give the whole.
-- Assumes nothing.
use Prim.Native.Nat.{◌≤◌}
use mathlib.Core.Path.{refl, sym, ◌∙◌}
use native.Mathlib.Omega.{arith}
use lib.ListN.{get_or}
use Rattle.engine.proofs.Laws.Kernel.{run-next, evaluated-none}
use Rattle.engine.proofs.Laws.Word.{bit-lowest}
use Rattle.engine.proofs.kernel.run.Goals as goal

pub loop-i-preserved : goal.loop-i-preserved
loop-i-preserved c =
    let a = c.args in
    let l = c.loop-i in (
      c.store.ensures.long ∙ l.invariant.0,
      λ y h.
          run-next (get_or a.gates.now l.i 0) c.broadcast.result c.gate_words-r.result l.words _
          c.store.ensures
          c.gate_words-r.ensures
          (λ j k. c.broadcast.ensures j k ∙ bit-lowest (get_or a.gates.now l.i 0))
          a.gates.now
          l.i
          a.to
          (omega arith)
          (omega arith)
          refl
          y
          h
          ∙ l.invariant.1 y h,
    )

pub returns : goal.returns
returns c =
    let a = c.args in
    let l = c.loop-i in
    let e : a.to ≤ l.i = omega arith in
    record { long = l.invariant.0; values = λ y h. sym (evaluated-none _ a.gates.now l.i a.to e) ∙ l.invariant.1 y h }
