-- `engine::narrow::run_words` meets its contract. The invariant: at each input the values so far, with the gates left, give the whole.
-- Assumes nothing.
use mathlib.Core.Path.{sym, ◌∙◌}
use native.Mathlib.Omega.{arith}
use lib.ListN.{length-set}
use Rattle.engine.proofs.Laws.Narrow.{run-next, run-end}
use Rattle.engine.proofs.narrow.run_words.Goals as goal

pub loop-gate-preserved : goal.loop-gate-preserved
loop-gate-preserved c =
    let l = c.loop-gate in
    let a = c.args in (
      length-set l.words _ _ ∙ l.invariant.0,
      λ y h.
          run-next a.gates.now l.words l.gate-index _ y (omega arith) (c.gate_word-r.ensures y h) ∙ l.invariant.1 y h,
    )

pub returns : goal.returns
returns c =
    let a = c.args in
    let l = c.loop-gate in
    record {
      long = l.invariant.0;
      values = λ y h. sym (run-end a.gates.now l.words l.gate-index y (omega arith)) ∙ l.invariant.1 y h;
    }
