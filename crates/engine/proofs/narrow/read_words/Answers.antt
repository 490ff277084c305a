-- `engine::narrow::read_words` meets its contract. The invariant: the first k rows are those of their nets, the others 0.
-- Assumes nothing.
use Prim.Native.Nat.{ℕ, ◌%◌}
use Rattle.engine.specs.Eval.{bit}
use mathlib.Core.Path.{◌≡◌, sym, ◌∙◌, ap}
use native.Mathlib.Omega.{arith}
use lib.ListN.{length, get_or}
use lib.Seq.{take-length}
use Rattle.records.specs.Netlist.{net_at}
use Rattle.engine.specs.Inner.Narrow.{values_at}
use Rattle.engine.proofs.Laws.Kernel.{row-replicate}
use Rattle.engine.proofs.Laws.Leaves.{net-alike, nets-next, gathered-nets}
use Rattle.engine.proofs.Laws.Narrow.{net-bit}
use Rattle.engine.proofs.narrow.read_words.Goals as goal

pub loop-k-preserved : goal.loop-k-preserved
loop-k-preserved c =
    let l = c.loop-k in
    let ws = c.args.words.now in (
      omega arith,
      nets-next 0 l.k l.k _ _ l.rows _ l.invariant.1 (omega arith)
          (net-alike _ _ _ _ _ c.set_row.ensures
          (λ y h.
          row-replicate _ y h
          ∙ ap (λ (i : ℕ). bit (y % 64) (get_or ws i 0)) c.from.ensures
          ∙ sym (net-bit ws (y % 64) (get_or c.args.nets.now l.k 0)))),
    )

pub returns : goal.returns
returns c =
    let l = c.loop-k in
    let a = c.args in
    let ns = a.nets.now in
    let e : l.k ≡ length ns = omega arith in
    rw (take-length ns) at (gathered-nets (λ y. net_at (values_at a.words.now (y % 64))) ns l.rows (length ns) (omega arith) (omega arith) (rw e at l.invariant.1))
