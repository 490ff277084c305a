-- `records::fill::fill_words` meets its contract: after i turns the first i numbers of the column stand at the places'
-- start, and at is where the number of record i stands. Assumes nothing.
use Prim.Native.Nat.{◌+◌, ◌*◌}
use mathlib.Core.Path.{◌≡◌, ◌∙◌, ap}
use native.Mathlib.Omega.{arith}
use native.Mathlib.Nat.{mul-zero}
use Rattle.records.specs.Bytes.{word}
use Rattle.records.specs.Inner.{word_column}
use Rattle.records.proofs.Laws.Job.{next-record, filled_none, filled_next}
use Rattle.records.proofs.fill.fill_words.Goals as goal

pub loop-i-init : goal.loop-i-init
loop-i-init c =
    let a = c.args in (
      omega arith,
      omega (arith, mul-zero a.size),
      filled_none a.places.now (λ k. word a.s.now (a.size * k + a.offset)),
    )

pub loop-i-preserved : goal.loop-i-preserved
loop-i-preserved c =
    let l = c.loop-i in
    let a = c.args in
    let s = a.s.now in
    let e : c.u16_at.result ≡ word s (a.size * l.i + a.offset) =
    c.u16_at.ensures ∙ ap (word s) l.invariant.1 in (
      omega arith,
      omega (arith, next-record a.size l.i),
      filled_next a.places.now (λ k. word s (a.size * k + a.offset)) l.places l.i _ (omega arith) e l.invariant.2,
    )

pub returns : goal.returns
unfolding word_column
returns c =
    let a = c.args in
    let l = c.loop-i in
    let e : l.i ≡ a.count = omega arith in
    rw e at l.invariant.2.1
