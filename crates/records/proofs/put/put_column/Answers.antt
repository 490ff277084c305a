-- `records::put::put_column` meets its contract: after i turns the first i numbers stand in bytes, and p is where the next one goes.
-- Assumes nothing.
use Prim.Native.Nat.{ℕ}
use mathlib.Core.Path.{refl, ◌∙◌, ap}
use mathlib.Core.List.{List}
use borrow.Author.Rules.{rules}
use native.Mathlib.Omega.{arith}
use native.Mathlib.Nat.{mul-zero}
use lib.ListN.{get_or}
use Rattle.records.specs.Bytes.{byte_pair, placed}
use Rattle.records.specs.Inner.{spread}
use Rattle.records.proofs.Laws.Job.{next-record}
use Rattle.records.proofs.Laws.Put.{spread-next}
use Rattle.records.proofs.put.put_column.Goals as goal

pub loop-i-init : goal.loop-i-init
unfolding spread
loop-i-init c = let a = c.args in (omega arith, omega (arith, mul-zero a.size), search rules, refl)

pub loop-i-preserved : goal.loop-i-preserved
loop-i-preserved c =
    let l = c.loop-i in
    let a = c.args in
    let f : ℕ → ℕ = λ k. get_or a.xs.now k 0 in (
      omega arith,
      omega (arith, next-record a.size l.i),
      c.put_word.auto.buf ∙ l.invariant.2,
      c.put_word.ensures
          ∙ ap (λ (d : List ℕ). placed d l.p (byte_pair (f l.i))) l.invariant.3
          ∙ spread-next a.bytes a.at a.size l.i f l.p l.invariant.1,
    )
