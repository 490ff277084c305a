-- `records_c::records_read` meets its contract: an accepted job's counts are put in the row, a refused one's are not.
use Prim.Native.Nat.{ℕ}
use mathlib.Core.Path.{◌≡◌, refl}
use mathlib.Core.List.{List}
use borrow.Author.Tests.{ne_eqb}
use Rattle.records.specs.Service.{ReadReply}
use Rattle.records.proofs.Laws.Reply.{refusal-number}
use Rattle.records_c.specs.Row.{row_of, row_after}
use Rattle.records_c.proofs.records_read.Goals as goal

kept : (r q : ReadReply) (row : List ℕ) → r ≡ q → (r.number ≡ 0 → ⊥) → row ≡ row_after q row
unfolding row_after
kept r q row e n = rw (← e, ne_eqb r.number 0 n)

left : (r q : ReadReply) (row : List ℕ) → r ≡ q → r.number ≡ 0 → row_of r.counts ≡ row_after q row
unfolding row_after
left r q row e n = rw (← e, n)

pub returns-in-Ok-clause-counted : goal.returns-in-Ok-clause-counted
unfolding row_of
returns-in-Ok-clause-counted c = left _ _ _ c.in-Ok.ensures.reply refl

pub returns-in-Err-clause-counted : goal.returns-in-Err-clause-counted
returns-in-Err-clause-counted c = kept _ _ _ c.in-Err.ensures.reply (refusal-number c.in-Err.refusal)
