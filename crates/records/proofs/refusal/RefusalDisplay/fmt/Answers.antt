-- `Display` of a refusal meets its contract: the number is below 10, and so one digit. Assumes nothing.
use Rattle.std.proofs.Common.{ℕ, ◌≡◌, refl, ◌++◌, codes}
use Rattle.std.proofs.lemmas.Fmt.{decimal_digit}
use Rattle.std.specs.Fmt.{decimal}
use Rattle.records.specs.Service.{number_of, Numbers, refusal_text}
use Rattle.records.specs.declared.refusal.Refusal.{Refusal}
use Rattle.records.proofs.Laws.Reply.{refusal-digit}
use Rattle.records.proofs.refusal.RefusalDisplay.fmt.Goals as goal

printed : (e : Refusal) (n : ℕ) → Numbers e n → codes "refused " ++ decimal n ≡ refusal_text e
unfolding refusal_text
printed e n h = rw (h, decimal_digit (number_of e) (refusal-digit e)) refl

pub returns-clause-writes : goal.returns-clause-writes
returns-clause-writes g c = rw (← printed c.args.self.now c.from.result c.from.ensures) c.write.ensures.writes
