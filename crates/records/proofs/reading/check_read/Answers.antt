-- `records::reading::check_read` meets its contract: where there is room, the check of the bytes gives the reply. Assumes nothing.
use mathlib.Core.Path.{sym, ◌∙◌}
use Rattle.records.proofs.Laws.Counts.{passes, fails}
use Rattle.records.proofs.Laws.Reply.{reply-small, reply-checked}
use Rattle.records.proofs.reading.check_read.Goals as goal

pub returns-in_default : goal.returns-in_default
returns-in_default c = reply-small _ _ (fails _ (sym c.check_room.ensures ∙ c.in_default.is))

pub returns : goal.returns
returns c = c.check_job.ensures ∙ reply-checked _ _ (passes _ (sym c.check_room.ensures ∙ c.in-Passed.is))
