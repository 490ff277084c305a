-- `engine_c::engine_judge` meets its contract: a refusal has length 0 and leaves its number.
use mathlib.Core.Path.{◌∙◌, ap}
use Rattle.engine.specs.Reply.{JudgeReply, declined_judge}
use Rattle.engine_c.proofs.engine_judge.Goals as goal

pub returns-in-Err-clause-length : goal.returns-in-Err-clause-length
unfolding declined_judge
returns-in-Err-clause-length c = c.refused.ensures.length ∙ ap (λ (r : JudgeReply). r.len) c.in-Err.ensures.reply

pub returns-in-Err-clause-number : goal.returns-in-Err-clause-number
unfolding declined_judge
returns-in-Err-clause-number c = c.refused.ensures.number ∙ ap (λ (r : JudgeReply). r.number) c.in-Err.ensures.reply
