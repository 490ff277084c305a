-- `engine_c::engine_choose` meets its contract: a refusal has length 0 and leaves its number.
use mathlib.Core.Path.{◌∙◌, ap}
use Rattle.engine.specs.Reply.{ChooseReply, declined_choose}
use Rattle.engine_c.proofs.engine_choose.Goals as goal

pub returns-in-Err-clause-length : goal.returns-in-Err-clause-length
unfolding declined_choose
returns-in-Err-clause-length c = c.refused.ensures.length ∙ ap (λ (r : ChooseReply). r.len) c.in-Err.ensures.reply

pub returns-in-Err-clause-number : goal.returns-in-Err-clause-number
unfolding declined_choose
returns-in-Err-clause-number c = c.refused.ensures.number ∙ ap (λ (r : ChooseReply). r.number) c.in-Err.ensures.reply
