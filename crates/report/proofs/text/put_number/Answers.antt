-- A number is a space and its digits. Assumes nothing.
use Rattle.std.proofs.Common.{◌+◌, [], ◌∷◌, ap, arith, length}
use Rattle.report.specs.Text.{number}
use Rattle.report.proofs.Laws.Line.{behind, digits-small}
use Rattle.report.proofs.text.put_number.Goals as goal

pub push-requires : goal.push-requires
unfolding number
push-requires c = (omega arith, omega arith)

pub push-requires-then-x-lt10 : goal.push-requires-then-x-lt10
unfolding number
push-requires-then-x-lt10 c =
    (omega arith, omega (arith, c.push.ensures.len, ap length (digits-small c.args.x c.if-x-lt10.true)))

pub put_digits-requires : goal.put_digits-requires
unfolding number
put_digits-requires c = omega (arith, c.push.ensures.len)

pub returns-then-x-lt10 : goal.returns-then-x-lt10
unfolding number
returns-then-x-lt10 c =
    rw (digits-small c.args.x c.if-x-lt10.true)
    (behind c.args.text.now.items (32 ∷ []) ((48 + c.args.x) ∷ []) c.push.ensures.items c.push-then-x-lt10.ensures.items)

pub returns-else-x-lt10 : goal.returns-else-x-lt10
unfolding number
returns-else-x-lt10 c = behind _ _ _ c.push.ensures.items c.put_digits.ensures
