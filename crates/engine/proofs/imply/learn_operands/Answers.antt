-- `engine::imply::learn_operands` meets its contract. The invariant: the steps so far went well, and the operands left have the value. Assumes
-- nothing.
use mathlib.Core.Path.{◌∙◌, ap}
use Rattle.std.proofs.Common.{rules}
use Rattle.engine.specs.Inner.Operands.{operands_left}
use Rattle.engine.proofs.Laws.Imply.{learns_none, learns-then, first-has, rest-have}
use Rattle.engine.proofs.Laws.Packed.{field-below}
use Rattle.engine.proofs.imply.learn_operands.Goals as goal

pub loop-net-init : goal.loop-net-init
loop-net-init c =
    let e = ap operands_left c.into_iter-net-iterator.ensures.into_iter_gives ∙ c.operands_of-net-items.ensures in
    (learns_none _, λ vs a. rw e a)

pub learn-requires : goal.learn-requires
learn-requires c = field-below _ _ c.in-Some.ensures.steps

pub returns-in_err-learn : goal.returns-in_err-learn
returns-in_err-learn c =
    let i = c.loop-net.invariant in
    learns-then i.0 (λ vs k a. first-has c.args.v vs c.in-Some.ensures.steps (i.1 vs a)) c.learn.ensures (search rules)

pub loop-net-preserved : goal.loop-net-preserved
loop-net-preserved c =
    let i = c.loop-net.invariant in
    let v = c.args.v in
    let e = c.in-Some.ensures.steps in (
      learns-then i.0 (λ vs k a. first-has v vs e (i.1 vs a)) c.learn.ensures (search rules),
      λ vs a. rest-have v vs e (i.1 vs a),
    )
