-- `engine::narrow::gate_word` meets its contract. The invariant: the word so far, with the operands left, gives the whole. Assumes nothing.
use mathlib.Core.Path.{◌∙◌, ap}
use native.Mathlib.Omega.{arith}
use Rattle.engine.specs.Inner.Operands.{operands_left}
use Rattle.engine.proofs.Laws.Narrow.{word-start, word_next, word-all}
use Rattle.engine.proofs.Laws.Packed.{field-below}
use Rattle.engine.proofs.Laws.Word.{bit-lowest}
use Rattle.engine.proofs.narrow.gate_word.Goals as goal

pub loop-net-init : goal.loop-net-init
loop-net-init c y h =
    let e = ap operands_left c.into_iter-net-iterator.ensures.into_iter_gives ∙ c.operands_of-net-items.ensures in
    rw e (word-start c.args.words.now c.args.c y)

pub bounds-words-net : goal.bounds-words-net
bounds-words-net c = field-below _ _ c.in-Some.ensures.steps

pub offset_bounds-words-net : goal.offset_bounds-words-net
offset_bounds-words-net c =
    let l = field-below _ _ c.in-Some.ensures.steps in
    omega arith

pub loop-net-preserved : goal.loop-net-preserved
loop-net-preserved c y h =
    let l = c.loop-net in
    word_next c.args.words.now c.args.c y l.op l.r c.in-Some.net c.in-Some.ensures.steps c.apply-r.ensures (l.invariant y h)

pub returns : goal.returns
returns c y h =
    let a = c.args in
    let l = c.loop-net in
    word-all a.words.now a.c y l.op l.r c.broadcast.result c.in-None.ensures.steps.0
    (c.broadcast.ensures y h ∙ bit-lowest a.c)
    (l.invariant y h)
