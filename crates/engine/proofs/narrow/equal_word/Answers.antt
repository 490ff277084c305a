-- `engine::narrow::equal_word` meets its contract. The invariant: the word says where the outputs taken so far are equal. Assumes nothing.
use Prim.Native.Nat.{◌≤◌}
use mathlib.Core.Path.{◌≡◌, ◌∙◌}
use mathlib.Core.List.{[], ◌∷◌}
use native.Mathlib.Omega.{arith}
use lib.ListN.{length, get_or, length-append}
use lib.Seq.{take_all}
use Rattle.std.proofs.Common.{rules}
use Rattle.std.proofs.lemmas.Slice.Zip.{zip_turn, zip_end}
use Rattle.records.specs.Netlist.{net_at}
use Rattle.engine.specs.Choice.{same}
use Rattle.engine.specs.Inner.Narrow.{values_at}
use Rattle.engine.proofs.Laws.Leaves.{bit_kept, equal_next}
use Rattle.engine.proofs.Laws.Narrow.{net-bit}
use Rattle.engine.proofs.Laws.Word.{bit-ones}
use Rattle.engine.proofs.narrow.equal_word.Goals as goal

pub loop-output-init : goal.loop-output-init
unfolding same
loop-output-init c = λ y h. bit-ones y h

pub loop-output-preserved : goal.loop-output-preserved
loop-output-preserved c y h =
    let l = c.loop-output in
    let a = c.args in
    let ws = a.words.now in
    let t = zip_turn a.outputs.now a.goldens.now l.yielded c.into_iter-output-iterator.result l.output-iterator c.next.new.self _ (search rules) (search rules) l.yielded_by _ c.in-Some.is c.next.ensures.steps in
    let k = length l.yielded in
    let os : c.from.result ≡ get_or a.outputs.now k 0 = c.from.ensures ∙ t.2 0 in
    let gs : c.from-in-loop-output.result ≡ get_or a.goldens.now k 0 = c.from-in-loop-output.ensures ∙ t.3 0 in
    rw (length-append l.yielded ((c.in-Some.output, c.in-Some.golden) ∷ []), os, gs)
    (equal_next (net_at (values_at ws y)) a.outputs.now a.goldens.now k _ _ t.0 t.1 (l.invariant y h)
    (rw (net-bit ws y (get_or a.outputs.now k 0), net-bit ws y (get_or a.goldens.now k 0))
    (bit_kept y l.r (get_or ws (get_or a.outputs.now k 0) 0) (get_or ws (get_or a.goldens.now k 0) 0) h)))

pub returns : goal.returns
returns c y h =
    let l = c.loop-output in
    let a = c.args in
    let f = net_at (values_at a.words.now y) in
    let e = zip_end a.outputs.now a.goldens.now l.yielded c.into_iter-output-iterator.result l.output-iterator c.next.new.self _ (search rules) (search rules) l.yielded_by c.in-None.is c.next.ensures.steps in
    let all : length a.outputs.now ≤ length l.yielded = omega (arith, e, c.requires.long) in
    let alls : length a.goldens.now ≤ length l.yielded = omega (arith, e, c.requires.long) in
    rw (take_all (length l.yielded) a.outputs.now all, take_all (length l.yielded) a.goldens.now alls) at (l.invariant y h)
