-- `engine::list::Vectors::meets` meets its contract. The invariant: what is left from place v on decides. Assumes nothing.
use Prim.Native.Nat.{◌≤◌}
use mathlib.Core.Path.{sym, ◌∙◌, ap}
use native.Mathlib.Omega.{arith}
use lib.ListN.{length, drop_of_length-le}
use Rattle.engine.specs.Choice.{any}
use Rattle.engine.specs.Inner.List.{listed_of}
use Rattle.engine.proofs.Laws.VectorSets.{in_set}
use Rattle.engine.proofs.Laws.Stream.{in_set-true, in_set-false, any-from, listed-below}
use Rattle.engine.proofs.list.Vectors.meets.Goals as goal

pub overflow_shr-set : goal.overflow_shr-set
overflow_shr-set c =
    rw c.listed-v-items.ensures (omega (arith, listed-below c.args.self.now c.loop-v.v-index (rw c.listed-v-items.ensures at c.loop-v-test.true)))

pub returns-then-set-v-eq1 : goal.returns-then-set-v-eq1
returns-then-set-v-eq1 c =
    let l = c.loop-v in
    let s = c.args.set in
    let vs = (listed_of c.args.self.now).vectors in
    let same = c.listed-v-items.ensures in
    let t = any-from (in_set s) vs l.v-index (rw same at c.loop-v-test.true) in
    sym (rw (in_set-true s _ (rw same at c.if-set-v-eq1.true)) at t) ∙ l.invariant

pub loop-v-preserved : goal.loop-v-preserved
loop-v-preserved c =
    let l = c.loop-v in
    let s = c.args.set in
    let vs = (listed_of c.args.self.now).vectors in
    let same = c.listed-v-items.ensures in
    let t = any-from (in_set s) vs l.v-index (rw same at c.loop-v-test.true) in
    sym (rw (in_set-false s _ (rw same at c.if-set-v-eq1.false)) at t) ∙ l.invariant

pub returns : goal.returns
unfolding any
returns c =
    let l = c.loop-v in
    let vs = (listed_of c.args.self.now).vectors in
    let n : length c.listed-v-items.result.now ≤ l.v-index = omega arith in
    ap (any (in_set c.args.set)) (sym (drop_of_length-le vs {i = l.v-index} (rw c.listed-v-items.ensures at n))) ∙ l.invariant
