-- `engine::guess::listed_set` meets its contract. The invariant: each vector of the set is one of those passed. Assumes nothing.
use Prim.Native.Nat.{◌≤◌, ◌<◌}
use native.Mathlib.Omega.{arith}
use lib.ListN.{length}
use lib.Seq.{take_all}
use Rattle.engine.specs.Inner.List.{listed_of}
use Rattle.engine.proofs.Laws.Guess.{set-none, set_next}
use Rattle.engine.proofs.Laws.Stream.{listed-below}
use Rattle.engine.proofs.guess.listed_set.Goals as goal

pub loop-v-init : goal.loop-v-init
loop-v-init c = set-none _

pub overflow_shl-set : goal.overflow_shl-set
overflow_shl-set c =
    rw c.listed-v-items.ensures (omega (arith, listed-below c.args.list.now c.loop-v.v-index (rw c.listed-v-items.ensures at c.loop-v-test.true)))

pub loop-v-preserved : goal.loop-v-preserved
loop-v-preserved c =
    let l = c.loop-v in
    let vs = (listed_of c.args.list.now).vectors in
    let same = c.listed-v-items.ensures in
    let h : l.v-index < length vs = rw same at c.loop-v-test.true in
    rw same (set_next vs l.v-index l.set h (listed-below c.args.list.now l.v-index h) l.invariant)

pub returns : goal.returns
returns c =
    let l = c.loop-v in
    let vs = (listed_of c.args.list.now).vectors in
    let h : length vs ≤ l.v-index = rw c.listed-v-items.ensures at c.loop-v-test.false in
    rw (take_all l.v-index vs h) at l.invariant
