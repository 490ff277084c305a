-- `engine::note::listed_row` meets its contract. The invariant: where the words say 1, one of the vectors before place v is in
-- the set. Assumes nothing.
use Prim.Native.Nat.{ℕ, ◌≤◌, ◌<◌, max}
use mathlib.Core.Path.{◌≡◌, ◌∙◌, ap}
use mathlib.Core.List.{List}
use Rattle.engine.specs.Inner.Kernel.{row_value, value_in}
use native.Mathlib.Omega.{arith}
use lib.ListN.{length, get_or}
use lib.Seq.{take_all}
use Rattle.engine.specs.Inner.List.{listed_of}
use Rattle.engine.proofs.Laws.Note.{joined-none, joined-next}
use Rattle.engine.proofs.Laws.Stream.{listed-below}
use Rattle.engine.proofs.note.listed_row.Goals as goal

pub loop-v-init : goal.loop-v-init
loop-v-init c = joined-none c.args.masks.now _

pub row_of-requires : goal.row_of-requires
row_of-requires c =
    let h = listed-below c.args.list.now c.loop-v.v-index (rw c.listed-v-items.ensures at c.loop-v-test.true) in
    let v : c.from.result < 16 = rw (c.from.ensures, c.listed-v-items.ensures) h in
    omega arith

pub loop-v-preserved : goal.loop-v-preserved
loop-v-preserved c =
    let a = c.args in
    let l = c.loop-v in
    let same = c.listed-v-items.ensures in
    let h = rw same at c.loop-v-test.true in
    let vs = (listed_of a.list.now).vectors in
    let v : c.from.result ≡ get_or vs l.v-index 0 = c.from.ensures ∙ ap (λ (xs : List ℕ). get_or xs l.v-index 0) same in
    joined-next a.masks.now vs l.words c.join_rows-next.result l.v-index h (listed-below a.list.now l.v-index h)
    (λ y k.
    c.join_rows-next.ensures y k
    ∙ ap (max (row_value l.words y)) (c.row_of.ensures y k ∙ ap (value_in a.masks.now y) v))
    l.invariant

pub returns : goal.returns
returns c =
    let l = c.loop-v in
    let vs = (listed_of c.args.list.now).vectors in
    let n : length c.listed-v-items.result.now ≤ l.v-index = omega arith in
    rw (take_all l.v-index vs (rw c.listed-v-items.ensures at n)) at l.invariant
