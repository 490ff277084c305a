-- `engine::tree::tree_start` meets its contract. Assumes nothing.
use Prim.Native.Nat.{ℕ, ◌/◌, ◌^◌}
use mathlib.Core.Path.{◌≡◌, sym, ◌∙◌, ap}
use mathlib.Core.Bool.{Bool, false, cond}
use native.Mathlib.Omega.{arith}
use lib.Dec.{eqb}
use lib.ListN.{length, take, drop}
use lib.Seq.{length-take-le}
use Rattle.records.specs.Bytes.{all}
use Rattle.engine.specs.Choice.{same}
use Rattle.engine.specs.Tree.{column, join_of}
use Rattle.engine.specs.Inner.Tree.{column_part, tree_start}
use Rattle.engine.specs.declared.tree.TreeStart.{TreeStart}
use Rattle.engine.proofs.Laws.Tree.{column-tested, start-zero, start-one, start-halves, start-deep, pow-halves}
use Rattle.engine.proofs.tree.tree_start.Goals as goal
use Rattle.engine.proofs.tree.tree_start.Goals.{Else-column_is, Else-column_is-2, After-split_at}

-- some bit of the column is not 0, and, further on, some bit is not 1: it is built from its halves
some : (c : Else-column_is) → let a = c.args in all (eqb 0) (column_part a.table.now 0 a.k a.t) ≡ false
some c = let a = c.args in column-tested a.table.now a.t 0 c.reading_count.ensures c.column_is.ensures c.if-column_is.false

rest : (c : Else-column_is-2) → let a = c.args in all (eqb 1) (column_part a.table.now 0 a.k a.t) ≡ false
rest c = let a = c.args in column-tested a.table.now a.t 1 c.reading_count.ensures c.column_is-2.ensures c.if-column_is-2.false

-- how many entries there are
long : (c : Else-column_is-2) → length (take c.reading_count.result c.args.table.now) ≡ 2 ^ c.args.k
long c =
    length-take-le c.reading_count.result c.args.table.now (omega (arith, c.reading_count.ensures, c.requires.within)) ∙ c.reading_count.ensures

halved : (c : After-split_at) → let a = c.args in
    let low = column c.split_at.result.0.now a.t in
    let high = column c.split_at.result.1.now a.t in
    all (eqb 0) (column_part a.table.now 0 a.k a.t) ≡ false → all (eqb 1) (column_part a.table.now 0 a.k a.t) ≡ false
    → length (take c.reading_count.result a.table.now) ≡ 2 ^ a.k
    → (b : Bool) → same low high ≡ b → tree_start a.k (column_part a.table.now 0 a.k a.t) ≡ cond b TreeStart.Equal (TreeStart.Split (join_of low high))
halved c z o l b e =
    let a = c.args in
    let n = c.reading_count.ensures in
    let half : ℕ = length (take c.reading_count.result a.table.now) / 2 in
    let low = column c.split_at.result.0.now a.t in
    let high = column c.split_at.result.1.now a.t in
    start-halves a.table.now a.k a.t c.requires.within (ap (λ (k : ℕ). k / 2) l)
    (c.split_at.ensures.front ∙ ap (λ (k : ℕ). take half (take k a.table.now)) n)
    (c.split_at.ensures.back ∙ ap (λ (k : ℕ). drop half (take k a.table.now)) n)
    z
    o
    ∙ ap (λ (x : Bool). cond x TreeStart.Equal (TreeStart.Split (join_of low high))) e

pub returns-then-column_is : goal.returns-then-column_is
returns-then-column_is c =
    let a = c.args in
    sym
    (start-zero a.k (column_part a.table.now 0 a.k a.t)
    (column-tested a.table.now a.t 0 c.reading_count.ensures c.column_is.ensures c.if-column_is.true))

pub returns-then-column_is-2 : goal.returns-then-column_is-2
returns-then-column_is-2 c =
    let a = c.args in
    sym
    (start-one a.k (column_part a.table.now 0 a.k a.t) (some (goal.at.returns-then-column_is-2 c).Else-column_is)
    (column-tested a.table.now a.t 1 c.reading_count.ensures c.column_is-2.ensures c.if-column_is-2.true))

pub halves_equal-requires : goal.halves_equal-requires
halves_equal-requires c =
    let a = c.args in
    let d = goal.at.halves_equal-requires c in
    let q = pow-halves a.k (start-deep a.table.now a.k a.t c.requires.within (some d.Else-column_is) (rest d.Else-column_is-2)) in
    (c.requires.target, omega (arith, long d.Else-column_is-2, c.split_at.ensures.front_len, c.split_at.ensures.back_len))

pub returns-then-halves_equal : goal.returns-then-halves_equal
returns-then-halves_equal c =
    let d = goal.at.returns-then-halves_equal c in
    sym
    (halved d.After-split_at (some d.Else-column_is) (rest d.Else-column_is-2) (long d.Else-column_is-2) _
    (sym c.halves_equal.ensures ∙ c.if-halves_equal.true))

pub returns : goal.returns
returns c =
    let d = goal.at.returns c in
    sym
    (halved d.After-split_at (some d.Else-column_is) (rest d.Else-column_is-2) (long d.Else-column_is-2) _
    (sym c.halves_equal.ensures ∙ c.if-halves_equal.false)
    ∙ ap TreeStart.Split (sym c.join_of.ensures))
