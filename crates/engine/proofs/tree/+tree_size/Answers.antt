-- `engine::tree::tree_size` meets its contract: it calls itself on each half, and the number of nets falls, until the column is one number. Assumes nothing.
use Prim.Native.Nat.{ℕ, ◌+◌, ◌-◌, ◌^◌, ◌≤◌, ◌<◌}
use lib.ListN.{length}
use mathlib.Core.Logic.{inl, inr}
use mathlib.Core.Path.{◌≡◌, sym, ◌∙◌, ap}
use native.Mathlib.Omega.{arith}
use Rattle.engine.specs.Eval.{bits}
use Rattle.engine.specs.Tree.{builds_low, builds_high, tree_size}
use Rattle.engine.specs.Inner.Tree.{column_part}
use Rattle.engine.proofs.Laws.Tree.{column-rest, pow-halves, size-constant, size-equal, size-split, built_size, half-came, half-small}
use Rattle.engine.proofs.Laws.TreeWord.{column-lt, bits-column}
use Rattle.engine.proofs.Laws.Join.{join_size-bounds}
use Rattle.engine.proofs.tree.+tree_size.Goals as goal
use Rattle.engine.proofs.tree.+tree_size.Goals.{Joined-builds_low, Joined-builds_high, then-builds_low, else-builds_low, then-builds_high, else-builds_high}

pub word_size-requires : goal.word_size-requires
word_size-requires t c = (c.if-k-le6.true, rw c.column_word.ensures (column-lt c.requires))

pub returns-then-k-le6 : goal.returns-then-k-le6
returns-then-k-le6 t c =
    let k = c.args.k in
    c.word_size.ensures ∙ ap (λ (x : ℕ). tree_size k (bits (2 ^ k) x)) c.column_word.ensures ∙ ap (tree_size k) (bits-column c.requires)

pub returns-in-Constant : goal.returns-in-Constant
returns-in-Constant t c = sym (size-constant c.args.k _ _ (sym c.in-Constant.ensures))

pub returns-in-Equal : goal.returns-in-Equal
returns-in-Equal t c =
    let a = c.args in
    c.tree_size.ensures ∙ sym (size-equal a.table.now 0 a.k a.t (sym c.in-Equal.ensures))

-- how many gates each half has
low-size : (t : ℕ) (c : Joined-builds_low t) → let a = c.args in
    c.if-builds_low.low ≡ built_size (builds_low c.in-Split.join) (tree_size (a.k - 1) (column_part a.table.now 0 (a.k - 1) a.t))
low-size t c =
    half-came (builds_low c.in-Split.join) _ c.builds_low.ensures
    (elim c.if-builds_low.branch [
      | then-builds_low w ↦ inl (w.if-builds_low.true, w.low-is ∙ w.tree_size-low.ensures)
      | else-builds_low w ↦ inr (w.if-builds_low.false, w.low-is)
    ])

high-size : (t : ℕ) (c : Joined-builds_high t) → let a = c.args in
    c.if-builds_high.high
    ≡ built_size (builds_high c.in-Split.join) (tree_size (a.k - 1) (column_part a.table.now (0 + c.reading_count-half.result) (a.k - 1) a.t))
high-size t c =
    let a = c.args in
    let fits : c.reading_count-half.result + 2 ^ (a.k - 1) ≤ length a.table.now =
    omega (arith, c.reading_count-half.ensures, pow-halves a.k (omega arith), c.requires.within) in
    half-came (builds_high c.in-Split.join) _ c.builds_high.ensures
    (elim c.if-builds_high.branch [
      | then-builds_high w ↦ inl (w.if-builds_high.true, w.high-is ∙ w.tree_size-high.ensures ∙ ap (tree_size (a.k - 1)) (column-rest a.table.now (a.k - 1) a.t c.reading_count-half.result fits))
      | else-builds_high w ↦ inr (w.if-builds_high.false, w.high-is)
    ])

-- .. which is not many
low-small : (t : ℕ) (c : Joined-builds_low t) → c.if-builds_low.low < 5120
low-small t c = rw (low-size t c) (half-small (builds_low c.in-Split.join) (c.args.k - 1) _ (omega arith))

high-small : (t : ℕ) (c : Joined-builds_high t) → c.if-builds_high.high < 5120
high-small t c = rw (high-size t c) (half-small (builds_high c.in-Split.join) (c.args.k - 1) _ (omega arith))

pub overflow_add-result : goal.overflow_add-result
overflow_add-result t c =
    let d = goal.at.overflow_add-result t c in
    omega (arith, low-small t d.Joined-builds_low, high-small t d.Joined-builds_high)

pub overflow_add-result-in-Split : goal.overflow_add-result-in-Split
overflow_add-result-in-Split t c =
    let d = goal.at.overflow_add-result-in-Split t c in
    omega (arith, low-small t d.Joined-builds_low, high-small t d.Joined-builds_high, join_size-bounds c.in-Split.join)

pub returns-after-builds_high : goal.returns-after-builds_high
returns-after-builds_high t c =
    let a = c.args in
    let d = goal.at.returns-after-builds_high t c in
    rw (low-size t d.Joined-builds_low, high-size t d.Joined-builds_high, c.size.ensures)
    (sym (size-split a.table.now 0 a.k a.t _ _ (sym c.in-Split.ensures) c.reading_count-half.ensures))
