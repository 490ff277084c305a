-- `engine::tree::column_word` meets its contract. The invariant: w has the entries from place i on. Assumes nothing.
use Prim.Native.Nat.{◌+◌, ◌-◌, ◌*◌, ◌^◌, ◌<◌}
use mathlib.Core.Path.{◌≡◌, sym}
use native.Mathlib.Omega.{arith}
use lib.ListN.{get_or, drop}
use Rattle.engine.specs.Eval.{bit, number_of}
use Rattle.engine.specs.Inner.Tree.{column_part}
use Rattle.engine.proofs.Laws.TreeWord.{word_fits, column-turn, column-end, column-rest}
use Rattle.engine.proofs.tree.column_word.Goals as goal
use Rattle.engine.proofs.tree.column_word.Goals.{In-loop-i}

pub loop-i-init : goal.loop-i-init
loop-i-init c =
    let e = c.reading_count-i.ensures in
    (omega arith, rw e (sym (column-end c.requires.0)))

-- one entry more
turn : (c : In-loop-i) → let a = c.args in
    let l = c.loop-i in
    let n = number_of (drop (l.i - 1) (column_part a.table.now 0 a.k a.t)) in
    (n ≡ 2 * l.w + bit a.t (get_or a.table.now (l.i - 1) 0)) × (n < 18446744073709551616)
turn c =
    let l = c.loop-i in
    let e : l.i - 1 + 1 ≡ l.i = omega arith in
    let d : l.i - 1 < 2 ^ c.args.k = omega (arith, l.invariant.0) in
    let p = rw (e, sym l.invariant.1) at (column-turn c.requires.0 (l.i - 1) d) in
    (p, omega (arith, column-rest c.requires.0 (l.i - 1), word_fits c.args.k c.requires.1))

pub overflow_mul-w : goal.overflow_mul-w
overflow_mul-w c = omega (arith, turn (goal.at.overflow_mul-w c).In-loop-i)

pub overflow_add-w : goal.overflow_add-w
overflow_add-w c = omega (arith, turn (goal.at.overflow_add-w c).In-loop-i, c.bit_of.ensures)

pub loop-i-preserved : goal.loop-i-preserved
loop-i-preserved c =
    let p = (turn (goal.at.loop-i-preserved c).In-loop-i).0 in
    let b = c.bit_of.ensures in
    (omega (arith, c.loop-i.invariant.0), omega arith)
