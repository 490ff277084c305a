-- `engine::note::gather_rows` meets its contract. The invariant: the rows from i on are gathered. Assumes nothing.
use Prim.Native.Nat.{◌+◌, ◌-◌}
use mathlib.Core.Path.{◌≡◌, sym, ◌∙◌, ap}
use native.Mathlib.Omega.{arith}
use Rattle.engine.proofs.Laws.Note.{rows_from, rows_from-all, rows_from-none, rows_from-lt, rows_from-turn}
use Rattle.engine.proofs.note.gather_rows.Goals as goal

pub loop-i-init : goal.loop-i-init
loop-i-init c = (omega arith, sym (rows_from-none c.args.masks.now c.args.y))

pub overflow_mul-r : goal.overflow_mul-r
overflow_mul-r c =
    let s = rows_from-lt c.args.masks.now c.args.y c.loop-i.i in omega arith

pub overflow_add-r-in-loop-i : goal.overflow_add-r-in-loop-i
overflow_add-r-in-loop-i c =
    let s = rows_from-lt c.args.masks.now c.args.y c.loop-i.i in omega arith

pub loop-i-preserved : goal.loop-i-preserved
loop-i-preserved c =
    let l = c.loop-i in
    let a = c.args in
    let e : l.i - 1 + 1 ≡ l.i = omega arith in
    let g = ap (rows_from a.masks.now a.y) e in
    let t = rows_from-turn a.masks.now a.y (l.i - 1) (omega arith) in
    (omega arith, omega arith)

pub overflow_cast-result : goal.overflow_cast-result
overflow_cast-result c =
    let s = rows_from-lt c.args.masks.now c.args.y c.loop-i.i in omega arith

pub returns : goal.returns
returns c =
    let a = c.args in
    let e : c.loop-i.i ≡ 0 = omega arith in
    c.loop-i.invariant.1 ∙ ap (rows_from a.masks.now a.y) e ∙ rows_from-all a.masks.now a.y
