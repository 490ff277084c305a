-- `engine::note::list_block` meets its contract. The invariant: the list is the one after the inputs before y, of which those from
-- count on are none of the block's. Assumes nothing.
use mathlib.Core.Path.{sym, ◌∙◌}
use native.Mathlib.Omega.{arith}
use Rattle.engine.proofs.Laws.Note.{list-none, list-next, list-covered, list-stuck}
use Rattle.engine.proofs.note.list_block.Goals as goal

pub loop-y-init : goal.loop-y-init
loop-y-init c =
    let a = c.args in
    list-covered a.masks a.first a.list 0 _ _ a.list (list-none a.masks a.first a.list)
    c.next_uncovered-y.ensures (omega arith) (omega arith)

pub returns-then-is_some : goal.returns-then-is_some
returns-then-is_some c =
    let a = c.args in
    let l = c.loop-y in
    let stepped =
    list-next a.masks a.first a.list l.y a.count l.list c.gather_rows-set.result c.step.new.self (omega arith) l.invariant
    c.gather_rows-set.ensures
    c.step.ensures in
    list-stuck a.masks a.first a.list _ a.count c.step.new.self stepped (sym c.is_some.ensures ∙ c.if-is_some.true) (omega arith)

pub loop-y-preserved : goal.loop-y-preserved
loop-y-preserved c =
    let a = c.args in
    let l = c.loop-y in
    let stepped =
    list-next a.masks a.first a.list l.y a.count l.list c.gather_rows-set.result c.step.new.self (omega arith) l.invariant
    c.gather_rows-set.ensures
    c.step.ensures in
    list-covered a.masks a.first a.list _ _ _ c.step.new.self stepped c.next_uncovered-y-in-loop-y.ensures (omega arith)
    (omega arith)
