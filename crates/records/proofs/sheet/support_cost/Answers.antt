-- `records::sheet::support_cost` meets its contract. The loop's invariant: the nets left from place i on, above `least`
-- and after `sum`, cost what the whole support costs. Assumes nothing.
use Prim.Native.Nat.{ℕ, ◌+◌, ◌*◌, ◌<◌}
use mathlib.Core.Path.{◌≡◌, sym, ◌∙◌, ap}
use native.Mathlib.Omega.{arith}
use lib.ListN.{length, get_or}
use Rattle.records.specs.Service.{candidates_from}
use Rattle.records.specs.Bytes.{word}
use Rattle.records.specs.Inner.{word_column}
use Rattle.records.proofs.Laws.Sheet.{column-at, length-column, support_left, Stands, found_at, support-start, support-end, support-low, support-odd, support-next}
use Rattle.records.proofs.sheet.support_cost.Goals as goal
use Rattle.records.proofs.sheet.support_cost.Goals.{In-loop-i, In_ok-place}

-- the net of a turn is in the support
net : (c : In-loop-i) → word c.args.s.now (2 * c.loop-i.i + 3) ≡ get_or (word_column c.args.s.now 2 3 c.args.long) c.loop-i.i 0
net c = sym (column-at _ 2 3 _ _ c.loop-i-test.true)

short : (c : In-loop-i) → c.loop-i.i < length (word_column c.args.s.now 2 3 c.args.long)
short c = omega (arith, c.loop-i-test.true, length-column c.args.s.now 2 3 c.args.long)

-- the place where it stands
stands : (c : In_ok-place) → let a = c.args in
    let k = c.in_ok-place.place in
    Stands (candidates_from a.count a.nets.now a.weights.now) c.word_at-net.result (get_or a.weights.now k 0) k a.count
stands c = found_at _ _ _ _ c.requires.2 _ (sym c.in_ok-place.ensures)

pub loop-i-init : goal.loop-i-init
loop-i-init c = (omega arith, omega arith, support-start _ _)

pub returns-then-net-least : goal.returns-then-net-least
returns-then-net-least c =
    let d = (goal.at.returns-then-net-least c).In-loop-i in
    sym (support-low _ _ _ _ _ _ _ _ (c.word_at-net.ensures ∙ net d) (short d) c.if-net-least.true) ∙ c.loop-i.invariant.2

pub returns-in_err-place : goal.returns-in_err-place
returns-in_err-place c =
    let d = (goal.at.returns-in_err-place c).In-loop-i in
    let e = sym c.in_err-place.ensures in
    c.from_residual.ensures ∙ sym (support-odd _ _ _ _ _ _ _ _ (c.word_at-net.ensures ∙ net d) (short d) c.requires.2 e) ∙ c.loop-i.invariant.2

pub offset_bounds-weights-place : goal.offset_bounds-weights-place
offset_bounds-weights-place c = omega (arith, (stands (goal.at.offset_bounds-weights-place c).In_ok-place).below)

pub bounds-weights-place : goal.bounds-weights-place
bounds-weights-place c = omega (arith, (stands (goal.at.bounds-weights-place c).In_ok-place).below)

pub overflow_add-least : goal.overflow_add-least
unfolding word
overflow_add-least c =
    let j = 2 * c.loop-i.i + 3 in
    omega (arith, c.word_at-net.ensures, c.type_inv.s j, c.type_inv.s (j + 1))

pub loop-i-preserved : goal.loop-i-preserved
loop-i-preserved c =
    let d = goal.at.loop-i-preserved c in
    let n = c.word_at-net.ensures ∙ net d.In-loop-i in
    let more = support-next _ _ _ _ _ _ _ _ n (short d.In-loop-i) _ _ _ c.if-net-least.false (stands d.In_ok-place) in
    (omega arith, omega (arith, c.type_inv.weights c.in_ok-place.place, c.from-sum.ensures), ap (λ (w : ℕ). support_left (word_column c.args.s.now 2 3 c.args.long) c.args.count c.args.nets.now c.args.weights.now (c.word_at-net.result + 1) (c.loop-i.sum + w) (c.loop-i.i + 1)) c.from-sum.ensures ∙ sym more ∙ c.loop-i.invariant.2)

pub returns : goal.returns
returns c =
    let a = c.args in
    let l = length-column a.s.now 2 3 a.long in
    sym (support-end (word_column a.s.now 2 3 a.long) _ _ _ _ _ c.loop-i.i (omega (arith, l))) ∙ c.loop-i.invariant.2
