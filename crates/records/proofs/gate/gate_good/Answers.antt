-- `records::gate::gate_good` meets its contract. The loop's invariant: the slots from i on are good exactly when all are.
-- Assumes nothing.
use lib.Dec.{ltb, eqb}
use lib.ListN.{length, get_or, drop}
use mathlib.Core.Bool.{cond, ◌&&◌}
use mathlib.Core.Path.{◌≡◌, sym, ◌∙◌, ap}
use native.Mathlib.Omega.{arith}
use Prim.Native.Nat.{◌+◌, ◌-◌}
use Rattle.records.specs.Gate.{gate_of}
use Rattle.records.specs.Refusal.{gate_good}
use Rattle.records.specs.Service.{gate_from}
use Rattle.records.specs.Inner.{struct_slots}
use Rattle.records.proofs.Laws.Gate.{slots_good, slots_good-drop, slots_good-end, gate_good-refused, gate_good-permitted}
use Rattle.records.proofs.gate.gate_good.Goals as goal
use Rattle.records.proofs.gate.gate_good.Goals.{Else-not-permits, In-loop-i}

-- a gate that is permitted is good where its slots are
good : (c : Else-not-permits) → let x = c.args in
    gate_good x.net (gate_from x.gate) ≡ slots_good x.net x.gate.count (struct_slots x.gate)
unfolding gate_from gate_of struct_slots
good c = gate_good-permitted c.args.net (gate_from c.args.gate) (sym c.permits.ensures ∙ c.if-not-permits.false)

-- the slots are good where slot i is, and those after it
turn : (c : In-loop-i) → let n = c.args.gate.count in
    let i = c.loop-i.i in
    let slots = c.slots_of-slots.result in
    let v = get_or slots i 0 in
    slots_good c.args.net n slots
    ≡ (cond (ltb i n) (ltb v c.args.net) (eqb 0 v) && slots_good c.args.net (n - (i + 1)) (drop (i + 1) slots))
unfolding struct_slots
turn c =
    sym c.loop-i.invariant
    ∙ slots_good-drop _ _ _ c.slots_of-slots.result (omega (arith, ap length c.slots_of-slots.ensures))

pub returns-then-not-permits : goal.returns-then-not-permits
unfolding gate_from gate_of
returns-then-not-permits c =
    sym (gate_good-refused c.args.net (gate_from c.args.gate) (sym c.permits.ensures ∙ c.if-not-permits.true))

pub returns-then-not-slot_good : goal.returns-then-not-slot_good
returns-then-not-slot_good c =
    let d = goal.at.returns-then-not-slot_good c in
    rw (good d.Else-not-permits, ← c.slots_of-slots.ensures, turn d.In-loop-i, ← c.slot_good.ensures, c.if-not-slot_good.true)

pub loop-i-preserved : goal.loop-i-preserved
loop-i-preserved c =
    sym (turn (goal.at.loop-i-preserved c).In-loop-i ∙ rw (← c.slot_good.ensures, c.if-not-slot_good.false))

pub returns : goal.returns
unfolding struct_slots
returns c =
    let i = c.loop-i.i in
    let x = c.args in
    let s = c.slots_of-slots in
    let end = slots_good-end x.net (x.gate.count - i) i s.result (omega (arith, ap length s.ensures)) in
    sym (good (goal.at.returns c).Else-not-permits ∙ rw (← s.ensures, ← c.loop-i.invariant, end))
