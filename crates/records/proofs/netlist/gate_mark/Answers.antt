-- `records::netlist::gate_mark` meets its contract. The loop's invariant: r is the greatest mark of the operands from i on.
-- Assumes nothing.
use lib.ListN.{length}
use mathlib.Core.Path.{◌≡◌, sym, ◌∙◌, ap}
use native.Mathlib.Omega.{arith}
use Rattle.records.specs.Gate.{gate_of, operands}
use Rattle.records.specs.Netlist.{mark_of}
use Rattle.records.specs.Service.{gate_from}
use Rattle.records.specs.Inner.{struct_slots}
use Rattle.records.proofs.Laws.Netlist.{disj-none, disj-back}
use Rattle.records.proofs.netlist.gate_mark.Goals as goal

pub loop-i-init : goal.loop-i-init
loop-i-init c =
    let x = c.args in
    (omega arith, sym (disj-none x.marks.now x.gate.count c.slots_of-slots.result))

pub loop-i-preserved : goal.loop-i-preserved
unfolding struct_slots
loop-i-preserved c =
    let x = c.args in
    let n : length c.slots_of-slots.result ≡ 4 = ap length c.slots_of-slots.ensures in
    let t = c.loop-i in
    let more = disj-back x.marks.now x.gate.count c.slots_of-slots.result t.i (omega arith) t.invariant.0 (omega arith) in
    (omega arith, c.max-r.ensures ∙ rw t.invariant.1 (sym more))

pub returns : goal.returns
unfolding mark_of gate_from gate_of operands struct_slots
returns c =
    let z : c.loop-i.i ≡ 0 = omega arith in
    (rw (z, c.slots_of-slots.ensures) at c.loop-i.invariant.1)
