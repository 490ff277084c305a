-- `records::netlist::check_gates` meets its contract. The loop's invariant: the gates from i on are good exactly when
-- all are. Assumes nothing.
use mathlib.Core.Bool.{◌&&◌}
use mathlib.Core.Path.{◌≡◌, ◌∙◌, sym}
use Prim.Native.Nat.{◌+◌}
use Rattle.records.specs.Job.{gate_at, gates_of}
use Rattle.records.specs.Refusal.{gates_good}
use Rattle.records.specs.Service.{gate_from}
use Rattle.records.specs.Inner.{check_of, struct_at}
use Rattle.records.proofs.Laws.Netlist.{gates_good-drop, drop-gates-past}
use Rattle.records.proofs.netlist.check_gates.Invariants.{good}
use Rattle.records.proofs.netlist.check_gates.Goals as goal

pub returns-then-not-gate_good : goal.returns-then-not-gate_good
unfolding check_of gate_at gate_from struct_at
returns-then-not-gate_good c =
    let turn : let x = c.args in gates_good x.base (gates_of x.s.now) ≡ (c.gate_good.result && good x.base x.s.now (c.loop-i.i + 1)) =
    let x = c.args in
    sym c.loop-i.invariant
    ∙ gates_good-drop x.s.now c.loop-i.i c.loop-i-test.true x.base
    ∙ rw (c.gate_good.ensures, c.gate_at.ensures) in
    rw (turn, c.if-not-gate_good.true)

pub loop-i-preserved : goal.loop-i-preserved
unfolding gate_at gate_from struct_at
loop-i-preserved c =
    let turn : let x = c.args in gates_good x.base (gates_of x.s.now) ≡ (c.gate_good.result && good x.base x.s.now (c.loop-i.i + 1)) =
    let x = c.args in
    sym c.loop-i.invariant
    ∙ gates_good-drop x.s.now c.loop-i.i c.loop-i-test.true x.base
    ∙ rw (c.gate_good.ensures, c.gate_at.ensures) in
    sym (turn ∙ rw (c.if-not-gate_good.false))

pub returns : goal.returns
unfolding check_of gates_good
returns c = rw (← c.loop-i.invariant, drop-gates-past _ _ c.loop-i-test.false)
