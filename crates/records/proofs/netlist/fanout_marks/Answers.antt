-- `records::netlist::fanout_marks` meets its contract. The loop's invariant: the marks so far, extended by the gates
-- from i on, are the fanout, and those gates are good, so that gate i's operands have their marks. Assumes nothing.
use lib.ListN.{length, drop, length-set}
use mathlib.Core.Bool.{true}
use mathlib.Core.Path.{◌≡◌, ◌∙◌, sym}
use native.Mathlib.Nat.{add-zero}
use native.Mathlib.Omega.{arith}
use Prim.Native.Nat.{◌+◌, ◌/◌}
use Rattle.records.specs.Netlist.{extended, mark_of, fanout}
use Rattle.records.specs.Job.{gate_at, gates_of}
use Rattle.records.specs.Refusal.{gate_good, gates_good}
use Rattle.records.specs.Service.{gate_from}
use Rattle.records.specs.Inner.{leaf_marks, struct_at}
use Rattle.records.proofs.Laws.Netlist.{gates_good-both, slots-lt, drop-gates-past, extended-drop}
use Rattle.records.proofs.netlist.fanout_marks.Goals as goal

pub loop-i-init : goal.loop-i-init
unfolding fanout leaf_marks
loop-i-init c =
    (omega arith, rw add-zero c.requires.s_value, rw (add-zero, c.leaf_marks-marks.ensures))

pub gate_mark-requires : goal.gate_mark-requires
unfolding gate_at gate_from struct_at
gate_mark-requires c =
    let good : let x = c.args in let i = c.loop-i.i in (gate_good (x.inputs + x.targets + i) (gate_at x.s.now i) ≡ true) × (gates_good (x.inputs + x.targets + (i + 1)) (drop (i + 1) (gates_of x.s.now)) ≡ true) =
    let x = c.args in
    let l = c.loop-i in
    gates_good-both x.s.now l.i c.loop-i-test.true (x.inputs + x.targets) l.invariant.1 in
    let x = c.args in
    let net = x.inputs + x.targets + c.loop-i.i in
    slots-lt net c.gate_at.result 424 (omega arith) (rw c.gate_at.ensures good.0)

pub loop-i-preserved : goal.loop-i-preserved
unfolding gate_at gate_from struct_at
loop-i-preserved c =
    let good : let x = c.args in let i = c.loop-i.i in (gate_good (x.inputs + x.targets + i) (gate_at x.s.now i) ≡ true) × (gates_good (x.inputs + x.targets + (i + 1)) (drop (i + 1) (gates_of x.s.now)) ≡ true) =
    let x = c.args in
    let l = c.loop-i in
    gates_good-both x.s.now l.i c.loop-i-test.true (x.inputs + x.targets) l.invariant.1 in
    let x = c.args in
    let l = c.loop-i in
    let s = x.s.now in
    let e : c.gate_mark.result ≡ mark_of l.marks (gate_at s l.i) =
    c.gate_mark.ensures ∙ rw c.gate_at.ensures in
    let more = extended-drop s l.i c.loop-i-test.true (x.inputs + x.targets) l.marks (omega arith) good.0 in
    (length-set l.marks _ _ ∙ l.invariant.0, good.1, rw e (sym more ∙ l.invariant.2))

pub returns : goal.returns
unfolding extended
returns c =
    let s = c.args.s.now in
    let l = c.loop-i in
    let e : length s / 10 ≡ l.i = omega arith in
    rw e (rw (drop-gates-past s l.i c.loop-i-test.false) at l.invariant.2)
