-- `engine::netlist::put_codes` meets its contract. Assumes nothing.
use mathlib.Core.Path.{refl, sym, ◌∙◌, ap}
use mathlib.Core.List.{map}
use native.Mathlib.Omega.{arith}
use lib.ListN.{length, length-map, get_or-map}
use Rattle.records.specs.Bytes.{flat}
use Rattle.records.specs.Job.{gate_bytes}
use Rattle.engine.specs.Inner.Packed.{gate_in}
use Rattle.engine.proofs.Laws.Fitting.{length-gate_in}
use Rattle.engine.proofs.Laws.Sheet.{pieces-next, pieces-all}
use Rattle.engine.proofs.netlist.put_codes.Goals as goal

pub loop-i-init : goal.loop-i-init
unfolding flat
loop-i-init c = refl

pub loop-i-preserved : goal.loop-i-preserved
loop-i-preserved c =
    let l = c.loop-i in
    let cs = c.args.gates.now in
    let n = length-map cs gate_in in
    let q = c.put_code.ensures ∙ ap gate_bytes (sym (get_or-map gate_in cs l.i 0)) in
    pieces-next gate_bytes 10 (map gate_in cs) l.i l.bytes l.invariant (gate_in 0) _ (omega arith) (omega (arith, l.auto.bytes, c.requires)) q
    (ap length c.put_code.ensures ∙ length-gate_in _)

pub returns : goal.returns
returns c =
    let l = c.loop-i in
    let n = length-map c.args.gates.now gate_in in
    pieces-all gate_bytes 10 (map gate_in c.args.gates.now) l.i l.bytes l.invariant (omega (arith, l.auto.i-end)) (omega (arith, l.auto.bytes, c.requires))
