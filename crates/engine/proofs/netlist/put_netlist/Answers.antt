-- `engine::netlist::put_netlist` meets its contract: three fields, one behind the other. Assumes nothing.
use native.Mathlib.Omega.{arith}
use Rattle.engine.proofs.Laws.Fitting.{inputs_end, gates-end, netlist-put}
use Rattle.engine.proofs.netlist.put_netlist.Goals as goal

pub put_gates-b-requires : goal.put_gates-b-requires
put_gates-b-requires c =
    let e = inputs_end c.args.inputs c.put_bytes-a.ensures in
    (c.requires.2, omega (arith, c.requires.0, c.requires.2, c.put_bytes-a.auto.reply))

pub put_nets-requires : goal.put_nets-requires
put_nets-requires c =
    let a = c.args in
    let e = inputs_end a.inputs c.put_bytes-a.ensures in
    let f = gates-end a.gates.now c.put_gates-b.ensures in
    (c.requires.3, omega (arith, c.requires.0, c.requires.2, c.requires.3, c.put_gates-b.auto.reply, c.put_bytes-a.auto.reply))

pub returns : goal.returns
returns c =
    let a = c.args in
    netlist-put a.inputs a.gates.now a.outputs.now (omega (arith, c.requires.0, c.requires.2, c.requires.3))
    c.put_bytes-a.ensures
    c.put_gates-b.ensures
    c.put_nets.ensures
