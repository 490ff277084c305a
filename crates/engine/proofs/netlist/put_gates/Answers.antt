-- `engine::netlist::put_gates` meets its contract. Assumes nothing.
use mathlib.Core.List.{map}
use Rattle.records.specs.Bytes.{flat}
use Rattle.records.specs.Job.{gate_bytes}
use Rattle.engine.specs.Inner.Packed.{gate_in}
use Rattle.engine.proofs.Laws.Fitting.{length-gate-bytes}
use Rattle.engine.proofs.Laws.Sheet.{field-front}
use Rattle.engine.proofs.netlist.put_gates.Goals as goal

pub returns : goal.returns
returns c =
    let cs = c.args.gates.now in
    field-front _ _ (flat gate_bytes (map gate_in cs)) c.put_codes.ensures (length-gate-bytes cs) c.put_bytes.ensures
