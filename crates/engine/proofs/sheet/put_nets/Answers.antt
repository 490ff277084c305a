-- `engine::sheet::put_nets` meets its contract. Assumes nothing.
use Rattle.records.specs.Bytes.{flat, byte_pair}
use Rattle.records.proofs.Laws.Job.{length-outputs}
use Rattle.engine.proofs.Laws.Sheet.{field-front}
use Rattle.engine.proofs.sheet.put_nets.Goals as goal

pub returns : goal.returns
returns c =
    let ns = c.args.nets.now in
    field-front _ _ (flat byte_pair ns) c.put_pairs.ensures (length-outputs ns) c.put_bytes.ensures
