-- `engine::sheet::put_unfixable` meets its contract: two fields, one behind the other. Assumes nothing.
use native.Mathlib.Omega.{arith}
use Rattle.records.proofs.Laws.Job.{length-field}
use Rattle.engine.specs.Verdict.{four_bytes}
use Rattle.engine.proofs.Laws.Sheet.{number-end, put_then, length-four_bytes}
use Rattle.engine.proofs.sheet.put_unfixable.Goals as goal

pub put_vectors-requires : goal.put_vectors-requires
put_vectors-requires c = let e = number-end 20 c.args.input c.put_number-a.ensures in omega arith

pub returns : goal.returns
returns c =
    let a = c.args in
    put_then c.put_number-a.ensures
    (omega (arith, length-field 20 (four_bytes a.input), length-four_bytes a.input, length-field 19 a.list.now))
    c.put_vectors.ensures
