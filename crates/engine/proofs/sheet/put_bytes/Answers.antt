-- `engine::sheet::put_bytes` meets its contract. Assumes nothing.
use mathlib.Core.Path.{refl}
use native.Mathlib.Omega.{arith}
use Rattle.engine.proofs.Laws.Sheet.{field-bytes}
use Rattle.engine.proofs.sheet.put_bytes.Goals as goal

pub returns : goal.returns
returns c =
    let a = c.args in
    field-bytes a.reply.now a.at a.tag a.bytes.now refl (omega arith) (omega arith) c.put_field.ensures
