-- `records::put::put_word` meets its contract: the two bytes are those of the number. Assumes nothing.
use Prim.Native.Nat.{◌+◌, ◌-◌}
use mathlib.Core.Path.{◌≡◌, ◌∙◌}
use native.Mathlib.Omega.{arith}
use Rattle.records.specs.Bytes.{byte_pair}
use Rattle.records.proofs.Laws.Job.{high_byte}
use Rattle.records.proofs.Laws.Put.{mid-placed}
use Rattle.records.proofs.put.put_word.Goals as goal

pub returns : goal.returns
unfolding byte_pair
returns c =
    let x = c.args.x in
    let e : c.args.at + 2 - c.args.at ≡ 2 = omega arith in
    mid-placed _ _ _ (byte_pair x)
    (c.copy_from_slice.ensures.after ∙ c.to_be_bytes.ensures ∙ rw (high_byte x (omega arith)))
    e
