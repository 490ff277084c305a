-- `records::put::put_head` meets its contract: the tag, and the length behind it. Assumes nothing.
use Prim.Native.Nat.{◌+◌}
use mathlib.Core.Path.{refl}
use mathlib.Core.List.{[], ◌∷◌}
use native.Mathlib.Omega.{arith}
use Rattle.records.specs.Bytes.{byte_pair}
use Rattle.records.proofs.Laws.Job.{sets-placed, placed-then}
use Rattle.records.proofs.put.put_head.Goals as goal

pub returns : goal.returns
unfolding byte_pair
returns c = (
  refl,
  placed-then c.args.buf.now c.args.at (c.args.tag ∷ []) (byte_pair c.args.len) (c.args.at + 1) refl (omega arith)
      (sets-placed c.args.buf.now c.args.at (c.args.tag ∷ []) (omega arith)) c.put_word.ensures,
)
