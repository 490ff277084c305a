-- `engine::sheet::put_pairs` meets its contract: at each turn the pairs of the numbers before it stand. Assumes nothing.
use Prim.Native.Nat.{◌*◌}
use mathlib.Core.Path.{◌≡◌}
use lib.ListN.{take}
use Rattle.records.specs.Bytes.{flat, byte_pair}
use Rattle.engine.proofs.sheet.put_pairs.Given as goal

abbrev pub invariant-loop-i : goal.invariant-loop-i
invariant-loop-i l = take (2 * l.i) l.bytes ≡ flat byte_pair (take l.i l.numbers)
