-- `engine::netlist::put_codes` meets its contract: at each turn the bytes of the gates before it stand. Assumes nothing.
use Prim.Native.Nat.{◌*◌}
use mathlib.Core.Path.{◌≡◌}
use mathlib.Core.List.{map}
use lib.ListN.{take}
use Rattle.records.specs.Bytes.{flat}
use Rattle.records.specs.Job.{gate_bytes}
use Rattle.engine.specs.Inner.Packed.{gate_in}
use Rattle.engine.proofs.netlist.put_codes.Given as goal

abbrev pub invariant-loop-i : goal.invariant-loop-i
invariant-loop-i l = take (10 * l.i) l.bytes ≡ flat gate_bytes (take l.i (map gate_in l.gates))
