-- The bytes of a netlist without targets (src/netlist.rt). No public contract cites this file. Assumes nothing.
--
--   netlist_bytes n gs os        fields 1 (n and 0), 2 and 3 of a netlist with n inputs, the gates gs and the outputs os
use Rattle.std.specs.Prelude.{ℕ, List, [], ◌∷◌, ◌++◌}
use Rattle.records.specs.Bytes.{flat, byte_pair, field}
use Rattle.records.specs.Gate.{Gate}
use Rattle.records.specs.Job.{gate_bytes}

-- ---- bytes

unfoldable pub netlist_bytes : ℕ → List Gate → List ℕ → List ℕ
netlist_bytes n gs os = field 1 (n ∷ 0 ∷ []) ++ field 2 (flat gate_bytes gs) ++ field 3 (flat byte_pair os)
