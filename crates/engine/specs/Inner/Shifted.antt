-- Gates and nets where they stand in the miter (src/miter.rt). No public contract cites this file. Assumes nothing.
--
--   shifted_net n s i    golden net i in the miter: an input keeps its number, a gate's net stands s further on
--   shifted n s g        golden gate g there: its used operands shifted
--   GateFits g s         gate g, its used operands shifted by s, fits into one number
--   GatesFit ..          so do the gates gs, which drive the nets from base on
use Rattle.std.specs.Prelude.{ℕ, ◌+◌, ◌≤◌, ◌<◌, List, ◌++◌, map, cond, ltb, length, get_or}
use Rattle.records.specs.Gate.{Gate, operands, unused}
use Rattle.records.specs.Service.{struct_slots, no_gate}
use Rattle.records.specs.declared.gate.Gate.{Gate as GateStruct}

unfoldable pub shifted_net : ℕ → ℕ → ℕ → ℕ
shifted_net n s i = cond (ltb i n) i (i + s)

unfoldable pub shifted : ℕ → ℕ → Gate → Gate
shifted n s g = record { kind = g.kind; count = g.count; slots = map (shifted_net n s) (operands g) ++ unused g }

pub record GateFits (g : GateStruct) (s : ℕ) : Type 0 where
  pub kind : g.kind < 10
  pub count : g.count ≤ 4
  pub slots : (i : ℕ) → get_or (struct_slots g) i 0 + s < 1024

pub record GatesFit (gs : List GateStruct) (s base : ℕ) : Type 0 where
  pub nets : base + length gs ≤ 1024
  pub gates : (i : ℕ) → i < length gs → GateFits (get_or gs i no_gate) s
