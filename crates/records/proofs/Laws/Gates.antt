-- Laws of the gate structs that stand in bytes: as a loop fills a list d with them, and as one puts their bytes. Assumes nothing.
use Prim.Native.Nat.{ℕ, ◌+◌, ◌*◌, ◌≤◌, ◌<◌}
use mathlib.Core.Path.{◌≡◌, refl, sym, ◌∙◌, ap}
use mathlib.Core.List.{List, [], ◌∷◌, ◌++◌, map, map-append}
use native.Mathlib.Numerals.{add-one}
use native.Mathlib.Omega.{arith}
use lib.ListN.{length, get_or, take, set}
use lib.Seq.{take-suc}
use Rattle.records.specs.Bytes.{flat, placed}
use Rattle.records.specs.Job.{gate_bytes}
use Rattle.records.specs.Service.{gate_from, gates_in}
use Rattle.records.specs.Inner.{no_gate, struct_at, structs_at, gates_bytes}
use Rattle.records.specs.declared.gate.Gate.{Gate}
use Rattle.records.proofs.Laws.Bytes.{length-tabulate, placed-nil, length-placed}
use Rattle.records.proofs.Laws.Job.{flat-snoc, placed-then, filled_none, filled_next, length-struct_bytes, length-gates_bytes}

module _ (d : List Gate) (s : List ℕ) (at : ℕ) where
  abbrev g : ℕ → Gate
  g i = struct_at s (at + 10 * i)

  pub structs-none : placed d 0 (structs_at s at 0) ≡ d
  unfolding structs_at
  structs-none = sym (filled_none d g).1

  pub length-structs : (n : ℕ) → n ≤ length d → length (placed d 0 (structs_at s at n)) ≡ length d
  unfolding structs_at
  length-structs n h = length-placed d 0 (structs_at s at n) (omega (arith, length-tabulate n g))

  pub structs-next : (i : ℕ) → i < length d
      → set (placed d 0 (structs_at s at i)) i (struct_at s (at + 10 * i)) ≡ placed d 0 (structs_at s at (i + 1))
  unfolding structs_at
  structs-next i h =
      (filled_next d g (placed d 0 (structs_at s at i)) i (g i) h refl (length-structs i (omega arith), refl)).1

-- ---- as a loop puts their bytes into a list d, from position at on

module _ (d : List ℕ) (at : ℕ) (gs : List Gate) where
  abbrev with-bytes : ℕ → List ℕ
  with-bytes i = placed d at (gates_bytes i gs)

  pub bytes-none : with-bytes 0 ≡ d
  unfolding gates_bytes gates_in flat
  bytes-none = placed-nil d at

  gates_bytes-snoc : (i : ℕ) → i < length gs → gates_bytes (i + 1) gs ≡ gates_bytes i gs ++ gate_bytes (gate_from (get_or gs i no_gate))
  unfolding gates_bytes gates_in
  gates_bytes-snoc i h =
      ap (λ (k : ℕ). flat gate_bytes (map gate_from (take k gs))) (add-one i)
      ∙ ap (λ (l : List Gate). flat gate_bytes (map gate_from l)) (take-suc gs i no_gate h)
      ∙ ap (flat gate_bytes) (map-append gate_from (take i gs) (get_or gs i no_gate ∷ []))
      ∙ flat-snoc gate_bytes (map gate_from (take i gs)) (gate_from (get_or gs i no_gate))

  pub bytes_next : (i : ℕ) → i < length gs → at + 10 * i + 10 ≤ length d
      → placed (with-bytes i) (at + 10 * i) (gate_bytes (gate_from (get_or gs i no_gate))) ≡ with-bytes (i + 1)
  bytes_next i h r =
      let g : Gate = get_or gs i no_gate in
      placed-then d at (gates_bytes i gs) (gate_bytes (gate_from g)) (at + 10 * i) (omega (arith, length-gates_bytes i gs (omega arith)))
      (omega (arith, length-struct_bytes g)) refl refl
      ∙ ap (placed d at) (sym (gates_bytes-snoc i h))
