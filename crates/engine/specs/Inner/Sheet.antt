-- The bytes of a patch (src/sheet.rt). No public contract cites this file. Assumes nothing.
use Rattle.std.specs.Prelude.{ℕ, ◌+◌, ◌≡◌, List, ◌++◌, length}
use Rattle.records.specs.Bytes.{flat, byte_pair, placed, field}
use Rattle.records.specs.Sheet.{notes_tag}
use Rattle.engine.specs.Verdict.{four_bytes}

unfoldable pub patch_bytes : List ℕ → List ℕ → ℕ → List ℕ → List ℕ
patch_bytes is t c ns = field 16 (flat byte_pair is) ++ field 17 t ++ field 18 (four_bytes c) ++ field notes_tag ns

pub record BytesPut (before : List ℕ) (at : ℕ) (bs after : List ℕ) (r : ℕ) : Type 0 where
  pub bytes : after ≡ placed before at bs
  pub end : r ≡ at + length bs
