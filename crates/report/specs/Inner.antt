-- What the private functions that write text require and give. No public contract cites this file. Assumes nothing.
--
--   PatchSheet s           s is the fields of a patch's sheet from choose, of lengths in their ranges
--   BlindSheet s           the same for a blind reading, UnfixableSheet s for an unfixable input's sheet from judge
--   ChoiceSheet s          s is a sheet from choose
--   patch_sheet_text s vs  the lines of the patch sheet s, with the vector list vs
--   choice_text s vs       .. of a sheet from choose, by its first tag
--   pair s                 the two bytes s as the number of a net
use Rattle.std.specs.Prelude.{ℕ, ◌≤◌, ◌≡◌, List, [], ◌∷◌, ◌++◌, true, cond, eqb, length, get_or}
use Rattle.records.specs.Bytes.{word, whole, nth}
use Rattle.records.specs.Sheet.{sheet_tags, notes_tag, patch_of}
use Rattle.report.specs.Text.{patch_text, value_text, blind_word}

-- ---- whole sheets: what they require

pub record PatchSheet (s : List ℕ) : Type 0 where
  pub fields : whole (sheet_tags ++ (notes_tag ∷ [])) s ≡ true
  pub support : length (nth 0 s) ≤ 20
  pub table : length (nth 1 s) ≤ 1024
  pub cost : length (nth 2 s) ≡ 4
  pub notes : length (nth 3 s) ≤ 1024

pub record BlindSheet (s : List ℕ) : Type 0 where
  pub fields : whole (21 ∷ []) s ≡ true
  pub value : length (nth 0 s) ≡ 2

pub record UnfixableSheet (s : List ℕ) : Type 0 where
  pub fields : whole (20 ∷ 19 ∷ []) s ≡ true
  pub value : length (nth 0 s) ≡ 4
  pub vectors : length (nth 1 s) ≤ 16

pub data ChoiceSheet (s : List ℕ) : Type 0 where
  is_patch : PatchSheet s → ChoiceSheet s
  is_blind : BlindSheet s → ChoiceSheet s

-- ---- their texts, beside the vector list vs

unfoldable pub patch_sheet_text : List ℕ → List ℕ → List ℕ
patch_sheet_text s vs =
    let p = patch_of s in
    patch_text p.cost p.support p.table vs p.notes

unfoldable pub choice_text : List ℕ → List ℕ → List ℕ
choice_text s vs = cond (eqb (get_or s 0 0) 16) (patch_sheet_text s vs) (value_text blind_word (word (nth 0 s) 0) vs)

-- ---- nets

abbrev pub pair : List ℕ → ℕ
pair s = word s 0
