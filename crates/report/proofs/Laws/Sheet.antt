-- Laws of whole sheets: where the fields stand, which sheet it is by its first tag, and that the sheets of an accepted job are
-- whole. Assumes nothing.
use Prim.Native.Nat.{ℕ, suc, ◌+◌, ◌-◌, ◌^◌, ◌≤◌, ◌<◌}
use mathlib.Core.Path.{◌≡◌, refl, sym, ◌∙◌, ap}
use mathlib.Core.List.{List, [], ◌∷◌, ◌++◌, append-nil}
use mathlib.Core.Bool.{true}
use mathlib.Core.Option.{none, some}
use mathlib.Core.Logic.{⊎_elim}
use native.Mathlib.Omega.{arith}
use borrow.Author.Tests.{eqb-true, leb-true}
use lib.Dec.{leb, eqb}
use lib.ListN.{length, get_or, take, drop}
use lib.Pow.{pow_mono}
use Rattle.records.specs.Bytes.{up_from, byte_pair, word, field, body_length, fits, whole, nth}
use Rattle.records.specs.Job.{Job}
use Rattle.records.specs.Sheet.{sheet_tags, notes_tag}
use Rattle.records.specs.Claims.{Below, PartsGood}
use Rattle.records.specs.Inner.{start_of}
use Rattle.records.proofs.Laws.Bytes.{and_left, row_at}
use Rattle.records.proofs.Laws.Field.{skip, position_of, skip-drop, body_length-drop, start_of-position, position_of-suc, start_of-suc, whole-end, nth-slice}
use Rattle.records.proofs.Laws.RoundTrip.{joined, whole-joined, body-field, below-take, below-drop}
use Rattle.records.proofs.Laws.Job.{length-byte_pair, length-outputs}
use Rattle.engine.specs.Rectify.{vector_loop}
use Rattle.engine.specs.Support.{cost, sound, candidate_nets, chosen}
use Rattle.engine.specs.Verdict.{blind_reading, four_bytes, judge_sheet, patch_sheet, choose_sheet}
use Rattle.engine.proofs.Laws.Choice.{none_or_some, true-or-false}
use Rattle.engine.proofs.Laws.Support.{length-table_of}
use Rattle.engine.proofs.Laws.Sheet.{length-four_bytes, whole-field, nth-field}
use Rattle.engine.proofs.Laws.Verdict.{judged-unfixable, judged-fixable, chosen-patch, chosen-blind, length-notes_of, vectors-le, chosen-le}
use Rattle.engine.proofs.Replies.{patch-whole, patch-nth, patch-notes}
use Rattle.report.specs.Inner.{PatchSheet, BlindSheet, UnfixableSheet, ChoiceSheet, is_patch, is_blind}

-- ---- the fields of a whole sheet

module _ (ts s : List ℕ) (w : whole ts s ≡ true) (k : ℕ) (h : k < length ts) where
  pub field-length : (a : ℕ) → a ≡ start_of k s → word s (a - 2) ≡ length (nth k s)
  field-length a e =
      let at = position_of k s in
      let p : a - 2 ≡ at + 1 = omega (arith, start_of-position k s) in
      let n : word s (at + 1) ≡ body_length (skip k s) = sym (body_length-drop s at) ∙ ap body_length (sym (skip-drop k s)) in
      rw p (n ∙ omega (arith, start_of-suc ts s w k h, start_of-position k s, start_of-position (suc k) s, position_of-suc k s))

  pub field-part : (a b : ℕ) → a ≡ start_of k s → b ≡ a + length (nth k s) → take (b - a) (drop a s) ≡ nth k s
  field-part a b e f =
      let n : b - a ≡ length (nth k s) = omega arith in
      rw (n, e) (nth-slice ts s w k h)

  pub below_field : Below 256 s → Below 256 (nth k s)
  below_field b =
      let e = nth-slice ts s w k h in
      rw e at (below-take 256 (drop (start_of k s) s) (length (nth k s)) (below-drop 256 s (start_of k s) b))

start-zero : (s : List ℕ) → start_of 0 s ≡ 3
unfolding start_of
start-zero s = refl

-- the first field's bytes
first_part : (ts s : List ℕ) → whole ts s ≡ true → 0 < length ts → (size : ℕ) → length (nth 0 s) ≡ size
    → take size (drop 3 s) ≡ nth 0 s
first_part ts s w h size e =
    let n : 3 + size - 3 ≡ size = omega arith in
    rw n at (field-part ts s w 0 h 3 (3 + size) (sym (start-zero s)) (omega arith))

-- the fields of a whole sheet end where it ends
fields-end : (ts s : List ℕ) → whole ts s ≡ true → start_of (length ts) s ≡ length s + 3
fields-end ts s w = omega (arith, whole-end ts s w, start_of-position (length ts) s)

-- ---- a patch's sheet

-- the tags of its four fields
abbrev patch_tags : List ℕ
patch_tags = sheet_tags ++ (notes_tag ∷ [])

-- where the first two fields end, and where the bytes of all four stand
pub record PatchSpans (s : List ℕ) (first second : ℕ) : Type 0 where
  pub first-end : first ≡ 3 + length (nth 0 s)
  pub second-end : second ≡ first + 3 + length (nth 1 s)
  pub end : length s ≡ second + 10 + length (nth 3 s)
  pub nets : take (first + 3 - 3 - 3) (drop 3 s) ≡ nth 0 s
  pub table : take (second + 3 - 3 - (first + 3)) (drop (first + 3) s) ≡ nth 1 s
  pub cost : take (second + 3 + 7 - 3 - (second + 3)) (drop (second + 3) s) ≡ nth 2 s
  pub notes : take (length s - (second + 3 + 7)) (drop (second + 3 + 7) s) ≡ nth 3 s

module _ (s : List ℕ) (p : PatchSheet s) where
  patch-start : (k : ℕ) → k < 4 → start_of (suc k) s ≡ start_of k s + length (nth k s) + 3
  patch-start k h = start_of-suc patch_tags s p.fields k h

  patch-part : (k : ℕ) → k < 4 → (a b : ℕ) → a ≡ start_of k s → b ≡ a + length (nth k s) → take (b - a) (drop a s) ≡ nth k s
  patch-part k h a b e f = field-part patch_tags s p.fields k h a b e f

  pub patch-first : word s 1 ≡ length (nth 0 s)
  patch-first = field-length patch_tags s p.fields 0 (omega arith) 3 (sym (start-zero s))

  pub patch-length : length s ≡ length (nth 0 s) + length (nth 1 s) + length (nth 3 s) + 16
  patch-length =
      omega (
        arith,
        p.cost,
        start-zero s,
        patch-start 0 (omega arith),
        patch-start 1 (omega arith),
        patch-start 2 (omega arith),
        patch-start 3 (omega arith),
        fields-end patch_tags s p.fields,
      )

  module _ (first : ℕ) (e : first ≡ 3 + word s 1) where
    table-start : first + 3 ≡ start_of 1 s
    table-start = omega (arith, patch-first, start-zero s, patch-start 0 (omega arith))

    pub patch-second : word s (first + 3 - 2) ≡ length (nth 1 s)
    patch-second = field-length patch_tags s p.fields 1 (omega arith) (first + 3) table-start

    module _ (second : ℕ) (f : second ≡ first + 3 + word s (first + 3 - 2)) where
      cost-start : second + 3 ≡ start_of 2 s
      cost-start = omega (arith, table-start, patch-second, patch-start 1 (omega arith))

      notes-start : second + 3 + 7 ≡ start_of 3 s
      notes-start = omega (arith, cost-start, p.cost, patch-start 2 (omega arith))

      pub patch-spans : PatchSpans s first second
      patch-spans =
          let l : first ≡ 3 + length (nth 0 s) = omega (arith, patch-first) in
          let m : second ≡ first + 3 + length (nth 1 s) = omega (arith, patch-second) in
          let n : length s ≡ second + 10 + length (nth 3 s) = omega (arith, patch-length) in
          record {
            first-end = l;
            second-end = m;
            end = n;
            nets = patch-part 0 (omega arith) 3 (first + 3 - 3) (sym (start-zero s)) (omega arith);
            table = patch-part 1 (omega arith) (first + 3) (second + 3 - 3) table-start (omega arith);
            cost = patch-part 2 (omega arith) (second + 3) (second + 3 + 7 - 3) cost-start (omega (arith, p.cost));
            notes = patch-part 3 (omega arith) (second + 3 + 7) (length s) notes-start (omega arith);
          }

-- ---- the sheet of an unfixable input

-- the tags of its two fields
abbrev unfixable_tags : List ℕ
unfixable_tags = 20 ∷ 19 ∷ []

module _ (s : List ℕ) (u : UnfixableSheet s) where
  unfixable-start : (k : ℕ) → k < 2 → start_of (suc k) s ≡ start_of k s + length (nth k s) + 3
  unfixable-start k h = start_of-suc unfixable_tags s u.fields k h

  pub unfixable-length : length s ≡ length (nth 1 s) + 10
  unfixable-length =
      omega (
        arith,
        u.value,
        start-zero s,
        unfixable-start 0 (omega arith),
        unfixable-start 1 (omega arith),
        fields-end unfixable_tags s u.fields,
      )

  pub unfixable-input : take 4 (drop 3 s) ≡ nth 0 s
  unfixable-input = first_part unfixable_tags s u.fields (omega arith) 4 u.value

  pub unfixable-vectors : take (length s - 10) (drop 10 s) ≡ nth 1 s
  unfixable-vectors =
      field-part unfixable_tags s u.fields 1 (omega arith) 10 (length s)
      (omega (arith, u.value, start-zero s, unfixable-start 0 (omega arith)))
      (omega (arith, unfixable-length))

  pub unfixable-below : Below 256 s → (k : ℕ) → k < 2 → Below 256 (nth k s)
  unfixable-below b k h = below_field unfixable_tags s u.fields k h b

-- ---- the sheet of a blind reading

module _ (s : List ℕ) (u : BlindSheet s) where
  pub blind-length : length s ≡ 5
  blind-length =
      omega (
        arith,
        u.value,
        start-zero s,
        start_of-suc (21 ∷ []) s u.fields 0 (omega arith),
        fields-end (21 ∷ []) s u.fields,
      )

  pub blind-value : take 2 (drop 3 s) ≡ nth 0 s
  blind-value = first_part (21 ∷ []) s u.fields (omega arith) 2 u.value

  pub blind-below : Below 256 s → Below 256 (nth 0 s)
  blind-below b = below_field (21 ∷ []) s u.fields 0 (omega arith) b

-- ---- which sheet from choose it is

whole-front : (t : ℕ) (ts s : List ℕ) → whole (t ∷ ts) s ≡ true → (3 ≤ length s) × (get_or s 0 0 ≡ t)
unfolding whole fits
whole-front t ts s w =
    let f = and_left _ _ w in
    let u = row_at (leb 3 (length s)) (eqb (get_or s 0 0) t ∷ leb (3 + body_length s) (length s) ∷ []) f in
    (leb-true 3 (length s) (u 0), eqb-true (get_or s 0 0) t (u 1))

module _ (s : List ℕ) where
  patch-front : PatchSheet s → (3 ≤ length s) × (get_or s 0 0 ≡ 16)
  patch-front p = whole-front 16 (17 ∷ 18 ∷ notes_tag ∷ []) s p.fields

  blind-front : BlindSheet s → (3 ≤ length s) × (get_or s 0 0 ≡ 21)
  blind-front u = whole-front 21 [] s u.fields

  pub choice-some : ChoiceSheet s → 0 < length s
  choice-some (is_patch p) = omega (arith, (patch-front p).0)
  choice-some (is_blind u) = omega (arith, (blind-front u).0)

  pub choice-patch : ChoiceSheet s → get_or s 0 0 ≡ 16 → PatchSheet s
  choice-patch (is_patch p) e = p
  choice-patch (is_blind u) e = absurd (omega (arith, (blind-front u).1))

  pub choice-blind : ChoiceSheet s → (get_or s 0 0 ≡ 16 → ⊥) → BlindSheet s
  choice-blind (is_patch p) n = absurd (n (patch-front p).1)
  choice-blind (is_blind u) n = u

-- ---- the sheets of an accepted job are whole

field-whole : (t : ℕ) (xs : List ℕ) → whole (t ∷ []) (field t xs) ≡ true
unfolding joined up_from
field-whole t xs = rw append-nil at (whole-joined t (xs ∷ []))

pub field-body : (t : ℕ) (xs : List ℕ) → nth 0 (field t xs) ≡ xs
unfolding nth
field-body t xs = rw append-nil at (body-field t xs [])

-- a field and the vector list
pub value-fields : (t : ℕ) (xs vs : List ℕ) → (nth 0 (field t xs ++ field 19 vs) ≡ xs) × (nth 1 (field t xs ++ field 19 vs) ≡ vs)
unfolding nth
value-fields t xs vs = (body-field t xs (field 19 vs), nth-field (t ∷ []) (field t xs) 19 vs (field-whole t xs))

module _ (j : Job) (g : PartsGood j) where
  pub unfixable-sheet : {x : ℕ} → (vector_loop j).stuck ≡ some x → UnfixableSheet (judge_sheet j)
  unfixable-sheet {x} e =
      let vs = (vector_loop j).vectors in
      let f = value-fields 20 (four_bytes x) vs in
      rw (judged-unfixable j e).1
      (record {
        fields = whole-field (20 ∷ []) (field 20 (four_bytes x)) 19 vs (field-whole 20 (four_bytes x));
        value = rw f.0 (length-four_bytes x);
        vectors = rw f.1 (vectors-le j g);
      })

  patch-sheet : sound j (candidate_nets j) ≡ true → PatchSheet (patch_sheet j (chosen j))
  patch-sheet t =
      let is = chosen j in
      let at = patch-nth j is in
      let l = chosen-le j g t in
      let m : 2 ^ length is ≤ 1024 = pow_mono {j = 10} l in
      record {
        fields = patch-whole j is;
        support = rw (at 0 (omega arith)) (omega (arith, length-outputs is));
        table = rw (at 1 (omega arith)) (omega (arith, length-table_of j is));
        cost = rw (at 2 (omega arith)) (length-four_bytes (cost j is));
        notes = rw (patch-notes j is) (omega (arith, length-notes_of j is));
      }

  blind-sheet : BlindSheet (field 21 (byte_pair (blind_reading j)))
  blind-sheet =
      let xs = byte_pair (blind_reading j) in
      record { fields = field-whole 21 xs; value = rw (field-body 21 xs) (length-byte_pair (blind_reading j)) }

  pub choice-sheet : ChoiceSheet (choose_sheet j)
  choice-sheet =
      ⊎_elim
      (λ t. rw (chosen-patch j t).1 (is_patch (patch-sheet t)))
      (λ t. rw (chosen-blind j t).1 (is_blind blind-sheet))
      (true-or-false (sound j (candidate_nets j)))

-- ---- the first tag of judge's sheet, and the vector list behind it

module _ (j : Job) where
  unfixable-front : {x : ℕ} → (vector_loop j).stuck ≡ some x → (3 ≤ length (judge_sheet j)) × (get_or (judge_sheet j) 0 0 ≡ 20)
  unfolding field byte_pair
  unfixable-front e = rw (judged-unfixable j e).1 (omega arith, refl)

  fixable-front : (vector_loop j).stuck ≡ none → (3 ≤ length (judge_sheet j)) × (get_or (judge_sheet j) 0 0 ≡ 19)
  unfolding field byte_pair
  fixable-front e = rw (judged-fixable j e).1 (omega arith, refl)

  pub judge-some : 3 ≤ length (judge_sheet j)
  judge-some =
      ⊎_elim (λ (e : (vector_loop j).stuck ≡ none). (fixable-front e).0) (λ r. (unfixable-front r.1).0)
      (none_or_some (vector_loop j).stuck)

  pub tag-unfixable : get_or (judge_sheet j) 0 0 ≡ 20 → (x : ℕ) × ((vector_loop j).stuck ≡ some x)
  tag-unfixable t =
      ⊎_elim (λ (e : (vector_loop j).stuck ≡ none). absurd (omega (arith, (fixable-front e).1))) (λ r. r)
      (none_or_some (vector_loop j).stuck)

  pub tag-fixable : (get_or (judge_sheet j) 0 0 ≡ 20 → ⊥) → (vector_loop j).stuck ≡ none
  tag-fixable n = ⊎_elim (λ e. e) (λ r. absurd (n (unfixable-front r.1).1)) (none_or_some (vector_loop j).stuck)

  pub vectors-behind : (vector_loop j).stuck ≡ none → drop 3 (judge_sheet j) ≡ (vector_loop j).vectors
  unfolding field byte_pair
  vectors-behind e = rw (judged-fixable j e).1 refl
