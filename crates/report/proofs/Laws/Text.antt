-- Laws of the texts: lines one after the other, that each has room, and which text is whose. Assumes nothing.
use Prim.Native.Nat.{ℕ, zero, suc, ◌+◌, ◌*◌, ◌/◌, ◌≤◌, ◌<◌}
use mathlib.Core.Path.{◌≡◌, refl, ◌∙◌, ap}
use mathlib.Core.List.{List, [], ◌∷◌, ◌++◌, map}
use mathlib.Core.Logic.{⊎_elim}
use mathlib.Core.Bool.{true, false}
use mathlib.Core.Option.{none, some}
use native.Mathlib.Nat.{div-add-mod}
use native.Mathlib.Omega.{arith}
use borrow.Author.Tests.{lt-ltb, le-ltb, ne_eqb, ltb-true, ltb-false}
use lib.Dec.{ltb}
use lib.ListN.{length, get_or, take, drop, length-append, get_or-eq_default}
use lib.Seq.{drop-drop, get_or-take, get_or-drop}
use Rattle.std.specs.Simd.{first_chunks}
use Rattle.records.specs.Bytes.{flat, up_from, tabulate, byte_pair, word, field, nth}
use Rattle.records.specs.Job.{Job, job_of, nets_of}
use Rattle.records.specs.Sheet.{Patch, quad, sheet_tags, notes_tag, patch_of}
use Rattle.records.specs.Refusal.{job_refusal}
use Rattle.records.specs.Service.{number_of, refusal_text}
use Rattle.records.specs.declared.refusal.Refusal.{Refusal}
use Rattle.records.specs.Claims.{Below}
use Rattle.records.proofs.Laws.Reply.{refusal-digit}
use Rattle.records.proofs.Laws.Shape.{length-nets_of}
use Rattle.records.proofs.Laws.Sheet.{word_lt, net-at}
use Rattle.engine.specs.Rectify.{vector_loop}
use Rattle.engine.specs.Support.{sound, candidate_nets, chosen}
use Rattle.engine.specs.Verdict.{blind_reading, ruling, four_bytes, judge_sheet, patch_sheet, choose_sheet}
use Rattle.engine.proofs.Laws.Choice.{true-or-false}
use Rattle.engine.proofs.Laws.Verdict.{ruling-unfixable, ruling-patch, ruling-blind, judged-unfixable, chosen-patch, chosen-blind}
use Rattle.engine.proofs.Replies.{patch-read, quad-four_bytes}
use Rattle.report.specs.Text.{patch_word, support_word, table_word, vectors_word, notes_word, unfixable_word, blind_word, refused_word, number, numbers, line, patch_text, value_text, ruling_text, refused_text, input_limit, rectify_text, longest_text}
use Rattle.report.specs.Inner.{PatchSheet, patch_sheet_text, choice_text, pair}
use Rattle.report.proofs.Laws.Line.{digits-small, length-behind, length-number-line, length-nets-line, length-bytes-line}
use Rattle.report.proofs.Laws.Sheet.{below_field, field-body, value-fields}

-- ---- numbers of a sheet

below-nets : (s : List ℕ) → Below 256 s → Below 65536 (nets_of s)
below-nets s b i =
    ⊎_elim
    (λ l. rw (net-at s i (ltb-true i (length s / 2) l)) (word_lt s (2 * i) (b (2 * i)) (b (2 * i + 1))))
    (λ m.
    let n = ltb-false i (length s / 2) m in
    let g : length (nets_of s) ≤ i = omega (arith, length-nets_of s) in
    rw (get_or-eq_default (nets_of s) 0 g) (omega arith))
    (true-or-false (ltb i (length s / 2)))

pub quad-lt : (s : List ℕ) → Below 256 s → quad s < 4294967296
unfolding quad
quad-lt s b = omega (arith, word_lt s 0 (b 0) (b 1), word_lt s 2 (b 2) (b 3))

pub word-quad-lt : (s : List ℕ) → Below 256 s → word s 0 < 4294967296
word-quad-lt s b = omega (arith, word_lt s 0 (b 0) (b 1))

-- the pairs of bytes from net a on are the nets from there on
pair-at : (s : List ℕ) (k : ℕ) → pair (take 2 (drop k s)) ≡ word s k
unfolding word
pair-at s k =
    let z : k + 0 ≡ k = omega arith in
    rw (get_or-take 2 (drop k s) 0 0 (omega arith), get_or-take 2 (drop k s) 1 0 (omega arith), get_or-drop k s 0 0, get_or-drop k s 1 0, z)
    refl

pairs-from : (s : List ℕ) (k a : ℕ) → map pair (first_chunks 2 k (drop (2 * a) s)) ≡ map (λ (i : ℕ). word s (2 * i)) (up_from a k)
unfolding up_from
pairs-from s zero a = refl
pairs-from s (suc k) a =
    let e : drop 2 (drop (2 * a) s) ≡ drop (2 * suc a) s = drop-drop 2 (2 * a) s ∙ ap (λ (n : ℕ). drop n s) (omega arith) in
    rw (pair-at s (2 * a), e, pairs-from s k (suc a)) refl

pub pairs-nets : (s : List ℕ) → map pair (first_chunks 2 (length s / 2) s) ≡ nets_of s
unfolding nets_of tabulate
pairs-nets s = pairs-from s (length s / 2) 0

-- ---- texts

pub refused_room : (n : ℕ) → n < 256 → length (line refused_word (n ∷ [])) ≤ longest_text
refused_room n l = omega (arith, length-number-line refused_word n (omega arith))

-- the line of a refusal is what it prints as, and a line feed
pub refused-printed : (e : Refusal) → refused_text (number_of e) ≡ refusal_text e ++ (10 ∷ [])
unfolding refused_text refusal_text line numbers number flat
refused-printed e = rw (digits-small (number_of e) (refusal-digit e)) refl

module _ (w : List ℕ) (x : ℕ) (vs : List ℕ) where
  pub length-value_text : length (value_text w x vs) ≡ length (line w (x ∷ [])) + length (line vectors_word vs)
  unfolding value_text
  length-value_text = length-append (line w (x ∷ [])) (line vectors_word vs)

  pub value-lines : {t₀ t₁ t₂ : List ℕ} → t₀ ≡ [] → t₁ ≡ t₀ ++ line w (x ∷ []) → t₂ ≡ t₁ ++ line vectors_word vs
      → t₂ ≡ value_text w x vs
  unfolding value_text
  value-lines z h i =
      i ∙ ap (λ (ys : List ℕ). ys ++ line vectors_word vs) (h ∙ ap (λ (ys : List ℕ). ys ++ line w (x ∷ [])) z)

pub value_room : (w : List ℕ) {x y : ℕ} {vs us : List ℕ} → length w ≤ 9 → y < 4294967296 → length us ≤ 16 → Below 256 us
    → x ≡ y → vs ≡ us → length (value_text w x vs) ≤ longest_text
value_room w {x} {y} {vs} {us} h l n b e f =
    rw (e, f)
    (omega (arith, length-value_text w y us, length-number-line w y l, length-bytes-line vectors_word us b))

module _ (c : ℕ) (is es vs ns : List ℕ) where
  abbrev cost_line : List ℕ
  cost_line = line patch_word (c ∷ [])

  abbrev nets_line : List ℕ
  nets_line = line support_word is

  abbrev table_line : List ℕ
  table_line = line table_word es

  abbrev vectors_line : List ℕ
  vectors_line = line vectors_word vs

  abbrev notes_line : List ℕ
  notes_line = line notes_word ns

  abbrev pub PatchLengths : Type 0
  PatchLengths =
      length (patch_text c is es vs ns)
      ≡ length cost_line + length nets_line + length table_line + length vectors_line + length notes_line

  pub length-patch_text : PatchLengths
  unfolding patch_text
  length-patch_text = simp length-append refl

  -- the five lines behind an empty text: each has room, and together they are the patch's
  module _ {t₀ : List ℕ} (z : t₀ ≡ []) (room : length (patch_text c is es vs ns) ≤ longest_text) where
    pub cost-room : length t₀ + length cost_line ≤ longest_text
    cost-room = omega (arith, length-patch_text, ap length z)

    module _ {t₁ : List ℕ} (e₁ : t₁ ≡ t₀ ++ cost_line) where
      length₁ : length t₁ ≡ length cost_line
      length₁ = omega (arith, ap length z, length-behind t₀ cost_line e₁)

      pub nets-room : length t₁ + length nets_line ≤ longest_text
      nets-room = omega (arith, length-patch_text, length₁)

      module _ {t₂ : List ℕ} (e₂ : t₂ ≡ t₁ ++ nets_line) where
        length₂ : length t₂ ≡ length cost_line + length nets_line
        length₂ = omega (arith, length₁, length-behind t₁ nets_line e₂)

        pub table-room : length t₂ + length table_line ≤ longest_text
        table-room = omega (arith, length-patch_text, length₂)

        module _ {t₃ : List ℕ} (e₃ : t₃ ≡ t₂ ++ table_line) where
          length₃ : length t₃ ≡ length cost_line + length nets_line + length table_line
          length₃ = omega (arith, length₂, length-behind t₂ table_line e₃)

          pub vectors-room : length t₃ + length vectors_line ≤ longest_text
          vectors-room = omega (arith, length-patch_text, length₃)

          module _ {t₄ : List ℕ} (e₄ : t₄ ≡ t₃ ++ vectors_line) where
            pub notes-room : length t₄ + length notes_line ≤ longest_text
            notes-room = omega (arith, length-patch_text, length₃, length-behind t₃ vectors_line e₄)

            pub patch-lines : {t₅ : List ℕ} → t₅ ≡ t₄ ++ notes_line → t₅ ≡ patch_text c is es vs ns
            unfolding patch_text
            patch-lines e₅ =
                let next = λ (xs : List ℕ) (ys : List ℕ). ys ++ xs in
                e₅
                ∙ ap (next notes_line)
                (e₄
                ∙ ap (next vectors_line) (e₃ ∙ ap (next table_line) (e₂ ∙ ap (next nets_line) (e₁ ∙ ap (next cost_line) z))))

-- the lines of the parts of a patch's sheet, beside the vector list
module _ (s vs : List ℕ) where
  pub patch-same : {c : ℕ} {is es ns : List ℕ} → c ≡ quad (nth 2 s) → is ≡ nth 0 s → es ≡ nth 1 s → ns ≡ nth 3 s
      → patch_text c (nets_of is) es vs ns ≡ patch_sheet_text s vs
  unfolding patch_sheet_text patch_of
  patch-same p q o n = rw (p, q, o, n)

  pub patch-room : PatchSheet s → Below 256 s → length vs ≤ 16 → Below 256 vs → length (patch_sheet_text s vs) ≤ longest_text
  unfolding patch_sheet_text patch_of
  patch-room p b h v =
      let bytes : (k : ℕ) → k < 4 → Below 256 (nth k s) = λ k l. below_field (sheet_tags ++ (notes_tag ∷ [])) s p.fields k l b in
      omega (
        arith,
        p.support,
        p.table,
        p.notes,
        length-patch_text (quad (nth 2 s)) (nets_of (nth 0 s)) (nth 1 s) vs (nth 3 s),
        length-nets_of (nth 0 s),
        length-number-line patch_word (quad (nth 2 s)) (quad-lt (nth 2 s) (bytes 2 (omega arith))),
        length-nets-line support_word (nets_of (nth 0 s)) (below-nets (nth 0 s) (bytes 0 (omega arith))),
        length-bytes-line table_word (nth 1 s) (bytes 1 (omega arith)),
        length-bytes-line vectors_word vs v,
        length-bytes-line notes_word (nth 3 s) (bytes 3 (omega arith)),
      )

  -- which text, by the first tag
  pub choice-patched : get_or s 0 0 ≡ 16 → choice_text s vs ≡ patch_sheet_text s vs
  unfolding choice_text
  choice-patched e = rw e

  pub choice-blinded : (get_or s 0 0 ≡ 16 → ⊥) → choice_text s vs ≡ value_text blind_word (word (nth 0 s) 0) vs
  unfolding choice_text
  choice-blinded n = rw (ne_eqb (get_or s 0 0) 16 n)

-- ---- the texts of judge's and choose's sheets are the verdict's

word-byte_pair : (x : ℕ) → word (byte_pair x) 0 ≡ x
unfolding word byte_pair
word-byte_pair x = div-add-mod x 256

module _ (j : Job) where
  abbrev vectors : List ℕ
  vectors = (vector_loop j).vectors

  pub judge-text : {x : ℕ} → (vector_loop j).stuck ≡ some x
      → value_text unfixable_word (quad (nth 0 (judge_sheet j))) (nth 1 (judge_sheet j)) ≡ ruling_text j (ruling j)
  unfolding ruling_text
  judge-text {x} e =
      let f = value-fields 20 (four_bytes x) vectors in
      rw (ruling-unfixable j x e, (judged-unfixable j e).1, f.0, f.1, quad-four_bytes x) refl

  patch-text : (vector_loop j).stuck ≡ none → sound j (candidate_nets j) ≡ true
      → choice_text (choose_sheet j) vectors ≡ ruling_text j (ruling j)
  unfolding ruling_text patch_sheet_text patch_sheet field
  patch-text e t =
      rw (ruling-patch j e t, (chosen-patch j t).1)
      (choice-patched (patch_sheet j (chosen j)) vectors refl
      ∙ ap (λ (p : Patch). patch_text p.cost p.support p.table vectors p.notes) (patch-read j (chosen j)))

  blind-text : (vector_loop j).stuck ≡ none → sound j (candidate_nets j) ≡ false
      → choice_text (choose_sheet j) vectors ≡ ruling_text j (ruling j)
  unfolding ruling_text field
  blind-text e t =
      let r = blind_reading j in
      rw (ruling-blind j e t, (chosen-blind j t).1)
      (choice-blinded (field 21 (byte_pair r)) vectors (λ z. omega arith)
      ∙ rw (field-body 21 (byte_pair r), word-byte_pair r))

  pub choose-text : (vector_loop j).stuck ≡ none → choice_text (choose_sheet j) vectors ≡ ruling_text j (ruling j)
  choose-text e = ⊎_elim (λ t. patch-text e t) (λ t. blind-text e t) (true-or-false (sound j (candidate_nets j)))

-- ---- what is printed for job bytes

module _ (s : List ℕ) where
  pub rectify-long : input_limit < length s → rectify_text s ≡ refused_text 2
  unfolding rectify_text
  rectify-long h = rw (lt-ltb input_limit (length s) h)

  pub rectify-accepted : length s ≤ input_limit → job_refusal s ≡ 0 → rectify_text s ≡ ruling_text (job_of s) (ruling (job_of s))
  unfolding rectify_text
  rectify-accepted h e = rw (le-ltb input_limit (length s) h, e)

  pub rectify-refused : length s ≤ input_limit → (job_refusal s ≡ 0 → ⊥) → rectify_text s ≡ refused_text (job_refusal s)
  unfolding rectify_text
  rectify-refused h n = rw (le-ltb input_limit (length s) h, ne_eqb (job_refusal s) 0 n)
