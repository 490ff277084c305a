-- Laws of a whole sheet's bytes: its fields, their lengths, and where each field's bytes stand. Assumes nothing.
use Prim.Native.Nat.{ℕ, suc, ◌+◌, ◌-◌, ◌*◌, ◌/◌, ◌%◌, ◌^◌, ◌≤◌, ◌<◌}
use mathlib.Core.Path.{◌≡◌, refl, sym, ◌∙◌, ap}
use mathlib.Core.Logic.{◌⊎◌, inl, inr, ⊎_elim}
use mathlib.Core.Bool.{Bool, true, false, true≢false, ◌&&◌, ◌||◌}
use mathlib.Core.List.{List, [], ◌∷◌, ◌++◌}
use native.Mathlib.Omega.{arith}
use borrow.Author.Tests.{eqb-true, eq-eqb, leb-true, le-leb}
use lib.Dec.{eqb, leb}
use lib.ListN.{length, get_or, take, drop, length-take, take-append-drop}
use lib.Seq.{get_or-take, length-take-le}
use Rattle.records.specs.Bytes.{up_from, word, body_length, body, whole, nth}
use Rattle.records.specs.Job.{nets_of}
use Rattle.records.specs.Sheet.{quad, sheet_tags, notes_tag, notes_whole, sheet_whole}
use Rattle.records.specs.Inner.{start_of, starts_in, lens_in, Walked, spans_of, bare_whole, word_column, sheet_lengths, spanned_from, sheet_shape_of}
use Rattle.records.specs.declared.field.Span.{Span}
use Rattle.std.specs.Prelude.{Some, None}
use Rattle.records.proofs.Laws.Option.{pick-some, pick-none}
use Rattle.records.specs.declared.sheet.SheetSpans.{SheetSpans}
use Rattle.records.proofs.Laws.Bytes.{row, row_at, and_left, and_right, and_both, or_left, or_right, or_cases, false_of, part-append}
use Rattle.records.proofs.Laws.Field.{position_of, skip, skip-drop, body_length-drop, nth-body, start_of-suc, start_of-position, start_of-le, whole-end, nth-slice}
use Rattle.records.proofs.Laws.Front.{nth-front}
use Rattle.records.proofs.Laws.Reading.{nets-in}
use Rattle.records.proofs.Laws.RoundTrip.{below-take}
use Rattle.records.proofs.Laws.Shape.{length-nets_of}
use Rattle.records.proofs.Laws.Sheet.{word_lt, power-short}

-- ---- a whole sheet: its fields are there, as F says, and of these lengths

pub record Sized (F : Type 0) (s : List ℕ) : Type 0 where
  pub fields : F
  pub nets : length (nth 0 s) % 2 ≡ 0
  pub table : length (nth 1 s) ≡ 2 ^ (length (nth 0 s) / 2)
  pub cost : length (nth 2 s) ≡ 4

abbrev pub size_tests : List ℕ → List Bool
size_tests s =
    eqb (length (nth 0 s) % 2) 0
    ∷ eqb (length (nth 1 s)) (2 ^ (length (nth 0 s) / 2))
    ∷ eqb (length (nth 2 s)) 4
    ∷ []

module _ {F : Type 0} (s : List ℕ) (f : Bool) where
  sized-facts : (f ≡ true → F) → row f (size_tests s) ≡ true → Sized F s
  sized-facts g h =
      let t = row_at f (size_tests s) h in
      record {
        fields = g (t 0);
        nets = eqb-true _ _ (t 1);
        table = eqb-true _ _ (t 2);
        cost = eqb-true _ _ (t 3);
      }

  sized-true : (F → f ≡ true) → Sized F s → row f (size_tests s) ≡ true
  sized-true g h =
      and_both _ _
      (and_both _ _ (and_both _ _ (g h.fields) (eq-eqb _ _ h.nets)) (eq-eqb _ _ h.table))
      (eq-eqb _ _ h.cost)

-- without notes
abbrev pub BareWhole : List ℕ → Type 0
BareWhole s = Sized (whole sheet_tags s ≡ true) s

module _ (s : List ℕ) where
  pub bare_whole-facts : bare_whole s ≡ true → BareWhole s
  unfolding bare_whole
  bare_whole-facts h = sized-facts s (whole sheet_tags s) (λ t. t) h

  pub bare_whole-true : BareWhole s → bare_whole s ≡ true
  unfolding bare_whole
  bare_whole-true h = sized-true s (whole sheet_tags s) (λ t. t) h

-- with notes or without
abbrev pub SheetFields : List ℕ → Type 0
SheetFields s =
    (whole sheet_tags s ≡ true) ⊎ ((whole (sheet_tags ++ (notes_tag ∷ [])) s ≡ true) × (notes_whole s ≡ true))

abbrev pub SheetWhole : List ℕ → Type 0
SheetWhole s = Sized (SheetFields s) s

module _ (s : List ℕ) where
  pub sheet_whole-facts : sheet_whole s ≡ true → SheetWhole s
  unfolding sheet_whole
  sheet_whole-facts h =
      let noted = whole (sheet_tags ++ (notes_tag ∷ [])) s in
      sized-facts s (whole sheet_tags s || (noted && notes_whole s))
      (λ t.
      ⊎_elim (λ a. inl a) (λ b. inr (and_left noted (notes_whole s) b, and_right noted (notes_whole s) b))
      (or_cases (whole sheet_tags s) (noted && notes_whole s) t))
      h

  pub sheet_whole-true : SheetWhole s → sheet_whole s ≡ true
  unfolding sheet_whole
  sheet_whole-true h =
      let noted = whole (sheet_tags ++ (notes_tag ∷ [])) s in
      sized-true s (whole sheet_tags s || (noted && notes_whole s))
      (λ t.
      ⊎_elim (λ a. or_left (whole sheet_tags s) (noted && notes_whole s) a)
      (λ b. or_right (whole sheet_tags s) (noted && notes_whole s) (and_both noted (notes_whole s) b.0 b.1)) t)
      h

-- ---- what a walk says of a sheet

-- the same of the lengths ns that the walk finds
record SheetLengths (ns : List ℕ) : Type 0 where
  pub few : get_or ns 0 0 ≤ 31
  pub nets : get_or ns 0 0 % 2 ≡ 0
  pub table : get_or ns 1 0 ≡ 2 ^ (get_or ns 0 0 / 2)
  pub cost : get_or ns 2 0 ≡ 4

sheet_lengths-facts : (ns : List ℕ) → sheet_lengths ns ≡ true → SheetLengths ns
unfolding sheet_lengths
sheet_lengths-facts ns h =
    let t =
    row_at (eqb (get_or ns 0 0 % 2) 0) (eqb (get_or ns 1 0) (2 ^ (get_or ns 0 0 / 2)) ∷ eqb (get_or ns 2 0) 4 ∷ [])
    (and_right (leb (get_or ns 0 0) 31) _ h) in
    record {
      few = leb-true _ _ (and_left (leb (get_or ns 0 0) 31) _ h);
      nets = eqb-true _ _ (t 0);
      table = eqb-true _ _ (t 1);
      cost = eqb-true _ _ (t 2);
    }

sheet_lengths-true : (ns : List ℕ) → SheetLengths ns → sheet_lengths ns ≡ true
unfolding sheet_lengths
sheet_lengths-true ns h =
    and_both _ _ (le-leb _ _ h.few)
    (and_both _ _ (and_both _ _ (eq-eqb _ _ h.nets) (eq-eqb _ _ h.table)) (eq-eqb _ _ h.cost))

nth-short : (s : List ℕ) → ((i : ℕ) → get_or s i 0 < 256) → (k : ℕ) → length (nth k s) < 65536
unfolding body
nth-short s bytes k =
    let at = position_of k s in
    let n = ap body_length (skip-drop k s) ∙ body_length-drop s at in
    rw (nth-body k s)
    (omega (
      arith,
      n,
      length-take (body_length (skip k s)) (drop 3 (skip k s)),
      word_lt s (at + 1) (bytes (at + 1)) (bytes (at + 1 + 1)),
    ))

few-nets : (s : List ℕ) → ((i : ℕ) → get_or s i 0 < 256) → BareWhole s → length (nth 0 s) / 2 ≤ 15
few-nets s bytes j = power-short (length (nth 0 s) / 2) (omega (arith, nth-short s bytes 1, j.table))

module _ (s : List ℕ) where
  pub broken-of-walk : Walked s 16 3 None → None ≡ sheet_shape_of s
  unfolding up_from sheet_shape_of
  broken-of-walk f = rw (false_of (bare_whole s) (λ t. true≢false (sym (bare_whole-facts s t).fields ∙ f)))

module _ (s : List ℕ) (spans : List Span) (h : Walked s 16 3 (Some spans)) where
  fields : whole sheet_tags s ≡ true
  unfolding up_from
  fields = h.0

  lengths-of-whole : ((i : ℕ) → get_or s i 0 < 256) → BareWhole s → SheetLengths (lens_in spans)
  lengths-of-whole bytes j =
      let n = h.1.lens in
      record {
        nets = rw (n 0 (omega arith)) j.nets;
        few = rw (n 0 (omega arith)) (omega (arith, few-nets s bytes j));
        table = rw (n 0 (omega arith), n 1 (omega arith)) j.table;
        cost = rw (n 2 (omega arith)) j.cost;
      }

  whole-of-lengths : SheetLengths (lens_in spans) → BareWhole s
  whole-of-lengths g =
      let n = h.1.lens in
      record {
        fields = fields;
        nets = rw (← n 0 (omega arith)) g.nets;
        table = rw (← n 0 (omega arith), ← n 1 (omega arith)) g.table;
        cost = rw (← n 2 (omega arith)) g.cost;
      }

  broken-of-lengths : ((i : ℕ) → get_or s i 0 < 256) → sheet_lengths (lens_in spans) ≡ false → bare_whole s ≡ false
  broken-of-lengths bytes e =
      false_of (bare_whole s)
      (λ t. true≢false (sym (sheet_lengths-true _ (lengths-of-whole bytes (bare_whole-facts s t))) ∙ e))

  -- the shape, from the walk
  pub walk-spans : ((i : ℕ) → get_or s i 0 < 256) → spanned_from (starts_in spans) (lens_in spans) ≡ sheet_shape_of s
  unfolding sheet_shape_of spanned_from spans_of
  walk-spans bytes = pick (sheet_lengths (lens_in spans)) refl
    where
      pick : (b : Bool) → sheet_lengths (lens_in spans) ≡ b → spanned_from (starts_in spans) (lens_in spans) ≡ sheet_shape_of s
      pick false e = rw (e, broken-of-lengths bytes e)
      pick true e =
          let j = whole-of-lengths (sheet_lengths-facts (lens_in spans) e) in
          let n = h.1.lens in
          let a = h.1.starts in
          rw (e, bare_whole-true s j, n 0 (omega arith), a 1 (omega arith), a 2 (omega arith))

-- ---- where the fields of a sheet stand, of which the three without notes end at e

pub record Spans (s : List ℕ) (e : ℕ) (at : SheetSpans) : Type 0 where
  pub whole : bare_whole (take e s) ≡ true
  pub few : 2 * at.nets ≤ 30
  pub table : at.table ≡ 3 + length (nth 0 s) + 3
  pub nets : 2 * at.nets ≡ length (nth 0 s)
  pub cost : at.cost ≡ at.table + length (nth 1 s) + 3
  pub end : e ≡ at.cost + 4
  pub within : e ≤ length s
  pub nets_part : word_column s 2 3 at.nets ≡ nets_of (nth 0 s)
  pub table_part : take (at.cost - 3 - at.table) (drop at.table s) ≡ nth 1 s
  pub cost_part : quad (drop at.cost s) ≡ quad (nth 2 s)

-- four bytes are enough for a four-byte number
quad-four : (u : List ℕ) → quad (take 4 u) ≡ quad u
unfolding quad word
quad-four u =
    rw (get_or-take 4 u 0 0 (omega arith), get_or-take 4 u 1 0 (omega arith), get_or-take 4 u 2 0 (omega arith), get_or-take 4 u 3 0 (omega arith))

pub shape-broken : (s : List ℕ) → sheet_shape_of s ≡ None → bare_whole s ≡ false
unfolding sheet_shape_of
shape-broken s e = pick-none (bare_whole s) (spans_of s) e

start-zero : (s : List ℕ) → start_of 0 s ≡ 3
unfolding start_of
start-zero s = refl

module _ (s : List ℕ) (e : ℕ) (l : e ≤ length s) (j : BareWhole (take e s)) where
  abbrev bare : List ℕ
  bare = take e s

  joined : bare ++ drop e s ≡ s
  joined = take-append-drop e s

  long : length bare ≡ e
  long = length-take-le e s l

  same : (k : ℕ) → k < 3 → nth k s ≡ nth k bare
  same k h = ap (nth k) (sym joined) ∙ nth-front sheet_tags bare (drop e s) j.fields k h

  next : (k : ℕ) → k < 3 → start_of (suc k) bare ≡ start_of k bare + length (nth k s) + 3
  next k h = rw (same k h) (start_of-suc sheet_tags bare j.fields k h)

  to_end : e ≡ start_of 2 bare + length (nth 2 s)
  to_end = omega (arith, next 2 (omega arith), start_of-position 3 bare, whole-end sheet_tags bare j.fields, long)

  part : (k : ℕ) → k < 3 → (a n : ℕ) → a ≡ start_of k bare → n ≡ length (nth k s) → take n (drop a s) ≡ nth k s
  part k h a n p q =
      let r = start_of-le sheet_tags bare j.fields k h in
      let b : a + n ≤ length bare = omega (arith, ap length (same k h)) in
      ap (λ (u : List ℕ). take n (drop a u)) (sym joined)
      ∙ part-append bare (drop e s) a n b
      ∙ rw (p, q, same k h) (nth-slice sheet_tags bare j.fields k h)

  spans : ((i : ℕ) → get_or s i 0 < 256) → Spans s e (spans_of bare)
  unfolding spans_of
  spans bytes =
      let z = same 0 (omega arith) in
      let a = next 0 (omega arith) in
      let b = next 1 (omega arith) in
      let d : length (nth 2 s) ≡ 4 = ap length (same 2 (omega arith)) ∙ j.cost in
      record {
        whole = bare_whole-true bare j;
        few = omega (arith, few-nets bare (below-take 256 s e bytes) j);
        table = omega (arith, start-zero bare);
        nets = omega (arith, ap length z, j.nets);
        cost = b;
        end = omega (arith, d, to_end);
        within = l;
        nets_part =
            nets-in {to = 3 + length (nth 0 s)}
            (record {
              ordered = omega arith;
              within = omega (arith, start-zero bare, to_end);
              is = part 0 (omega arith) 3 (3 + length (nth 0 s) - 3) (sym (start-zero bare)) (omega arith);
            })
            (length (nth 0 bare) / 2) (ap (λ (u : List ℕ). length u / 2) (sym z));
        table_part = part 1 (omega arith) (start_of 1 bare) (start_of 2 bare - 3 - start_of 1 bare) refl (omega arith);
        cost_part =
            sym (quad-four (drop (start_of 2 bare) s)) ∙ ap quad (part 2 (omega arith) (start_of 2 bare) 4 refl (sym d));
      }

pub shape-whole : (s : List ℕ) → ((i : ℕ) → get_or s i 0 < 256) → (e : ℕ) → e ≤ length s
    → (at : SheetSpans) → sheet_shape_of (take e s) ≡ Some at → Spans s e at
unfolding sheet_shape_of
shape-whole s bytes e l at q =
    let p = pick-some (bare_whole (take e s)) (spans_of (take e s)) at q in
    rw p.1 (spans s e l (bare_whole-facts (take e s) p.0) bytes)

-- ---- where the table of a whole sheet stands

module _ (s : List ℕ) (w : SheetWhole s) where
  -- a law of the fields of a whole record holds of the first three
  by-fields : {P : Type 0} → ((ts : List ℕ) → 3 ≤ length ts → whole ts s ≡ true → P) → P
  by-fields f =
      ⊎_elim (λ a. f sheet_tags (omega arith) a) (λ b. f (sheet_tags ++ (notes_tag ∷ [])) (omega arith) b.0) w.fields

  pub table-start : 3 + length (nth 0 s) + 3 ≡ start_of 1 s
  unfolding start_of
  table-start = by-fields (λ ts l t. sym (start_of-suc ts s t 0 (omega arith)))

  pub table-size : 2 ^ length (nets_of (nth 0 s)) ≡ length (nth 1 s)
  table-size = ap (λ (k : ℕ). 2 ^ k) (length-nets_of (nth 0 s)) ∙ sym w.table

  pub table-end : 3 + length (nth 0 s) + 3 + 2 ^ length (nets_of (nth 0 s)) ≤ length s
  table-end = rw (table-start, table-size) (by-fields (λ ts l t. start_of-le ts s t 1 (omega arith)))

  pub table-bytes : take (2 ^ length (nets_of (nth 0 s))) (drop (3 + length (nth 0 s) + 3) s) ≡ nth 1 s
  table-bytes = rw (table-start, table-size) (by-fields (λ ts l t. nth-slice ts s t 1 (omega arith)))
