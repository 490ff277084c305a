-- Laws of a sheet's notes: a sheet is whole exactly when its first three fields are a whole sheet without notes and behind them stand
-- good notes or nothing; good notes leave what read_sheet replies as it is; what is no whole sheet gets 7, so other notes, other bytes
-- left over and a vector list do. Assumes nothing.
use Prim.Native.Nat.{ℕ, ◌+◌, ◌-◌, ◌≤◌, ◌<◌}
use mathlib.Core.Path.{◌≡◌, refl, sym, ◌∙◌, ap}
use mathlib.Core.Logic.{◌↔◌, ⊎_elim}
use mathlib.Core.List.{List, [], ◌∷◌, ◌++◌, append-nil}
use mathlib.Core.Bool.{Bool, true, false, true≢false, cond, not, ◌&&◌, ◌||◌}
use native.Mathlib.Omega.{arith}
use borrow.Author.Tests.{eq-eqb, ne_eqb, eqb-true}
use lib.Dec.{ltb, eqb}
use lib.ListN.{length, take, drop, length-take, length-drop, take-append-drop}
use lib.Seq.{length-take-le, drop-drop, take-append_seam, drop-append_seam}
use Rattle.records.specs.Bytes.{all, field, body_length, body, rest, fits, whole, nth}
use Rattle.records.specs.Job.{Candidate}
use Rattle.records.specs.Refusal.{Test, first_failing}
use Rattle.records.specs.Sheet.{sheet_tags, notes_tag, patch_of, notes_whole, sheet_whole, patch_good, sheet_tests}
use Rattle.records.specs.Inner.{start_of, field_at, bare_whole, notes_at}
use Rattle.records.specs.declared.field.Span.{Span}
use Rattle.std.specs.Prelude.{Some, None}
use Rattle.records.specs.Service.{candidates_from, sheet_number, sheet_reply}
use Rattle.records.specs.Claims.{Below, SheetNotes, NotesSeven, LeftOverSeven, VectorsSeven, SevenExactly}
use Rattle.records.proofs.Laws.Accepted.{below-of-all}
use Rattle.records.proofs.Laws.Bytes.{row, row-and, and_left, and_right, and_both, and-false-right, and_assoc, false_of, all-below}
use Rattle.records.proofs.Laws.Field.{position_of, start_of-position, whole-end, fits-room, length-body, field_at-some, field_at-none, end-within}
use Rattle.records.proofs.Laws.Front.{position_of-cut, nth_cut, nth-behind, whole_append, whole-front, nth-front, whole-behind}
use Rattle.records.proofs.Laws.Job.{length-field}
use Rattle.records.proofs.Laws.RoundTrip.{fits-field, body-field, rest-field}
use Rattle.records.proofs.Laws.Walk.{ends_there}
use Rattle.records.proofs.Laws.SheetShape.{size_tests, bare_whole-facts, sheet_whole-facts}

-- ---- a sheet cut behind its third field

either : (a z b c d : Bool) → ((a && z) || ((a && b) && (c && d))) ≡ (a && (z || ((b && c) && d)))
either true z b c d = ap (λ (x : Bool). z || x) (sym (and_assoc b c d))
either false z b c d = refl

module _ (s : List ℕ) (e : ℕ) (p : e ≡ position_of 3 s) where
  fields_split : (whole sheet_tags s || (whole (sheet_tags ++ (notes_tag ∷ [])) s && notes_whole s))
      ≡ (whole sheet_tags (take e s) && notes_at (length (nth 1 s)) (drop e s))
  unfolding notes_whole notes_at whole
  fields_split =
      rw (p, whole_append sheet_tags [] s, whole_append sheet_tags (notes_tag ∷ []) s, nth-behind 3 s)
      (either (whole sheet_tags (take (position_of 3 s) s)) (eqb (length (drop (position_of 3 s) s)) 0) _ _ _)

  sizes-cut : size_tests (take e s) ≡ size_tests s
  sizes-cut = rw (p, nth_cut 3 0 s (omega arith), nth_cut 3 1 s (omega arith), nth_cut 3 2 s (omega arith))

  sheet-cut : sheet_whole s ≡ (bare_whole (take e s) && notes_at (length (nth 1 s)) (drop e s))
  unfolding sheet_whole bare_whole
  sheet-cut =
      let a = whole sheet_tags (take e s) in
      let n = notes_at (length (nth 1 s)) (drop e s) in
      ap (λ (f : Bool). row f (size_tests s)) fields_split
      ∙ sym (row-and a n (size_tests s))
      ∙ ap (λ (ts : List Bool). row a ts && n) (sym sizes-cut)

-- ---- what fields_end says of where it ends

module _ (s : List ℕ) (e : ℕ) (l : e ≤ length s) where
  cut-front : whole sheet_tags (take e s) ≡ true → e ≡ position_of 3 s
  cut-front w =
      sym (length-take-le e s l)
      ∙ sym (whole-front sheet_tags (take e s) (drop e s) w)
      ∙ ap (position_of 3) (take-append-drop e s)

  module _ (h : start_of 3 s ≤ length s + 3 → e + 3 ≡ start_of 3 s) where
    cut-whole : sheet_whole s ≡ true → e ≡ position_of 3 s
    cut-whole t =
        let p = position_of 3 s in
        let b = bare_whole (take p s) in
        let w = (bare_whole-facts (take p s) (and_left b _ (sym (sheet-cut s p refl) ∙ t))).fields in
        let n : p ≤ length s =
        omega (arith, position_of-cut 3 3 s (omega arith), whole-end sheet_tags (take p s) w, length-take p s) in
        omega (arith, start_of-position 3 s, h (omega (arith, start_of-position 3 s)))

    -- a sheet is whole exactly when its first three fields are without notes and good notes or nothing stands behind them
    pub sheet-split : sheet_whole s ≡ (bare_whole (take e s) && notes_at (length (nth 1 s)) (drop e s))
    sheet-split = pick (sheet_whole s) refl
      where
        b : Bool
        b = bare_whole (take e s)

        n : Bool
        n = notes_at (length (nth 1 s)) (drop e s)

        pick : (x : Bool) → sheet_whole s ≡ x → x ≡ (b && n)
        pick true q = sym q ∙ sheet-cut s e (cut-whole q)
        pick false q =
            sym
            (false_of (b && n)
            (λ t.
            let w = (bare_whole-facts (take e s) (and_left b n t)).fields in
            true≢false (sym t ∙ sym (sheet-cut s e (cut-front w)) ∙ q)))

-- ---- three fields and what is put behind them

pub notes_whole-true : (s : List ℕ) → length (nth 3 s) ≡ length (nth 1 s) → Below 3 (nth 3 s) → notes_whole s ≡ true
unfolding notes_whole
notes_whole-true s n b = and_both _ _ (eq-eqb _ _ n) (all-below 3 (nth 3 s) (λ i l. b i))

notes-field : (n : ℕ) (ns : List ℕ) → notes_at n (field notes_tag ns) ≡ (eqb (length ns) n && all (λ v. ltb v 3) ns)
unfolding notes_at whole nth
notes-field n ns =
    let f = field notes_tag ns in
    rw (ne_eqb (length f) 0 (omega (arith, length-field notes_tag ns)), ← append-nil f, fits-field notes_tag ns [], rest-field notes_tag ns [], body-field notes_tag ns [])

module _ (s : List ℕ) (w : whole sheet_tags s ≡ true) where
  sheet-append : (r : List ℕ) → sheet_whole (s ++ r) ≡ (bare_whole s && notes_at (length (nth 1 s)) r)
  sheet-append r =
      sheet-cut (s ++ r) (length s) (sym (whole-front sheet_tags s r w))
      ∙ rw (take-append_seam s r, drop-append_seam s r, nth-front sheet_tags s r w 1 (omega arith))

  sheet-behind : (r : List ℕ) → notes_at (length (nth 1 s)) r ≡ true → sheet_whole (s ++ r) ≡ sheet_whole s
  unfolding notes_at
  sheet-behind r e =
      sheet-append r
      ∙ ap (λ (b : Bool). bare_whole s && b) e
      ∙ sym (sheet-append [])
      ∙ ap sheet_whole (append-nil s)

-- a sheet with good notes says what it says without
module _ (s ns : List ℕ) (w : whole sheet_tags s ≡ true) (n : length ns ≡ length (patch_of s).table) (l : Below 3 ns) where
  abbrev noted : List ℕ
  noted = s ++ field notes_tag ns

  pub notes-part : (k : ℕ) → k < 3 → nth k noted ≡ nth k s
  notes-part k h = nth-front sheet_tags s (field notes_tag ns) w k h

  pub notes-support : (patch_of noted).support ≡ (patch_of s).support
  unfolding patch_of
  notes-support = rw (notes-part 0 (omega arith))

  pub notes-table : (patch_of noted).table ≡ (patch_of s).table
  unfolding patch_of
  notes-table = notes-part 1 (omega arith)

  pub notes-tests : (m : ℕ) (cs : List Candidate) → sheet_tests m cs noted ≡ sheet_tests m cs s
  unfolding sheet_tests patch_good patch_of
  notes-tests m cs =
      let p = notes-part in
      let e : notes_at (length (nth 1 s)) (field notes_tag ns) ≡ true =
      notes-field (length (nth 1 s)) ns ∙ and_both _ _ (eq-eqb _ _ n) (all-below 3 ns (λ i h. l i)) in
      rw (sheet-behind s w (field notes_tag ns) e, p 0 (omega arith), p 1 (omega arith), p 2 (omega arith))

pub sheet-notes : SheetNotes
unfolding sheet_reply sheet_number patch_of
sheet-notes m k nets weights s ns w n l =
    let p = notes-part s ns w n l in
    rw (notes-tests s ns w n l m (candidates_from k nets weights), p 0 (omega arith), p 2 (omega arith))

-- ---- sheets that get 7

-- 7 is given exactly to what is no whole sheet, whatever tests follow, if none of them gives it
pub tests-seven : (m : ℕ) (cs : List Candidate) (s : List ℕ) (us : List Test) → (first_failing us ≡ 7 → ⊥)
    → (first_failing (sheet_tests m cs s ++ us) ≡ 7) ↔ (sheet_whole s ≡ false)
unfolding sheet_tests first_failing
tests-seven m cs s us h = go (sheet_whole s) (patch_good m cs (patch_of s)) (first_failing us) h
  where
    go : (w g : Bool) (n : ℕ) → (n ≡ 7 → ⊥) → (◌≡◌ {A = ℕ} (cond w (cond g n 8) 7) 7) ↔ (w ≡ false)
    go true true n h = (λ e. absurd (h e), λ e. absurd (true≢false e))
    go true false n h = (λ e. let f : ⊥ = omega arith in absurd f, λ e. absurd (true≢false e))
    go false g n h = (λ e. refl, λ e. refl)

pub seven-exactly : SevenExactly
unfolding sheet_number sheet_tests first_failing
seven-exactly m k nets weights s r =
    rw r (tests-seven m (candidates_from k nets weights) s [] (λ e. let f : ⊥ = omega arith in f))

pub left-over-seven : LeftOverSeven
unfolding patch_of notes_at
left-over-seven m k nets weights s r room w some bad =
    let n = length (nth 1 s) in
    let a = whole (notes_tag ∷ []) r in
    let b = eqb (length (nth 0 r)) n in
    let f : notes_at n r ≡ false =
    false_of _
    (λ t.
    let u = rw (ne_eqb (length r) 0 some) at t in
    let v = and_left (a && b) _ u in
    bad (and_left a b v, eqb-true _ _ (and_right a b v), below-of-all 3 (omega arith) (nth 0 r) (and_right (a && b) _ u))) in
    (seven-exactly m k nets weights (s ++ r) room).1 (sheet-append s w r ∙ and-false-right (bare_whole s) _ f)

pub notes-seven : NotesSeven
unfolding nth
notes-seven m k nets weights s ns room w h =
    let b : nth 0 (field notes_tag ns) ≡ ns = ap body (sym (append-nil (field notes_tag ns))) ∙ body-field notes_tag ns [] in
    left-over-seven m k nets weights s (field notes_tag ns) room w
    (λ e. let f : ⊥ = omega (arith, e, length-field notes_tag ns) in f)
    (λ t. h (rw b at t.1, rw b at t.2))

-- a field behind whole ones is one of the sheet's, and a sheet has no vector list
pub vectors-seven : VectorsSeven
unfolding all
vectors-seven m k nets weights ts a b r w f =
    let other : ℕ → Bool = λ t. not (eqb t 19) in
    let none : (us : List ℕ) → all other us ≡ true → whole us (a ++ b) ≡ true → ⊥ =
    λ us n u. true≢false (sym (whole-behind other 19 ts us a b w f u n)) in
    (seven-exactly m k nets weights (a ++ b) r).1
    (false_of (sheet_whole (a ++ b))
    (λ t.
    ⊎_elim (λ v. none sheet_tags refl v) (λ v. none (sheet_tags ++ (notes_tag ∷ [])) refl v.0)
    (sheet_whole-facts (a ++ b) t).fields))

-- ---- what check_notes finds at a position

fitting : (x y : Bool) → not x || not y ≡ false → (x ≡ true) × (y ≡ true)
fitting true true e = (refl, refl)
fitting true false e = absurd (true≢false e)
fitting false y e = absurd (true≢false e)

fitting-fails : (x y z : Bool) → not x || not y ≡ true → y && x && z ≡ false
fitting-fails true true z e = absurd (true≢false (sym e))
fitting-fails true false z e = refl
fitting-fails false true z e = refl
fitting-fails false false z e = refl

module _ (s : List ℕ) (at n : ℕ) where
  pub notes-none : at ≡ length s → notes_at n (drop at s) ≡ true
  unfolding notes_at
  notes-none e = rw (eq-eqb (length (drop at s)) 0 (omega (arith, length-drop at s)))

  module _ (l : at ≤ length s) (q : at ≡ length s → ⊥) where
    some : eqb (length (drop at s)) 0 ≡ false
    some = ends_there s at l ∙ ne_eqb at (length s) q

    pub notes-missing : field_at s at notes_tag ≡ None → notes_at n (drop at s) ≡ false
    unfolding notes_at whole
    notes-missing e = rw (some, field_at-none s at notes_tag e)

    module _ (x : Span) (e : field_at s at notes_tag ≡ Some x) where
      found : (fits notes_tag (drop at s) ≡ true) × (x.start ≡ at + 3) × (x.len ≡ body_length (drop at s))
      found = field_at-some s at notes_tag x e

      found-rest : rest (drop at s) ≡ drop (x.start + x.len) s
      unfolding rest
      found-rest =
          let n : at + (3 + body_length (drop at s)) ≡ x.start + x.len = omega (arith, found.1, found.2) in
          drop-drop (3 + body_length (drop at s)) at s ∙ ap (λ (k : ℕ). drop k s) n

      found-body : body (drop at s) ≡ take x.len (drop x.start s)
      unfolding body
      found-body = rw (found.1, found.2, drop-drop 3 at s)

      found-length : length (body (drop at s)) ≡ x.len
      found-length = length-body (drop at s) (fits-room notes_tag (drop at s) found.0) ∙ sym found.2

      pub notes-within : x.start + x.len ≤ length s
      notes-within = end-within s at notes_tag x e

      notes-body : notes_at n (drop at s)
          ≡ (eqb (x.start + x.len) (length s) && eqb x.len n && all (λ v. ltb v 3) (take x.len (drop x.start s)))
      unfolding notes_at whole nth
      notes-body = rw (some, found.0, found-length, found-body, found-rest, ends_there s (x.start + x.len) notes-within)

      -- the code's test of its lengths
      pub notes-bad : not (eqb x.len n) || not (eqb (x.start + x.len) (length s)) ≡ true → notes_at n (drop at s) ≡ false
      notes-bad t = notes-body ∙ fitting-fails (eqb x.len n) (eqb (x.start + x.len) (length s)) _ t

      pub notes-good : not (eqb x.len n) || not (eqb (x.start + x.len) (length s)) ≡ false
          → notes_at n (drop at s) ≡ all (λ v. ltb v 3) (take (length s - x.start) (drop x.start s))
      notes-good t =
          let f = fitting (eqb x.len n) (eqb (x.start + x.len) (length s)) t in
          let r : x.len ≡ length s - x.start = omega (arith, eqb-true (x.start + x.len) (length s) f.1) in
          notes-body ∙ rw (f.0, f.1, ← r)
