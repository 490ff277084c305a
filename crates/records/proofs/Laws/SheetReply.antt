-- Laws of what read_sheet replies: the first of its three tests that fails, what an accepted sheet says, and the tests of number 8 one
-- by one. Assumes nothing.
use Prim.Native.Nat.{ℕ, ◌+◌, ◌^◌, ◌≤◌}
use mathlib.Core.Path.{◌≡◌, refl, sym, ◌∙◌}
use mathlib.Core.Bool.{Bool, true, false, true≢false, ◌&&◌}
use mathlib.Core.List.{List, [], ◌∷◌}
use borrow.Author.Tests.{leb-true, eq-eqb, ne_eqb}
use lib.Dec.{leb, ltb, eqb}
use lib.ListN.{length, get_or}
use lib.Seq.{take-append_seam}
use Rattle.records.specs.Bytes.{all, nth}
use Rattle.records.specs.Job.{Candidate, nets_of}
use Rattle.records.specs.Refusal.{ascending, first_failing}
use Rattle.records.specs.Sheet.{quad, patch_of, sheet_whole, is_candidate, cost_of, patch_good, sheet_tests}
use Rattle.records.specs.Service.{number_of, candidates_from, sheet_roomy, sheet_number, sheet_told, sheet_reply}
use Rattle.records.specs.Inner.{sheet_room, support_of, ten_places}
use Rattle.records.specs.Claims.{SheetGiven}
use Rattle.records.specs.declared.sheet.Support.{Support}
use Rattle.records.specs.declared.refusal.Refusal.{Refusal}
use Rattle.std.specs.Prelude.{Some, None, Ok, Err}
use Rattle.records.proofs.Laws.Option.{pick-some, pick-none}
use Rattle.records.proofs.Laws.Bytes.{row, row_at, and_left, and_right, and_both, false_of}
use Rattle.records.proofs.Laws.Accepted.{sheet-accepts}
use Rattle.records.proofs.Laws.Sheet.{support-length}
use Rattle.records.proofs.Laws.SheetShape.{sheet_whole-facts, table-bytes}

-- ---- number 3

pub record Room (m k n w : ℕ) : Type 0 where
  pub targets : m ≤ 4
  pub candidates : k ≤ 10
  pub nets : k ≤ n
  pub weights : k ≤ w

pub room-facts : (m k n w : ℕ) → sheet_room m k n w ≡ true → Room m k n w
unfolding sheet_room
room-facts m k n w h =
    let t = row_at (leb m 4) (leb k 10 ∷ leb k n ∷ leb k w ∷ []) h in
    record {
      targets = leb-true _ _ (t 0);
      candidates = leb-true _ _ (t 1);
      nets = leb-true _ _ (t 2);
      weights = leb-true _ _ (t 3);
    }

-- ---- the reply

module _ (m k : ℕ) (nets weights s : List ℕ) where
  pub reply-room : sheet_room m k (length nets) (length weights) ≡ false → sheet_told (Err Refusal.Counts) ≡ sheet_reply m k nets weights s
  unfolding sheet_reply sheet_number first_failing sheet_roomy sheet_room number_of
  reply-room e = rw e

  module _ (r : sheet_room m k (length nets) (length weights) ≡ true) where
    pub reply-whole : sheet_whole s ≡ false → sheet_told (Err Refusal.Sheet) ≡ sheet_reply m k nets weights s
    unfolding sheet_reply sheet_number sheet_tests first_failing sheet_roomy sheet_room number_of
    reply-whole e = rw (r, e)

    module _ (w : sheet_whole s ≡ true) where
      pub reply-good : patch_good m (candidates_from k nets weights) (patch_of s) ≡ false
          → sheet_told (Err Refusal.Patch) ≡ sheet_reply m k nets weights s
      unfolding sheet_reply sheet_number sheet_tests first_failing sheet_roomy sheet_room number_of
      reply-good e = rw (r, w, e)

      pub reply-accepted : patch_good m (candidates_from k nets weights) (patch_of s) ≡ true → (is : Support) (at v : ℕ)
          → is ≡ ten_places (nets_of (nth 0 s)) → at ≡ 3 + length (nth 0 s) + 3 → v ≡ quad (nth 2 s)
          → sheet_told (Ok (record { support = is; table = at; cost = v })) ≡ sheet_reply m k nets weights s
      unfolding sheet_reply sheet_number sheet_tests first_failing sheet_roomy sheet_room ten_places patch_of
      reply-accepted e is at v p q c = rw (r, w, e, p, q, c)

-- what is replied of an accepted sheet
pub sheet-given : SheetGiven
unfolding sheet_reply patch_of
sheet-given m k nets weights s e =
    let w = sheet_whole-facts s ((sheet-accepts m k nets weights s).0 e).1 in
    let is = nets_of (nth 0 s) in
    let z = eq-eqb (sheet_number m k nets weights s) 0 e in
    record { support = rw z (take-append_seam is _); table = rw z (table-bytes s w); cost = rw z }

-- ---- number 8

pub entries : (limit m : ℕ) (part xs : List ℕ) → limit ≡ 2 ^ m → part ≡ xs
    → all (λ v. ltb v limit) part ≡ all (λ v. ltb v (2 ^ m)) xs
entries limit m part xs p q = rw (p, q)

module _ (m : ℕ) (cs : List Candidate) (s : List ℕ) where
  -- the support ascends and is of candidates; the entries of the table are small; the cost is the sum
  fit : Bool
  fit = ascending (nets_of (nth 0 s)) && all (is_candidate cs) (nets_of (nth 0 s))

  others : List Bool
  others =
      all (λ v. ltb v (2 ^ m)) (nth 1 s)
      ∷ eqb (quad (nth 2 s)) (cost_of cs (nets_of (nth 0 s)))
      ∷ []

  good-row : patch_good m cs (patch_of s) ≡ row fit others
  unfolding patch_good patch_of fit others
  good-row = refl

  bad : (i : ℕ) → get_or (fit ∷ others) i true ≡ false → patch_good m cs (patch_of s) ≡ false
  bad i e = false_of _ (λ t. true≢false (sym (row_at fit others (sym good-row ∙ t) i) ∙ e))

  pub bad-support : support_of cs (nets_of (nth 0 s)) ≡ None → patch_good m cs (patch_of s) ≡ false
  unfolding support_of fit
  bad-support e = bad 0 (pick-none _ _ e)

  pub bad-table : all (λ v. ltb v (2 ^ m)) (nth 1 s) ≡ false → patch_good m cs (patch_of s) ≡ false
  unfolding others
  bad-table e = bad 1 e

  module _ (v : ℕ) (e : support_of cs (nets_of (nth 0 s)) ≡ Some v) where
    sum : (fit ≡ true) × (cost_of cs (nets_of (nth 0 s)) ≡ v)
    unfolding support_of fit
    sum = let p = pick-some _ _ v e in (p.0, sym p.1)

    pub bad-cost : (v ≡ quad (nth 2 s) → ⊥) → patch_good m cs (patch_of s) ≡ false
    unfolding others
    bad-cost h = bad 2 (ne_eqb _ _ (λ q. h (sym sum.1 ∙ sym q)))

    pub good : all (λ v. ltb v (2 ^ m)) (nth 1 s) ≡ true → v ≡ quad (nth 2 s) → patch_good m cs (patch_of s) ≡ true
    unfolding others
    good t q = good-row ∙ and_both _ _ (and_both _ _ sum.0 t) (eq-eqb _ _ (sym q ∙ sym sum.1))

    -- there are no more support nets than candidates
    pub few-support : length (nets_of (nth 0 s)) ≤ length cs
    unfolding fit
    few-support =
        let is = nets_of (nth 0 s) in
        let a = and_left (ascending is) (all (is_candidate cs) is) sum.0 in
        support-length cs is a (and_right (ascending is) (all (is_candidate cs) is) sum.0)
