-- What specs/Claims.antt promises of choose, then compare or fit: choose's patch sheet passes numbers 7 and 8. Assumes nothing.
use Prim.Native.Nat.{ℕ, ◌*◌, ◌/◌, ◌^◌, ◌≤◌}
use mathlib.Core.Path.{◌≡◌, refl, sym, ◌∙◌, ap, subst}
use mathlib.Core.Logic.{inl, inr, ⊎_elim}
use mathlib.Core.List.{List, [], ◌∷◌}
use mathlib.Core.Bool.{true, false}
use mathlib.Core.Option.{Option}
use native.Mathlib.Omega.{arith}
use borrow.Author.Tests.{le-leb, eq-eqb}
use lib.ListN.{length, take}
use Rattle.records.specs.Bytes.{all, nth}
use Rattle.records.specs.Job.{Job, job_of}
use Rattle.records.specs.Refusal.{first_failing, job_tests, part_tests, ascending, candidates_good}
use Rattle.records.specs.Sheet.{patch_of, sheet_whole, is_candidate, patch_good, sheet_tests}
use Rattle.records.proofs.Laws.Bytes.{and_left, and_both, all-below}
use Rattle.records.proofs.Laws.Job.{length-outputs}
use Rattle.records.proofs.Laws.Notes.{notes_whole-true}
use Rattle.records.proofs.Laws.SheetShape.{sheet_whole-true}
use Rattle.engine.specs.Support.{table_of, candidate_nets, cost, chosen}
use Rattle.engine.specs.Compare.{pair_tests}
use Rattle.engine.specs.Fit.{fits, longest_fit}
use Rattle.engine.specs.Verdict.{patch, ruling, patch_sheet, choose_number, chosen_bytes}
use Rattle.engine.specs.Reply.{choice_fields, choose_reply, comparison_of, compare_number, fit_tests, fit_number}
use Rattle.engine.specs.Claims.{ChosenEqual, ChosenFits, ChosenFitted}
use Rattle.engine.proofs.Laws.Choice.{true-or-false, all-of-members}
use Rattle.engine.proofs.Laws.Sheet.{length-four_bytes}
use Rattle.engine.proofs.Laws.Support.{length-table_of, table_of-below, subsets-among, subset-ascending, is_candidate-of-mem}
use Rattle.engine.proofs.Laws.Verdict.{length-notes_of, notes-below}
use Rattle.engine.proofs.Theorems.{patch-sound}
use Rattle.engine.proofs.Replies.{choose-accepts, patch-whole, patch-nth, patch-notes, patch-read, chosen-ruling, chosen-sheet, patch-given, compare-accepts, difference-none, compared}
use Rattle.engine.proofs.FitReplies.{fit-accepts, fitted-given}

-- ---- the sheet of a patch

candidates-ascend : (j : Job) → candidates_good j ≡ true → ascending (candidate_nets j) ≡ true
unfolding candidates_good candidate_nets
candidates-ascend j g = and_left (ascending (candidate_nets j)) _ g

module _ (j : Job) (is : List ℕ) where
  sheet-whole : sheet_whole (patch_sheet j is) ≡ true
  sheet-whole =
      let n = patch-nth j is in
      let o = patch-notes j is in
      let pairs : length (nth 0 (patch_sheet j is)) ≡ 2 * length is = ap length (n 0 (omega arith)) ∙ length-outputs is in
      let half : length (nth 0 (patch_sheet j is)) / 2 ≡ length is = omega arith in
      sheet_whole-true (patch_sheet j is)
      (record {
        fields =
            inr (
              patch-whole j is,
              notes_whole-true (patch_sheet j is)
                  (rw (o, n 1 (omega arith)) (length-notes_of j is ∙ sym (length-table_of j is)))
                  (rw o (notes-below j is)),
            );
        nets = omega arith;
        table = rw (n 1 (omega arith), half) (length-table_of j is);
        cost = rw (n 2 (omega arith)) (length-four_bytes (cost j is));
      })

  sheet-good : candidates_good j ≡ true → ruling j ≡ patch is
      → patch_good j.targets j.candidates (patch_of (patch_sheet j is)) ≡ true
  unfolding patch_good candidate_nets cost
  sheet-good g r =
      let s = patch-sound j is r in
      let candidates : all (is_candidate j.candidates) is ≡ true =
      all-of-members (is_candidate j.candidates) is
      (λ i m. is_candidate-of-mem j.candidates i (subsets-among (candidate_nets j) is s.1 i m)) in
      rw (patch-read j is)
      (and_both _ _
      (and_both _ _
      (and_both _ _ (subset-ascending (candidate_nets j) is (candidates-ascend j g) s.1) candidates)
      (all-below (2 ^ j.targets) (table_of j is) (table_of-below j is s.0)))
      (eq-eqb (cost j is) (cost j is) refl))

-- ---- choose, then compare or fit

module _ (d s : List ℕ) (c : ℕ) (e : choose_number d s ≡ 0) (q : choice_fields (choose_reply d s).verdict ≡ 18 ∷ c ∷ []) where
  abbrev sheet : List ℕ
  sheet = take (choose_reply d s).len (chosen_bytes d s)

  -- choose's sheet is accepted
  accepted : compare_number s sheet ≡ 0
  accepted =
      let j = job_of s in
      let is = chosen j in
      let f = chosen-sheet d s c e q in
      let a = (choose-accepts d s).0 e in
      (compare-accepts s sheet).1 (
        a.1,
        a.2,
        subst (λ (p : List ℕ). sheet_whole p ≡ true) (sym f) (sheet-whole j is),
        subst (λ (p : List ℕ). patch_good j.targets j.candidates (patch_of p) ≡ true) (sym f)
            (sheet-good j is a.2.candidates (chosen-ruling d s c e q)),
      )

pub chosen-equal : ChosenEqual
chosen-equal d s c e q =
    let p = patch_of (sheet d s c e q) in
    compared s (sheet d s c e q) (accepted d s c e q)
    ∙ ap (λ (o : Option ℕ). record { number = 0; result = comparison_of o })
    ((difference-none (job_of s) p.support p.table).1 (patch-given d s c e q).equal)

-- number 9 is all that is left for a sheet that compare accepts
nine : (d s p : List ℕ) → longest_fit ≤ length d → compare_number s p ≡ 0
    → fits (job_of s) (patch_of p).support (patch_of p).table ≡ false → fit_number d s p ≡ 9
unfolding fit_number fit_tests pair_tests job_tests part_tests sheet_tests first_failing
nine d s p l n f =
    let c = (compare-accepts s p).0 n in
    let g = c.1 in
    rw (le-leb longest_fit (length d) l, c.0, g.counts, g.gates, g.outputs, g.candidates, c.2, c.3, f) refl

pub chosen-fits : ChosenFits
chosen-fits d e s c z q l =
    let p = sheet d s c z q in
    let n = accepted d s c z q in
    ⊎_elim
    (λ t. inl ((fit-accepts e s p).1 (l, n, t)))
    (λ t. inr (nine e s p l n t, t))
    (true-or-false (fits (job_of s) (patch_of p).support (patch_of p).table))

pub chosen-fitted : ChosenFitted
chosen-fitted d e s c z q f x h =
    (fitted-given e s (sheet d s c z q) f).outputs x ∙ (patch-given d s c z q).equal x h
