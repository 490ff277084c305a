-- Laws of the verdict: which case is given, by judge and by choose too, the least blind reading, and how long the sheets are. Assumes
-- nothing.
use Prim.Native.Nat.{ℕ, ◌^◌, ◌≤◌, ◌<◌}
use mathlib.Core.Path.{◌≡◌, refl, sym, ◌∙◌, ap}
use mathlib.Core.Logic.{⊎_elim}
use mathlib.Core.List.{List, ◌++◌}
use mathlib.Core.Bool.{Bool, true, false, true≢false, cond, not}
use mathlib.Core.Option.{Option, none, some}
use native.Mathlib.Omega.{arith}
use borrow.Author.Tests.{not-true}
use lib.Dec.{eqb}
use lib.ListN.{length, get_or, length-map}
use lib.Pow.{pow_mono}
use Rattle.records.specs.Bytes.{up_from, byte_pair, field}
use Rattle.records.specs.Job.{Candidate, Job}
use Rattle.records.specs.Service.{counts_of}
use Rattle.records.specs.Claims.{Below, PartsGood}
use Rattle.records.proofs.Laws.Accepted.{below-of-all}
use Rattle.records.proofs.Laws.Bytes.{all-below, length-tabulate, get_d_tabulate}
use Rattle.records.proofs.Laws.Counts.{counts_within-facts, counts_within-counts_of}
use Rattle.records.proofs.Laws.Job.{length-field}
use Rattle.engine.specs.Choice.{first, found, or_zero}
use Rattle.engine.specs.Rectify.{vector_loop}
use Rattle.engine.specs.Support.{giving, shared, sharing, sound, candidate_nets, chosen, cost, table_of, note_of, notes_of}
use Rattle.engine.specs.Verdict.{Ruling, patch, unfixable, blind, blind_reading, ruling, four_bytes, judge_sheet, longest_judge, patch_sheet, choose_sheet, longest_choose}
use Rattle.engine.specs.Reply.{judgement_of, choice_of}
use Rattle.engine.specs.declared.judging.Judgement.TheVariants as Judgement
use Rattle.engine.specs.declared.choosing.Choice.TheVariants as Choice
use Rattle.engine.proofs.Laws.Choice.{Least, first-least, first-none-below, found_none, none_or_some, not-both, true-or-false}
use Rattle.engine.proofs.Laws.Support.{sound-iff-found, length-table_of, length-subset-le}
use Rattle.engine.proofs.Laws.Best.{chosen-sound}
use Rattle.engine.proofs.Laws.Loop.{length-vectors-le}
use Rattle.engine.proofs.Laws.Sheet.{length-unfixable, length-blind, length-patch_bytes, patch_bytes-sheet}

-- ---- the three cases

pick : Option ℕ → Bool → List ℕ → ℕ → Ruling
pick o b p r = elim o [ some x ↦ unfixable x | none ↦ elim b [ true ↦ patch p | false ↦ blind r ] ]

pick-unfixable : (o : Option ℕ) (b : Bool) (p : List ℕ) (r x : ℕ) → pick o b p r ≡ unfixable x → o ≡ some x
unfolding pick
pick-unfixable (some y) b p r x e = cc
pick-unfixable none true p r x e = let z : ◌≡◌ {A = ℕ} 0 1 = cc in let f : ⊥ = omega arith in absurd f
pick-unfixable none false p r x e = let z : ◌≡◌ {A = ℕ} 0 1 = cc in let f : ⊥ = omega arith in absurd f

pick-patch : (o : Option ℕ) (b : Bool) (p : List ℕ) (r : ℕ) (is : List ℕ) → pick o b p r ≡ patch is
    → (o ≡ none) × (b ≡ true) × (is ≡ p)
unfolding pick
pick-patch none true p r is e = (refl, refl, cc)
pick-patch none false p r is e = let z : ◌≡◌ {A = ℕ} 0 1 = cc in let f : ⊥ = omega arith in absurd f
pick-patch (some y) b p r is e = let z : ◌≡◌ {A = ℕ} 0 1 = cc in let f : ⊥ = omega arith in absurd f

pick-blind : (o : Option ℕ) (b : Bool) (p : List ℕ) (r q : ℕ) → pick o b p r ≡ blind q → (o ≡ none) × (b ≡ false) × (q ≡ r)
unfolding pick
pick-blind none false p r q e = (refl, refl, cc)
pick-blind none true p r q e = let z : ◌≡◌ {A = ℕ} 0 1 = cc in let f : ⊥ = omega arith in absurd f
pick-blind (some y) b p r q e = let z : ◌≡◌ {A = ℕ} 0 1 = cc in let f : ⊥ = omega arith in absurd f

module _ (j : Job) where
  ruling-pick : ruling j ≡ pick (vector_loop j).stuck (sound j (candidate_nets j)) (chosen j) (blind_reading j)
  unfolding ruling pick
  ruling-pick = refl

  pub ruling-unfixable : (x : ℕ) → (vector_loop j).stuck ≡ some x → ruling j ≡ unfixable x
  unfolding pick
  ruling-unfixable x e = ruling-pick ∙ rw e

  pub ruling-patch : (vector_loop j).stuck ≡ none → sound j (candidate_nets j) ≡ true → ruling j ≡ patch (chosen j)
  unfolding pick
  ruling-patch e s = ruling-pick ∙ rw (e, s)

  pub ruling-blind : (vector_loop j).stuck ≡ none → sound j (candidate_nets j) ≡ false → ruling j ≡ blind (blind_reading j)
  unfolding pick
  ruling-blind e s = ruling-pick ∙ rw (e, s)

  pub unfixable-stuck : (x : ℕ) → ruling j ≡ unfixable x → (vector_loop j).stuck ≡ some x
  unfixable-stuck x e = pick-unfixable _ (sound j (candidate_nets j)) (chosen j) (blind_reading j) x (sym ruling-pick ∙ e)

  pub patch-chosen : (is : List ℕ) → ruling j ≡ patch is
      → ((vector_loop j).stuck ≡ none) × (sound j (candidate_nets j) ≡ true) × (is ≡ chosen j)
  patch-chosen is e = pick-patch _ _ (chosen j) (blind_reading j) is (sym ruling-pick ∙ e)

  pub blind-reading : (r : ℕ) → ruling j ≡ blind r
      → ((vector_loop j).stuck ≡ none) × (sound j (candidate_nets j) ≡ false) × (r ≡ blind_reading j)
  blind-reading r e = pick-blind _ _ (chosen j) (blind_reading j) r (sym ruling-pick ∙ e)

-- ---- judge and choose

module _ (j : Job) where
  abbrev vectors : List ℕ
  vectors = (vector_loop j).vectors

  pub judged-unfixable : {x : ℕ} → (vector_loop j).stuck ≡ some x
      → (judgement_of j ≡ some (Judgement.Unfixable (record { input = x }))) × (judge_sheet j ≡ field 20 (four_bytes x) ++ field 19 vectors)
  unfolding judgement_of judge_sheet
  judged-unfixable e = (rw (judgement_of, e), rw (judge_sheet, e))

  pub judged-fixable : (vector_loop j).stuck ≡ none → (judgement_of j ≡ some Judgement.Fixable) × (judge_sheet j ≡ field 19 vectors)
  unfolding judgement_of judge_sheet
  judged-fixable e = (rw (judgement_of, e), rw (judge_sheet, e))

  pub chosen-patch : sound j (candidate_nets j) ≡ true
      → (choice_of j ≡ some (Choice.Patch (record { cost = cost j (chosen j) }))) × (choose_sheet j ≡ patch_sheet j (chosen j))
  unfolding choice_of choose_sheet
  chosen-patch s = (rw (choice_of, s), rw (choose_sheet, s))

  pub chosen-blind : sound j (candidate_nets j) ≡ false
      → (choice_of j ≡ some (Choice.Blind (record { reading = blind_reading j }))) × (choose_sheet j ≡ field 21 (byte_pair (blind_reading j)))
  unfolding choice_of choose_sheet
  chosen-blind s = (rw (choice_of, s), rw (choose_sheet, s))

-- ---- the blind reading

pub record LeastBlind (j : Job) (r : ℕ) : Type 0 where
  pub below : r < 2 ^ length (candidate_nets j)
  pub none-shared : shared j (candidate_nets j) r ≡ none
  pub smaller : (q : ℕ) → q < r → shared j (candidate_nets j) q ≡ none → ⊥

not-of-none : (o : Option ℕ) → o ≡ none → not (found o) ≡ true
unfolding found
not-of-none o e = rw e

module _ (j : Job) where
  lacks : ℕ → Bool
  lacks r = not (found (shared j (candidate_nets j) r))

  least-lacks : (r : ℕ) → Least lacks (2 ^ length (candidate_nets j)) r → LeastBlind j r
  unfolding lacks
  least-lacks r l =
      record {
        below = l.below;
        none-shared = found_none _ (not-true _ l.holds);
        smaller = λ q h e. not-both (not-of-none _ e) (l.smaller q h);
      }

  -- where all candidates together are not sound, the reading given is the least that lacks a vector
  pub blind-least : sound j (candidate_nets j) ≡ false → LeastBlind j (blind_reading j)
  unfolding lacks blind_reading or_zero
  blind-least e = go (first lacks (up_from 0 (2 ^ length (candidate_nets j)))) refl
    where
      go : (o : Option ℕ) → first lacks (up_from 0 (2 ^ length (candidate_nets j))) ≡ o → LeastBlind j (or_zero o)
      go (some r) q = least-lacks r (first-least lacks (2 ^ length (candidate_nets j)) r q)
      go none q =
          absurd
          (not-both
          ((sound-iff-found j (candidate_nets j)).1
          (λ r h. ⊎_elim (λ t. t) (λ t. absurd (not-both (ap not t) (first-none-below lacks (2 ^ length (candidate_nets j)) q r h))) (true-or-false (found (shared j (candidate_nets j) r)))))
          e)

  pub blind-unique : (r q : ℕ) → LeastBlind j r → LeastBlind j q → r ≡ q
  blind-unique r q a b =
      let l : (q < r → ⊥) = λ h. a.smaller q h b.none-shared in
      let m : (r < q → ⊥) = λ h. b.smaller r h a.none-shared in
      omega arith

  pub unsound-of-blind : (r : ℕ) → LeastBlind j r → sound j (candidate_nets j) ≡ false
  unfolding found
  unsound-of-blind r l =
      ⊎_elim
      (λ s. absurd (true≢false (sym ((sound-iff-found j (candidate_nets j)).0 s r l.below) ∙ ap found l.none-shared)))
      (λ s. s)
      (true-or-false (sound j (candidate_nets j)))

-- ---- the notes

module _ (j : Job) (is : List ℕ) where
  pub length-notes_of : length (notes_of j is) ≡ 2 ^ length is
  unfolding notes_of
  length-notes_of = length-tabulate (2 ^ length is) (note_of j is)

  pub get_or-notes_of : (r : ℕ) → r < 2 ^ length is → get_or (notes_of j is) r 0 ≡ note_of j is r
  unfolding notes_of
  get_or-notes_of r h = get_d_tabulate (2 ^ length is) (note_of j is) r 0 h

  note_of-lt : (r : ℕ) → note_of j is r < 3
  unfolding note_of
  note_of-lt r = go (eqb (length (giving j is r)) 0) (eqb (length (sharing j is r)) 1)
    where
      go : (a b : Bool) → cond a 0 (cond b 1 2) < 3
      go true b = omega arith
      go false true = omega arith
      go false false = omega arith

  pub notes-below : Below 3 (notes_of j is)
  notes-below =
      let ns = notes_of j is in
      below-of-all 3 (omega arith) ns
      (all-below 3 ns (λ r h. rw (get_or-notes_of r (omega (arith, length-notes_of))) (note_of-lt r)))

-- ---- the sheets of an accepted job

module _ (j : Job) (g : PartsGood j) where
  targets-le : j.targets ≤ 4
  unfolding counts_of
  targets-le = (counts_within-facts (counts_of j) (counts_within-counts_of j ∙ g.counts)).targets

  candidates-le : length (candidate_nets j) ≤ 10
  unfolding counts_of candidate_nets
  candidates-le =
      omega (
        arith,
        length-map j.candidates (λ (c : Candidate). c.net),
        (counts_within-facts (counts_of j) (counts_within-counts_of j ∙ g.counts)).candidates,
      )

  pub vectors-le : length (vector_loop j).vectors ≤ 16
  vectors-le = omega (arith, length-vectors-le j, pow_mono targets-le)

  -- judge's has at most 26 bytes
  pub longest-judge : length (judge_sheet j) ≤ longest_judge
  longest-judge =
      ⊎_elim
      (λ (e : (vector_loop j).stuck ≡ none). rw (judged-fixable j e).1 (omega (arith, vectors-le, length-field 19 (vector_loop j).vectors)))
      (λ r. rw (judged-unfixable j r.1).1 (omega (arith, vectors-le, length-unfixable r.0 (vector_loop j).vectors)))
      (none_or_some (vector_loop j).stuck)

  pub chosen-le : sound j (candidate_nets j) ≡ true → length (chosen j) ≤ 10
  chosen-le s = omega (arith, candidates-le, length-subset-le (candidate_nets j) (chosen j) (chosen-sound j s).1)

  -- choose's at most 2,084
  pub longest-choose : length (choose_sheet j) ≤ longest_choose
  longest-choose =
      ⊎_elim
      (λ s.
      let is = chosen j in
      let l = chosen-le s in
      let m : 2 ^ length is ≤ 1024 = pow_mono {j = 10} l in
      rw ((chosen-patch j s).1, ← patch_bytes-sheet j is refl refl refl)
      (omega (arith, length-patch_bytes is (table_of j is) (cost j is) (notes_of j is), length-table_of j is, length-notes_of j is)))
      (λ s. rw (chosen-blind j s).1 (omega (arith, length-blind (blind_reading j))))
      (true-or-false (sound j (candidate_nets j)))
