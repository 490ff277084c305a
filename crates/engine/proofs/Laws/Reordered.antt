-- Laws of a job whose output lists are both put in one new order: it has the vectors, supports, tables and sheets of the job as it was.
-- Only `rectifies` looks at outputs, and two rows of outputs agree exactly when they agree in the new order. Assumes nothing.
use Prim.Native.Nat.{ℕ, zero, suc, ◌^◌, ◌<◌}
use mathlib.Core.Path.{◌≡◌, refl, sym, ◌∙◌, ap, subst, fun_ext}
use mathlib.Core.Logic.{◌↔◌, ⊎_elim}
use mathlib.Core.List.{List, [], ◌∷◌, ◌++◌, map, map-map}
use mathlib.Core.Bool.{Bool, true, false, cond, not}
use mathlib.Core.Option.{Option, some}
use native.Mathlib.Omega.{arith}
use borrow.Author.Tests.{eq-eqb}
use lib.Dec.{ltb, eqb}
use lib.ListN.{length, get_or, length-map, get_or-map}
use lib.Seq.{ext_get_or}
use Rattle.records.specs.Bytes.{up_from, tabulate, all, byte_pair, field}
use Rattle.records.specs.Netlist.{net_at, values}
use Rattle.records.specs.Job.{Job}
use Rattle.records.specs.Refusal.{side_counts_good, counts_good, netlists_good, old_nets, golden_nets, outputs_good, candidate_good, candidates_good}
use Rattle.records.specs.Claims.{PartsGood}
use Rattle.records.proofs.Laws.Bytes.{all-below}
use Rattle.engine.specs.Choice.{any, keep, first, found, or_zero}
use Rattle.engine.specs.Eval.{bits, all_inputs, all_vectors, old_values, old_outputs, golden_outputs}
use Rattle.engine.specs.Fit.{led, gate_indices, new_free_gate, new_free_net, trees}
use Rattle.engine.specs.Rectify.{rectifies, unrectified, Listed, rounds, vector_loop}
use Rattle.engine.specs.Support.{reading, giving, shared, sound, table_of, sharing, note_of, notes_of, candidate_nets, subsets, cost, patch_gates, better, best_of, chosen}
use Rattle.engine.specs.Verdict.{blind_reading, judge_sheet, patch_sheet, choose_sheet}
use Rattle.engine.specs.Reply.{judgement_of, choice_of}
use Rattle.engine.specs.declared.choosing.Choice.TheVariants as Choice
use Rattle.engine.specs.Claims.{Rearranges, in_order, reordered}
use Rattle.engine.proofs.Laws.Choice.{true-or-false, all_get_d, none_or_some}
use Rattle.engine.proofs.Laws.FitNets.{get_or-defaults, place_of}
use Rattle.engine.proofs.Laws.Loop.{rounds-done, rounds-stuck, rounds-again}
use Rattle.engine.proofs.Laws.Miter.{old-outputs-below, golden-outputs-below, outputs-equal}
use Rattle.engine.proofs.Laws.Support.{rectifies-iff-outputs}
use Rattle.engine.proofs.Laws.Verdict.{judged-unfixable, judged-fixable, chosen-patch, chosen-blind}

-- ---- rows that agree

pub mapped_at : (f : ℕ → ℕ) (xs : List ℕ) (p : ℕ) → p < length xs → get_or (map f xs) p 0 ≡ f (get_or xs p 0)
mapped_at f xs p h = get_or-defaults (map f xs) p 0 (f 0) (omega (arith, length-map xs f)) ∙ get_or-map f xs p 0

-- two mapped lists are equal exactly when they agree at every place
places-agree : (f g : ℕ → ℕ) (xs ys : List ℕ) → length xs ≡ length ys
    → (map f xs ≡ map g ys) ↔ ((p : ℕ) → p < length xs → f (get_or xs p 0) ≡ g (get_or ys p 0))
places-agree f g xs ys l = (
  λ e p h. sym (mapped_at f xs p h) ∙ ap (λ (zs : List ℕ). get_or zs p 0) e ∙ mapped_at g ys p (omega arith),
  λ h.
      ext_get_or 0 (map f xs) (map g ys) (length-map xs f ∙ l ∙ sym (length-map ys g))
      (λ p m.
      let b : p < length xs = omega (arith, length-map xs f) in
      mapped_at f xs p b ∙ h p b ∙ sym (mapped_at g ys p (omega arith))),
)

-- .. and so in the new order, where each place comes once
order-agree : (f g : ℕ → ℕ) (xs ys ps : List ℕ) → length xs ≡ length ys → Rearranges (length xs) ps
    → (map f (in_order ps xs) ≡ map g (in_order ps ys)) ↔ (map f xs ≡ map g ys)
unfolding in_order
order-agree f g xs ys ps l w =
    let a : ℕ → ℕ = λ p. f (get_or xs p 0) in
    let b : ℕ → ℕ = λ p. g (get_or ys p 0) in
    let c : map f (in_order ps xs) ≡ map a ps = map-map f (λ p. get_or xs p 0) ps in
    let d : map g (in_order ps ys) ≡ map b ps = map-map g (λ p. get_or ys p 0) ps in (
      λ e.
          (places-agree f g xs ys l).1
          (λ p h.
          let r = place_of (w.each p h) in
          subst (λ (q : ℕ). a q ≡ b q) r.2 ((places-agree a b ps ps refl).0 (sym c ∙ e ∙ d) r.0 r.1)),
      λ e.
          c
          ∙ (places-agree a b ps ps refl).1
          (λ i h. (places-agree f g xs ys l).0 e (get_or ps i 0) (w.below i (omega (arith, w.many))))
          ∙ sym d,
    )

bool-of-iff : (a b : Bool) → (a ≡ true) ↔ (b ≡ true) → a ≡ b
bool-of-iff true b h = sym (h.0 refl)
bool-of-iff false true h = h.1 refl
bool-of-iff false false h = refl

-- ---- the job in the new order

module _ (ps : List ℕ) (j : Job) (g : PartsGood j) (w : Rearranges (length j.old.outputs) ps) where
  abbrev k : Job
  k = reordered ps j

  -- it is accepted too

  length-order : (xs : List ℕ) → length j.old.outputs ≡ length xs → length (in_order ps xs) ≡ length xs
  unfolding in_order
  length-order xs e = length-map ps (λ p. get_or xs p 0) ∙ w.many ∙ e

  order_below : (n : ℕ) (xs : List ℕ) → length j.old.outputs ≡ length xs → all (λ i. ltb i n) xs ≡ true
      → all (λ i. ltb i n) (in_order ps xs) ≡ true
  unfolding in_order
  order_below n xs e h =
      all-below n (in_order ps xs)
      (λ i l.
      let m : i < length ps = omega (arith, length-map ps (λ p. get_or xs p 0)) in
      rw (mapped_at (λ p. get_or xs p 0) ps i m)
      (all_get_d n xs h (get_or ps i 0) (rw (← e) (w.below i (omega (arith, w.many))))))

  counts_same : counts_good k ≡ counts_good j
  unfolding counts_good side_counts_good reordered
  counts_same = rw (length-order j.old.outputs refl, length-order j.golden.outputs (outputs-equal j g))

  outputs-good : outputs_good k ≡ true
  unfolding outputs_good old_nets golden_nets reordered
  outputs-good =
      let l = outputs-equal j g in
      rw (
        order_below (old_nets j) j.old.outputs refl (old-outputs-below j g),
        order_below (golden_nets j) j.golden.outputs l (golden-outputs-below j g),
        length-order j.old.outputs refl,
        length-order j.golden.outputs l,
      )
      (eq-eqb (length j.old.outputs) (length j.golden.outputs) l)

  pub reordered-good : PartsGood k
  unfolding netlists_good candidates_good candidate_good old_nets reordered
  reordered-good =
      record { counts = counts_same ∙ g.counts; gates = g.gates; outputs = outputs-good; candidates = g.candidates }

  -- ---- vectors that rectify

  outputs-iff : (x v : ℕ) → (old_outputs k x v ≡ golden_outputs k x) ↔ (old_outputs j x v ≡ golden_outputs j x)
  unfolding old_outputs golden_outputs old_values reordered
  outputs-iff x v =
      order-agree (net_at (old_values j x v)) (net_at (values (bits j.inputs x) j.golden.gates)) j.old.outputs
      j.golden.outputs
      ps
      (outputs-equal j g)
      w

  rectifies-same : rectifies k ≡ rectifies j
  rectifies-same =
      fun_ext (λ x. fun_ext (λ v.
      let a = rectifies-iff-outputs k x v in
      let b = rectifies-iff-outputs j x v in
      let i = outputs-iff x v in
      bool-of-iff (rectifies k x v) (rectifies j x v) (λ e. b.1 (i.0 (a.0 e)), λ e. a.1 (i.1 (b.0 e)))))

  -- ---- the vector loop

  unrectified-same : (vs : List ℕ) → unrectified k vs ≡ unrectified j vs
  unfolding unrectified
  unrectified-same vs = ap {B = ℕ → Bool} (λ (r : ℕ → ℕ → Bool) (x : ℕ). not (any (r x) vs)) rectifies-same

  taken-same : (vs : List ℕ) → first (unrectified k vs) (all_inputs k) ≡ first (unrectified j vs) (all_inputs j)
  unfolding all_inputs reordered
  taken-same vs = ap (λ (p : ℕ → Bool). first p (all_inputs j)) (unrectified-same vs)

  found-same : (x : ℕ) → first (rectifies k x) (all_vectors k) ≡ first (rectifies j x) (all_vectors j)
  unfolding all_vectors reordered
  found-same x = ap (λ (r : ℕ → ℕ → Bool). first (r x) (all_vectors j)) rectifies-same

  rounds-same : (n : ℕ) (vs : List ℕ) → rounds k n vs ≡ rounds j n vs
  unfolding rounds
  rounds-same zero vs = refl
  rounds-same (suc n) vs =
      ⊎_elim
      (λ e. rounds-done k n vs (taken-same vs ∙ e) ∙ sym (rounds-done j n vs e))
      (λ s.
      let x = s.0 in
      let e = s.1 in
      ⊎_elim
      (λ f. rounds-stuck k n vs x (taken-same vs ∙ e) (found-same x ∙ f) ∙ sym (rounds-stuck j n vs x e f))
      (λ t.
      rounds-again k n vs x t.0 (taken-same vs ∙ e) (found-same x ∙ t.1)
      ∙ rounds-same n (vs ++ (t.0 ∷ []))
      ∙ sym (rounds-again j n vs x t.0 e t.1))
      (none_or_some (first (rectifies j x) (all_vectors j))))
      (none_or_some (first (unrectified j vs) (all_inputs j)))

  loop-same : vector_loop k ≡ vector_loop j
  unfolding vector_loop reordered
  loop-same = rounds-same (2 ^ j.targets) (0 ∷ [])

  -- ---- supports, tables and notes

  shared_same : shared k ≡ shared j
  unfolding shared giving reading old_values all_inputs all_vectors reordered
  shared_same =
      ap {B = List ℕ → ℕ → Option ℕ}
      (λ (f : ℕ → ℕ → Bool) (is : List ℕ) (r : ℕ). first (λ v. all (λ x. f x v) (giving j is r)) (all_vectors j))
      rectifies-same

  sound-same : sound k ≡ sound j
  unfolding sound
  sound-same =
      ap {B = List ℕ → Bool}
      (λ (f : List ℕ → ℕ → Option ℕ) (is : List ℕ). all (λ r. found (f is r)) (up_from 0 (2 ^ length is)))
      shared_same

  table_same : (is : List ℕ) → table_of k is ≡ table_of j is
  unfolding table_of
  table_same is =
      ap (λ (f : List ℕ → ℕ → Option ℕ). tabulate (2 ^ length is) (λ r. or_zero (f is r))) shared_same

  notes-same : (is : List ℕ) → notes_of k is ≡ notes_of j is
  unfolding notes_of note_of sharing giving reading old_values all_inputs all_vectors reordered
  notes-same is =
      ap
      (λ (f : ℕ → ℕ → Bool).
      tabulate (2 ^ length is)
      (λ r.
      let xs = giving j is r in
      cond (eqb (length xs) 0) 0 (cond (eqb (length (keep (λ v. all (λ x. f x v) xs) (all_vectors j))) 1) 1 2)))
      rectifies-same

  -- ---- the choice

  gates-same : (is : List ℕ) → patch_gates k is ≡ patch_gates j is
  unfolding patch_gates trees gate_indices led new_free_net new_free_gate reordered
  gates-same is = rw (table_same is)

  better-same : (is ks : List ℕ) → better k is ks ≡ better j is ks
  unfolding better cost reordered
  better-same is ks = rw (gates-same is, gates-same ks)

  best-same : (is : List ℕ) (kss : List (List ℕ)) → best_of k is kss ≡ best_of j is kss
  unfolding best_of
  best-same is [] = refl
  best-same is (ks ∷ kss) = rw (better-same ks is) (best-same (cond (better j ks is) ks is) kss)

  chosen-same : chosen k ≡ chosen j
  unfolding chosen candidate_nets reordered
  chosen-same =
      let is = candidate_nets j in
      best-same is (keep (sound k) (subsets is))
      ∙ ap (λ (s : List ℕ → Bool). best_of j is (keep s (subsets is))) sound-same

  blind-same : blind_reading k ≡ blind_reading j
  unfolding blind_reading candidate_nets reordered
  blind-same =
      let is = candidate_nets j in
      ap
      (λ (f : List ℕ → ℕ → Option ℕ). or_zero (first (λ r. not (found (f is r))) (up_from 0 (2 ^ length is))))
      shared_same

  -- ---- the sheets and what is replied

  pub judge-sheet-same : judge_sheet k ≡ judge_sheet j
  unfolding judge_sheet
  judge-sheet-same = rw loop-same

  pub judgement-same : judgement_of k ≡ judgement_of j
  judgement-same =
      let q = ap (λ (l : Listed). l.stuck) loop-same in
      ⊎_elim
      (λ e. (judged-fixable k (q ∙ e)).0 ∙ sym (judged-fixable j e).0)
      (λ r. (judged-unfixable k (q ∙ r.1)).0 ∙ sym (judged-unfixable j r.1).0)
      (none_or_some (vector_loop j).stuck)

  all-sound-same : sound k (candidate_nets k) ≡ sound j (candidate_nets j)
  unfolding candidate_nets reordered
  all-sound-same = ap (λ (s : List ℕ → Bool). s (candidate_nets j)) sound-same

  patch-sheet-same : (is : List ℕ) → patch_sheet k is ≡ patch_sheet j is
  unfolding patch_sheet cost reordered
  patch-sheet-same is = rw (table_same is, notes-same is)

  pub choose-sheet-same : choose_sheet k ≡ choose_sheet j
  choose-sheet-same =
      ⊎_elim
      (λ e.
      (chosen-patch k (all-sound-same ∙ e)).1
      ∙ ap (patch_sheet k) chosen-same
      ∙ patch-sheet-same (chosen j)
      ∙ sym (chosen-patch j e).1)
      (λ e.
      (chosen-blind k (all-sound-same ∙ e)).1
      ∙ ap (λ (r : ℕ). field 21 (byte_pair r)) blind-same
      ∙ sym (chosen-blind j e).1)
      (true-or-false (sound j (candidate_nets j)))

  pub choice-same : choice_of k ≡ choice_of j
  unfolding cost reordered
  choice-same =
      ⊎_elim
      (λ e.
      (chosen-patch k (all-sound-same ∙ e)).0
      ∙ ap (λ (is : List ℕ). some (Choice.Patch (record { cost = cost j is }))) chosen-same
      ∙ sym (chosen-patch j e).0)
      (λ e.
      (chosen-blind k (all-sound-same ∙ e)).0
      ∙ ap (λ (r : ℕ). some (Choice.Blind (record { reading = r }))) blind-same
      ∙ sym (chosen-blind j e).0)
      (true-or-false (sound j (candidate_nets j)))
