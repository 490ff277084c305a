-- Laws of a sheet read beside a loaded job's parts: its number, and of an accepted sheet the support. Assumes nothing.
use Prim.Native.Nat.{ℕ, ◌-◌, ◌≤◌}
use mathlib.Core.Path.{◌≡◌, refl, sym, ◌∙◌, ap, subst}
use mathlib.Core.List.{List, ◌++◌}
use mathlib.Core.Bool.{true}
use native.Mathlib.Omega.{arith}
use borrow.Author.Tests.{le-leb, eq-eqb}
use lib.Dec.{ltb, eqb}
use lib.ListN.{length, replicate, length-append, length-replicate}
use Rattle.records.specs.Bytes.{all}
use Rattle.records.specs.Job.{Candidate, Job}
use Rattle.records.specs.Refusal.{old_nets, candidate_good, first_failing}
use Rattle.records.specs.Sheet.{patch_of, is_candidate, sheet_tests}
use Rattle.records.specs.Service.{counts_of, sheet_roomy, sheet_number, sheet_reply}
use Rattle.records.specs.Claims.{Below}
use Rattle.records.specs.Parts.{PartsOf}
use Rattle.records.specs.Inner.{Within}
use Rattle.records.specs.declared.job.Counts.{Counts}
use Rattle.records.specs.declared.loading.JobParts.{JobParts}
use Rattle.records.specs.Service.{SheetReply}
use Rattle.records.proofs.Laws.Accepted.{below-of-all}
use Rattle.records.proofs.Laws.Bytes.{and_left, and_both}
use Rattle.engine.specs.Support.{candidate_nets}
use Rattle.engine.specs.Inner.Plan.{NetsRead}
use Rattle.engine.proofs.Laws.Choice.{all_true, all-of-members, all-below-more}
use Rattle.engine.proofs.Laws.Loaded.{below-append, below-zeros}
use Rattle.engine.proofs.Laws.Miter.{job-within, old_nets-le, miter-nets, candidates-good}
use Rattle.engine.proofs.Laws.SheetRead.{ReadSheet, sheet-number, read-sheet}
use Rattle.engine.proofs.Laws.Support.{candidate-passes}

module _ {j : Job} {parts : JobParts} (q : PartsOf j parts) (p : List ℕ) {s : SheetReply}
    (e : s ≡ sheet_reply parts.counts.targets parts.counts.candidates parts.nets parts.weights p) where
  few : Within (counts_of j)
  few = job-within j q.good

  -- the same with the job's own counts
  reply-job : s ≡ sheet_reply j.targets (length j.candidates) parts.nets parts.weights p
  unfolding counts_of
  reply-job = e ∙ ap (λ (c : Counts). sheet_reply c.targets c.candidates parts.nets parts.weights p) q.counts

  room : sheet_roomy j.targets (length j.candidates) parts.nets parts.weights ≡ true
  unfolding sheet_roomy counts_of
  room =
      let n : length j.candidates ≤ length parts.nets = omega (arith, few.candidates, q.nets-long) in
      let w : length j.candidates ≤ length parts.weights = omega (arith, few.candidates, q.weights-long) in
      and_both _ _
      (and_both _ _ (and_both _ _ (le-leb _ _ few.targets) (le-leb _ _ few.candidates)) (le-leb _ _ n))
      (le-leb _ _ w)

  number-job : sheet_number j.targets (length j.candidates) parts.nets parts.weights p
      ≡ first_failing (sheet_tests j.targets j.candidates p)
  unfolding sheet_number first_failing
  number-job = rw (room, q.candidates)

  pub parts-number : first_failing (sheet_tests j.targets j.candidates p) ≡ s.number
  parts-number =
      sym number-job
      ∙ sym (sheet-number j.targets (length j.candidates) parts.nets parts.weights p)
      ∙ ap (λ (x : SheetReply). x.number) (sym reply-job)

  module _ (z : s.number ≡ 0) where
    pub parts-sheet : ReadSheet j.candidates p s
    parts-sheet =
        subst (λ (cs : List Candidate). ReadSheet cs p s) q.candidates
        (read-sheet j.targets (length j.candidates) parts.nets parts.weights p reply-job z)

    pub parts-few : s.support.len ≤ 10
    unfolding counts_of
    parts-few = omega (arith, parts-sheet.few, few.candidates)

    -- the support's nets are candidates: no target leads to them
    pub parts-good : all (candidate_good j) (patch_of p).support ≡ true
    unfolding candidate_nets
    parts-good =
        all-of-members (candidate_good j) (patch_of p).support
        (λ i m.
        candidate-passes (candidate_good j) j.candidates (candidates-good j q.good) i
        (all_true (is_candidate j.candidates) (patch_of p).support parts-sheet.candidates i m))

    -- .. and they are old nets
    parts-old : all (λ i. ltb i (old_nets j)) (patch_of p).support ≡ true
    unfolding candidate_good
    parts-old =
        all-of-members (λ i. ltb i (old_nets j)) (patch_of p).support
        (λ i m. and_left (ltb i (old_nets j)) _ (all_true (candidate_good j) (patch_of p).support parts-good i m))

    -- what stands in the support's places
    support-places : s.support ≡ record {
      nets = (patch_of p).support ++ replicate (10 - length (patch_of p).support) 0;
      len = length (patch_of p).support;
    }
    unfolding sheet_reply
    support-places =
        let f : eqb (sheet_number j.targets (length j.candidates) parts.nets parts.weights p) 0 ≡ true =
        eq-eqb _ 0 (number-job ∙ parts-number ∙ z) in
        ap (λ (x : SheetReply). x.support) reply-job ∙ rw f refl

    long : length s.support.nets ≡ 10
    long =
        let is = (patch_of p).support in
        let n : length is ≤ 10 = rw support-places at parts-few in
        rw support-places
        (omega (arith, length-append is (replicate (10 - length is) 0), length-replicate {A = ℕ} (10 - length is) 0))

    below : Below 1024 s.support.nets
    below =
        let is = (patch_of p).support in
        let small : all (λ i. ltb i 1024) is ≡ true =
        all-below-more (old_nets j) 1024 (omega (arith, old_nets-le j q.good, miter-nets j q.good)) is parts-old in
        rw support-places
        (below-append 1024 is (replicate (10 - length is) 0) (below-of-all 1024 (omega arith) is small)
        (below-zeros 1024 (10 - length is) (omega arith)))

    pub parts-read : NetsRead s.support
    parts-read = record { below = below; few = parts-few }
