-- Laws of a job loaded by records: its candidates' nets are small, what its check says, and an accepted job's parts are the job's.
-- Assumes nothing.
use Prim.Native.Nat.{ℕ, zero, suc, ◌+◌, ◌<◌}
use mathlib.Core.Path.{◌≡◌, refl, sym, ◌∙◌, subst}
use mathlib.Core.List.{List, [], ◌∷◌, ◌++◌}
use mathlib.Core.Bool.{true}
use borrow.Author.Tests.{eq-eqb}
use native.Mathlib.Omega.{arith}
use lib.Dec.{ltb, eqb}
use lib.ListN.{length, drop, replicate}
use Rattle.records.specs.Bytes.{all, placed}
use Rattle.records.specs.Claims.{Below}
use Rattle.records.specs.Job.{job_of}
use Rattle.records.specs.Parts.{PartsOf}
use Rattle.records.specs.Refusal.{old_nets, job_refusal}
use Rattle.records.specs.Service.{number_of, read_number, read_reply, read_places, empty_places, filled, parts_in, load_told, loaded}
use Rattle.records.specs.declared.refusal.Refusal.{Refusal}
use Rattle.std.specs.Prelude.{Ok, Err}
use Rattle.records.specs.declared.loading.JobParts.{JobParts}
use Rattle.records.proofs.Laws.Accepted.{below-of-all}
use Rattle.records.proofs.Laws.Reply.{refusal-number}
use Rattle.records.proofs.Laws.Loading.{loaded-number, loaded-refused, loaded-accepted, loaded-parts}
use Rattle.engine.specs.Support.{candidate_nets}
use Rattle.engine.specs.Inner.Miter.{SomeParts}
use Rattle.engine.proofs.Laws.Choice.{all-below-more}
use Rattle.engine.proofs.Laws.Miter.{old_nets-le, miter-nets, candidates-below}

-- ---- the candidates' nets are small

pub below-append : (n : ℕ) (xs ys : List ℕ) → Below n xs → Below n ys → Below n (xs ++ ys)
below-append n [] ys b d i = d i
below-append n (x ∷ xs) ys b d zero = b zero
below-append n (x ∷ xs) ys b d (suc i) = below-append n xs ys (λ k. b (suc k)) d i

below-drop : (n k : ℕ) (xs : List ℕ) → Below n xs → Below n (drop k xs)
below-drop n zero xs b = b
below-drop n (suc k) [] b = b
below-drop n (suc k) (x ∷ xs) b = below-drop n k xs (λ i. b (suc i))

pub below-zeros : (n k : ℕ) → 0 < n → Below n (replicate k 0)
below-zeros n zero h i = h
below-zeros n (suc k) h zero = h
below-zeros n (suc k) h (suc i) = below-zeros n k h i

loaded-places : (s : List ℕ) → job_refusal s ≡ 0 → (loaded s).parts.nets ≡ placed (replicate 10 0) 0 (candidate_nets (job_of s))
unfolding loaded parts_in read_places read_reply empty_places filled candidate_nets
loaded-places s e =
    let f : eqb (read_number empty_places s) 0 ≡ true = eq-eqb (read_number empty_places s) 0 (loaded-number s ∙ e) in
    rw f refl

pub loaded-nets : (s : List ℕ) → job_refusal s ≡ 0 → Below 1024 (loaded s).parts.nets
unfolding placed
loaded-nets s e =
    let j = job_of s in
    let p = loaded-parts s e in
    let is = candidate_nets j in
    let small : all (λ i. ltb i 1024) is ≡ true =
    all-below-more (old_nets j) 1024 (omega (arith, old_nets-le j p.good, miter-nets j p.good)) is (candidates-below j p.good) in
    rw (loaded-places s e)
    (below-append 1024 is (drop (0 + length is) (replicate 10 0)) (below-of-all 1024 (omega arith) is small)
    (below-drop 1024 (0 + length is) (replicate 10 0) (below-zeros 1024 10 (omega arith))))

-- ---- what load answers, and the parts of an accepted job

module _ (s : List ℕ) (x : Refusal) (e : load_told (Err x) ≡ loaded s) where
  pub refused-number : job_refusal s ≡ number_of x
  refused-number = loaded-refused s x e

  pub refused-job : job_refusal s ≡ 0 → ⊥
  refused-job z = refusal-number x (sym refused-number ∙ z)

module _ (s : List ℕ) {r : JobParts} (e : load_told (Ok r) ≡ loaded s) where
  pub accepted-job : job_refusal s ≡ 0
  accepted-job = (loaded-accepted s r e).0

  pub accepted-parts : PartsOf (job_of s) r
  accepted-parts = subst (PartsOf (job_of s)) (sym (loaded-accepted s r e).1) (loaded-parts s accepted-job)

  pub some-parts : SomeParts r
  some-parts = record { job = job_of s; parts = accepted-parts }

  pub nets-small : Below 1024 r.nets
  nets-small = subst (λ (x : JobParts). Below 1024 x.nets) (sym (loaded-accepted s r e).1) (loaded-nets s accepted-job)
