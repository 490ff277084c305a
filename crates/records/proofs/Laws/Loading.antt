-- Laws of load: what it gives from what read gives, and the parts of a good job. Assumes nothing.
use Prim.Native.Nat.{ℕ, ◌≤◌}
use mathlib.Core.Path.{◌≡◌, refl, sym, ◌∙◌, ap}
use mathlib.Core.List.{List, map}
use mathlib.Core.Bool.{true}
use native.Mathlib.Omega.{arith}
use lib.ListN.{length, replicate, length-map, length-replicate}
use Rattle.records.specs.Bytes.{placed}
use Rattle.records.specs.Job.{Candidate, Job, job_of}
use Rattle.records.specs.Refusal.{first_failing, job_refusal}
use Rattle.records.specs.Service.{number_of, Places, struct_of, no_gates, side_counts_of, counts_of, side_roomy, roomy, filled_side, filled, read_number, read_told, read_reply, read_places, empty_places, Loaded, parts_in, load_told, loaded, netlist_from, job_from}
use Rattle.records.specs.Inner.{Within}
use Rattle.records.specs.Claims.{PartsGood}
use Rattle.records.specs.Parts.{PartsOf}
use Rattle.records.specs.declared.job.Counts.{Counts}
use Rattle.records.specs.declared.refusal.Refusal.{Refusal}
use Rattle.std.specs.Prelude.{Ok, Err}
use borrow.Author.Tests.{ne_eqb}
use Rattle.records.proofs.Laws.Reply.{refusal-number, ok-number, ok-counts, err-number}
use Rattle.records.specs.declared.loading.JobParts.{JobParts}
use Rattle.records.proofs.Laws.Bytes.{length-placed}
use Rattle.records.proofs.Laws.Counts.{counts_within-facts, counts_within-counts_of}
use Rattle.records.proofs.Laws.RoundTrip.{FourEach}
use Rattle.records.proofs.Laws.Accepted.{read-accepts, read-counts, read-places, four-job_of, job_from-filled}
use Rattle.records.proofs.Laws.Columns.{length-no_gates}

-- ---- load

module _ (s : List ℕ) where
  pub load-refused : (e : Refusal) → read_told (Err e) ≡ read_reply empty_places s → load_told (Err e) ≡ loaded s
  unfolding loaded read_reply read_places
  load-refused e f =
      let n : read_number empty_places s ≡ number_of e = err-number _ e f in
      rw (n, ne_eqb (number_of e) 0 (refusal-number e))

  pub load-accepted : (c : Counts) (p : Places) → read_told (Ok c) ≡ read_reply empty_places s → p ≡ read_places empty_places s
      → load_told (Ok (parts_in c p)) ≡ loaded s
  unfolding loaded
  load-accepted c p e f = rw (f, ok-counts _ c e, ok-number _ c e)

-- ---- its number

room-empty : roomy empty_places ≡ true
unfolding roomy side_roomy empty_places no_gates
room-empty = refl

number-empty : (s : List ℕ) → read_number empty_places s ≡ job_refusal s
unfolding read_number job_refusal first_failing
number-empty s = rw room-empty

pub loaded-number : (s : List ℕ) → (loaded s).number ≡ job_refusal s
unfolding loaded read_reply
loaded-number s = number-empty s

-- what load answers, by the check of the job's bytes
pub loaded-refused : (s : List ℕ) (e : Refusal) → load_told (Err e) ≡ loaded s → job_refusal s ≡ number_of e
loaded-refused s e f = sym (loaded-number s) ∙ sym (ap (λ (x : Loaded). x.number) f)

pub loaded-accepted : (s : List ℕ) (p : JobParts) → load_told (Ok p) ≡ loaded s → (job_refusal s ≡ 0) × (p ≡ (loaded s).parts)
loaded-accepted s p f = (sym (loaded-number s) ∙ sym (ap (λ (x : Loaded). x.number) f), ap (λ (x : Loaded). x.parts) f)

-- ---- the parts of a good job

-- a list of length n with no more elements at its start
length_front : {A : Type 0} (n : ℕ) (d xs : List A) → length d ≡ n → length xs ≤ n → length (placed d 0 xs) ≡ n
length_front n d xs e h = length-placed d 0 xs (omega (arith, e, h)) ∙ e

module _ (j : Job) (w : FourEach j) (g : PartsGood j) (c : Counts) (e : c ≡ counts_of j) where
  within : Within (counts_of j)
  within = counts_within-facts (counts_of j) (counts_within-counts_of j ∙ g.counts)

  -- the places filled with the job hold it
  held : job_from (counts_of j) (filled empty_places j) ≡ j
  held = job_from-filled empty_places j w

  filled-parts : PartsOf j (parts_in c (filled empty_places j))
  unfolding parts_in counts_of side_counts_of filled filled_side empty_places job_from netlist_from
  filled-parts =
      let numbers : (n : ℕ) (xs : List ℕ) → length xs ≤ n → length (placed (replicate n 0) 0 xs) ≡ n =
      λ n xs. length_front n (replicate n 0) xs (length-replicate n 0) in
      record {
        good = g;
        counts = e;
        old = ap (λ (i : Job). i.old.gates) held;
        outputs = ap (λ (i : Job). i.old.outputs) held;
        golden = ap (λ (i : Job). i.golden.gates) held;
        goldens = ap (λ (i : Job). i.golden.outputs) held;
        candidates = ap (λ (i : Job). i.candidates) held;
        old-long =
            length_front 400 no_gates (map struct_of j.old.gates) length-no_gates
            (omega (arith, within.old.gates, length-map j.old.gates struct_of));
        outputs-long = numbers 32 j.old.outputs within.old.outputs;
        golden-long =
            length_front 400 no_gates (map struct_of j.golden.gates) length-no_gates
            (omega (arith, within.golden.gates, length-map j.golden.gates struct_of));
        goldens-long = numbers 32 j.golden.outputs within.golden.outputs;
        nets-long =
            numbers 10 (map (λ (x : Candidate). x.net) j.candidates)
            (omega (arith, within.candidates, length-map j.candidates (λ (x : Candidate). x.net)));
        weights-long =
            numbers 10 (map (λ (x : Candidate). x.weight) j.candidates)
            (omega (arith, within.candidates, length-map j.candidates (λ (x : Candidate). x.weight)));
      }

pub loaded-parts : (s : List ℕ) → job_refusal s ≡ 0 → PartsOf (job_of s) (loaded s).parts
unfolding loaded
loaded-parts s e =
    let n = number-empty s ∙ e in
    let u = (read-accepts empty_places s).0 n in
    rw (read-places empty_places s n)
    (filled-parts (job_of s) (four-job_of s) u.2 _ (read-counts empty_places s n))
