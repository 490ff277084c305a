-- What callers of load know of a good job's parts; proofs/Theorems.antt proves the claim. Assumes nothing.
--
--   PartsOf j p       the parts p are those of the good job j
--   LoadGiven         load gives the number of read into places with room, and the parts of an accepted job
use Rattle.std.specs.Prelude.{ℕ, ◌≡◌, List, length, take}
use Rattle.records.specs.Job.{Job, job_of}
use Rattle.records.specs.Refusal.{max_gates, max_outputs, max_candidates, job_refusal}
use Rattle.records.specs.Service.{counts_of, gates_in, candidates_from, loaded}
use Rattle.records.specs.Claims.{PartsGood}
use Rattle.records.specs.declared.loading.JobParts.{JobParts}

pub record PartsOf (j : Job) (p : JobParts) : Type 0 where
  pub good : PartsGood j
  pub counts : p.counts ≡ counts_of j
  pub old : gates_in (length j.old.gates) p.old ≡ j.old.gates
  pub outputs : take (length j.old.outputs) p.outputs ≡ j.old.outputs
  pub golden : gates_in (length j.golden.gates) p.golden ≡ j.golden.gates
  pub goldens : take (length j.golden.outputs) p.goldens ≡ j.golden.outputs
  pub candidates : candidates_from (length j.candidates) p.nets p.weights ≡ j.candidates
  -- lengths of the arrays
  pub old-long : length p.old ≡ max_gates
  pub outputs-long : length p.outputs ≡ max_outputs
  pub golden-long : length p.golden ≡ max_gates
  pub goldens-long : length p.goldens ≡ max_outputs
  pub nets-long : length p.nets ≡ max_candidates
  pub weights-long : length p.weights ≡ max_candidates

abbrev pub LoadGiven : Type 0
LoadGiven = (s : List ℕ) → ((loaded s).number ≡ job_refusal s) × (job_refusal s ≡ 0 → PartsOf (job_of s) (loaded s).parts)
