-- The numbers 1 to 6 and the ranges behind them (document 01, "Nets and gates" and "Numbers given when a call is declined"; card 6 of
-- document 02). Assumes nothing.
--
--   max_inputs .. max_candidates, longest_job     the ranges' ends, and the length of the longest accepted job
--   Test, first_failing ts     a number and whether its test passes; the number of the first test of ts that fails, 0 if all pass
--   old_nets j, golden_nets j  how many nets each netlist has
--   side_counts_good, counts_good   number 3: every count is within its range
--   gate_good net g            gate g may drive net: a kind that exists and permits the count, used operands below net, unused slots 0
--   gates_good net gs          the same for each gate of gs, which drive net, net + 1, ..
--   netlists_good              number 4: both netlists' gates are good
--   outputs_good               number 5: output nets exist, and the two output counts are equal
--   ascending xs               each element is above the one before
--   candidate_good, candidates_good   number 6: candidates ascend, exist, and are neither targets nor led to by one
--   part_tests j               the tests of the parts j, numbers 3 to 6
--   job_tests s                the tests of the bytes s: number 2, then those of the job they hold
--   job_refusal s              the number of the first that fails, or 0
use Rattle.std.specs.Prelude.{ℕ, suc, ◌+◌, List, [], ◌∷◌, map, Bool, true, cond, ◌&&◌, length, leb, ltb, eqb}
use Rattle.records.specs.Bytes.{all}
use Rattle.records.specs.Gate.{Gate, permits, operands, unused}
use Rattle.records.specs.Netlist.{Netlist, net_at, fanout}
use Rattle.records.specs.Job.{Job, Candidate, job_whole, job_of}

abbrev pub max_inputs : ℕ
max_inputs = 20

abbrev pub max_targets : ℕ
max_targets = 4

abbrev pub max_gates : ℕ
max_gates = 400

abbrev pub max_outputs : ℕ
max_outputs = 32

abbrev pub max_candidates : ℕ
max_candidates = 10

abbrev pub longest_job : ℕ
longest_job = 8188

pub record Test : Type 0 where
  pub number : ℕ
  pub passes : Bool

unfoldable pub first_failing : List Test → ℕ
first_failing [] = 0
first_failing (t ∷ ts) = cond t.passes (first_failing ts) t.number

-- ---- number 3

unfoldable pub side_counts_good : Netlist → Bool
side_counts_good l = leb (length l.gates) max_gates && leb 1 (length l.outputs) && leb (length l.outputs) max_outputs

unfoldable pub counts_good : Job → Bool
counts_good j =
    leb j.inputs max_inputs
    && leb j.targets max_targets
    && side_counts_good j.old
    && side_counts_good j.golden
    && leb (length j.candidates) max_candidates

-- ---- number 4

unfoldable pub gate_good : ℕ → Gate → Bool
gate_good net g = permits g.kind g.count && all (λ i. ltb i net) (operands g) && all (eqb 0) (unused g)

unfoldable pub gates_good : ℕ → List Gate → Bool
gates_good net [] = true
gates_good net (g ∷ gs) = gate_good net g && gates_good (suc net) gs

unfoldable pub netlists_good : Job → Bool
netlists_good j = gates_good (j.inputs + j.targets) j.old.gates && gates_good j.inputs j.golden.gates

-- ---- number 5

unfoldable pub old_nets : Job → ℕ
old_nets j = j.inputs + j.targets + length j.old.gates

unfoldable pub golden_nets : Job → ℕ
golden_nets j = j.inputs + length j.golden.gates

unfoldable pub outputs_good : Job → Bool
outputs_good j =
    all (λ i. ltb i (old_nets j)) j.old.outputs
    && all (λ i. ltb i (golden_nets j)) j.golden.outputs
    && eqb (length j.old.outputs) (length j.golden.outputs)

-- ---- number 6

unfoldable pub ascending : List ℕ → Bool
ascending [] = true
ascending (x ∷ []) = true
ascending (x ∷ y ∷ xs) = ltb x y && ascending (y ∷ xs)

unfoldable pub candidate_good : Job → ℕ → Bool
candidate_good j i = ltb i (old_nets j) && eqb (net_at (fanout j.inputs j.targets j.old.gates) i) 0

unfoldable pub candidates_good : Job → Bool
candidates_good j =
    ascending (map (λ (c : Candidate). c.net) j.candidates) && all (λ (c : Candidate). candidate_good j c.net) j.candidates

-- ---- the first number that applies

unfoldable pub part_tests : Job → List Test
part_tests j =
    record { number = 3; passes = counts_good j }
    ∷ record { number = 4; passes = netlists_good j }
    ∷ record { number = 5; passes = outputs_good j }
    ∷ record { number = 6; passes = candidates_good j }
    ∷ []

unfoldable pub job_tests : List ℕ → List Test
job_tests s = record { number = 2; passes = job_whole s } ∷ part_tests (job_of s)

unfoldable pub job_refusal : List ℕ → ℕ
job_refusal s = first_failing (job_tests s)
