-- The longest replies are attained: a result of fit with 4,075 bytes, a sheet of judge with 26 and one of choose with 2,084. The job of
-- judge's is computed. That of choose's needs no enumeration: a vector rectifies an input exactly when its bits are the golden outputs
-- there, and each input alone changes them, so that no support can do without one. Assumes nothing.
use Prim.Native.Nat.{ℕ, zero, suc, ◌+◌, ◌*◌, ◌^◌, ◌≤◌, ◌<◌}
use mathlib.Core.Path.{◌≡◌, refl, sym, ◌∙◌, ap}
use mathlib.Core.Logic.{⊎_elim}
use mathlib.Core.List.Memᴰ.{cast as mem-cast}
use mathlib.Core.List.{List, [], ◌∷◌, ◌++◌, map, Memᴰ as Mem}
use mathlib.Core.Bool.{Bool, true, false, not, ◌||◌, true≢false}
use native.Mathlib.Omega.{arith}
use borrow.Author.Tests.{lt-ltb, le-ltb, eqb-true, not-true}
use lib.Dec.{ltb, eqb}
use lib.Pow.{pow-lt, pow_mono}
use lib.ListN.{length, get_or, replicate, length-replicate}
use Rattle.records.specs.Bytes.{up_from, tabulate, all, flat, byte_pair, word, field, body_length, body, rest, fits, whole, nth}
use Rattle.records.specs.Gate.{gate_of, least_count, most_count, permits, operands, unused, conj, disj, parity, inverted, gate_value}
use Rattle.records.specs.Netlist.{Netlist, net_at, extended, value_of, values, mark_of, fanout}
use Rattle.records.specs.Job.{Job, nets_of, gate_bytes, candidate_bytes, job_bytes}
use Rattle.records.specs.Refusal.{side_counts_good, counts_good, gate_good, gates_good, netlists_good, old_nets, golden_nets, outputs_good, ascending, candidate_good, candidates_good}
use Rattle.records.specs.Sheet.{quad, patch_of, notes_whole, sheet_whole, cost_of, is_candidate, patch_good}
use Rattle.records.specs.Claims.{PartsGood}
use Rattle.records.proofs.Laws.Bytes.{length-tabulate}
use Rattle.records.proofs.Laws.Accepted.{below-of-all}
use Rattle.records.proofs.Laws.RoundTrip.{Four, FourEach, all-tabulate, job_whole-job_bytes, job_of-job_bytes}
use Rattle.engine.specs.Choice.{any, keep, first, same}
use Rattle.engine.specs.Eval.{bit, bits, number_of, all_inputs, all_vectors, old_values, old_outputs, golden_outputs}
use Rattle.engine.specs.Rectify.{rectifies, unrectified, rounds, vector_loop}
use Rattle.engine.specs.Support.{reading, driven_by, sound, table_of, notes_of, candidate_nets, cost, chosen}
use Rattle.engine.specs.Verdict.{patch, ruling, four_bytes, judge_sheet, choose_sheet, longest_judge, longest_choose, judge_number, choose_number}
use Rattle.engine.specs.Fit.{trees_from, trees, fitted, fitted_bytes, fits as fits', longest_fit}
use Rattle.engine.specs.Reply.{fit_number}
use Rattle.engine.specs.Claims.{LongestJudgeMet, LongestChooseMet, LongestFitMet}
use Rattle.engine.specs.Reply.{JudgeReply}
use Rattle.engine.specs.Reply.{ChooseReply}
use Rattle.engine.proofs.Laws.Choice.{true-or-false, or_cases, not-both, any-true, any_false, all-iff-below, mem_below, mem-keep, keep-lt, length-keep-le, map-agree, same-iff-equal}
use Rattle.engine.proofs.Laws.Eval.{Bits, bits-map, net_at-lt, values-bits, bits-bits, number_of-lt}
use Rattle.engine.proofs.Laws.Picked.{bits-number_of}
use Rattle.engine.proofs.Laws.Support.{rectifies-iff-outputs, found-shared, sound-iff-found, length-table_of, subsets-among}
use Rattle.engine.proofs.Laws.Verdict.{chosen-patch, length-notes_of}
use Rattle.engine.proofs.Laws.Sheet.{length-patch_bytes, patch_bytes-sheet}
use Rattle.engine.proofs.Laws.FitNets.{length-fitted}
use Rattle.engine.proofs.Laws.FitPlaced.{indices-all}
use Rattle.engine.proofs.Theorems.{sound-ruling, patch-table}
use Rattle.engine.proofs.Replies.{judge-accepts, choose-accepts, judge-reply, choose-reply, longest-chosen, compare-accepts}
use Rattle.engine.proofs.FitReplies.{length-fitted_bytes, length-outputs, fit-accepts, fit_length}

-- ---- lists and bits

-- where every number below n is listed, the list has at least n elements
length-covering : (n : ℕ) (xs : List ℕ) → ((x : ℕ) → x < n → Mem x xs) → n ≤ length xs
length-covering zero xs h = omega arith
length-covering (suc n) xs h =
    let q : ℕ → Bool = λ x. ltb x n in
    let r = length-covering n (keep q xs) (λ x l. (mem-keep q xs x).1 (h x (omega arith), lt-ltb x n l)) in
    let s = keep-lt (λ x. true) q (λ x e. absurd (true≢false e)) (h n (omega arith)) refl (le-ltb n n (omega arith)) in
    omega (arith, length-keep-le (λ x. true) xs)

golden-bits : (j : Job) (x : ℕ) → Bits (golden_outputs j x)
unfolding golden_outputs
golden-bits j x =
    let bs = bits j.inputs x in
    bits-map (net_at (values bs j.golden.gates)) (net_at-lt (values-bits bs (bits-bits j.inputs x) j.golden.gates))
    j.golden.outputs

-- ---- the longest result

-- as many gates and outputs as there may be: constant zeros, and net 0
full_side : Netlist
full_side = record { gates = tabulate 400 (λ i. gate_of 0 0 0 0 0 0); outputs = tabulate 32 (λ i. 0) }

-- the old netlist is golden already
full_job : Job
full_job = record { inputs = 0; targets = 0; old = full_side; golden = full_side; candidates = [] }

-- .. so the empty support carries a table
full_sheet : List ℕ
full_sheet = field 16 [] ++ field 17 (0 ∷ []) ++ field 18 (four_bytes 0)

four-full : FourEach full_job
unfolding full_job full_side gate_of
four-full = record { old = all-tabulate Four _ (λ i. refl) 400; golden = all-tabulate Four _ (λ i. refl) 400 }

good-full : PartsGood full_job
unfolding full_job full_side tabulate up_from all
    counts_good side_counts_good netlists_good gates_good gate_good gate_of permits least_count most_count operands unused outputs_good old_nets golden_nets
    candidates_good candidate_good ascending net_at fanout extended mark_of disj
good-full = record { counts = refl; gates = refl; outputs = refl; candidates = refl }

bytes-full : (all (λ x. ltb x 256) (job_bytes full_job) ≡ true) × (all (λ x. ltb x 256) full_sheet ≡ true)
unfolding all job_bytes field flat byte_pair gate_bytes candidate_bytes gate_of full_job full_side tabulate up_from
    full_sheet four_bytes
bytes-full = (refl, refl)

sheet-full : (sheet_whole full_sheet ≡ true)
    × (patch_good full_job.targets full_job.candidates (patch_of full_sheet) ≡ true)
unfolding full_job sheet_whole notes_whole whole nth body rest body_length fits word patch_good patch_of nets_of quad is_candidate cost_of ascending
    all tabulate up_from full_sheet field byte_pair four_bytes
sheet-full = (refl, refl)

module _ (is t : List ℕ) where
  -- there are no targets, and so no trees
  gates-full : length (fitted full_job is t).gates ≡ 400
  unfolding full_job full_side trees trees_from
  gates-full = omega (arith, length-fitted full_job is t, indices-all full_job, length-tabulate 400 (λ i. gate_of 0 0 0 0 0 0))

  fits-full : fits' full_job is t ≡ true
  unfolding fits'
  fits-full = rw gates-full

  length-full : length (fitted_bytes full_job is t) ≡ longest_fit
  unfolding full_job full_side
  length-full =
      let o = length-outputs full_job is t ∙ length-tabulate {A = ℕ} 32 (λ i. 0) in
      omega (arith, length-fitted_bytes full_job is t four-full.old, gates-full)

pub longest-fit-met : LongestFitMet
longest-fit-met =
    let d : List ℕ = replicate 4075 0 in
    let s = job_bytes full_job in
    let p = full_sheet in
    let is = (patch_of p).support in
    let t = (patch_of p).table in
    let e = job_of-job_bytes full_job four-full in
    let n : fit_number d s p ≡ 0 =
    (fit-accepts d s p).1 (
      omega (arith, length-replicate {A = ℕ} 4075 0),
      (compare-accepts s p).1 (job_whole-job_bytes full_job four-full, rw e good-full, sheet-full.0, rw e sheet-full.1),
      rw e (fits-full is t),
    ) in (
      d,
      s,
      p,
      below-of-all 256 (omega arith) s bytes-full.0,
      below-of-all 256 (omega arith) p bytes-full.1,
      n,
      fit_length d s p n ∙ rw e (length-full is t),
    )

-- ---- the longest sheet of judge

-- the old outputs are the four targets and input 4; the golden ones are inputs 0 to 3 and a constant zero: input x below 16 is rectified
-- by vector x alone, so that the loop lists all sixteen, and input 16 by none
listing_job : Job
listing_job =
    record {
      inputs = 5;
      targets = 4;
      old = record { gates = []; outputs = 5 ∷ 6 ∷ 7 ∷ 8 ∷ 4 ∷ [] };
      golden = record { gates = gate_of 0 0 0 0 0 0 ∷ []; outputs = up_from 0 4 ++ (5 ∷ []) };
      candidates = [];
    }

four-listing : FourEach listing_job
unfolding listing_job gate_of
four-listing = record { old = tt; golden = (refl, tt) }

good-listing : PartsGood listing_job
unfolding listing_job tabulate up_from all
    counts_good side_counts_good netlists_good gates_good gate_good gate_of permits least_count most_count operands unused outputs_good old_nets golden_nets
    candidates_good candidate_good ascending net_at fanout extended mark_of disj
good-listing = record { counts = refl; gates = refl; outputs = refl; candidates = refl }

bytes-listing : all (λ x. ltb x 256) (job_bytes listing_job) ≡ true
unfolding all job_bytes field flat byte_pair gate_bytes candidate_bytes gate_of listing_job tabulate up_from
bytes-listing = refl

length-listing : length (judge_sheet listing_job) ≡ longest_judge
unfolding judge_sheet vector_loop rounds unrectified rectifies all_inputs all_vectors any first same old_outputs golden_outputs old_values values
    extended value_of gate_value gate_of operands conj disj parity inverted net_at bits bit field four_bytes byte_pair tabulate up_from listing_job
length-listing = refl

pub longest-judge-met : LongestJudgeMet
longest-judge-met =
    let d : List ℕ = replicate 26 0 in
    let s = job_bytes listing_job in
    let e = job_of-job_bytes listing_job four-listing in
    let n : judge_number d s ≡ 0 =
    (judge-accepts d s).1 (omega (arith, length-replicate {A = ℕ} 26 0), job_whole-job_bytes listing_job four-listing, rw e good-listing) in (
      d,
      s,
      below-of-all 256 (omega arith) s bytes-listing,
      n,
      ap (λ (r : JudgeReply). r.len) (judge-reply d s n) ∙ rw e length-listing,
    )

-- ---- the longest sheet of choose

-- the old outputs are the four targets; the golden ones are inputs 0 to 2 and the parity of inputs 3 to 9
wide_job : Job
wide_job =
    record {
      inputs = 10;
      targets = 4;
      old = record { gates = []; outputs = up_from 10 4 };
      golden =
          record {
            gates = gate_of 8 4 3 4 5 6 ∷ gate_of 8 4 7 8 9 10 ∷ [];
            outputs = 0 ∷ 1 ∷ 2 ∷ 11 ∷ [];
          };
      candidates = tabulate 10 (λ i. record { net = i; weight = 0 });
    }

four-wide : FourEach wide_job
unfolding wide_job gate_of
four-wide = record { old = tt; golden = (refl, (refl, tt)) }

good-wide : PartsGood wide_job
unfolding wide_job tabulate up_from all
    counts_good side_counts_good netlists_good gates_good gate_good gate_of permits least_count most_count operands unused outputs_good old_nets golden_nets
    candidates_good candidate_good ascending net_at fanout extended mark_of disj
good-wide = record { counts = refl; gates = refl; outputs = refl; candidates = refl }

bytes-wide : all (λ x. ltb x 256) (job_bytes wide_job) ≡ true
unfolding all job_bytes field flat byte_pair gate_bytes candidate_bytes gate_of wide_job tabulate up_from
bytes-wide = refl

-- the candidates are the inputs, so their reading is the input
candidates-wide : candidate_nets wide_job ≡ up_from 0 10
unfolding candidate_nets wide_job tabulate up_from
candidates-wide = refl

reading-wide : (x : ℕ) → reading wide_job (candidate_nets wide_job) x ≡ number_of (bits 10 x)
unfolding reading old_values values extended net_at bits candidate_nets tabulate up_from wide_job
reading-wide x = refl

-- the old outputs are the vector's bits
outputs-wide : (x v : ℕ) → old_outputs wide_job x v ≡ bits 4 v
unfolding old_outputs old_values values extended net_at bits tabulate up_from wide_job
outputs-wide x v = refl

-- .. so the one made of the golden outputs rectifies an input
wanted : ℕ → ℕ
wanted x = number_of (golden_outputs wide_job x)

wanted-lt : (x : ℕ) → wanted x < 2 ^ wide_job.targets
unfolding wanted golden_outputs wide_job
wanted-lt x = number_of-lt (golden-bits wide_job x)

outputs-wanted : (x y : ℕ) → old_outputs wide_job x (wanted y) ≡ golden_outputs wide_job y
unfolding wanted golden_outputs wide_job
outputs-wanted x y = outputs-wide x (wanted y) ∙ bits-number_of (golden-bits wide_job y)

-- a reading of all candidates is an input with the same golden outputs
golden-reading : (x : ℕ) → golden_outputs wide_job (reading wide_job (candidate_nets wide_job) x) ≡ golden_outputs wide_job x
unfolding golden_outputs wide_job bits tabulate up_from
golden-reading x =
    let e : bits 10 (reading wide_job (candidate_nets wide_job) x) ≡ bits 10 x =
    ap (bits 10) (reading-wide x) ∙ bits-number_of (bits-bits 10 x) in
    ap (λ (bs : List ℕ). map (net_at (values bs wide_job.golden.gates)) wide_job.golden.outputs) e

-- so all candidates together are sound
sound-wide : sound wide_job (candidate_nets wide_job) ≡ true
sound-wide =
    (sound-iff-found wide_job (candidate_nets wide_job)).1
    (λ r h.
    found-shared wide_job (candidate_nets wide_job) r (wanted r) (wanted-lt r)
    (λ x l q.
    (rectifies-iff-outputs wide_job x (wanted r)).1 (outputs-wanted x r ∙ ap (golden_outputs wide_job) (sym q) ∙ golden-reading x)))

-- ---- ten support nets

-- between input 0 and an input with one 1, that candidate alone differs, and so do the golden outputs
apart : ℕ → Bool
apart i = not (same (golden_outputs wide_job (2 ^ i)) (golden_outputs wide_job 0))

alone : ℕ → ℕ → Bool
alone i k = eqb i k || eqb (net_at (old_values wide_job (2 ^ i) 0) k) (net_at (old_values wide_job 0 0) k)

inputs_apart : (all apart (up_from 0 10) ≡ true) × (all (λ i. all (alone i) (up_from 0 10)) (up_from 0 10) ≡ true)
unfolding apart alone all same golden_outputs old_values values extended value_of gate_value gate_of operands
    conj disj parity inverted net_at bits bit tabulate up_from wide_job
inputs_apart = (refl, refl)

golden-apart : (i : ℕ) → i < 10 → golden_outputs wide_job (2 ^ i) ≡ golden_outputs wide_job 0 → ⊥
unfolding apart
golden-apart i h e =
    let g = golden_outputs wide_job (2 ^ i) in
    not-both
    ((same-iff-equal g (golden_outputs wide_job 0)).1 e)
    (not-true (same g (golden_outputs wide_job 0)) ((all-iff-below apart 10).0 inputs_apart.0 i h))

value-alone : (i k : ℕ) → i < 10 → k < 10 → eqb i k ≡ false
    → net_at (old_values wide_job (2 ^ i) 0) k ≡ net_at (old_values wide_job 0 0) k
unfolding alone
value-alone i k h l n =
    let p = net_at (old_values wide_job (2 ^ i) 0) k in
    let q = net_at (old_values wide_job 0 0) k in
    let t = (all-iff-below (alone i) 10).0 ((all-iff-below (λ a. all (alone a) (up_from 0 10)) 10).0 inputs_apart.1 i h) k l in
    ⊎_elim (λ y. absurd (not-both y n)) (λ y. eqb-true p q y) (or_cases (eqb i k) (eqb p q) t)

module _ (is : List ℕ) (e : ruling wide_job ≡ patch is) where
  candidate-lt : (k : ℕ) → Mem k is → k < 10
  candidate-lt k m =
      (mem_below 10 k).0 (rw candidates-wide at (subsets-among (candidate_nets wide_job) is (patch-table wide_job is e).0 k m))

  -- without net i in the support the two inputs are driven alike
  reading-alone : (i : ℕ) → i < 10 → any (eqb i) is ≡ false → reading wide_job is (2 ^ i) ≡ reading wide_job is 0
  unfolding reading
  reading-alone i h n =
      ap number_of
      (map-agree (net_at (old_values wide_job (2 ^ i) 0)) (net_at (old_values wide_job 0 0)) is
      (λ k m. value-alone i k h (candidate-lt k m) (any_false (eqb i) is n k m)))

  golden-driven : (x : ℕ) → x < 2 ^ 10 → golden_outputs wide_job x ≡ bits 4 (get_or (table_of wide_job is) (reading wide_job is x) 0)
  unfolding driven_by wide_job
  golden-driven x h =
      sym ((patch-table wide_job is e).1 x h) ∙ outputs-wide x (driven_by wide_job is (table_of wide_job is) x)

  mem-support : (i : ℕ) → i < 10 → Mem i is
  mem-support i h =
      ⊎_elim
      (λ y. let r = any-true (eqb i) is y in mem-cast (eqb-true i r.0 r.2) r.1)
      (λ n.
      absurd
      (golden-apart i h
      (golden-driven (2 ^ i) (pow-lt {j = 10} h)
      ∙ ap (λ (r : ℕ). bits 4 (get_or (table_of wide_job is) r 0)) (reading-alone i h n)
      ∙ sym (golden-driven 0 (omega arith)))))
      (true-or-false (any (eqb i) is))

length-wide : length (choose_sheet wide_job) ≡ longest_choose
length-wide =
    let is = chosen wide_job in
    let t = table_of wide_job is in
    let ns = notes_of wide_job is in
    let n : 10 ≤ length is = length-covering 10 is (mem-support is (sound-ruling wide_job sound-wide)) in
    let l : length (choose_sheet wide_job) ≡ 16 + 2 * length is + length t + length ns =
    ap length ((chosen-patch wide_job sound-wide).1 ∙ sym (patch_bytes-sheet wide_job is refl refl refl))
    ∙ length-patch_bytes is t (cost wide_job is) ns in
    omega (arith, length-table_of wide_job is, length-notes_of wide_job is, pow_mono n, longest-chosen wide_job good-wide)

pub longest-choose-met : LongestChooseMet
longest-choose-met =
    let d : List ℕ = replicate 2084 0 in
    let s = job_bytes wide_job in
    let e = job_of-job_bytes wide_job four-wide in
    let n : choose_number d s ≡ 0 =
    (choose-accepts d s).1
    (omega (arith, length-replicate {A = ℕ} 2084 0), job_whole-job_bytes wide_job four-wide, rw e good-wide) in (
      d,
      s,
      below-of-all 256 (omega arith) s bytes-wide,
      n,
      ap (λ (r : ChooseReply). r.len) (choose-reply d s n) ∙ rw e length-wide,
    )
