-- Laws of a whole job's bytes: its six fields, its counts, and where each field's bytes stand. Assumes nothing.
use Prim.Native.Nat.{ℕ, suc, ◌+◌, ◌-◌, ◌*◌, ◌/◌, ◌%◌, ◌≤◌, ◌<◌}
use mathlib.Core.Path.{◌≡◌, refl, sym, ◌∙◌, ap}
use mathlib.Core.Bool.{Bool, true, false, true≢false, ◌&&◌}
use mathlib.Core.List.{List, [], ◌∷◌, map}
use native.Mathlib.Omega.{arith}
use borrow.Author.Tests.{eqb-true, eq-eqb, ltb-true}
use lib.Dec.{eqb, ltb}
use lib.ListN.{length, get_or, take, drop}
use lib.Seq.{get_or-take, get_or-drop}
use Rattle.records.specs.Bytes.{up_from, all, whole, nth}
use Rattle.records.specs.Netlist.{net_at, fanout}
use Rattle.records.specs.Job.{Candidate, job_tags, gates_of, nets_of, candidates_of, netlist_of, job_whole, job_of}
use Rattle.records.specs.Refusal.{gates_good, netlists_good, old_nets, golden_nets, outputs_good, ascending, candidate_good, candidates_good, counts_good, first_failing, part_tests, job_tests, job_refusal}
use Rattle.records.specs.Service.{side_counts_of, counts_of, number_of, read_told}
use Rattle.records.specs.Inner.{start_of, starts_of, counted_from, shape_of, lengths_good, lens_in, Walked, Laid, unmarked_ascending, checked_of}
use Rattle.records.specs.declared.field.Span.{Span}
use Rattle.records.specs.declared.refusal.Refusal.{Refusal}
use Rattle.records.proofs.Laws.Option.{pick-some, pick-none}
use Rattle.std.specs.Prelude.{Some, None, Ok, Err}
use Rattle.records.specs.declared.job.Counts.{Counts}
use Rattle.records.specs.declared.job.Starts.{Starts}
use Rattle.records.proofs.Laws.Bytes.{row_at, and_both, false_of, all-ext, length-tabulate}
use Rattle.records.proofs.Laws.Counts.{LengthsGood, lengths_good-facts, lengths_good-true}
use Rattle.records.proofs.Laws.Field.{start_of-suc, start_of-le, nth-slice}

pub record JobWhole (s : List ℕ) : Type 0 where
  pub fields : whole job_tags s ≡ true
  pub sizes : length (nth 0 s) ≡ 2
  pub old : length (nth 1 s) % 10 ≡ 0
  pub outputs : length (nth 2 s) % 2 ≡ 0
  pub golden : length (nth 3 s) % 10 ≡ 0
  pub goldens : length (nth 4 s) % 2 ≡ 0
  pub candidates : length (nth 5 s) % 4 ≡ 0

pub job_whole-facts : (s : List ℕ) → job_whole s ≡ true → JobWhole s
unfolding job_whole
job_whole-facts s h =
    let t =
    row_at (whole job_tags s)
    (eqb (length (nth 0 s)) 2
    ∷ eqb (length (nth 1 s) % 10) 0
    ∷ eqb (length (nth 2 s) % 2) 0
    ∷ eqb (length (nth 3 s) % 10) 0
    ∷ eqb (length (nth 4 s) % 2) 0
    ∷ eqb (length (nth 5 s) % 4) 0
    ∷ [])
    h in
    record {
      fields = t 0;
      sizes = eqb-true _ _ (t 1);
      old = eqb-true _ _ (t 2);
      outputs = eqb-true _ _ (t 3);
      golden = eqb-true _ _ (t 4);
      goldens = eqb-true _ _ (t 5);
      candidates = eqb-true _ _ (t 6);
    }

pub job_whole-true : (s : List ℕ) → JobWhole s → job_whole s ≡ true
unfolding job_whole
job_whole-true s h =
    and_both _ _
    (and_both _ _
    (and_both _ _
    (and_both _ _
    (and_both _ _ (and_both _ _ h.fields (eq-eqb _ _ h.sizes)) (eq-eqb _ _ h.old))
    (eq-eqb _ _ h.outputs))
    (eq-eqb _ _ h.golden))
    (eq-eqb _ _ h.goldens))
    (eq-eqb _ _ h.candidates)

-- ---- counts

pub length-gates_of : (s : List ℕ) → length (gates_of s) ≡ length s / 10
unfolding gates_of
length-gates_of s = length-tabulate (length s / 10) _

pub length-nets_of : (s : List ℕ) → length (nets_of s) ≡ length s / 2
unfolding nets_of
length-nets_of s = length-tabulate (length s / 2) _

pub length-candidates_of : (s : List ℕ) → length (candidates_of s) ≡ length s / 4
unfolding candidates_of
length-candidates_of s = length-tabulate (length s / 4) _

module _ (s : List ℕ) (w : JobWhole s) where
  sizes-at : (i : ℕ) → i < 2 → get_or (nth 0 s) i 0 ≡ get_or s (3 + i) 0
  unfolding start_of
  sizes-at i h =
      ap (λ (l : List ℕ). get_or l i 0) (sym (nth-slice job_tags s w.fields 0 (omega arith)))
      ∙ get_or-take (length (nth 0 s)) (drop 3 s) i 0 (omega (arith, w.sizes))
      ∙ get_or-drop 3 s i 0

  pub counts-at : counts_of (job_of s)
      ≡ record {
        inputs = get_or s 3 0;
        targets = get_or s 4 0;
        old = record { gates = length (nth 1 s) / 10; outputs = length (nth 2 s) / 2 };
        golden = record { gates = length (nth 3 s) / 10; outputs = length (nth 4 s) / 2 };
        candidates = length (nth 5 s) / 4;
      }
  unfolding counts_of side_counts_of job_of netlist_of
  counts-at =
      rw
      (length-gates_of (nth 1 s), length-nets_of (nth 2 s), length-gates_of (nth 3 s), length-nets_of (nth 4 s), length-candidates_of (nth 5 s), sizes-at 0 (omega arith), sizes-at 1 (omega arith))

-- ---- what a walk says of a job

module _ (s : List ℕ) where
  pub broken-of-walk : Walked s 1 6 None → job_whole s ≡ false
  unfolding up_from
  broken-of-walk f = false_of (job_whole s) (λ t. true≢false (sym (job_whole-facts s t).fields ∙ f))

module _ (s : List ℕ) (spans : List Span) (h : Walked s 1 6 (Some spans)) where
  fields : whole job_tags s ≡ true
  unfolding up_from
  fields = h.0

  lengths-of-whole : JobWhole s → LengthsGood (lens_in spans)
  lengths-of-whole j =
      let n = h.1.lens in
      record {
        sizes = n 0 (omega arith) ∙ j.sizes;
        old = ap (λ (x : ℕ). x % 10) (n 1 (omega arith)) ∙ j.old;
        outputs = ap (λ (x : ℕ). x % 2) (n 2 (omega arith)) ∙ j.outputs;
        golden = ap (λ (x : ℕ). x % 10) (n 3 (omega arith)) ∙ j.golden;
        goldens = ap (λ (x : ℕ). x % 2) (n 4 (omega arith)) ∙ j.goldens;
        candidates = ap (λ (x : ℕ). x % 4) (n 5 (omega arith)) ∙ j.candidates;
      }

  whole-of-lengths : LengthsGood (lens_in spans) → JobWhole s
  whole-of-lengths g =
      let n = h.1.lens in
      record {
        fields = fields;
        sizes = sym (n 0 (omega arith)) ∙ g.sizes;
        old = ap (λ (x : ℕ). x % 10) (sym (n 1 (omega arith))) ∙ g.old;
        outputs = ap (λ (x : ℕ). x % 2) (sym (n 2 (omega arith))) ∙ g.outputs;
        golden = ap (λ (x : ℕ). x % 10) (sym (n 3 (omega arith))) ∙ g.golden;
        goldens = ap (λ (x : ℕ). x % 2) (sym (n 4 (omega arith))) ∙ g.goldens;
        candidates = ap (λ (x : ℕ). x % 4) (sym (n 5 (omega arith))) ∙ g.candidates;
      }

  broken-of-lengths : lengths_good (lens_in spans) ≡ false → job_whole s ≡ false
  broken-of-lengths e =
      false_of (job_whole s) (λ t. true≢false (sym (lengths_good-true _ (lengths-of-whole (job_whole-facts s t))) ∙ e))

  -- past the walk there is a first field
  pub walk-room : 5 ≤ length s
  unfolding start_of
  walk-room = omega (arith, start_of-le job_tags s fields 1 (omega arith))

  -- the shape, from the walk
  pub walk-counts : (n m : ℕ) → n ≡ get_or s 3 0 → m ≡ get_or s 4 0 → counted_from (lens_in spans) n m ≡ shape_of s
  unfolding shape_of counted_from
  walk-counts n m en em = pick (lengths_good (lens_in spans)) refl
    where
      pick : (b : Bool) → lengths_good (lens_in spans) ≡ b → counted_from (lens_in spans) n m ≡ shape_of s
      pick false e = rw (e, broken-of-lengths e)
      pick true e =
          let j = whole-of-lengths (lengths_good-facts (lens_in spans) e) in
          let l = h.1.lens in
          rw (e, job_whole-true s j, counts-at s j, en, em, l 1 (omega arith), l 2 (omega arith), l 3 (omega arith), l 4 (omega arith), l 5 (omega arith))

-- ---- where the parts of a whole job stand

pub record Stands (s : List ℕ) (r : Starts) : Type 0 where
  pub old : r.old ≡ start_of 1 s
  pub old-end : r.outputs ≡ start_of 1 s + length (nth 1 s) + 3
  pub outputs : r.outputs ≡ start_of 2 s
  pub outputs-end : r.golden ≡ start_of 2 s + length (nth 2 s) + 3
  pub golden : r.golden ≡ start_of 3 s
  pub golden-end : r.goldens ≡ start_of 3 s + length (nth 3 s) + 3
  pub goldens : r.goldens ≡ start_of 4 s
  pub goldens-end : r.candidates ≡ start_of 4 s + length (nth 4 s) + 3
  pub candidates : r.candidates ≡ start_of 5 s
  pub candidates-end : r.end ≡ start_of 5 s + length (nth 5 s)
  pub room : r.end ≤ length s

records-ten : (g n : ℕ) → g ≡ n / 10 → n % 10 ≡ 0 → 10 * g ≡ n
records-ten g n e h = omega arith

records-two : (g n : ℕ) → g ≡ n / 2 → n % 2 ≡ 0 → 2 * g ≡ n
records-two g n e h = omega arith

records-four : (g n : ℕ) → g ≡ n / 4 → n % 4 ≡ 0 → 4 * g ≡ n
records-four g n e h = omega arith

-- below the number of nets, a mark and the fanout are the same
unmarked : (n m i : ℕ) (marks fan : List ℕ) → n ≡ m → take n marks ≡ fan
    → (ltb i n && eqb (net_at marks i) 0) ≡ (ltb i m && eqb (net_at fan i) 0)
unfolding net_at
unmarked n m i marks fan e f = rw (← e, ← f) (below (ltb i n) refl)
  where
    below : (b : Bool) → ltb i n ≡ b → (ltb i n && eqb (get_or marks i 0) 0) ≡ (ltb i n && eqb (get_or (take n marks) i 0) 0)
    below true h = ap (λ (x : ℕ). ltb i n && eqb x 0) (sym (get_or-take n marks i 0 (ltb-true i n h)))
    below false h = rw h

module _ (s : List ℕ) (c : Counts) (l : Laid s c) where
  pub laid-whole : JobWhole s
  laid-whole = job_whole-facts s l.whole

  pub laid-counts : c
      ≡ record {
        inputs = get_or s 3 0;
        targets = get_or s 4 0;
        old = record { gates = length (nth 1 s) / 10; outputs = length (nth 2 s) / 2 };
        golden = record { gates = length (nth 3 s) / 10; outputs = length (nth 4 s) / 2 };
        candidates = length (nth 5 s) / 4;
      }
  laid-counts = l.counts ∙ counts-at s laid-whole

  old-bytes : 10 * c.old.gates ≡ length (nth 1 s)
  old-bytes = records-ten _ _ (ap (λ (x : Counts). x.old.gates) laid-counts) laid-whole.old

  outputs-bytes : 2 * c.old.outputs ≡ length (nth 2 s)
  outputs-bytes = records-two _ _ (ap (λ (x : Counts). x.old.outputs) laid-counts) laid-whole.outputs

  golden-bytes : 10 * c.golden.gates ≡ length (nth 3 s)
  golden-bytes = records-ten _ _ (ap (λ (x : Counts). x.golden.gates) laid-counts) laid-whole.golden

  goldens-bytes : 2 * c.golden.outputs ≡ length (nth 4 s)
  goldens-bytes = records-two _ _ (ap (λ (x : Counts). x.golden.outputs) laid-counts) laid-whole.goldens

  candidates-bytes : 4 * c.candidates ≡ length (nth 5 s)
  candidates-bytes = records-four _ _ (ap (λ (x : Counts). x.candidates) laid-counts) laid-whole.candidates

  next_start : (k : ℕ) → k < 6 → start_of (suc k) s ≡ start_of k s + length (nth k s) + 3
  next_start k h = start_of-suc job_tags s laid-whole.fields k h

  starts-stand : Stands s (starts_of c)
  unfolding starts_of start_of
  starts-stand =
      let z = laid-whole.sizes in
      let s₁ : start_of 1 s ≡ 8 = omega (arith, next_start 0 (omega arith)) in
      let s₂ = next_start 1 (omega arith) in
      let s₃ = next_start 2 (omega arith) in
      let s₄ = next_start 3 (omega arith) in
      let s₅ = next_start 4 (omega arith) in
      let n₁ = old-bytes in
      let n₂ = outputs-bytes in
      let n₃ = golden-bytes in
      let n₄ = goldens-bytes in
      let n₅ = candidates-bytes in
      let e = start_of-le job_tags s laid-whole.fields 5 (omega arith) in
      record {
        old = sym s₁;
        old-end = omega arith;
        outputs = omega arith;
        outputs-end = omega arith;
        golden = omega arith;
        golden-end = omega arith;
        goldens = omega arith;
        goldens-end = omega arith;
        candidates = omega arith;
        candidates-end = omega arith;
        room = omega arith;
      }

  pub stands : (r : Starts) → r ≡ starts_of c → Stands s r
  stands r e = rw e starts-stand

  -- the part of the job between a field's bounds is the field's bytes
  pub part : (k a b : ℕ) → k < 6 → a ≡ start_of k s → b ≡ start_of k s + length (nth k s) → take (b - a) (drop a s) ≡ nth k s
  part k a b h p q =
      let n : b - a ≡ length (nth k s) = omega arith in
      ap (λ (x : ℕ). take x (drop a s)) n
      ∙ ap (λ (x : ℕ). take (length (nth k s)) (drop x s)) p
      ∙ nth-slice job_tags s laid-whole.fields k h

  pub laid-inputs : c.inputs ≡ (job_of s).inputs
  unfolding counts_of
  laid-inputs = ap (λ (x : Counts). x.inputs) l.counts

  pub laid-targets : c.targets ≡ (job_of s).targets
  unfolding counts_of
  laid-targets = ap (λ (x : Counts). x.targets) l.counts

  -- the checks of the two gate fields, one after the other
  pub netlists-checks : netlists_good (job_of s)
      ≡ (gates_good (c.inputs + c.targets) (gates_of (nth 1 s)) && gates_good c.inputs (gates_of (nth 3 s)))
  unfolding netlists_good netlist_of job_of
  netlists-checks = rw (laid-inputs, laid-targets)

  -- the checks of the two output fields, and of their counts
  pub outputs-checks : outputs_good (job_of s)
      ≡ (all (λ i. ltb i (c.inputs + c.targets + c.old.gates)) (nets_of (nth 2 s))
      && all (λ i. ltb i (c.inputs + c.golden.gates)) (nets_of (nth 4 s))
      && eqb c.old.outputs c.golden.outputs)
  unfolding outputs_good old_nets golden_nets counts_of side_counts_of netlist_of job_of
  outputs-checks =
      rw
      (laid-inputs, laid-targets, ap (λ (x : Counts). x.old.gates) l.counts, ap (λ (x : Counts). x.golden.gates) l.counts, ap (λ (x : Counts). x.old.outputs) l.counts, ap (λ (x : Counts). x.golden.outputs) l.counts)

  pub laid-nets : c.inputs + c.targets + c.old.gates ≡ old_nets (job_of s)
  unfolding old_nets counts_of side_counts_of
  laid-nets = rw (laid-inputs, laid-targets, ap (λ (x : Counts). x.old.gates) l.counts)

  -- marks that are the fanout on the old nets decide the check of the candidates
  pub candidates-check : (marks : List ℕ) (n : ℕ) → n ≡ c.inputs + c.targets + c.old.gates
      → take n marks ≡ fanout c.inputs c.targets (gates_of (nth 1 s))
      → unmarked_ascending n marks (candidates_of (nth 5 s)) ≡ candidates_good (job_of s)
  unfolding unmarked_ascending candidates_good candidate_good netlist_of job_of
  candidates-check marks n e f =
      ap (λ (b : Bool). ascending (map (λ (x : Candidate). x.net) (candidates_of (nth 5 s))) && b)
      (all-ext _ _ (λ (x : Candidate). unmarked n (old_nets (job_of s)) x.net marks _ (e ∙ laid-nets) (f ∙ rw (laid-inputs, laid-targets))) (candidates_of (nth 5 s)))

  pub laid-old : c.old.gates ≡ length (nth 1 s) / 10
  laid-old = ap (λ (x : Counts). x.old.gates) laid-counts

-- ---- what the shape and the checks of a job answer

module _ (s : List ℕ) where
  pub shape-whole : (c : Counts) → shape_of s ≡ Some c → (job_whole s ≡ true) × (c ≡ counts_of (job_of s))
  unfolding shape_of
  shape-whole c e = pick-some (job_whole s) (counts_of (job_of s)) c e

  pub refused-two : shape_of s ≡ None → read_told (Err Refusal.Fields) ≡ checked_of s
  unfolding shape_of number_of checked_of job_refusal job_tests part_tests first_failing
  refused-two e = rw (pick-none (job_whole s) (counts_of (job_of s)) e)

  module _ (w : job_whole s ≡ true) where
    pub refused-three : counts_good (job_of s) ≡ false → read_told (Err Refusal.Counts) ≡ checked_of s
    unfolding number_of checked_of job_refusal job_tests part_tests first_failing
    refused-three e = rw (w, e)

    module _ (c : counts_good (job_of s) ≡ true) where
      pub refused-four : netlists_good (job_of s) ≡ false → read_told (Err Refusal.Gates) ≡ checked_of s
      unfolding number_of checked_of job_refusal job_tests part_tests first_failing
      refused-four e = rw (w, c, e)

      module _ (g : netlists_good (job_of s) ≡ true) where
        pub refused-five : outputs_good (job_of s) ≡ false → read_told (Err Refusal.Outputs) ≡ checked_of s
        unfolding number_of checked_of job_refusal job_tests part_tests first_failing
        refused-five e = rw (w, c, g, e)

        module _ (o : outputs_good (job_of s) ≡ true) where
          pub refused-six : candidates_good (job_of s) ≡ false → read_told (Err Refusal.Candidates) ≡ checked_of s
          unfolding number_of checked_of job_refusal job_tests part_tests first_failing
          refused-six e = rw (w, c, g, o, e)

          pub accepted : candidates_good (job_of s) ≡ true → read_told (Ok (counts_of (job_of s))) ≡ checked_of s
          unfolding number_of checked_of job_refusal job_tests part_tests first_failing
          accepted e = rw (w, c, g, o, e)

-- ---- the parts of a job between its starts

-- the bounds of a part are in order and within the job, and the part is field k
pub record IsPart (s : List ℕ) (k a b : ℕ) : Type 0 where
  pub ordered : a ≤ b
  pub within : b ≤ length s
  pub is : take (b - a) (drop a s) ≡ nth k s

pub record Parts (s : List ℕ) (r : Starts) : Type 0 where
  pub old : IsPart s 1 r.old (r.outputs - 3)
  pub outputs : IsPart s 2 r.outputs (r.golden - 3)
  pub golden : IsPart s 3 r.golden (r.goldens - 3)
  pub goldens : IsPart s 4 r.goldens (r.candidates - 3)
  pub candidates : IsPart s 5 r.candidates r.end
  pub old-head : 3 ≤ r.outputs
  pub outputs-head : 3 ≤ r.golden
  pub golden-head : 3 ≤ r.goldens
  pub goldens-head : 3 ≤ r.candidates

module _ (s : List ℕ) (c : Counts) (l : Laid s c) where
  is-part : (k a b : ℕ) → k < 6 → a ≡ start_of k s → b ≡ start_of k s + length (nth k s) → IsPart s k a b
  is-part k a b h p q =
      record {
        ordered = omega arith;
        within = omega (arith, start_of-le job_tags s (laid-whole s c l).fields k h);
        is = part s c l k a b h p q;
      }

  pub parts : (r : Starts) → r ≡ starts_of c → Parts s r
  parts r e =
      let t = stands s c l r e in
      record {
        old = is-part 1 _ _ (omega arith) t.old (omega arith);
        outputs = is-part 2 _ _ (omega arith) t.outputs (omega arith);
        golden = is-part 3 _ _ (omega arith) t.golden (omega arith);
        goldens = is-part 4 _ _ (omega arith) t.goldens (omega arith);
        candidates = is-part 5 _ _ (omega arith) t.candidates t.candidates-end;
        old-head = omega arith;
        outputs-head = omega arith;
        golden-head = omega arith;
        goldens-head = omega arith;
      }
