-- Laws of a job's old side (specs/Fitting, OldOf): its gates are the first of the miter's, its marks those that they give the nets.
-- Assumes nothing.
use Prim.Native.Nat.{ℕ, ◌+◌, ◌≤◌, ◌<◌}
use mathlib.Core.Path.{◌≡◌, refl, sym, ◌∙◌, ap}
use mathlib.Core.List.{List, [], ◌∷◌, ◌++◌, map}
use mathlib.Core.Bool.{Bool, true}
use native.Mathlib.Omega.{arith}
use lib.ListN.{length, get_or, take}
use lib.Seq.{take-take, take_at}
use Rattle.records.specs.Bytes.{all}
use Rattle.records.specs.Netlist.{net_at}
use Rattle.records.specs.Job.{Job}
use Rattle.records.specs.Netlist.{fanout}
use Rattle.records.specs.Refusal.{old_nets, gates_good}
use Rattle.records.specs.Service.{counts_of, side_counts_of}
use Rattle.records.specs.Parts.{PartsOf}
use Rattle.records.specs.declared.job.Counts.{Counts}
use Rattle.records.specs.declared.loading.JobParts.{JobParts}
use Rattle.records.proofs.Laws.Bytes.{and_left, and_right, and_both}
use Rattle.engine.specs.Fit.{led}
use Rattle.engine.specs.Inner.Packed.{unpacked, packed_from, formed, gate_in}
use Rattle.engine.specs.Inner.Miter.{miter_gates, shift_of, codes, MiterOf}
use Rattle.engine.specs.Inner.Shifted.{shifted}
use Rattle.engine.specs.Inner.Plan.{marks_from}
use Rattle.engine.specs.declared.miter.Miter.{Miter}
use Rattle.engine.proofs.Laws.FitNets.{old-good}
use Rattle.engine.proofs.Laws.Marks.{fanout-marks}
use Rattle.engine.proofs.Laws.Miter.{job-within, length-miter_gates}
use Rattle.engine.proofs.Laws.MiterCode.{packed_from-append, length-packed_from}
use Rattle.engine.proofs.Laws.PlanLists.{marks_from-all}
use Rattle.engine.proofs.Laws.Unpacked.{gates-unpacked}

all-front : {A : Type 0} (p : A → Bool) (xs ys : List A) → all p (xs ++ ys) ≡ true → all p xs ≡ true
unfolding all
all-front p [] ys e = refl
all-front p (x ∷ xs) ys e =
    and_both (p x) (all p xs) (and_left (p x) (all p (xs ++ ys)) e) (all-front p xs ys (and_right (p x) (all p (xs ++ ys)) e))

-- how many old gates there are
pub gates-count : {j : Job} {parts : JobParts} → PartsOf j parts → parts.counts.old.gates ≡ length j.old.gates
unfolding counts_of side_counts_of
gates-count q = ap (λ (c : Counts). c.old.gates) q.counts

pub gates-most : {j : Job} {parts : JobParts} → PartsOf j parts → parts.counts.old.gates ≤ 400
unfolding counts_of side_counts_of
gates-most {j} q = let n = job-within j q.good in omega (arith, gates-count q, n.old.gates)

module _ {j : Job} {m : Miter} (w : MiterOf j m) where
  pub front-codes : {k : ℕ} → k ≡ length j.old.gates → take k m.gates ≡ packed_from (j.inputs + j.targets) j.old.gates
  unfolding codes miter_gates
  front-codes {k} e =
      let gs = j.old.gates in
      let hs = map (shifted j.inputs (shift_of j)) j.golden.gates in
      let d = j.inputs + j.targets in
      sym (take-take k m.count m.gates (omega (arith, w.count, length-miter_gates j)))
      ∙ ap (take k) (w.gates ∙ packed_from-append d gs hs)
      ∙ take_at (packed_from d gs) (packed_from (d + length gs) hs) k (length-packed_from d gs ∙ sym e)

  pub front-forms : all formed j.old.gates ≡ true
  unfolding miter_gates
  front-forms = all-front formed j.old.gates (map (shifted j.inputs (shift_of j)) j.golden.gates) w.forms

  -- the first k gates are the old ones
  module _ {k : ℕ} (e : k ≡ length j.old.gates) where
    pub old-front : unpacked k m.gates ≡ j.old.gates
    unfolding counts_of side_counts_of
    old-front =
        let n = job-within j w.good in
        ap (map gate_in) (front-codes e)
        ∙ gates-unpacked (j.inputs + j.targets) j.old.gates (old-good j w.good.gates) front-forms
        (omega (arith, n.inputs, n.targets, n.old.gates))

    pub front-good : gates_good (m.inputs + m.targets) (unpacked k m.gates) ≡ true
    front-good = rw (old-front, w.inputs, w.targets) (old-good j w.good.gates)

    pub old-marks : {ms : List ℕ} → ms ≡ marks_from (take k m.gates) m.inputs m.targets
        → (i : ℕ) → i < old_nets j → get_or ms i 0 ≡ net_at (led j) i
    unfolding counts_of side_counts_of old_nets led net_at
    old-marks {ms} f i l =
        let n = job-within j w.good in
        let d = j.inputs + j.targets in
        let gs = j.old.gates in
        let fits : d + length gs ≤ 1024 = omega (arith, n.inputs, n.targets, n.old.gates) in
        ap (λ (xs : List ℕ). get_or xs i 0) f
        ∙ (rw (front-codes e, w.inputs, w.targets)
        (marks_from-all d gs (old-good j w.good.gates) front-forms fits j.inputs j.targets i l
        ∙ ap (λ (xs : List ℕ). net_at xs i) (sym (fanout-marks j.inputs j.targets gs))))

    pub front-marks : {ms : List ℕ} → ms ≡ marks_from (take k m.gates) m.inputs m.targets
        → (i : ℕ) → i < m.inputs + m.targets + k → get_or ms i 0 ≡ net_at (fanout m.inputs m.targets (unpacked k m.gates)) i
    unfolding old_nets led
    front-marks {ms} f i l =
        let h : i < old_nets j = omega (arith, w.inputs, w.targets) in
        rw (old-front, w.inputs, w.targets) (old-marks f i h)
