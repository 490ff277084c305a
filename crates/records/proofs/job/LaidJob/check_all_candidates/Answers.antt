-- `records::job::LaidJob::check_all_candidates` meets its contract: the marks are the fanout of the old gates, and the part handed on
-- is the candidate field. Assumes nothing.
use native.Mathlib.Omega.{arith}
use mathlib.Core.Path.{◌≡◌, refl, sym, ◌∙◌, ap}
use mathlib.Core.List.{List}
use Prim.Native.Nat.{ℕ, ◌+◌, ◌/◌, ◌≤◌}
use lib.ListN.{length, take}
use Rattle.records.specs.Bytes.{nth}
use Rattle.records.specs.Netlist.{fanout}
use Rattle.records.specs.Job.{gates_of, candidates_of}
use Rattle.records.specs.Inner.{check_of, unmarked_ascending}
use Rattle.records.proofs.Laws.Bytes.{and_left}
use Rattle.records.proofs.Laws.Shape.{parts, netlists-checks, laid-old, candidates-check}
use Rattle.records.proofs.job.LaidJob.check_all_candidates.Goals as goal

pub overflow_sub-at : goal.overflow_sub-at
overflow_sub-at c = (parts _ _ c.args.self.now.laid _ c.starts_of-at.ensures).old-head

pub slice_bounds-fanout_marks-count : goal.slice_bounds-fanout_marks-count
slice_bounds-fanout_marks-count c = (parts _ _ c.args.self.now.laid _ c.starts_of-at.ensures).old.ordered

pub slice_bounds-fanout_marks-start : goal.slice_bounds-fanout_marks-start
slice_bounds-fanout_marks-start c = (parts _ _ c.args.self.now.laid _ c.starts_of-at.ensures).old.ordered

pub slice_bounds-fanout_marks-end : goal.slice_bounds-fanout_marks-end
slice_bounds-fanout_marks-end c = (parts _ _ c.args.self.now.laid _ c.starts_of-at.ensures).old.within

pub slice_bounds-candidates-count : goal.slice_bounds-candidates-count
slice_bounds-candidates-count c = (parts _ _ c.args.self.now.laid _ c.starts_of-at.ensures).candidates.ordered

pub slice_bounds-candidates-start : goal.slice_bounds-candidates-start
slice_bounds-candidates-start c = (parts _ _ c.args.self.now.laid _ c.starts_of-at.ensures).candidates.ordered

pub slice_bounds-candidates-end : goal.slice_bounds-candidates-end
slice_bounds-candidates-end c = (parts _ _ c.args.self.now.laid _ c.starts_of-at.ensures).candidates.within

pub fanout_marks-marks-requires : goal.fanout_marks-marks-requires
fanout_marks-marks-requires c =
    let s = c.args.self.now.bytes.now in
    let k = c.args.self.now.counts in
    let l = c.args.self.now.laid in
    let e = (parts _ _ l _ c.starts_of-at.ensures).old.is in
    let w = l.within in
    let n : k.inputs + k.targets + length (nth 1 s) / 10 ≤ 424 =
    omega (arith, laid-old s k l, w.inputs, w.targets, w.old.gates) in
    let g = and_left _ _ (sym (netlists-checks s k l) ∙ c.requires) in
    record {
      s_bound = rw e n;
      s_value = rw e g;
    }

pub returns : goal.returns
returns c =
    let s = c.args.self.now.bytes.now in
    let k = c.args.self.now.counts in
    let l = c.args.self.now.laid in
    let t = parts _ _ l _ c.starts_of-at.ensures in
    let m = c.fanout_marks-marks.result in
    let n = k.inputs + k.targets + k.old.gates in
    let f : take n m ≡ fanout k.inputs k.targets (gates_of (nth 1 s)) =
    rw (t.old.is, sym (laid-old s k l)) at c.fanout_marks-marks.ensures in
    c.check_candidates.ensures
    ∙ ap (λ (x : List ℕ). check_of (unmarked_ascending n m (candidates_of x))) t.candidates.is
    ∙ ap check_of (candidates-check s k l m n refl f)
