-- `records::job::LaidJob::check_netlists` meets its contract: the parts handed on are the two gate fields. Assumes nothing.
use mathlib.Core.Path.{◌≡◌, sym, ◌∙◌, ap}
use mathlib.Core.Bool.{Bool, true, ◌&&◌}
use mathlib.Core.List.{List}
use Prim.Native.Nat.{ℕ, ◌+◌, ◌-◌}
use lib.ListN.{take, drop}
use Rattle.records.specs.Job.{gates_of, job_of}
use Rattle.records.specs.Refusal.{gates_good, netlists_good}
use Rattle.records.specs.Inner.{check_of, starts_of, Laid}
use Rattle.records.specs.declared.job.Counts.{Counts}
use Rattle.records.specs.declared.job.Starts.{Starts}
use Rattle.records.proofs.Laws.Bytes.{and-false-left}
use Rattle.records.proofs.Laws.Counts.{failed-of, passes, fails}
use Rattle.records.proofs.Laws.Shape.{parts, netlists-checks}
use Rattle.records.proofs.job.LaidJob.check_netlists.Goals as goal

-- the tests of the two parts, as they stand once the starts are known
tests : {s : List ℕ} {k : Counts} {r : Starts} → Laid s k → r ≡ starts_of k
    → netlists_good (job_of s)
    ≡ (gates_good (k.inputs + k.targets) (gates_of (take (r.outputs - 3 - r.old) (drop r.old s)))
    && gates_good k.inputs (gates_of (take (r.goldens - 3 - r.golden) (drop r.golden s))))
tests l e =
    let at = parts _ _ l _ e in
    rw (at.old.is, at.golden.is) (netlists-checks _ _ l)

and-true-left : (a b : Bool) → a ≡ true → (a && b) ≡ b
and-true-left a b e = rw e

pub overflow_sub-old : goal.overflow_sub-old
overflow_sub-old c = (parts _ _ c.args.self.now.laid _ c.starts_of-at.ensures).old-head

pub slice_bounds-old-count : goal.slice_bounds-old-count
slice_bounds-old-count c = (parts _ _ c.args.self.now.laid _ c.starts_of-at.ensures).old.ordered

pub slice_bounds-old-start : goal.slice_bounds-old-start
slice_bounds-old-start c = (parts _ _ c.args.self.now.laid _ c.starts_of-at.ensures).old.ordered

pub slice_bounds-old-end : goal.slice_bounds-old-end
slice_bounds-old-end c = (parts _ _ c.args.self.now.laid _ c.starts_of-at.ensures).old.within

pub returns-in_default : goal.returns-in_default
returns-in_default c =
    let e = fails _ (sym c.check_gates.ensures ∙ c.in_default.is) in
    failed-of _ (tests c.args.self.now.laid c.starts_of-at.ensures ∙ and-false-left _ _ e)

pub overflow_sub-at : goal.overflow_sub-at
overflow_sub-at c = (parts _ _ c.args.self.now.laid _ c.starts_of-at.ensures).golden-head

pub slice_bounds-check_gates-count : goal.slice_bounds-check_gates-count
slice_bounds-check_gates-count c = (parts _ _ c.args.self.now.laid _ c.starts_of-at.ensures).golden.ordered

pub slice_bounds-check_gates-start : goal.slice_bounds-check_gates-start
slice_bounds-check_gates-start c = (parts _ _ c.args.self.now.laid _ c.starts_of-at.ensures).golden.ordered

pub slice_bounds-check_gates-end : goal.slice_bounds-check_gates-end
slice_bounds-check_gates-end c = (parts _ _ c.args.self.now.laid _ c.starts_of-at.ensures).golden.within

pub returns : goal.returns
returns c =
    let e = passes _ (sym c.check_gates.ensures ∙ c.in-Passed.is) in
    c.check_gates-2.ensures ∙ sym (ap check_of (tests c.args.self.now.laid c.starts_of-at.ensures ∙ and-true-left _ _ e))
