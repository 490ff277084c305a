-- `records::job::LaidJob::check_all_outputs` meets its contract: the words checked are those of the two output fields. Assumes nothing.
use mathlib.Core.Path.{◌≡◌, sym, ◌∙◌, ap}
use mathlib.Core.Bool.{Bool, false, ◌&&◌}
use mathlib.Core.List.{List}
use Prim.Native.Nat.{ℕ, ◌+◌, ◌-◌}
use lib.ListN.{take, drop}
use lib.Dec.{eqb, ltb}
use borrow.Author.Tests.{eq-eqb, ne_eqb}
use Rattle.records.specs.Bytes.{all}
use Rattle.records.specs.Job.{nets_of, job_of}
use Rattle.records.specs.Refusal.{outputs_good}
use Rattle.records.specs.Inner.{check_of, starts_of, Laid}
use Rattle.records.specs.declared.field.Check.{Check}
use Rattle.records.specs.declared.field.Check.TheVariants.{Passed, Failed}
use Rattle.records.specs.declared.job.Counts.{Counts}
use Rattle.records.specs.declared.job.Starts.{Starts}
use Rattle.records.proofs.Laws.Counts.{passed, failed-of, passes, fails}
use Rattle.records.proofs.Laws.Shape.{parts, outputs-checks}
use Rattle.records.proofs.job.LaidJob.check_all_outputs.Goals as goal
use Rattle.records.proofs.job.LaidJob.check_all_outputs.Goals.{In-Passed-check_outputs}

-- the tests, on the bytes checked
tests : {s : List ℕ} {k : Counts} {r : Starts} → Laid s k → r ≡ starts_of k
    → outputs_good (job_of s)
    ≡ (all (λ i. ltb i (k.inputs + k.targets + k.old.gates)) (nets_of (take (r.golden - 3 - r.outputs) (drop r.outputs s)))
    && all (λ i. ltb i (k.inputs + k.golden.gates)) (nets_of (take (r.candidates - 3 - r.goldens) (drop r.goldens s)))
    && eqb k.old.outputs k.golden.outputs)
tests {s} {k} {r} l e =
    let at = parts s k l r e in
    rw (at.outputs.is, at.goldens.is) (outputs-checks s k l)

-- what the checks of a and b, x and y, say of the whole test
module _ (a b d : Bool) {g : Bool} {x : Check} (t : g ≡ (a && b && d)) (f : x ≡ check_of a) where
  first-fails : x ≡ Failed → Failed ≡ check_of g
  first-fails p = failed-of g (t ∙ ap (λ (v : Bool). v && b && d) (fails a (sym f ∙ p)))

  second-fails : {y : Check} → x ≡ Passed → y ≡ check_of b → y ≡ Failed → Failed ≡ check_of g
  second-fails p s q =
      let z : (a && b && d) ≡ false = rw (passes a (sym f ∙ p), fails b (sym s ∙ q)) in
      failed-of g (t ∙ z)

  both-pass : {y : Check} → x ≡ Passed → y ≡ check_of b → y ≡ Passed → g ≡ d
  both-pass p s q =
      let z : (a && b && d) ≡ d = rw (passes a (sym f ∙ p), passes b (sym s ∙ q)) in
      t ∙ z

pub overflow_sub-old : goal.overflow_sub-old
overflow_sub-old c = (parts _ _ c.args.self.now.laid _ c.starts_of-at.ensures).outputs-head

pub slice_bounds-old-count : goal.slice_bounds-old-count
slice_bounds-old-count c = (parts _ _ c.args.self.now.laid _ c.starts_of-at.ensures).outputs.ordered

pub slice_bounds-old-start : goal.slice_bounds-old-start
slice_bounds-old-start c = (parts _ _ c.args.self.now.laid _ c.starts_of-at.ensures).outputs.ordered

pub slice_bounds-old-end : goal.slice_bounds-old-end
slice_bounds-old-end c = (parts _ _ c.args.self.now.laid _ c.starts_of-at.ensures).outputs.within

pub overflow_sub-golden : goal.overflow_sub-golden
overflow_sub-golden c = (parts _ _ c.args.self.now.laid _ c.starts_of-at.ensures).goldens-head

pub slice_bounds-golden-count : goal.slice_bounds-golden-count
slice_bounds-golden-count c = (parts _ _ c.args.self.now.laid _ c.starts_of-at.ensures).goldens.ordered

pub slice_bounds-golden-start : goal.slice_bounds-golden-start
slice_bounds-golden-start c = (parts _ _ c.args.self.now.laid _ c.starts_of-at.ensures).goldens.ordered

pub slice_bounds-golden-end : goal.slice_bounds-golden-end
slice_bounds-golden-end c = (parts _ _ c.args.self.now.laid _ c.starts_of-at.ensures).goldens.within

pub returns-in_default : goal.returns-in_default
returns-in_default c =
    first-fails _ _ _ (tests c.args.self.now.laid c.starts_of-at.ensures) c.check_outputs.ensures c.in_default.is

pub returns-in_default-check_outputs : goal.returns-in_default-check_outputs
returns-in_default-check_outputs c =
    second-fails _ _ _ (tests c.args.self.now.laid c.starts_of-at.ensures) c.check_outputs.ensures c.in-Passed.is
    c.check_outputs-2.ensures c.in_default-check_outputs.is

-- both pass: what is left is whether the counts are equal
left : (c : In-Passed-check_outputs)
    → let k = c.args.self.now.counts in outputs_good (job_of c.args.self.now.bytes.now) ≡ eqb k.old.outputs k.golden.outputs
left c =
    both-pass _ _ _ (tests c.args.self.now.laid c.starts_of-at.ensures) c.check_outputs.ensures c.in-Passed.is
    c.check_outputs-2.ensures c.in-Passed-check_outputs.is

pub returns-then-c : goal.returns-then-c
returns-then-c c = passed _ (left (goal.at.returns-then-c c).In-Passed-check_outputs ∙ eq-eqb _ _ c.if-c.true)

pub returns-else-c : goal.returns-else-c
returns-else-c c = failed-of _ (left (goal.at.returns-else-c c).In-Passed-check_outputs ∙ ne_eqb _ _ c.if-c.false)
