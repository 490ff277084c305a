-- `records::job::check_job` meets its contract: each check that passes is a fact for those after it, and the first that fails
-- gives its number. Assumes nothing.
use mathlib.Core.Path.{◌≡◌, sym, ◌∙◌, ap}
use mathlib.Core.Bool.{true}
use mathlib.Core.List.{List}
use Prim.Native.Nat.{ℕ}
use Rattle.records.specs.Job.{job_of}
use Rattle.records.specs.Refusal.{counts_good, netlists_good, outputs_good}
use Rattle.records.specs.Service.{counts_of, read_told}
use Rattle.records.specs.Inner.{counts_within, Laid}
use Rattle.records.specs.declared.job.Counts.{Counts}
use Rattle.std.specs.Prelude.{Ok}
use Rattle.records.proofs.Laws.Counts.{passes, fails, counts_within-facts, counts_within-true, counts_within-counts_of}
use Rattle.records.proofs.Laws.Shape.{shape-whole, refused-two, refused-three, refused-four, refused-five, refused-six, accepted}
use Rattle.records.proofs.job.check_job.Goals as goal
use Rattle.records.proofs.job.check_job.Goals.{In-Passed, In-Passed-check_netlists, In-Passed-check_all_outputs}

-- the job is whole, its counts within their ranges
laid : (c : In-Passed) → Laid c.args.job.now c.in-Some.counts
laid c =
    let h = shape-whole _ _ (sym c.shaped.ensures ∙ c.in-Some.is) in
    let p = passes _ (sym c.check_counts.ensures ∙ c.in-Passed.is) in
    record { whole = h.0; counts = h.1; within = counts_within-facts _ p }

good : (s : List ℕ) {k : Counts} → k ≡ counts_of (job_of s) → counts_good (job_of s) ≡ counts_within k
good s e = sym (counts_within-counts_of _) ∙ ap counts_within (sym e)

counts : {s : List ℕ} {k : Counts} → Laid s k → counts_good (job_of s) ≡ true
counts l = good _ l.counts ∙ counts_within-true _ l.within

-- .. its gates good
gates : (c : In-Passed-check_netlists) → netlists_good (job_of c.args.job.now) ≡ true
gates c = passes _ (sym c.check_netlists.ensures ∙ c.in-Passed-check_netlists.is)

-- .. and its outputs
outputs : (c : In-Passed-check_all_outputs) → outputs_good (job_of c.args.job.now) ≡ true
outputs c = passes _ (sym c.check_all_outputs.ensures ∙ c.in-Passed-check_all_outputs.is)

pub returns-in_default : goal.returns-in_default
returns-in_default c = refused-two _ (sym c.shaped.ensures ∙ c.in_default.is)

pub returns-in_default-check_counts : goal.returns-in_default-check_counts
returns-in_default-check_counts c =
    let h = shape-whole _ _ (sym c.shaped.ensures ∙ c.in-Some.is) in
    refused-three _ h.0 (good _ h.1 ∙ fails _ (sym c.check_counts.ensures ∙ c.in_default-check_counts.is))

pub returns-in_default-check_netlists : goal.returns-in_default-check_netlists
returns-in_default-check_netlists c =
    let l = laid (goal.at.returns-in_default-check_netlists c).In-Passed in
    refused-four _ l.whole (counts l) (fails _ (sym c.check_netlists.ensures ∙ c.in_default-check_netlists.is))

pub returns-in_default-check_all_outputs : goal.returns-in_default-check_all_outputs
returns-in_default-check_all_outputs c =
    let d = goal.at.returns-in_default-check_all_outputs c in
    let l = laid d.In-Passed in
    refused-five _ l.whole (counts l) (gates d.In-Passed-check_netlists)
    (fails _ (sym c.check_all_outputs.ensures ∙ c.in_default-check_all_outputs.is))

pub invariant_of-laid : goal.invariant_of-laid
invariant_of-laid c = record { laid = laid (goal.at.invariant_of-laid c).In-Passed }

pub check_all_candidates-requires : goal.check_all_candidates-requires
check_all_candidates-requires c = gates (goal.at.check_all_candidates-requires c).In-Passed-check_netlists

pub returns-in_default-check_all_candidates : goal.returns-in_default-check_all_candidates
returns-in_default-check_all_candidates c =
    let d = goal.at.returns-in_default-check_all_candidates c in
    let l = laid d.In-Passed in
    refused-six _ l.whole (counts l) (gates d.In-Passed-check_netlists) (outputs d.In-Passed-check_all_outputs)
    (fails _ (sym c.check_all_candidates.ensures ∙ c.in_default-check_all_candidates.is))

pub returns : goal.returns
returns c =
    let d = goal.at.returns c in
    let l = laid d.In-Passed in
    ap (λ (k : Counts). read_told (Ok k)) l.counts
    ∙ accepted _ l.whole (counts l) (gates d.In-Passed-check_netlists) (outputs d.In-Passed-check_all_outputs)
    (passes _ (sym c.check_all_candidates.ensures ∙ c.in-Passed-check_all_candidates.is))
