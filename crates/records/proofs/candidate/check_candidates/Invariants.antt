-- `records::candidate::check_candidates` meets its contract. The loop's invariant: the candidates from i on pass from
-- least on exactly when all pass. Assumes nothing.
use lib.ListN.{drop}
use mathlib.Core.Path.{◌≡◌}
use Rattle.records.specs.Job.{candidates_of}
use Rattle.records.specs.Inner.{unmarked_ascending}
use Rattle.records.proofs.Laws.Refusal.{unmarked_from}
use Rattle.records.proofs.candidate.check_candidates.Given as goal

abbrev pub invariant-loop-i : goal.invariant-loop-i
invariant-loop-i l =
    unmarked_from l.least l.nets l.marks (drop l.i (candidates_of l.s)) ≡ unmarked_ascending l.nets l.marks (candidates_of l.s)
