-- The counts of a job as seven numbers in a row: what a C program passes and gets. Assumes nothing.
use Rattle.std.specs.Prelude.{ℕ, List, [], ◌∷◌, cond, eqb, get_or}
use Rattle.records.specs.declared.job.Counts.{Counts}
use Rattle.records.specs.Service.{ReadReply}

-- the counts in a row: inputs, targets, old gates and outputs, golden gates and outputs, candidates
unfoldable pub row_of : Counts → List ℕ
row_of c =
    c.inputs
    ∷ c.targets
    ∷ c.old.gates
    ∷ c.old.outputs
    ∷ c.golden.gates
    ∷ c.golden.outputs
    ∷ c.candidates
    ∷ []

-- what a row holds after the reply r: the counts of an accepted job, else what it held before
unfoldable pub row_after : ReadReply → List ℕ → List ℕ
row_after r row = cond (eqb r.number 0) (row_of r.counts) row

-- the counts that stand in a row in that order
unfoldable pub row_counts : List ℕ → Counts
row_counts row =
    record {
      inputs = get_or row 0 0;
      targets = get_or row 1 0;
      old = record { gates = get_or row 2 0; outputs = get_or row 3 0 };
      golden = record { gates = get_or row 4 0; outputs = get_or row 5 0 };
      candidates = get_or row 6 0;
    }
