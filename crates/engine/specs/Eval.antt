-- Inputs, vectors and readings as numbers, and the outputs of both circuits (document 01, "Verdicts"). Assumes nothing.
--
--   bit i x              bit i of the number x
--   bits k x             the k lowest bits of x, bit 0 first: the values of inputs or targets
--   number_of bs         the number with the bits bs, bit 0 first
--   all_inputs j         the inputs of job j, as numbers, ascending
--   all_vectors j        the settings of its targets (vectors), as numbers, ascending
--   old_values j x v     the value of each old net at input x with the targets set to vector v
--   old_outputs j x v    the old outputs there
--   golden_outputs j x   the golden outputs at input x
use Rattle.std.specs.Prelude.{ℕ, ◌+◌, ◌*◌, ◌/◌, ◌%◌, ◌^◌, List, [], ◌∷◌, ◌++◌, map}
use Rattle.records.specs.Bytes.{up_from, tabulate}
use Rattle.records.specs.Netlist.{net_at, values}
use Rattle.records.specs.Job.{Job}

unfoldable pub bit : ℕ → ℕ → ℕ
bit i x = x / 2 ^ i % 2

unfoldable pub bits : ℕ → ℕ → List ℕ
bits k x = tabulate k (λ i. bit i x)

unfoldable pub number_of : List ℕ → ℕ
number_of [] = 0
number_of (b ∷ bs) = b + 2 * number_of bs

unfoldable pub all_inputs : Job → List ℕ
all_inputs j = up_from 0 (2 ^ j.inputs)

unfoldable pub all_vectors : Job → List ℕ
all_vectors j = up_from 0 (2 ^ j.targets)

unfoldable pub old_values : Job → ℕ → ℕ → List ℕ
old_values j x v = values (bits j.inputs x ++ bits j.targets v) j.old.gates

unfoldable pub old_outputs : Job → ℕ → ℕ → List ℕ
old_outputs j x v = map (net_at (old_values j x v)) j.old.outputs

unfoldable pub golden_outputs : Job → ℕ → List ℕ
golden_outputs j x = map (net_at (values (bits j.inputs x) j.golden.gates)) j.golden.outputs
