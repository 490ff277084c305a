-- Compare (document 01, "Fitting and comparing"). Assumes nothing.
--
--   difference j is t      the smallest input at which the old outputs driven by the table t over the nets is differ from the
--                          golden ones, if there is one
--   pair_tests s p         the tests of a job's bytes s and a sheet's bytes p, numbers 2 to 8
use Rattle.std.specs.Prelude.{ℕ, List, ◌++◌, not}
use Rattle.std.proofs.Math.Option.{Option}
use Rattle.records.specs.Job.{Job, job_of}
use Rattle.records.specs.Refusal.{Test, job_tests}
use Rattle.records.specs.Sheet.{sheet_tests}
use Rattle.engine.specs.Choice.{first}
use Rattle.engine.specs.Eval.{all_inputs}
use Rattle.engine.specs.Rectify.{rectifies}
use Rattle.engine.specs.Support.{driven_by}

unfoldable pub difference : Job → List ℕ → List ℕ → Option ℕ
difference j is t = first (λ x. not (rectifies j x (driven_by j is t x))) (all_inputs j)

unfoldable pub pair_tests : List ℕ → List ℕ → List Test
pair_tests s p = job_tests s ++ sheet_tests (job_of s).targets (job_of s).candidates p
