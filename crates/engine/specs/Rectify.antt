-- Vectors that rectify inputs, and the vector loop (document 01, "Verdicts"; DATE 2012, Algorithm 1). Assumes nothing.
--
--   rectifies j x v       vector v rectifies input x (01: v fixes x): with the targets set to v, the old outputs at x are the
--                         golden ones
--   rectifiable j x       some vector rectifies x (01: x is fixable)
--   unrectified j vs x       no vector of the list vs rectifies x
--   Listed                what the loop gives: the vector list, and the input at which it stopped for want of a vector
--   rounds j k vs         k rounds of the loop from the list vs
--   vector_loop j         the loop, from the single vector 0. Each round appends a vector that is not listed yet, so as many
--                         rounds as there are vectors are enough
use Rattle.std.specs.Prelude.{ℕ, zero, suc, ◌^◌, List, [], ◌∷◌, ◌++◌, Bool, not}
use Rattle.std.proofs.Math.Option.{Option, none, some}
use Rattle.records.specs.Job.{Job}
use Rattle.engine.specs.Choice.{any, first, same}
use Rattle.engine.specs.Eval.{all_inputs, all_vectors, old_outputs, golden_outputs}

unfoldable pub rectifies : Job → ℕ → ℕ → Bool
rectifies j x v = same (old_outputs j x v) (golden_outputs j x)

unfoldable pub rectifiable : Job → ℕ → Bool
rectifiable j x = any (rectifies j x) (all_vectors j)

unfoldable pub unrectified : Job → List ℕ → ℕ → Bool
unrectified j vs x = not (any (rectifies j x) vs)

pub record Listed : Type 0 where
  pub vectors : List ℕ
  pub stuck : Option ℕ

-- Take the smallest input that no listed vector rectifies; append the smallest vector that rectifies it; repeat until there is
-- no such input, or no such vector.
unfoldable pub rounds : Job → ℕ → List ℕ → Listed
rounds j zero vs = record { vectors = vs; stuck = none }
rounds j (suc k) vs =
    elim (first (unrectified j vs) (all_inputs j)) [
      | none ↦ record { vectors = vs; stuck = none }
      | some x ↦
          elim (first (rectifies j x) (all_vectors j))
          [ none ↦ record { vectors = vs; stuck = some x } | some v ↦ rounds j k (vs ++ (v ∷ [])) ]
    ]

unfoldable pub vector_loop : Job → Listed
vector_loop j = rounds j (2 ^ j.targets) (0 ∷ [])
