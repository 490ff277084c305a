-- The vector list that the search over the inputs keeps (src/list.rt). A set of vectors is a number whose bit v says whether v is in it.
-- No public contract cites this file. Assumes nothing.
--
--   lowest s                     the smallest vector of the set s
--   list_step l s x              the vector list after input x, which the vectors s rectify
--   listed_from f l x k          .. after the k inputs from x on, where f says what rectifies each
--   start_list                   what the walk starts from
--   stuck_at o                   the input at which a struct's list is stuck
--   listed_of v                  the vector list that a struct holds
use Rattle.std.specs.Prelude.{ℕ, zero, suc, [], ◌∷◌, ◌++◌, true, false, eqb, ltb, length, take}
use Rattle.std.specs.Prelude.{Option as StdOption, Some, None}
use Rattle.std.proofs.Math.Option.{Option, none, some}
use Rattle.records.specs.Bytes.{up_from}
use Rattle.engine.specs.Choice.{any, first}
use Rattle.engine.specs.Eval.{bit}
use Rattle.engine.specs.Rectify.{Listed}
use Rattle.engine.specs.declared.list.Vectors.{Vectors}

-- ---- sets of vectors

abbrev pub max_vectors : ℕ
max_vectors = 16

unfoldable pub lowest : ℕ → Option ℕ
lowest s = first (λ v. eqb (bit v s) 1) (up_from 0 max_vectors)

-- ---- the vector list

-- the list is full at 16 vectors, and never needs more
unfoldable pub list_step : Listed → ℕ → ℕ → Listed
list_step l s x =
    elim l.stuck [
      | some y ↦ l
      | none ↦
          elim (any (λ v. eqb (bit v s) 1) l.vectors) [
            | true ↦ l
            | false ↦
                elim (lowest s) [
                  | none ↦ record { vectors = l.vectors; stuck = some x }
                  | some v ↦
                      elim (ltb (length l.vectors) max_vectors)
                      [ true ↦ record { vectors = l.vectors ++ (v ∷ []); stuck = none } | false ↦ l ]
                ]
          ]
    ]

unfoldable pub listed_from : (ℕ → ℕ) → Listed → ℕ → ℕ → Listed
listed_from f l x zero = l
listed_from f l x (suc k) = listed_from f (list_step l (f x) x) (suc x) k

abbrev pub start_list : Listed
start_list = record { vectors = 0 ∷ []; stuck = none }

-- the input, as the code's Option says it
unfoldable pub stuck_at : StdOption ℕ → Option ℕ
stuck_at None = none
stuck_at (Some x) = some x

unfoldable pub listed_of : Vectors → Listed
listed_of v = record { vectors = take v.len v.list; stuck = stuck_at v.stuck }
