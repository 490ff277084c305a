-- The vectors in the order in which a block takes them, each differing from the one before in one target: a Gray code, with the bit of
-- target 0 and that of target u exchanged, so that target u is set most often (src/masks.rt). No public contract cites this file.
-- Assumes nothing.
--
--   swapped u v      vector v with the bits of targets 0 and u exchanged
--   ordered u s      the vector at step s
--   rank u v         the step at which vector v comes, below 16
--   turns u s        the target that step s sets anew, from step 1 on
--   Among m u        target u is one of m, or 0
--   mask_at ..       what the row of vector v says of input x once the steps below s are done
use Rattle.std.specs.Prelude.{ℕ, ◌+◌, ◌/◌, ◌^◌, ◌<◌, ◌≡◌, ◌⊎◌, [], ◌∷◌, map, cond, ◌&&◌, eqb, ltb, get_or}
use Rattle.std.specs.Int.Bits.{bit_xor}
use Rattle.records.specs.Job.{Job}
use Rattle.engine.specs.Eval.{bit, number_of, all_vectors}
use Rattle.engine.specs.Rectify.{rectifies}

unfoldable pub swapped : ℕ → ℕ → ℕ
swapped u v = cond (eqb (bit u v) (bit 0 v)) v (bit_xor v (1 + 2 ^ u))

unfoldable pub ordered : ℕ → ℕ → ℕ
ordered u s = swapped u (bit_xor s (s / 2))

unfoldable pub rank : ℕ → ℕ → ℕ
rank u v = get_or (0 ∷ 1 ∷ 3 ∷ 2 ∷ 7 ∷ 6 ∷ 4 ∷ 5 ∷ 15 ∷ 14 ∷ 12 ∷ 13 ∷ 8 ∷ 9 ∷ 11 ∷ 10 ∷ []) (swapped u v) 16

unfoldable pub turns : ℕ → ℕ → ℕ
turns u s =
    let t : ℕ = get_or (0 ∷ 0 ∷ 1 ∷ 0 ∷ 2 ∷ 0 ∷ 1 ∷ 0 ∷ 3 ∷ 0 ∷ 1 ∷ 0 ∷ 2 ∷ 0 ∷ 1 ∷ 0 ∷ []) s 0 in
    cond (eqb t 0) u (cond (eqb t u) 0 t)

abbrev pub Among : ℕ → ℕ → Type 0
Among m u = (u ≡ 0) ⊎ (u < m)

unfoldable pub mask_at : Job → ℕ → ℕ → ℕ → ℕ → ℕ
mask_at j x u s v = cond (ltb (rank u v) s && rectifies j x v) 1 0

unfoldable pub rectifiers : Job → ℕ → ℕ
rectifiers j x = number_of (map (λ v. cond (rectifies j x v) 1 0) (all_vectors j))
