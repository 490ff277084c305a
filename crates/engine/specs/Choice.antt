-- Choosing from lists. Assumes nothing.
--
--   any p xs            p holds of some element of xs
--   keep p xs           the elements of xs of which p holds, in their order
--   first p xs          the first element of xs of which p holds
--   found o, or_zero o  whether there is one; the one, or 0
--   same xs ys          the lists of numbers xs and ys are equal
use Rattle.std.specs.Prelude.{ℕ, List, [], ◌∷◌, Bool, true, false, cond, ◌&&◌, ◌||◌, eqb}
use Rattle.std.proofs.Math.Option.{Option, none, some}

unfoldable pub any : {A : Type 0} → (A → Bool) → List A → Bool
any p [] = false
any p (x ∷ xs) = p x || any p xs

unfoldable pub keep : {A : Type 0} → (A → Bool) → List A → List A
keep p [] = []
keep p (x ∷ xs) = cond (p x) (x ∷ keep p xs) (keep p xs)

unfoldable pub first : {A : Type 0} → (A → Bool) → List A → Option A
first p [] = none
first p (x ∷ xs) = elim (p x) [ true ↦ some x | false ↦ first p xs ]

unfoldable pub found : Option ℕ → Bool
found none = false
found (some x) = true

unfoldable pub or_zero : Option ℕ → ℕ
or_zero none = 0
or_zero (some x) = x

unfoldable pub same : List ℕ → List ℕ → Bool
same [] [] = true
same [] (y ∷ ys) = false
same (x ∷ xs) [] = false
same (x ∷ xs) (y ∷ ys) = eqb x y && same xs ys
