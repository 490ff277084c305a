-- Gates on 0, 1 and not yet known (document 01, "Nets and gates": the three by three tables; card 6 of document 02). Assumes nothing.
--
--   unknown                2 stands for not yet known
--   agreed vs              the value that all of vs have, or unknown
--   completions_of xs      the lists that xs may turn out to be, each element taken on its own
--   ternary_value k xs     kind k on the operands xs, however many they are: known exactly when every completion of the operands, each
--                          taken on its own, gives the same value
--   ternary_table k        the three by three table of kind k on two operands
--   entry t x y            the entry of the table t at the operands x and y, where any number above 1 stands for not yet known
--   Completes a x          a is a value that x may turn out to have: 0 or 1, and x itself where x is known
--   CompletesAll vs xs     the list vs is one that xs may turn out to be
--   Possible k x y v       v is what kind k gives on a completion of x and a completion of y
--   PossibleOf k xs v      v is what kind k gives on a completion of xs
use Rattle.std.specs.Prelude.{ℕ, ◌<◌, min, ◌≡◌, List, [], ◌∷◌, ◌++◌, map, cond, eqb, length, get_or}
use Rattle.records.specs.Bytes.{all}
use Rattle.records.specs.Gate.{gate_value}

abbrev pub unknown : ℕ
unknown = 2

unfoldable pub agreed : List ℕ → ℕ
agreed [] = unknown
agreed (v ∷ vs) = cond (all (eqb v) vs) v unknown

unfoldable pub completions_of : List ℕ → List (List ℕ)
completions_of [] = [] ∷ []
completions_of (x ∷ xs) =
    let vss = completions_of xs in
    cond (eqb x unknown)
    (map (λ (vs : List ℕ). 0 ∷ vs) vss ++ map (λ (vs : List ℕ). 1 ∷ vs) vss)
    (map (λ (vs : List ℕ). x ∷ vs) vss)

unfoldable pub ternary_value : ℕ → List ℕ → ℕ
ternary_value k xs = agreed (map (gate_value k) (completions_of xs))

unfoldable pub ternary_table : ℕ → List (List ℕ)
ternary_table k = map (λ x. map (λ y. ternary_value k (x ∷ y ∷ [])) (0 ∷ 1 ∷ 2 ∷ [])) (0 ∷ 1 ∷ 2 ∷ [])

unfoldable pub entry : List (List ℕ) → ℕ → ℕ → ℕ
entry t x y = get_or (get_or t (min x unknown) []) (min y unknown) 0

-- ---- what the laws of the tables say

pub record Completes (a x : ℕ) : Type 0 where
  pub bit : a < 2
  pub kept : x < unknown → a ≡ x

pub record Possible (k x y v : ℕ) : Type 0 where
  pub left : ℕ
  pub right : ℕ
  pub completes_left : Completes left x
  pub completes_right : Completes right y
  pub gives : gate_value k (left ∷ right ∷ []) ≡ v

pub record CompletesAll (vs xs : List ℕ) : Type 0 where
  pub long : length vs ≡ length xs
  pub each : (i : ℕ) → i < length xs → Completes (get_or vs i 0) (get_or xs i 0)

pub record PossibleOf (k : ℕ) (xs : List ℕ) (v : ℕ) : Type 0 where
  pub choice : List ℕ
  pub completes : CompletesAll choice xs
  pub gives : gate_value k choice ≡ v
