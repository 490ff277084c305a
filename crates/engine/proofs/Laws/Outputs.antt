-- Laws of outputs in words: where two rows of outputs differ. Assumes nothing.
use Prim.Native.Nat.{ℕ, ◌+◌, ◌<◌}
use mathlib.Core.Path.{◌≡◌, refl, sym, ◌∙◌, ap}
use mathlib.Core.List.{List, [], ◌∷◌, ◌++◌, map}
use mathlib.Core.Bool.{Bool, true, false, ◌&&◌}
use native.Mathlib.Numerals.{add-one}
use native.Mathlib.Omega.{arith}
use lib.Dec.{eqb}
use lib.ListN.{length, get_or, take, set, length-map}
use lib.Seq.{take-suc, take-suc-set, length-take-le}
use Rattle.engine.specs.Choice.{same}

-- ---- one more output

pub same-snoc : (xs ys : List ℕ) (x y : ℕ) → length xs ≡ length ys
    → same (xs ++ (x ∷ [])) (ys ++ (y ∷ [])) ≡ (same xs ys && eqb x y)
unfolding same
same-snoc [] [] x y e = and-true-right (eqb x y)
  where
    and-true-right : (b : Bool) → (b && true) ≡ b
    and-true-right true = refl
    and-true-right false = refl
same-snoc [] (z ∷ ys) x y e = let f : ⊥ = omega arith in absurd f
same-snoc (z ∷ xs) [] x y e = let f : ⊥ = omega arith in absurd f
same-snoc (z ∷ xs) (w ∷ ys) x y e =
    ap (λ (b : Bool). eqb z w && b) (same-snoc xs ys x y (omega arith)) ∙ and_assoc (eqb z w) (same xs ys) (eqb x y)
  where
    and_assoc : (a b c : Bool) → (a && (b && c)) ≡ (a && b && c)
    and_assoc true b c = refl
    and_assoc false b c = refl

pub map_snoc : (f : ℕ → ℕ) (xs : List ℕ) (x : ℕ) → map f (xs ++ (x ∷ [])) ≡ map f xs ++ (f x ∷ [])
map_snoc f [] x = refl
map_snoc f (y ∷ xs) x = ap (λ (l : List ℕ). f y ∷ l) (map_snoc f xs x)

-- one more element of a list of picked nets
pub map_more : (f : ℕ → ℕ) (os : List ℕ) (i : ℕ) → i < length os
    → map f (take (i + 1) os) ≡ map f (take i os) ++ (f (get_or os i 0) ∷ [])
map_more f os i h =
    ap (λ (k : ℕ). map f (take k os)) (add-one i) ∙ ap (map f) (take-suc os i 0 h) ∙ map_snoc f (take i os) (get_or os i 0)

-- .. of two such lists that are compared
pub same_next : (f : ℕ → ℕ) (os ps : List ℕ) (i : ℕ) → i < length os → i < length ps
    → same (map f (take (i + 1) os)) (map f (take (i + 1) ps))
    ≡ (same (map f (take i os)) (map f (take i ps)) && eqb (f (get_or os i 0)) (f (get_or ps i 0)))
same_next f os ps i h l =
    let x = map f (take i os) in
    let y = map f (take i ps) in
    let m : length x ≡ length y =
    omega (arith, length-map (take i os) f, length-map (take i ps) f, length-take-le i os (omega arith), length-take-le i ps (omega arith)) in
    rw (map_more f os i h, map_more f ps i l) (same-snoc x y (f (get_or os i 0)) (f (get_or ps i 0)) m)

-- a turn of the loop that copies the picked nets' words
pub select-turn : (nets picks words : List ℕ) (i : ℕ) → i < length picks → i < length words
    → take i words ≡ map (λ o. get_or nets o 0) (take i picks)
    → take (i + 1) (set words i (get_or nets (get_or picks i 0) 0)) ≡ map (λ o. get_or nets o 0) (take (i + 1) picks)
select-turn nets picks words i h l e =
    let w = get_or nets (get_or picks i 0) 0 in
    ap (λ (k : ℕ). take k (set words i w)) (add-one i)
    ∙ take-suc-set words i w l
    ∙ ap (λ (xs : List ℕ). xs ++ (w ∷ [])) e
    ∙ sym (map_more (λ o. get_or nets o 0) picks i h)
