-- Laws of a list whose first numbers are replaced one after the other by what a function gives for each. Assumes nothing.
use Prim.Native.Nat.{ℕ, zero, suc, ◌+◌, ◌≤◌, ◌<◌}
use mathlib.Core.Path.{◌≡◌, refl, sym, ◌∙◌, ap}
use mathlib.Core.List.{List, [], ◌∷◌, ◌++◌, map, append-nil}
use native.Mathlib.Numerals.{add-one}
use native.Mathlib.Omega.{arith}
use lib.ListN.{length, get_or, take, drop, set, length-map}
use lib.Seq.{take-length, drop-length, take_at, length-take-le}
use Rattle.records.specs.Claims.{Below}

-- the numbers xs, the first n of them by f
abbrev pub mapped : (ℕ → ℕ) → ℕ → List ℕ → List ℕ
mapped f n xs = map f (take n xs) ++ drop n xs

module _ (f : ℕ → ℕ) where
  at : (n : ℕ) (xs : List ℕ) → get_or (mapped f n xs) n 0 ≡ get_or xs n 0
  at zero xs = refl
  at (suc n) [] = refl
  at (suc n) (x ∷ xs) = at n xs

  next : (n : ℕ) (xs : List ℕ) → n < length xs → set (mapped f n xs) n (f (get_or xs n 0)) ≡ mapped f (suc n) xs
  next n [] h = let z : ⊥ = omega arith in absurd z
  next zero (x ∷ xs) h = refl
  next (suc n) (x ∷ xs) h = ap (λ (l : List ℕ). f x ∷ l) (next n xs (omega arith))

  -- the loop that replaces them, ys at turn n: the number at n is as it was, then it is replaced, and after the loop all are
  module _ (n : ℕ) (xs : List ℕ) {ys : List ℕ} (e : ys ≡ mapped f n xs) where
    pub mapped-at : get_or ys n 0 ≡ get_or xs n 0
    mapped-at = ap (λ (l : List ℕ). get_or l n 0) e ∙ at n xs

    pub mapped-next : {v : ℕ} → n < length xs → v ≡ f (get_or ys n 0) → set ys n v ≡ mapped f (n + 1) xs
    mapped-next {v} h q =
        let k : v ≡ f (get_or xs n 0) = q ∙ ap f mapped-at in
        ap (λ (l : List ℕ). set l n v) e
        ∙ ap (set (mapped f n xs) n) k
        ∙ next n xs h
        ∙ ap (λ (m : ℕ). mapped f m xs) (sym (add-one n))

    pub mapped-all : n ≡ length xs → ys ≡ map f xs
    mapped-all h =
        e
        ∙ ap (λ (m : ℕ). mapped f m xs) h
        ∙ (rw (take-length xs, drop-length xs) (append-nil (map f xs)))

  -- .. are below a bound where f keeps below it
  pub mapped-below : (k n : ℕ) (xs : List ℕ) → Below k xs → ((i : ℕ) → f (get_or xs i 0) < k) → Below k (mapped f n xs)
  mapped-below k zero xs b h i = b i
  mapped-below k (suc n) [] b h i = b i
  mapped-below k (suc n) (x ∷ xs) b h zero = h 0
  mapped-below k (suc n) (x ∷ xs) b h (suc i) = mapped-below k n xs (λ m. b (suc m)) (λ m. h (suc m)) i

-- ---- numbers below a bound, in parts of a list

module _ (k : ℕ) where
  pub below-append : (xs ys : List ℕ) → Below k xs → Below k ys → Below k (xs ++ ys)
  below-append [] ys a b i = b i
  below-append (x ∷ xs) ys a b zero = a 0
  below-append (x ∷ xs) ys a b (suc i) = below-append xs ys (λ n. a (suc n)) b i

  pub below-drop : (n : ℕ) (xs : List ℕ) → Below k xs → Below k (drop n xs)
  below-drop zero xs b i = b i
  below-drop (suc n) [] b i = b i
  below-drop (suc n) (x ∷ xs) b i = below-drop n xs (λ m. b (suc m)) i

  pub below-take : 0 < k → (n : ℕ) (xs : List ℕ) → ((i : ℕ) → i < n → get_or xs i 0 < k) → Below k (take n xs)
  below-take h zero xs b i = h
  below-take h (suc n) [] b i = h
  below-take h (suc n) (x ∷ xs) b zero = b 0 (omega arith)
  below-take h (suc n) (x ∷ xs) b (suc i) = below-take h n xs (λ m l. b (suc m) (omega arith)) i

  pub below-all : (xs : List ℕ) → 0 < k → ((i : ℕ) → i < length xs → get_or xs i 0 < k) → Below k xs
  below-all [] h b i = h
  below-all (x ∷ xs) h b zero = b 0 (omega arith)
  below-all (x ∷ xs) h b (suc i) = below-all xs h (λ n l. b (suc n) (omega arith)) i

  pub below-map : (f : ℕ → ℕ) (xs : List ℕ) → 0 < k → ((i : ℕ) → i < length xs → f (get_or xs i 0) < k) → Below k (map f xs)
  below-map f [] h b i = h
  below-map f (x ∷ xs) h b zero = b 0 (omega arith)
  below-map f (x ∷ xs) h b (suc i) = below-map f xs h (λ n l. b (suc n) (omega arith)) i

-- the first n of them once they are replaced
pub take-mapped : (f : ℕ → ℕ) (n : ℕ) (xs : List ℕ) → n ≤ length xs → take n (mapped f n xs) ≡ map f (take n xs)
take-mapped f n xs h = take_at (map f (take n xs)) (drop n xs) n (length-map (take n xs) f ∙ length-take-le n xs h)
