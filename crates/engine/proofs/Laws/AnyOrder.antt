-- Steps that commute and are idempotent may be taken in any order, and any number of times; so may the inputs that narrow the sets
-- of vectors (specs/Walk). Assumes nothing.
use Prim.Native.Nat.{ℕ, zero, suc, ◌+◌, ◌/◌, ◌%◌, min, ◌<◌}
use mathlib.Core.Path.{◌≡◌, refl, sym, ◌∙◌, ap}
use mathlib.Core.Logic.{⊎_elim}
use mathlib.Core.List.Memᴰ.{cases_cons}
use mathlib.Core.List.Memᴰ.{head as here}
use mathlib.Core.List.Memᴰ.{not-nil}
use mathlib.Core.List.Memᴰ.{tail as there}
use mathlib.Core.List.{List, [], ◌∷◌, Memᴰ as Mem}
use native.Mathlib.Nat.{eq-or-lt_of_le, zero-add}
use native.Mathlib.Numerals.{add-one}
use native.Mathlib.Omega.{arith}
use lib.Arith.{bin_ind}
use lib.Bits.{bit_and, and_step, and_comm, and_self}
use Rattle.engine.specs.Inner.Note.{narrowed, sets_from}
use Rattle.engine.proofs.Laws.List.{narrowing, sets_from-snoc}

-- a step for each of the list, the last first
unfoldable pub met : {A X : Type 0} → (A → X → A) → A → List X → A
met step a [] = a
met step a (x ∷ xs) = step (met step a xs) x

module _ {A X : Type 0} (step : A → X → A) (comm : (a : A) (x y : X) → step (step a x) y ≡ step (step a y) x)
    (idem : (a : A) (x : X) → step (step a x) x ≡ step a x) where
  past : (a : A) (x : X) (xs : List X) → met step (step a x) xs ≡ step (met step a xs) x
  unfolding met
  past a x [] = refl
  past a x (y ∷ ys) = ap (λ (b : A). step b y) (past a x ys) ∙ comm (met step a ys) x y

  absorb : (a : A) (x : X) (xs : List X) → Mem x xs → step (met step a xs) x ≡ met step a xs
  unfolding met
  absorb a x [] m = absurd (not-nil m)
  absorb a x (y ∷ ys) m =
      ⊎_elim
      (λ (e : x ≡ y). rw e (idem (met step a ys) y))
      (λ (n : Mem x ys). comm (met step a ys) y x ∙ ap (λ (b : A). step b y) (absorb a x ys n))
      (cases_cons m)

  absorbs : (a : A) (xs ys : List X) → ((x : X) → Mem x xs → Mem x ys) → met step (met step a ys) xs ≡ met step a ys
  unfolding met
  absorbs a [] ys h = refl
  absorbs a (x ∷ xs) ys h =
      ap (λ (b : A). step b x) (absorbs a xs ys (λ z m. h z (there m))) ∙ absorb a x ys (h x (here refl))

  swap : (a : A) (xs ys : List X) → met step (met step a xs) ys ≡ met step (met step a ys) xs
  unfolding met
  swap a xs [] = refl
  swap a xs (y ∷ ys) = ap (λ (b : A). step b y) (swap a xs ys) ∙ sym (past (met step a ys) y xs)

  -- lists with the same members
  any_order : (a : A) (xs ys : List X) → ((x : X) → Mem x xs → Mem x ys) → ((x : X) → Mem x ys → Mem x xs)
      → met step a xs ≡ met step a ys
  any_order a xs ys h k = sym (absorbs a ys xs k) ∙ swap a xs ys ∙ absorbs a xs ys h

-- ---- the numbers below n, in some order

-- h of the numbers below n, the last first
unfoldable pub under : (ℕ → ℕ) → ℕ → List ℕ
under h zero = []
under h (suc n) = h n ∷ under h n

mem-under : (h : ℕ → ℕ) (n m : ℕ) → m < n → Mem (h m) (under h n)
unfolding under
mem-under h zero m l = let f : ⊥ = omega arith in absurd f
mem-under h (suc n) m l =
    ⊎_elim (λ (e : m ≡ n). here (ap h e)) (λ (b : m < n). there (mem-under h n m b)) (eq-or-lt_of_le (omega arith))

under-mem : (h : ℕ → ℕ) (P : ℕ → Type 0) (n : ℕ) → ((m : ℕ) → m < n → P (h m)) → (x : ℕ) → Mem x (under h n) → P x
unfolding under
under-mem h P zero p x m = absurd (not-nil m)
under-mem h P (suc n) p x m =
    ⊎_elim
    (λ (e : x ≡ h n). rw e (p n (omega arith)))
    (λ (b : Mem x (under h n)). under-mem h P n (λ k l. p k (omega arith)) x b)
    (cases_cons m)

-- ---- a step of the sets

and-digits : (a b : ℕ) → (bit_and a b / 2 ≡ bit_and (a / 2) (b / 2)) × (bit_and a b % 2 ≡ min (a % 2) (b % 2))
and-digits a b =
    let s = and_step a b in
    (omega arith, omega arith)

and_assoc : (a b c : ℕ) → bit_and (bit_and a b) c ≡ bit_and a (bit_and b c)
and_assoc =
    bin_ind (λ (a : ℕ). (b c : ℕ) → bit_and (bit_and a b) c ≡ bit_and a (bit_and b c)) (λ b c. refl)
    (λ a ih b c.
    let p = and-digits a b in
    let q = and-digits b c in
    and_step (bit_and a b) c
    ∙ rw (p.0, p.1, ih (b / 2) (c / 2), ← q.0)
    (let e : min (min (a % 2) (b % 2)) (c % 2) ≡ min (a % 2) (bit_and b c % 2) = omega (arith, q.1) in
    rw e (sym (and_step a (bit_and b c)))))

narrowed-comm : (ss : List ℕ) (r s q t : ℕ) → narrowed (narrowed ss r s) q t ≡ narrowed (narrowed ss q t) r s
unfolding narrowed
narrowed-comm [] r s q t = refl
narrowed-comm (a ∷ bs) zero s zero t =
    ap (λ (b : ℕ). b ∷ bs) (and_assoc a s t ∙ ap (bit_and a) (and_comm s t) ∙ sym (and_assoc a t s))
narrowed-comm (a ∷ bs) zero s (suc q) t = refl
narrowed-comm (a ∷ bs) (suc r) s zero t = refl
narrowed-comm (a ∷ bs) (suc r) s (suc q) t = ap (λ (cs : List ℕ). a ∷ cs) (narrowed-comm bs r s q t)

narrowed-idem : (ss : List ℕ) (r s : ℕ) → narrowed (narrowed ss r s) r s ≡ narrowed ss r s
unfolding narrowed
narrowed-idem [] r s = refl
narrowed-idem (a ∷ bs) zero s = ap (λ (b : ℕ). b ∷ bs) (and_assoc a s s ∙ ap (bit_and a) (and_self s))
narrowed-idem (a ∷ bs) (suc r) s = ap (λ (cs : List ℕ). a ∷ cs) (narrowed-idem bs r s)

-- ---- the sets after the inputs v 0 .. v (n - 1)

-- in order
pub sets_from-met : (f g : ℕ → ℕ) (ss : List ℕ) (n : ℕ) → sets_from f g ss 0 n ≡ met (narrowing f g) ss (under (λ y. y) n)
unfolding met under sets_from
sets_from-met f g ss zero = refl
sets_from-met f g ss (suc n) =
    let s : sets_from f g ss 0 (suc n) ≡ narrowing f g (sets_from f g ss 0 n) (0 + n) =
    rw (add-one n) at (sets_from-snoc f g ss 0 n) in
    s ∙ rw (zero-add n, sets_from-met f g ss n)

-- steps h and k, taken in turn, that are the steps f and g of the inputs v 0, v 1, ..
pub met-along : (v f g h k : ℕ → ℕ) (ss : List ℕ) (n : ℕ) → ((m : ℕ) → m < n → (h m ≡ f (v m)) × (k m ≡ g (v m)))
    → met (narrowing h k) ss (under (λ y. y) n) ≡ met (narrowing f g) ss (under v n)
unfolding met under
met-along v f g h k ss zero e = refl
met-along v f g h k ss (suc n) e =
    let d = e n (omega arith) in
    rw (d.0, d.1, met-along v f g h k ss n (λ m l. e m (omega arith)))

-- v and w take the same inputs
pub met-order : (f g v w : ℕ → ℕ) (ss : List ℕ) (n m : ℕ) → ((i : ℕ) → i < n → (k : ℕ) × (k < m) × (w k ≡ v i))
    → ((k : ℕ) → k < m → (i : ℕ) × (i < n) × (v i ≡ w k))
    → met (narrowing f g) ss (under v n) ≡ met (narrowing f g) ss (under w m)
met-order f g v w ss n m p q =
    any_order (narrowing f g) (λ a x y. narrowed-comm a (g x) (f x) (g y) (f y)) (λ a x. narrowed-idem a (g x) (f x)) ss
    (under v n)
    (under w m)
    (under-mem v (λ (x : ℕ). Mem x (under w m)) n (λ i l. let r = p i l in rw r.2 at (mem-under w m r.0 r.1)))
    (under-mem w (λ (x : ℕ). Mem x (under v n)) m (λ k l. let r = q k l in rw r.2 at (mem-under v n r.0 r.1)))
