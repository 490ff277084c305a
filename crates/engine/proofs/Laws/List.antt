-- Laws of the walk over the inputs (specs/Inner/List): a step of the list, steps one after the other, and steps that change nothing.
-- Assumes nothing.
use Prim.Native.Nat.{ℕ, zero, suc, ◌+◌, ◌^◌, ◌≤◌, ◌<◌}
use mathlib.Core.Path.{◌≡◌, refl, sym, ◌∙◌, ap}
use mathlib.Core.Logic.{◌⊎◌, inl, inr, ⊎_elim}
use mathlib.Core.List.Memᴰ.{append_cases}
use mathlib.Core.List.Memᴰ.{append_left}
use mathlib.Core.List.Memᴰ.{eq_of_singleton}
use mathlib.Core.List.Memᴰ.{head as here}
use mathlib.Core.List.{List, [], ◌∷◌, ◌++◌, Memᴰ as Mem}
use mathlib.Core.Bool.{Bool, true, false, cond}
use mathlib.Core.Option.{Option, none, some}
use native.Mathlib.Nat.{zero-add, add-zero, suc-add, eq-or-lt_of_le}
use native.Mathlib.Numerals.{add-one}
use native.Mathlib.Omega.{arith}
use borrow.Author.Tests.{eq-eqb, ltb-true, ltb-false, lt-ltb, le-ltb}
use lib.Dec.{ltb}
use lib.ListN.{length, get_or, set}
use lib.Pow.{pow_pos}
use Rattle.records.specs.Job.{Job}
use Rattle.engine.specs.Choice.{any}
use Rattle.engine.specs.Eval.{bit}
use Rattle.engine.specs.Rectify.{rectifies, Listed}
use Rattle.engine.specs.Inner.Masks.{rectifiers}
use Rattle.engine.specs.Inner.List.{lowest, list_step, listed_from, start_list}
use Rattle.engine.specs.Inner.Note.{narrowed, sets_from}
use Rattle.engine.proofs.Laws.Choice.{true-or-false, none_or_some, any-of-member}
use Rattle.engine.proofs.Laws.VectorSets.{in_set, rectifiers-bit}

-- ---- k steps from x on

unfoldable pub walked : {A : Type 0} → (A → ℕ → A) → A → ℕ → ℕ → A
walked step a x zero = a
walked step a x (suc k) = walked step (step a x) (suc x) k

module _ {A : Type 0} (step : A → ℕ → A) where
  pub walked-append : (a : A) (x k i : ℕ) → walked step a x (k + i) ≡ walked step (walked step a x k) (x + k) i
  unfolding walked
  walked-append a x zero i = rw (zero-add i, add-zero x)
  walked-append a x (suc k) i =
      let e : suc x + k ≡ x + suc k = omega arith in
      rw (suc-add k i)
      (walked-append (step a x) (suc x) k i ∙ ap (λ (n : ℕ). walked step (walked step (step a x) (suc x) k) n i) e)

  pub walked-snoc : (a : A) (x k : ℕ) → walked step a x (k + 1) ≡ step (walked step a x k) (x + k)
  unfolding walked
  walked-snoc a x k = walked-append a x k 1

  -- what each step keeps holds at the end
  pub walked-holds : (P : ℕ → A → Type 0) (a : A) (x k : ℕ) → P x a
      → ((y : ℕ) → x ≤ y → y < x + k → (b : A) → P y b → P (y + 1) (step b y)) → P (x + k) (walked step a x k)
  unfolding walked
  walked-holds P a x zero p h = rw (add-zero x) p
  walked-holds P a x (suc k) p h =
      let e : x + 1 + k ≡ x + suc k = omega arith in
      let q : P (x + 1) (step a x) = h x (omega arith) (omega arith) a p in
      rw (← e, ← add-one x) (walked-holds P (step a x) (x + 1) k q (λ y l u b r. h y (omega arith) (omega arith) b r))

  -- steps that change nothing
  pub walked-still : (a : A) (x k : ℕ) → ((y : ℕ) → x ≤ y → y < x + k → step a y ≡ a) → walked step a x k ≡ a
  unfolding walked
  walked-still a x zero h = refl
  walked-still a x (suc k) h =
      rw (h x (omega arith) (omega arith)) (walked-still a (suc x) k (λ y l u. h y (omega arith) (omega arith)))

-- ---- lists

-- a store keeps what holds of all elements
pub set_holds : (P : ℕ → Type 0) (xs : List ℕ) (i x : ℕ) → ((k : ℕ) → P (get_or xs k 0)) → P x
    → (k : ℕ) → P (get_or (set xs i x) k 0)
set_holds P [] i x b h k = b k
set_holds P (y ∷ ys) zero x b h zero = h
set_holds P (y ∷ ys) zero x b h (suc k) = b (suc k)
set_holds P (y ∷ ys) (suc i) x b h zero = b zero
set_holds P (y ∷ ys) (suc i) x b h (suc k) = set_holds P ys i x (λ m. b (suc m)) h k

-- .. as a bound
pub set_below : (xs : List ℕ) (i x n : ℕ) → ((k : ℕ) → get_or xs k 0 < n) → x < n → (k : ℕ) → get_or (set xs i x) k 0 < n
set_below xs i x n = set_holds (λ y. y < n) xs i x

pub eq-or-below : (x y : ℕ) → x < y + 1 → (x ≡ y) ⊎ (x < y)
eq-or-below x y h = eq-or-lt_of_le (omega arith)

-- ---- a step of the list

pub listed-eta : (l : Listed) (o : Option ℕ) → l.stuck ≡ o → l ≡ record { vectors = l.vectors; stuck = o }
listed-eta l o e = ap (λ (q : Option ℕ). record { vectors = l.vectors; stuck = q }) e

module _ (l : Listed) (s x : ℕ) where
  pub list_step-stuck : (y : ℕ) → l.stuck ≡ some y → list_step l s x ≡ l
  unfolding list_step
  list_step-stuck y e = rw (e, list_step) (listed-eta l (some y) e)

  pub list_step-listed : any (in_set s) l.vectors ≡ true → list_step l s x ≡ l
  unfolding list_step
  list_step-listed a =
      ⊎_elim
      (λ (e : l.stuck ≡ none). rw (e, a, list_step) (listed-eta l none e))
      (λ r. list_step-stuck r.0 r.1)
      (none_or_some l.stuck)

  module _ (e : l.stuck ≡ none) (a : any (in_set s) l.vectors ≡ false) where
    pub list_step-none : lowest s ≡ none → list_step l s x ≡ record { vectors = l.vectors; stuck = some x }
    unfolding list_step
    list_step-none n = rw (e, a, n, list_step)

    pub list_step-append : (v : ℕ) → lowest s ≡ some v → length l.vectors < 16
        → list_step l s x ≡ record { vectors = l.vectors ++ (v ∷ []); stuck = none }
    unfolding list_step
    list_step-append v n h = rw (e, a, n, lt-ltb (length l.vectors) 16 h, list_step)

    pub list_step-full : (v : ℕ) → lowest s ≡ some v → 16 ≤ length l.vectors → list_step l s x ≡ l
    unfolding list_step
    list_step-full v n h = rw (e, a, n, le-ltb (length l.vectors) 16 h, list_step) (listed-eta l none e)

-- ---- the list after several steps

module _ (f : ℕ → ℕ) where
  abbrev pub listing : Listed → ℕ → Listed
  listing l y = list_step l (f y) y

  pub listed_from-walked : (l : Listed) (x k : ℕ) → listed_from f l x k ≡ walked listing l x k
  unfolding listed_from walked
  listed_from-walked l x zero = refl
  listed_from-walked l x (suc k) = listed_from-walked (list_step l (f x) x) (suc x) k

  pub listed_from-append : (l : Listed) (x k i : ℕ) → listed_from f l x (k + i) ≡ listed_from f (listed_from f l x k) (x + k) i
  listed_from-append l x k i =
      rw (listed_from-walked l x (k + i), listed_from-walked l x k, listed_from-walked (walked listing l x k) (x + k) i)
      (walked-append listing l x k i)

  pub listed_from-snoc : (l : Listed) (x k : ℕ)
      → listed_from f l x (k + 1) ≡ list_step (listed_from f l x k) (f (x + k)) (x + k)
  listed_from-snoc l x k = rw (listed_from-walked l x (k + 1), listed_from-walked l x k) (walked-snoc listing l x k)

-- ---- the sets after several steps

module _ (f g : ℕ → ℕ) where
  abbrev pub narrowing : List ℕ → ℕ → List ℕ
  narrowing ss y = narrowed ss (g y) (f y)

  pub sets_from-walked : (ss : List ℕ) (x k : ℕ) → sets_from f g ss x k ≡ walked narrowing ss x k
  unfolding sets_from walked
  sets_from-walked ss x zero = refl
  sets_from-walked ss x (suc k) = sets_from-walked (narrowed ss (g x) (f x)) (suc x) k

  pub sets_from-append : (ss : List ℕ) (x k i : ℕ) → sets_from f g ss x (k + i) ≡ sets_from f g (sets_from f g ss x k) (x + k) i
  sets_from-append ss x k i =
      rw (sets_from-walked ss x (k + i), sets_from-walked ss x k, sets_from-walked (walked narrowing ss x k) (x + k) i)
      (walked-append narrowing ss x k i)

  pub sets_from-snoc : (ss : List ℕ) (x k : ℕ)
      → sets_from f g ss x (k + 1) ≡ narrowed (sets_from f g ss x k) (g (x + k)) (f (x + k))
  sets_from-snoc ss x k = rw (sets_from-walked ss x (k + 1), sets_from-walked ss x k) (walked-snoc narrowing ss x k)

-- ---- once stuck, the list stays

module _ (f : ℕ → ℕ) (l : Listed) (x k y : ℕ) (e : l.stuck ≡ some y) where
  pub listed_from-stuck : listed_from f l x k ≡ l
  listed_from-stuck =
      listed_from-walked f l x k ∙ walked-still (listing f) l x k (λ z a b. list_step-stuck l (f z) z y e)

pub stuck-stays : (f : ℕ → ℕ) (l : Listed) (x k y : ℕ) → (listed_from f l 0 x).stuck ≡ some y
    → listed_from f l 0 (x + k) ≡ listed_from f l 0 x
stuck-stays f l x k y e =
    listed_from-append f l 0 x k ∙ listed_from-stuck f (listed_from f l 0 x) (0 + x) k y e

-- ---- steps that change nothing

-- a step keeps the listed vectors, or appends the smallest of the set
list_step-vectors : (l : Listed) (s x : ℕ)
    → ((list_step l s x).vectors ≡ l.vectors) ⊎ ((v : ℕ) × (lowest s ≡ some v) × ((list_step l s x).vectors ≡ l.vectors ++ (v ∷ [])))
list_step-vectors l s x =
    let vs : Listed → List ℕ = λ k. k.vectors in
    ⊎_elim
    (λ (n : l.stuck ≡ none).
    ⊎_elim
    (λ (a : any (in_set s) l.vectors ≡ true). inl (ap vs (list_step-listed l s x a)))
    (λ (a : any (in_set s) l.vectors ≡ false).
    ⊎_elim
    (λ (e : lowest s ≡ none). inl (ap vs (list_step-none l s x n a e)))
    (λ r.
    ⊎_elim
    (λ (t : ltb (length l.vectors) 16 ≡ true).
    inr (r.0, r.1, ap vs (list_step-append l s x n a r.0 r.1 (ltb-true (length l.vectors) 16 t))))
    (λ (t : ltb (length l.vectors) 16 ≡ false).
    inl (ap vs (list_step-full l s x n a r.0 r.1 (ltb-false (length l.vectors) 16 t))))
    (true-or-false (ltb (length l.vectors) 16)))
    (none_or_some (lowest s)))
    (true-or-false (any (in_set s) l.vectors)))
    (λ r. inl (ap vs (list_step-stuck l s x r.0 r.1)))
    (none_or_some l.stuck)

module _ (f : ℕ → ℕ) where
  -- vector 0 stays listed
  pub zero-listed : (x : ℕ) → Mem 0 (listed_from f start_list 0 x).vectors
  zero-listed x =
      rw (listed_from-walked f start_list 0 x)
      (walked-holds (listing f) (λ y l. Mem 0 l.vectors) start_list 0 x (here refl)
      (λ y a b l m.
      ⊎_elim
      (λ (e : (list_step l (f y) y).vectors ≡ l.vectors). rw e m)
      (λ r. rw r.2 (append_left (r.0 ∷ []) m))
      (list_step-vectors l (f y) y)))

  -- any other listed vector is the smallest of a set
  pub listed-cases : (x v : ℕ) → Mem v (listed_from f start_list 0 x).vectors → (v ≡ 0) ⊎ ((y : ℕ) × (lowest (f y) ≡ some v))
  listed-cases x v =
      rw (listed_from-walked f start_list 0 x)
      (walked-holds (listing f) (λ y l. Mem v l.vectors → (v ≡ 0) ⊎ ((z : ℕ) × (lowest (f z) ≡ some v))) start_list 0 x
      (λ m. inl (eq_of_singleton m))
      (λ y a b l h m.
      ⊎_elim
      (λ (e : (list_step l (f y) y).vectors ≡ l.vectors). h (rw e at m))
      (λ r.
      ⊎_elim
      (λ (n : Mem v l.vectors). h n)
      (λ (n : Mem v (r.0 ∷ [])). inr (y, r.1 ∙ ap some (sym (eq_of_singleton n))))
      (append_cases l.vectors (rw r.2 at m)))
      (list_step-vectors l (f y) y)))

  -- inputs of whose set some vector is listed add nothing to the list
  pub listed_from-still : (x k : ℕ)
      → ((y : ℕ) → x ≤ y → y < x + k → any (in_set (f y)) (listed_from f start_list 0 x).vectors ≡ true)
      → listed_from f start_list 0 (x + k) ≡ listed_from f start_list 0 x
  listed_from-still x k h =
      let l : Listed = listed_from f start_list 0 x in
      let o : 0 + x ≡ x = zero-add x in
      listed_from-append f start_list 0 x k
      ∙ ap (λ (z : ℕ). listed_from f l z k) o
      ∙ listed_from-walked f l x k
      ∙ walked-still (listing f) l x k (λ y a b. list_step-listed l (f y) y (h y a b))

  -- .. as those that vector 0 rectifies
  pub listed_from-skip : (x k : ℕ) → ((y : ℕ) → x ≤ y → y < x + k → bit 0 (f y) ≡ 1)
      → listed_from f start_list 0 (x + k) ≡ listed_from f start_list 0 x
  listed_from-skip x k h =
      listed_from-still x k
      (λ y a b.
      any-of-member (in_set (f y)) (listed_from f start_list 0 x).vectors 0 (zero-listed x) (eq-eqb (bit 0 (f y)) 1 (h y a b)))

module _ (j : Job) (x k : ℕ) (h : (y : ℕ) → x ≤ y → y < x + k → (v : ℕ) → v < 2 ^ j.targets → rectifies j y v ≡ true) where
  pub walk-skip-list : listed_from (rectifiers j) start_list 0 (x + k) ≡ listed_from (rectifiers j) start_list 0 x
  walk-skip-list =
      listed_from-skip (rectifiers j) x k
      (λ y a b.
      rectifiers-bit j y 0 (pow_pos j.targets) ∙ ap (λ (c : Bool). cond c 1 0) (h y a b 0 (pow_pos j.targets)))
