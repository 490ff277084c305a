-- Laws of the noting of a block (src/note.rt): a set gathered row by row, rows joined word by word, the list stepped where no
-- listed vector covers the scenario. Assumes nothing.
use Prim.Native.Nat.{ℕ, zero, suc, ◌+◌, ◌-◌, ◌*◌, ◌/◌, ◌%◌, ◌^◌, min, max, ◌≤◌, ◌<◌}
use mathlib.Core.Path.{◌≡◌, refl, sym, ◌∙◌, ap, subst}
use mathlib.Core.Logic.{◌⊎◌, inl, inr, ⊎_elim}
use mathlib.Core.List.Memᴰ.{append_left}
use mathlib.Core.List.Memᴰ.{append_right}
use mathlib.Core.List.Memᴰ.{head as here}
use mathlib.Core.List.{List, [], ◌∷◌, ◌++◌}
use mathlib.Core.Bool.{Bool, true}
use native.Mathlib.Numerals.{add-one}
use native.Mathlib.Omega.{arith}
use borrow.Author.Tests.{eq-eqb}
use lib.Bits.{bit_and}
use lib.ListN.{length, get_or, take, drop, replicate, get_or-replicate}
use lib.Seq.{take-suc}
use Rattle.records.specs.Bytes.{tabulate}
use Rattle.records.proofs.Laws.Bytes.{drop-tabulate, drop-tabulate-end}
use Rattle.engine.specs.Choice.{any}
use Rattle.engine.specs.Eval.{bit, number_of}
use Rattle.engine.specs.Rectify.{Listed}
use Rattle.engine.specs.Inner.List.{list_step, listed_from, listed_of}
use Rattle.engine.specs.Inner.Note.{narrowed, gathered, Joined, CoveredTo, ListNoted}
use Rattle.engine.specs.Inner.Kernel.{value_in, row_value, FirstZero}
use Rattle.engine.specs.declared.list.Vectors.{Vectors}
use Rattle.engine.proofs.Laws.Choice.{any-true, any-of-member}
use Rattle.engine.proofs.Laws.Eval.{bit-lt}
use Rattle.engine.proofs.Laws.Rows.{bit-gathered, gathered-lt, value_in-lt}
use Rattle.engine.proofs.Laws.VectorSets.{in_set}
use Rattle.std.specs.Option.{is_some}
use Rattle.engine.proofs.Laws.Stream.{step-stuck}
use Rattle.engine.proofs.Laws.List.{listing, walked-still, listed_from-walked, listed_from-append, listed_from-snoc, list_step-listed}
use Rattle.engine.proofs.Laws.Word.{bit-zero}

-- ---- sets that a reading does not change

pub kept : (ss : List ℕ) (r s : ℕ) → bit_and (get_or ss r 0) s ≡ get_or ss r 0 → ss ≡ narrowed ss r s
unfolding narrowed
kept [] r s e = refl
kept (a ∷ bs) zero s e = ap (λ (b : ℕ). b ∷ bs) (sym e)
kept (a ∷ bs) (suc r) s e = ap (λ (cs : List ℕ). a ∷ cs) (kept bs r s e)

-- ---- a set gathered row by row, the last first

pub number_of-drop-le : (bs : List ℕ) (i : ℕ) → number_of (drop i bs) ≤ number_of bs
unfolding number_of
number_of-drop-le bs zero = omega arith
number_of-drop-le [] (suc i) = omega arith
number_of-drop-le (b ∷ bs) (suc i) = omega (arith, number_of-drop-le bs i)

module _ (x : List ℕ) (y : ℕ) where
  -- what is gathered from row i on
  abbrev pub rows_from : ℕ → ℕ
  rows_from i = number_of (drop i (tabulate 16 (value_in x y)))

  pub rows_from-all : rows_from 0 ≡ gathered x y
  unfolding gathered
  rows_from-all = refl

  pub rows_from-none : rows_from 16 ≡ 0
  unfolding number_of
  rows_from-none = ap number_of (drop-tabulate-end 16 (value_in x y))

  pub rows_from-lt : (i : ℕ) → rows_from i < 65536
  unfolding gathered
  rows_from-lt i = omega (arith, number_of-drop-le (tabulate 16 (value_in x y)) i, gathered-lt x y)

  pub rows_from-turn : (i : ℕ) → i < 16
      → 2 * rows_from (i + 1) + get_or x (16 * i + y / 64) 0 / 2 ^ (y % 64) % 2 ≡ rows_from i
  unfolding number_of value_in bit
  rows_from-turn i h = omega (arith, ap number_of (drop-tabulate 16 (value_in x y) i h))

-- ---- the first places of a list

-- one of the first i elements with p, or the one at i, is one of the first i + 1
pub any_next : (p : ℕ → Bool) (list : List ℕ) (i : ℕ) → i < length list → (any p (take i list) ≡ true) ⊎ (p (get_or list i 0) ≡ true)
    → any p (take (i + 1) list) ≡ true
any_next p list i l h =
    let v = get_or list i 0 in
    let t : take (i + 1) list ≡ take i list ++ (v ∷ []) = rw (add-one i) (take-suc list i 0 l) in
    rw t
    (⊎_elim
    (λ (a : any p (take i list) ≡ true).
    let r = any-true p (take i list) a in
    any-of-member p (take i list ++ (v ∷ [])) r.0 (append_left (v ∷ []) r.1) r.2)
    (λ (a : p v ≡ true). any-of-member p (take i list ++ (v ∷ [])) v (append_right (take i list) (here refl)) a)
    h)

-- ---- rows joined

pub joined-none : (masks vs : List ℕ) → Joined masks vs (replicate 16 0)
unfolding row_value
joined-none masks vs y h e =
    let z : bit (y % 64) (get_or (replicate 16 0) (y / 64) 0) ≡ 0 =
    ap (bit (y % 64)) (get_or-replicate 16 (y / 64) 0 0 (omega arith)) ∙ bit-zero (y % 64) in
    let f : ⊥ = omega arith in absurd f

pub either-one : (a b : ℕ) → a < 2 → b < 2 → max a b ≡ 1 → (a ≡ 1) ⊎ (b ≡ 1)
either-one zero b h k e = inr (omega arith)
either-one (suc a) b h k e = inl (omega arith)

pub row_value-lt : (r : List ℕ) (y : ℕ) → row_value r y < 2
unfolding row_value
row_value-lt r y = bit-lt (y % 64) (get_or r (y / 64) 0)

pub joined-next : (masks list words next : List ℕ) (i : ℕ) → i < length list → get_or list i 0 < 16
    → ((y : ℕ) → y < 1024 → row_value next y ≡ max (row_value words y) (value_in masks y (get_or list i 0)))
    → Joined masks (take i list) words → Joined masks (take (i + 1) list) next
joined-next masks list words next i l h j p y k e =
    let v = get_or list i 0 in
    any_next (in_set (gathered masks y)) list i l
    (⊎_elim
    (λ (a : row_value words y ≡ 1). inl (p y k a))
    (λ (b : value_in masks y v ≡ 1). inr (eq-eqb (bit v (gathered masks y)) 1 (bit-gathered masks y v h ∙ b)))
    (either-one (row_value words y) (value_in masks y v) (row_value-lt words y) (value_in-lt masks y v)
    (sym (j y k) ∙ e)))

-- ---- the next scenario that no listed vector covers

pub covered_none : (masks : List ℕ) (v : Vectors) (y : ℕ) → CoveredTo masks v y y
covered_none masks v y = record { past = omega arith; covered = λ k a b. let f : ⊥ = omega arith in absurd f }

pub covered_next : (masks row : List ℕ) (v : Vectors) (y z : ℕ) → Joined masks (listed_of v).vectors row → FirstZero row z
    → CoveredTo masks v y (max z y)
covered_next masks row v y z p f =
    let m = f.most in
    record { past = omega arith; covered = λ k a b. p k (omega arith) (f.ones k (omega arith)) }

-- ---- the list

module _ (masks : List ℕ) (first : ℕ) (v : Vectors) where
  pub list-none : ListNoted masks first 0 v v
  unfolding listed_from
  list-none = record { listed = λ f g. refl }

  pub list-next : (i n : ℕ) (u : Vectors) (s : ℕ) (u' : Vectors) → i < n → ListNoted masks first (min i n) v u → s ≡ gathered masks i
      → listed_of u' ≡ list_step (listed_of u) s (first + i) → ListNoted masks first (i + 1) v u'
  list-next i n u s u' h q m t =
      let below : min i n ≡ i = omega arith in
      let p = rw below at q in
      record {
        listed = λ f a.
            let e : s ≡ f (first + i) = m ∙ a i (omega arith) in
            t
            ∙ ap (λ (k : ℕ). list_step (listed_of u) k (first + i)) e
            ∙ ap (λ (l : Listed). list_step l (f (first + i)) (first + i)) (p.listed f (λ k l. a k (omega arith)))
            ∙ sym (listed_from-snoc f (listed_of v) first i);
      }

  -- scenarios that leave the list as it is
  list-still : (i n : ℕ) (u : Vectors) → i ≤ n → ListNoted masks first i v u
      → ((y : ℕ) → i ≤ y → y < n → list_step (listed_of u) (gathered masks y) (first + y) ≡ listed_of u) → ListNoted masks first n v u
  list-still i n u l p h =
      record {
        listed = λ f g.
            let k : ℕ = n - i in
            let e : i + k ≡ n = omega arith in
            let q : listed_of u ≡ listed_from f (listed_of v) first i = p.listed f (λ y a. g y (omega arith)) in
            let still = walked-still (listing f) (listed_of u) (first + i) k
            (λ z a b.
            let y : ℕ = z - first in
            let d : first + y ≡ z = omega arith in
            subst (λ (x : ℕ). list_step (listed_of u) (f x) x ≡ listed_of u) d
            (ap (λ (s : ℕ). list_step (listed_of u) s (first + y)) (sym (g y (omega arith))) ∙ h y (omega arith) (omega arith))) in
            sym still
            ∙ sym (listed_from-walked f (listed_of u) (first + i) k)
            ∙ ap (λ (l : Listed). listed_from f l (first + i) k) q
            ∙ sym (listed_from-append f (listed_of v) first i k)
            ∙ ap (listed_from f (listed_of v) first) e;
      }

  -- .. as a listed vector covers each
  pub list-covered : (i r n : ℕ) (u : Vectors) → ListNoted masks first i v u → CoveredTo masks u i r → i ≤ n → n ≤ r
      → ListNoted masks first n v u
  list-covered i r n u p c a b =
      list-still i n u a p
      (λ y k l. list_step-listed (listed_of u) (gathered masks y) (first + y) (c.covered y k (omega arith)))

  -- .. as an input before had no vector
  pub list-stuck : (i n : ℕ) (u : Vectors) → ListNoted masks first i v u → is_some u.stuck ≡ true → i ≤ n → ListNoted masks first n v u
  list-stuck i n u p e a = list-still i n u a p (λ y k l. sym (step-stuck u (gathered masks y) (first + y) e))
