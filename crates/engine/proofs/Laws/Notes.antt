-- Laws of the notes beside a table's rows (specs/Support): how many numbers a test keeps, what a reading's set of vectors says of its
-- note, and what a note says. Assumes nothing.
use Prim.Native.Nat.{ℕ, zero, suc, ◌%◌, ◌^◌, ◌≤◌, ◌<◌}
use mathlib.Core.Path.{◌≡◌, refl, sym, ◌∙◌, ap, subst}
use mathlib.Core.Logic.{◌↔◌, ◌⊎◌, inl, inr, ⊎_elim}
use mathlib.Core.List.Memᴰ.{eq_of_singleton}
use mathlib.Core.List.Memᴰ.{head as here}
use mathlib.Core.List.Memᴰ.{not-nil}
use mathlib.Core.List.Memᴰ.{tail as there}
use mathlib.Core.List.{List, [], ◌∷◌, Memᴰ as Mem}
use mathlib.Core.Bool.{Bool, true, false, cond}
use native.Mathlib.Omega.{arith}
use borrow.Author.Tests.{eqb-true, eq-eqb, ne_eqb}
use lib.Dec.{eqb}
use lib.ListN.{length, get_or, take}
use lib.Pow.{pow_pos, pow_mono, pow-lt}
use Rattle.records.specs.Bytes.{up_from}
use Rattle.records.specs.Job.{Job}
use Rattle.records.proofs.Laws.Bytes.{tabulate-ext, tabulate-take}
use Rattle.engine.specs.Choice.{keep, found, or_zero}
use Rattle.engine.specs.Eval.{bit, all_inputs, all_vectors}
use Rattle.engine.specs.Support.{reading, giving, shared, sharing, note_of, notes_of}
use Rattle.engine.specs.Claims.{SomeGives, RectifyAll, NoteIn}
use Rattle.engine.specs.Inner.List.{max_vectors, lowest}
use Rattle.engine.specs.Inner.Best.{RectifiesAll, SetsOf}
use Rattle.engine.specs.Inner.Given.{Unseen}
use Rattle.engine.specs.Inner.Table.{note_from}
use Rattle.engine.proofs.Laws.Choice.{true-or-false, mem-keep, mem_below, mem-up_from, found_some}
use Rattle.engine.proofs.Laws.Eval.{bit-lt}
use Rattle.engine.proofs.Laws.Rows.{bit-ext, bit-pow}
use Rattle.engine.proofs.Laws.Sets.{found-lowest}
use Rattle.engine.proofs.Laws.Shift.{bit-mod}
use Rattle.engine.proofs.Laws.Support.{rectifies-iff-outputs, rectifies_giving, rectifies-all, all-rectifies, shared-least}
use Rattle.engine.proofs.Laws.VectorSets.{no_bits, lowest-lt, lowest-bit}

-- ---- how many numbers a test keeps

-- the first two that are kept ascend
kept-ascend : (p : ℕ → Bool) (a n x y : ℕ) (zs : List ℕ) → keep p (up_from a n) ≡ x ∷ y ∷ zs → x < y
unfolding up_from keep
kept-ascend p a zero x y zs e = let z : ◌≡◌ {A = ℕ} 0 1 = cc in let f : ⊥ = omega arith in absurd f
kept-ascend p a (suc n) x y zs e =
    let ks = keep p (up_from (suc a) n) in
    ⊎_elim
    (λ (t : p a ≡ true).
    let d : a ∷ ks ≡ x ∷ y ∷ zs = subst (λ (b : Bool). cond b (a ∷ ks) ks ≡ x ∷ y ∷ zs) t e in
    let i : a ≡ x = cc in
    let r : ks ≡ y ∷ zs = cc in
    let m : Mem y ks = rw r (here refl) in
    let u = (mem-up_from (suc a) n y).0 ((mem-keep p (up_from (suc a) n) y).0 m).0 in
    omega (arith, u.0))
    (λ (t : p a ≡ false).
    kept-ascend p (suc a) n x y zs (subst (λ (b : Bool). cond b (a ∷ ks) ks ≡ x ∷ y ∷ zs) t e))
    (true-or-false (p a))

-- of the numbers below n, k pass the test p: none, one alone, or two and more
abbrev KeptNone : (ℕ → Bool) → ℕ → ℕ → Type 0
KeptNone p n k = (k ≡ 0) × ((v : ℕ) → v < n → p v ≡ true → ⊥)

abbrev KeptOne : (ℕ → Bool) → ℕ → ℕ → Type 0
KeptOne p n k = (k ≡ 1) × ((v : ℕ) × (v < n) × (p v ≡ true) × ((u : ℕ) → u < n → p u ≡ true → u ≡ v))

abbrev KeptTwo : (ℕ → Bool) → ℕ → ℕ → Type 0
KeptTwo p n k = (1 < k) × ((u : ℕ) × (v : ℕ) × (u < v) × (v < n) × (p u ≡ true) × (p v ≡ true))

kept-cases : (p : ℕ → Bool) (n : ℕ)
    → let k = length (keep p (up_from 0 n)) in KeptNone p n k ⊎ (KeptOne p n k ⊎ KeptTwo p n k)
kept-cases p n = go (keep p (up_from 0 n)) refl
  where
    passes : (xs : List ℕ) → keep p (up_from 0 n) ≡ xs → (v : ℕ) → Mem v xs ↔ ((v < n) × (p v ≡ true))
    passes xs e v =
        let m = mem-keep p (up_from 0 n) v in
        let b = mem_below n v in (
          λ i. let h = m.0 (subst (Mem v) (sym e) i) in (b.0 h.0, h.1),
          λ h. subst (Mem v) e (m.1 (b.1 h.0, h.1)),
        )

    go : (xs : List ℕ) → keep p (up_from 0 n) ≡ xs
        → KeptNone p n (length xs) ⊎ (KeptOne p n (length xs) ⊎ KeptTwo p n (length xs))
    go [] e = inl (refl, λ v l t. not-nil ((passes [] e v).1 (l, t)))
    go (x ∷ []) e =
        let h = passes (x ∷ []) e in
        let b = (h x).0 (here refl) in
        inr (inl (refl, (x, b.0, b.1, λ u l t. eq_of_singleton ((h u).1 (l, t)))))
    go (x ∷ y ∷ zs) e =
        let h = passes (x ∷ y ∷ zs) e in
        let a = (h x).0 (here refl) in
        let b = (h y).0 (there (here refl)) in
        inr (inr (omega arith, (x, y, kept-ascend p 0 n x y zs e, b.0, a.1, b.1)))

-- ---- the inputs that give a reading, and the vectors that they share

module _ (j : Job) (is : List ℕ) (r : ℕ) where
  abbrev passes_reading : ℕ → Bool
  passes_reading x = eqb (reading j is x) r

  giving-cases : ((length (giving j is r) ≡ 0) × (SomeGives j is r → ⊥)) ⊎ ((length (giving j is r) ≡ 0 → ⊥) × SomeGives j is r)
  unfolding giving all_inputs
  giving-cases =
      ⊎_elim
      (λ (c : KeptNone passes_reading (2 ^ j.inputs) (length (giving j is r))).
      inl (c.0, λ g. c.1 g.0 g.1 (eq-eqb (reading j is g.0) r g.2)))
      (λ c.
      inr
      (⊎_elim
      (λ (d : KeptOne passes_reading (2 ^ j.inputs) (length (giving j is r))).
      let x = d.1.0 in
      ((λ z. let f : ⊥ = omega (arith, d.0) in f), (x, d.1.1, eqb-true (reading j is x) r d.1.2)))
      (λ (d : KeptTwo passes_reading (2 ^ j.inputs) (length (giving j is r))).
      let x = d.1.1 in
      ((λ z. let f : ⊥ = omega (arith, d.0) in f), (x, d.1.3, eqb-true (reading j is x) r d.1.5)))
      c))
      (kept-cases passes_reading (2 ^ j.inputs))

  -- vector v is one of those that rectify every input giving the reading
  abbrev Shares : ℕ → Type 0
  Shares v = (v < 2 ^ j.targets) × RectifiesAll j is r v

  pub sharing-cases : let k = length (sharing j is r) in
      ((k ≡ 0) × ((v : ℕ) → Shares v → ⊥))
      ⊎ (((k ≡ 1) × ((v : ℕ) × Shares v × ((u : ℕ) → Shares u → u ≡ v)))
      ⊎ ((k ≡ 1 → ⊥) × ((u : ℕ) × (v : ℕ) × (u < v) × Shares u × Shares v)))
  unfolding sharing all_vectors rectifies_giving
  sharing-cases =
      let p = rectifies_giving j is r in
      let n = 2 ^ j.targets in
      let k = length (sharing j is r) in
      ⊎_elim
      (λ (c : KeptNone p n k). inl (c.0, λ v s. c.1 v s.0 (all-rectifies j is r v s.1)))
      (λ c.
      inr
      (⊎_elim
      (λ (d : KeptOne p n k).
      let v = d.1.0 in
      inl (d.0, (v, (d.1.1, rectifies-all j is r v d.1.2), λ u s. d.1.3 u s.0 (all-rectifies j is r u s.1))))
      (λ (d : KeptTwo p n k).
      let u = d.1.0 in
      let v = d.1.1 in
      let s : Shares u = (omega (arith, d.1.2, d.1.3), rectifies-all j is r u d.1.4) in
      let t : Shares v = (d.1.3, rectifies-all j is r v d.1.5) in
      inr ((λ e. let f : ⊥ = omega (arith, d.0) in f), (u, v, d.1.2, s, t)))
      c))
      (kept-cases p n)

-- ---- a note from a set of vectors

-- the set s holds the vectors that are shared at reading r
module _ (j : Job) (is : List ℕ) (r s : ℕ) (few : j.targets ≤ 4)
    (h : (v : ℕ) → v < max_vectors → (bit v s ≡ 1) ↔ Shares j is r v) where
  abbrev low : ℕ
  low = or_zero (lowest s)

  -- its vectors are its low 16 bits
  abbrev vectors : ℕ
  vectors = s % 65536

  vectors-iff : (v : ℕ) → v < max_vectors → (bit v vectors ≡ 1) ↔ Shares j is r v
  vectors-iff v l = rw (bit-mod 16 v s l) (h v l)

  shares-small : (v : ℕ) → Shares j is r v → v < max_vectors
  shares-small v a = omega (arith, a.0, pow_mono {j = 4} few)

  -- a set that is a power of two has one vector
  low-only : vectors ≡ 2 ^ low → (v : ℕ) → Shares j is r v → v ≡ low
  low-only e v a = (bit-pow low v).0 (sym (ap (bit v) e) ∙ (vectors-iff v (shares-small v a)).1 a)

  -- .. and a set of one vector is one
  one_power : (v : ℕ) → Shares j is r v → ((u : ℕ) → Shares j is r u → u ≡ v) → vectors ≡ 2 ^ low
  one_power v a f =
      let l = lowest-lt s in
      let n = shares-small v a in
      let m = (lowest-bit s low (found_some (lowest s) (found-lowest s (v, n, (h v n).1 a)))).1 in
      let only : low ≡ v = f low ((h low l).0 m) in
      bit-ext 16 vectors (2 ^ low) (omega arith) (pow-lt l)
      (λ u o. (
        λ e. (bit-pow low u).1 (f u ((vectors-iff u o).0 e) ∙ sym only),
        λ e. rw ((bit-pow low u).0 e) ((vectors-iff low l).1 ((h low l).0 m)),
      ))

  one_set : eqb vectors (2 ^ low) ≡ eqb (length (sharing j is r)) 1
  one_set =
      let k = length (sharing j is r) in
      ⊎_elim
      (λ (c : (k ≡ 0) × ((v : ℕ) → Shares j is r v → ⊥)).
      let z : vectors ≡ 0 =
      no_bits 16 vectors (omega arith)
      (λ v l. let x : (bit v vectors ≡ 1 → ⊥) = λ e. c.1 v ((vectors-iff v l).0 e) in omega (arith, bit-lt v vectors)) in
      ne_eqb vectors (2 ^ low) (λ e. let x : ⊥ = omega (arith, pow_pos low) in x)
      ∙ sym (ne_eqb k 1 (λ e. let x : ⊥ = omega (arith, c.0) in x)))
      (⊎_elim
      (λ (c : (k ≡ 1) × ((v : ℕ) × Shares j is r v × ((u : ℕ) → Shares j is r u → u ≡ v))).
      eq-eqb vectors (2 ^ low) (one_power c.1.0 c.1.1 c.1.2) ∙ sym (eq-eqb k 1 c.0))
      (λ (c : (k ≡ 1 → ⊥) × ((u : ℕ) × (v : ℕ) × (u < v) × Shares j is r u × Shares j is r v)).
      let d = c.1 in
      ne_eqb vectors (2 ^ low)
      (λ e. let x : ⊥ = omega (arith, d.2, low-only e d.0 d.3, low-only e d.1 d.4) in x)
      ∙ sym (ne_eqb k 1 c.0)))
      (sharing-cases j is r)

module _ (j : Job) (is ss : List ℕ) (h : SetsOf j is ss) (g : Unseen j is ss) where
  note-of-set : (r : ℕ) → r < 2 ^ length is → note_from (get_or ss r 0) ≡ note_of j is r
  unfolding note_from note_of
  note-of-set r l =
      let t = get_or ss r 0 in
      let o = bit 16 t in
      let n = length (giving j is r) in
      ⊎_elim
      (λ (c : (n ≡ 0) × (SomeGives j is r → ⊥)). rw (eq-eqb n 0 c.0, ne_eqb o 0 (λ e. c.1 ((g r l).0 e))))
      (λ (c : (n ≡ 0 → ⊥) × SomeGives j is r).
      rw (ne_eqb n 0 c.0, eq-eqb o 0 ((g r l).1 c.1))
      (ap (λ (b : Bool). cond b 1 2) (one_set j is r t h.targets (λ v m. h.sets r v l m))))
      (giving-cases j is r)

  -- the places that hold the notes of the sets
  pub notes-sets : (ts : List ℕ) → 2 ^ length is ≤ length ts
      → ((r : ℕ) → r < 2 ^ length is → get_or ts r 0 ≡ note_from (get_or ss r 0)) → take (2 ^ length is) ts ≡ notes_of j is
  unfolding notes_of
  notes-sets ts l f =
      sym (tabulate-take 0 ts (2 ^ length is) l)
      ∙ tabulate-ext (2 ^ length is) (λ r. get_or ts r 0) (note_of j is) (λ r m. f r m ∙ note-of-set r m)

-- ---- what a note says

module _ (j : Job) (is : List ℕ) (r : ℕ) where
  -- the vectors that make the old outputs the golden ones at every input giving the reading are those that are shared
  pub rectify-iff : (v : ℕ) → RectifyAll j is r v ↔ Shares j is r v
  rectify-iff v = (
    λ a. (a.0, λ x h e. (rectifies-iff-outputs j x v).1 (a.1 x h e)),
    λ a. (a.0, λ x h e. (rectifies-iff-outputs j x v).0 (a.1 x h e)),
  )

  unseen-note : (SomeGives j is r → ⊥) → NoteIn j is r 0
  unseen-note n =
      record {
        unseen = (λ e. n, λ e. refl);
        one = (λ e. let f : ⊥ = omega arith in absurd f, λ a. absurd (n a.0));
        several = (λ e. let f : ⊥ = omega arith in absurd f, λ a. absurd (n a.0));
      }

  one-note : SomeGives j is r → (v : ℕ) → Shares j is r v → ((u : ℕ) → Shares j is r u → u ≡ v) → NoteIn j is r 1
  one-note g v s f =
      let only : (u : ℕ) → RectifyAll j is r u → u ≡ v = λ u a. f u ((rectify-iff u).0 a) in
      record {
        unseen = (λ e. let z : ⊥ = omega arith in absurd z, λ n. absurd (n g));
        one = (λ e. (g, (v, (rectify-iff v).1 s, only)), λ a. refl);
        several = (
          λ e. let z : ⊥ = omega arith in absurd z,
          λ a. let b = a.1 in absurd (b.4 (only b.0 b.2 ∙ sym (only b.1 b.3))),
        );
      }

  several-note : SomeGives j is r → (u v : ℕ) → u < v → Shares j is r u → Shares j is r v → NoteIn j is r 2
  several-note g u v l s t =
      let a = (rectify-iff u).1 s in
      let b = (rectify-iff v).1 t in
      record {
        unseen = (λ e. let z : ⊥ = omega arith in absurd z, λ n. absurd (n g));
        one = (
          λ e. let z : ⊥ = omega arith in absurd z,
          λ o. let z : ⊥ = omega (arith, o.1.2 u a, o.1.2 v b) in absurd z,
        );
        several = (λ e. (g, (u, v, a, b, λ e. let z : ⊥ = omega arith in z)), λ o. refl);
      }

-- the note beside a row whose inputs share a vector
pub note-in : (j : Job) (is : List ℕ) (r : ℕ) → found (shared j is r) ≡ true → NoteIn j is r (note_of j is r)
unfolding note_of
note-in j is r h =
    let n = length (giving j is r) in
    let k = length (sharing j is r) in
    let l = shared-least j is r (or_zero (shared j is r)) (found_some (shared j is r) h) in
    ⊎_elim
    (λ (c : (n ≡ 0) × (SomeGives j is r → ⊥)). rw (eq-eqb n 0 c.0) (unseen-note j is r c.1))
    (λ (c : (n ≡ 0 → ⊥) × SomeGives j is r).
    rw (ne_eqb n 0 c.0)
    (⊎_elim
    (λ (d : (k ≡ 0) × ((v : ℕ) → Shares j is r v → ⊥)). absurd (d.1 _ (l.below, l.rectifies)))
    (⊎_elim
    (λ (d : (k ≡ 1) × ((v : ℕ) × Shares j is r v × ((u : ℕ) → Shares j is r u → u ≡ v))).
    rw (eq-eqb k 1 d.0) (one-note j is r c.1 d.1.0 d.1.1 d.1.2))
    (λ (d : (k ≡ 1 → ⊥) × ((u : ℕ) × (v : ℕ) × (u < v) × Shares j is r u × Shares j is r v)).
    rw (ne_eqb k 1 d.0) (several-note j is r c.1 d.1.0 d.1.1 d.1.2 d.1.3 d.1.4)))
    (sharing-cases j is r)))
    (giving-cases j is r)
