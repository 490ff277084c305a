-- Laws of marks: those of the leaves, that a net without a mark has one value whatever the marked leaves have, and that gates which
-- stand for others give the same marks. Assumes nothing.
use Prim.Native.Nat.{ℕ, suc, ◌+◌, ◌-◌, ◌≤◌, ◌<◌}
use mathlib.Core.Path.{◌≡◌, sym, ◌∙◌, ap}
use mathlib.Core.Logic.{◌⊎◌, inl, inr, ⊎_elim}
use mathlib.Core.List.Memᴰ.{cases_cons}
use mathlib.Core.List.Memᴰ.{not-nil}
use mathlib.Core.List.{List, [], ◌∷◌, ◌++◌, map, Memᴰ as Mem}
use mathlib.Core.Bool.{true, false, cond, not, ◌&&◌}
use native.Mathlib.Omega.{arith}
use borrow.Author.Tests.{ltb-true, ltb-false, lt-ltb, le-ltb, le-leb, lt-leb, eqb-true, eq-eqb, not-false}
use lib.Dec.{leb, ltb, eqb}
use lib.ListN.{length, get_or, replicate, length-append, length-replicate, get_or-replicate, get_or-append}
use lib.Seq.{ext_get_or, get_or-append-add}
use Rattle.records.specs.Bytes.{tabulate}
use Rattle.records.specs.Gate.{Gate, operands, disj}
use Rattle.records.specs.Netlist.{net_at, extended, values, mark_of, fanout}
use Rattle.records.specs.Refusal.{gates_good}
use Rattle.records.specs.Inner.{leaf_marks}
use Rattle.records.proofs.Laws.Bytes.{length-tabulate, get_d_tabulate, and_both, and-false-left, and-false-right}
use Rattle.engine.specs.Inner.Miter.{SameGates}
use Rattle.engine.specs.Inner.Plan.{code_mark, marks_of, marked}
use Rattle.engine.proofs.Laws.Choice.{true-or-false}
use Rattle.engine.proofs.Laws.Eval.{Agree, agree-nil, agree-cons, net_at-agree, extended-agree}
use Rattle.engine.proofs.Laws.FitGates.{no_gate, mark_of-local, net_at-extended, consistent-extended}
use Rattle.engine.proofs.Laws.Packed.{packed-operands}
use Rattle.engine.proofs.Laws.Run.{Follows}

-- ---- leaves

module _ (n m i : ℕ) where
  pub leaf-input : i < n → 0 ≡ get_or (leaf_marks n m) i 0
  unfolding leaf_marks
  leaf-input h =
      sym
      (get_or-append (replicate n 0) (replicate m 1) 0 i (omega (arith, length-replicate {A = ℕ} n 0))
      ∙ get_or-replicate n i 0 0 h)

  pub leaf-target : n ≤ i → i < n + m → 1 ≡ get_or (leaf_marks n m) i 0
  unfolding leaf_marks
  leaf-target l h =
      let e : i ≡ length (replicate {A = ℕ} n 0) + (i - n) = omega (arith, length-replicate {A = ℕ} n 0) in
      sym
      (ap (λ (k : ℕ). get_or (replicate n 0 ++ replicate m 1) k 0) e
      ∙ get_or-append-add (replicate n 0) (replicate m 1) (i - n) 0
      ∙ get_or-replicate m (i - n) 1 0 (omega arith))

pub length-leaf_marks : (n m : ℕ) → length (leaf_marks n m) ≡ n + m
unfolding leaf_marks
length-leaf_marks n m =
    length-append (replicate n 0) (replicate m 1) ∙ omega (arith, length-replicate {A = ℕ} n 0, length-replicate {A = ℕ} m 1)

-- the marks of the leaves where the k from from on have one
module _ (from k : ℕ) where
  abbrev pub leaf_mark : ℕ → ℕ
  leaf_mark i = cond (leb from i && ltb i (from + k)) 1 0

  pub leaf_mark-in : (i : ℕ) → from ≤ i → i < from + k → leaf_mark i ≡ 1
  leaf_mark-in i l h =
      let e : leb from i && ltb i (from + k) ≡ true = and_both _ _ (le-leb from i l) (lt-ltb i (from + k) h) in
      rw e

  pub leaf_mark-out : (i : ℕ) → (i < from) ⊎ (from + k ≤ i) → leaf_mark i ≡ 0
  leaf_mark-out i s =
      let e : leb from i && ltb i (from + k) ≡ false =
      ⊎_elim
      (λ h. and-false-left (leb from i) (ltb i (from + k)) (lt-leb from i h))
      (λ h. and-false-right (leb from i) (ltb i (from + k)) (le-ltb i (from + k) h))
      s in
      rw e

  -- a leaf without a mark is none of them
  pub leaf_mark-zero : (i : ℕ) → leaf_mark i ≡ 0 → (i < from) ⊎ (from + k ≤ i)
  leaf_mark-zero i e =
      ⊎_elim
      (λ t. inl (ltb-true i from t))
      (λ t.
      ⊎_elim
      (λ u.
      let z = leaf_mark-in i (ltb-false i from t) (ltb-true i (from + k) u) in
      let f : ⊥ = omega arith in absurd f)
      (λ u. inr (ltb-false i (from + k) u))
      (true-or-false (ltb i (from + k))))
      (true-or-false (ltb i from))

  module _ (base : ℕ) (gs : List Gate) (i : ℕ) where
    pub marks-leaf : i < base → net_at (marks_of base from k gs) i ≡ leaf_mark i
    unfolding marks_of net_at
    marks-leaf h =
        net_at-extended mark_of (tabulate base leaf_mark) gs i (omega (arith, length-tabulate base leaf_mark))
        ∙ get_d_tabulate base leaf_mark i 0 h

-- the targets' fanout
pub fanout-marks : (n m : ℕ) (gs : List Gate) → fanout n m gs ≡ marks_of (n + m) n m gs
unfolding fanout marks_of leaf_marks
fanout-marks n m gs =
    ap (λ (l : List ℕ). extended mark_of l gs)
    (ext_get_or 0 (leaf_marks n m) (tabulate (n + m) (leaf_mark n m))
    (length-leaf_marks n m ∙ sym (length-tabulate (n + m) (leaf_mark n m)))
    (λ i h.
    let l : i < n + m = omega (arith, length-leaf_marks n m) in
    ⊎_elim
    (λ t. let u = ltb-true i n t in sym (leaf-input n m i u) ∙ sym (leaf_mark-out n m i (inl u)))
    (λ t. let u = ltb-false i n t in sym (leaf-target n m i u l) ∙ sym (leaf_mark-in n m i u l))
    (true-or-false (ltb i n))
    ∙ sym (get_d_tabulate (n + m) (leaf_mark n m) i 0 l)))

-- ---- nets without a mark

module _ (ms : List ℕ) (i : ℕ) where
  pub unmarked-of : net_at ms i ≡ 0 → marked ms i ≡ false
  unmarked-of e = ap not (eq-eqb (net_at ms i) 0 e)

  pub unmarked-zero : marked ms i ≡ false → net_at ms i ≡ 0
  unmarked-zero e = eqb-true (net_at ms i) 0 (not-false (eqb (net_at ms i) 0) e)

disj-zero : (f : ℕ → ℕ) (is : List ℕ) → disj (map f is) ≡ 0 → (i : ℕ) → Mem i is → f i ≡ 0
unfolding disj
disj-zero f [] e i m = absurd (not-nil m)
disj-zero f (k ∷ is) e i m =
    ⊎_elim (λ (q : i ≡ k). rw q (omega arith)) (λ n. disj-zero f is (omega arith) i n) (cases_cons m)

-- the operands of a gate without a mark have none
pub unmarked-operands : (base from k : ℕ) (gs : List Gate) → gates_good base gs ≡ true → (r : ℕ) → r < length gs
    → net_at (marks_of base from k gs) (base + r) ≡ 0 → (i : ℕ) → Mem i (operands (get_or gs r no_gate))
    → net_at (marks_of base from k gs) i ≡ 0
unfolding marks_of mark_of
unmarked-operands base from k gs good r h e i m =
    let leaves = tabulate base (leaf_mark from k) in
    let found = consistent-extended mark_of mark_of-local leaves gs base (length-tabulate base (leaf_mark from k)) good in
    disj-zero (net_at (extended mark_of leaves gs)) (operands (get_or gs r no_gate)) (sym (found.at r h) ∙ e) i m

agree_of : (ms vs ws : List ℕ) → length vs ≡ length ms → length ws ≡ length ms
    → ((i : ℕ) → i < length ms → get_or ms i 0 ≡ 0 → get_or vs i 0 ≡ get_or ws i 0) → Agree ms vs ws
agree_of [] [] [] a b h = agree-nil
agree_of [] [] (w ∷ ws) a b h = let f : ⊥ = omega arith in absurd f
agree_of [] (v ∷ vs) ws a b h = let f : ⊥ = omega arith in absurd f
agree_of (m ∷ ms) [] ws a b h = let f : ⊥ = omega arith in absurd f
agree_of (m ∷ ms) (v ∷ vs) [] a b h = let f : ⊥ = omega arith in absurd f
agree_of (m ∷ ms) (v ∷ vs) (w ∷ ws) a b h =
    agree-cons (λ e. h 0 (omega arith) e) (agree_of ms vs ws (omega arith) (omega arith) (λ i l e. h (suc i) (omega arith) e))

-- where two rows of leaves differ at most at the marked ones, a net without a mark has the same value at both
pub marks-agree : (base from k : ℕ) (gs : List Gate) (L M : List ℕ)
    → ((i : ℕ) → i < base → (i < from) ⊎ (from + k ≤ i) → get_or L i 0 ≡ get_or M i 0)
    → length L ≡ base → length M ≡ base → (i : ℕ) → net_at (marks_of base from k gs) i ≡ 0
    → net_at (values L gs) i ≡ net_at (values M gs) i
unfolding values marks_of
marks-agree base from k gs L M h a b i e =
    let ms : List ℕ = tabulate base (leaf_mark from k) in
    let l = length-tabulate base (leaf_mark from k) in
    net_at-agree
    (extended-agree ms L M
    (agree_of ms L M (a ∙ sym l) (b ∙ sym l)
    (λ x u z.
    let v : x < base = omega arith in
    h x v (leaf_mark-zero from k x (sym (get_d_tabulate base (leaf_mark from k) x 0 v) ∙ z))))
    gs)
    i
    e

-- gates that stand for others give the same marks
pub same-marks : {base : ℕ} {gs hs : List Gate} → SameGates base gs hs → (from k : ℕ) → marks_of base from k hs ≡ marks_of base from k gs
unfolding marks_of mark_of
same-marks {base} s from k =
    s.same (λ n xs. disj xs) (tabulate base (leaf_mark from k)) (length-tabulate base (leaf_mark from k))

-- ---- marks of packed gates

pub marks-follow : Follows mark_of code_mark (λ vs. Unit {0})
unfolding mark_of code_mark
marks-follow =
    record {
      local = mark_of-local;
      keeps = λ vs c t. tt;
      packs = λ vs d g t e o h. ap (λ (is : List ℕ). disj (map (net_at vs) is)) (packed-operands d g e o h);
    }
