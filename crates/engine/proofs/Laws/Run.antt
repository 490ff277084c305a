-- Laws of a run over a part of a netlist's gates: where the nets of the gates left out have what they should already, the part gives
-- all live nets what they should have. One law over any function of a gate that looks at its operands alone. Gates that stand for
-- others have their values. Assumes nothing.
use Prim.Native.Nat.{ℕ, zero, suc, ◌+◌, ◌≤◌, ◌<◌}
use mathlib.Core.Path.{◌≡◌, refl, sym, ◌∙◌, ap, subst}
use mathlib.Core.Logic.{◌⊎◌, inl, inr, ⊎_elim}
use mathlib.Core.List.Memᴰ.{cases_cons}
use mathlib.Core.List.Memᴰ.{head as here}
use mathlib.Core.List.Memᴰ.{not-nil}
use mathlib.Core.List.Memᴰ.{tail as there}
use mathlib.Core.List.{List, [], ◌∷◌, ◌++◌, Memᴰ as Mem}
use mathlib.Core.Bool.{Bool, true, false, ◌&&◌}
use native.Mathlib.Nat.{add-zero}
use native.Mathlib.Omega.{arith}
use borrow.Author.Tests.{ltb-true, eqb-true, eqb-false}
use lib.Dec.{ltb, eqb}
use lib.ListN.{length, get_or, drop, set, length-set, length-append, drop_of_length-le}
use Rattle.std.proofs.lemmas.List.{drop_more}
use lib.Seq.{get_or-set_same, get_or-set_other, get_or_at}
use Rattle.records.specs.Bytes.{all}
use Rattle.records.specs.Gate.{Gate, operands, gate_value}
use Rattle.records.specs.Netlist.{net_at, extended, value_of, values}
use Rattle.records.specs.Refusal.{gate_good, gates_good}
use Rattle.records.proofs.Laws.Bytes.{and_left, and_right, all_cons}
use Rattle.records.proofs.Laws.Gate.{gate_good-parts}
use Rattle.engine.specs.Choice.{keep}
use Rattle.engine.specs.Inner.Imply.{Binary}
use Rattle.engine.specs.Inner.Packed.{own, packed, packed_from, formed, code_value, evaluated}
use Rattle.engine.specs.Inner.Miter.{SameGates}
use Rattle.engine.specs.Inner.Plan.{Closed}
use Rattle.engine.proofs.Laws.Choice.{true-or-false, and_cases, not-both, all_true, map-agree}
use Rattle.engine.proofs.Laws.FitGates.{Local, value_of-local, net_at-extended}
use Rattle.engine.proofs.Laws.Packed.{packed-own, packed-value, code_value-lt}

-- ---- lists extended

-- behind a list extended stands what f says of the first gate
pub net_at-extended-first : (f : List ℕ → Gate → ℕ) (known : List ℕ) (g : Gate) (gs : List Gate) (d : ℕ) → length known ≡ d
    → net_at (extended f known (g ∷ gs)) d ≡ f known g
unfolding extended net_at
net_at-extended-first f known g gs d e =
    net_at-extended f (known ++ (f known g ∷ [])) gs d (omega (arith, length-append known (f known g ∷ [])))
    ∙ get_or_at known (f known g) [] 0 d e

-- ---- gates run

-- a turn of a loop over gates: the one at i sets its net, and the others go on from there
module _ (F : List ℕ → ℕ → ℕ) (vs cs : List ℕ) (i : ℕ) where
  pub evaluated-next : i < length cs
      → evaluated F (set vs (own (get_or cs i 0)) (F vs (get_or cs i 0))) (drop (i + 1) cs) ≡ evaluated F vs (drop i cs)
  unfolding evaluated
  evaluated-next h = sym (ap (evaluated F vs) (drop_more cs i 0 h))

  pub evaluated-end : length cs ≤ i → evaluated F vs (drop i cs) ≡ vs
  unfolding evaluated
  evaluated-end h = ap (evaluated F vs) (drop_of_length-le cs {i = i} h)

module _ (F : List ℕ → ℕ → ℕ) where
  pub evaluated-append : (vs cs ds : List ℕ) → evaluated F vs (cs ++ ds) ≡ evaluated F (evaluated F vs cs) ds
  unfolding evaluated
  evaluated-append vs [] ds = refl
  evaluated-append vs (c ∷ cs) ds = evaluated-append (set vs (own c) (F vs c)) cs ds

  pub length-evaluated : (vs cs : List ℕ) → length (evaluated F vs cs) ≡ length vs
  unfolding evaluated
  length-evaluated vs [] = refl
  length-evaluated vs (c ∷ cs) = length-evaluated (set vs (own c) (F vs c)) cs ∙ length-set vs (own c) (F vs c)

  -- a net that none of them drives stays as it is
  pub evaluated-other : (vs cs : List ℕ) (i : ℕ) → ((c : ℕ) → Mem c cs → own c ≡ i → ⊥) → net_at (evaluated F vs cs) i ≡ net_at vs i
  unfolding evaluated net_at
  evaluated-other vs [] i h = refl
  evaluated-other vs (c ∷ cs) i h =
      evaluated-other (set vs (own c) (F vs c)) cs i (λ d m. h d (there m))
      ∙ get_or-set_other vs (own c) i (F vs c) 0 (λ e. h c (here refl) (sym e))

-- ---- gates kept

pub keep-ext : {A : Type 0} (p q : A → Bool) (xs : List A) → ((x : A) → Mem x xs → p x ≡ q x) → keep p xs ≡ keep q xs
unfolding keep
keep-ext p q [] h = refl
keep-ext p q (x ∷ xs) h = rw (h x (here refl), keep-ext p q xs (λ y m. h y (there m)))

pub keep_all : {A : Type 0} (p : A → Bool) (xs : List A) → ((x : A) → Mem x xs → p x ≡ true) → keep p xs ≡ xs
unfolding keep
keep_all p [] h = refl
keep_all p (x ∷ xs) h = rw (h x (here refl), keep_all p xs (λ y m. h y (there m)))

-- ---- good gates in a row

module _ (d : ℕ) (g : Gate) (gs : List Gate) where
  pub good-first : gates_good d (g ∷ gs) ≡ true → gate_good d g ≡ true
  unfolding gates_good
  good-first e = and_left (gate_good d g) (gates_good (suc d) gs) e

  pub good-rest : gates_good d (g ∷ gs) ≡ true → gates_good (suc d) gs ≡ true
  unfolding gates_good
  good-rest e = and_right (gate_good d g) (gates_good (suc d) gs) e

  module _ (live : ℕ → Bool) (c : Closed live d (g ∷ gs)) where
    pub closed-first : live d ≡ true → all live (operands g) ≡ true
    closed-first e = c 0 (omega arith) (ap live (add-zero d) ∙ e)

    pub closed-rest : Closed live (suc d) gs
    closed-rest i h e =
        let n : d + suc i ≡ suc d + i = omega arith in
        c (suc i) (omega arith) (ap live n ∙ e)

-- the nets that packed gates drive
pub own-within : (d : ℕ) (gs : List Gate) → gates_good d gs ≡ true → all formed gs ≡ true → d + length gs ≤ 1024
    → (c : ℕ) → Mem c (packed_from d gs) → (d ≤ own c) × (own c < d + length gs)
unfolding packed_from
own-within d [] a b h c m = absurd (not-nil m)
own-within d (g ∷ gs) a b h c m =
    let t = all_cons formed g gs b in
    ⊎_elim
    (λ (e : c ≡ packed d g).
    let o : own c ≡ d = ap own e ∙ packed-own d g (good-first d g gs a) t.0 (omega arith) in
    (omega arith, omega arith))
    (λ n.
    let r = own-within (suc d) gs (good-rest d g gs a) t.1 (omega arith) c n in
    (omega (arith, r.0), omega (arith, r.1)))
    (cases_cons m)

-- ---- the law

-- F on packed gates is f on gates, which looks at the operands alone, for lists of which I holds; and a run by F keeps I
pub record Follows (f : List ℕ → Gate → ℕ) (F : List ℕ → ℕ → ℕ) (I : List ℕ → Type 0) : Type 0 where
  pub local : Local f
  pub keeps : (vs : List ℕ) (c : ℕ) → I vs → I (set vs (own c) (F vs c))
  pub packs : (vs : List ℕ) (d : ℕ) (g : Gate) → I vs → gate_good d g ≡ true → formed g ≡ true → d < 1024
      → F vs (packed d g) ≡ f vs g

-- the part of the gates gs, which drive d, d + 1, ..: those that are live and changed, packed
abbrev pub part_of : (ℕ → Bool) → (ℕ → Bool) → ℕ → List Gate → List ℕ
part_of live changed d gs = keep (λ c. live (own c) && changed (own c)) (packed_from d gs)

-- vs has what T has at the live nets below d, and from there to n at those that are not changed
abbrev pub Known : (ℕ → Bool) → (ℕ → Bool) → ℕ → ℕ → List ℕ → List ℕ → Type 0
Known live changed d n vs T =
    (i : ℕ) → i < n → live i ≡ true → (i < d) ⊎ (changed i ≡ false) → net_at vs i ≡ net_at T i

module _ {f : List ℕ → Gate → ℕ} {F : List ℕ → ℕ → ℕ} {I : List ℕ → Type 0} (r : Follows f F I) where
  module _ (live changed : ℕ → Bool) where
    -- one gate: evaluated, it has what it should
    first-value : (d : ℕ) (g : Gate) (gs : List Gate) (known vs : List ℕ) → gates_good d (g ∷ gs) ≡ true
        → formed g ≡ true → d < 1024 → length known ≡ d → Closed live d (g ∷ gs) → I vs → live d ≡ true
        → Known live changed d (d + length (g ∷ gs)) vs (extended f known (g ∷ gs))
        → F vs (packed d g) ≡ net_at (extended f known (g ∷ gs)) d
    first-value d g gs known vs a b h e c v l k =
        r.packs vs d g v (good-first d g gs a) b h
        ∙ r.local vs known g
        (map-agree (net_at vs) (net_at known) (operands g)
        (λ i m.
        let n = ltb-true i d (all_true (λ i. ltb i d) (operands g) (gate_good-parts d g (good-first d g gs a)).0 i m) in
        k i (omega arith) (all_true live (operands g) (closed-first d g gs live c l) i m) (inl n)
        ∙ net_at-extended f known (g ∷ gs) i (omega arith)))
        ∙ sym (net_at-extended-first f known g gs d e)

    -- .. and with it set, one net more is known
    known-set : (d n : ℕ) (vs T : List ℕ) (w : ℕ) → d < length vs → w ≡ net_at T d → Known live changed d n vs T
        → Known live changed (suc d) n (set vs d w) T
    unfolding net_at
    known-set d n vs T w h e k i l m s =
        ⊎_elim
        (λ (t : eqb i d ≡ true).
        let q : i ≡ d = eqb-true i d t in
        rw q (get_or-set_same vs d w 0 h ∙ e))
        (λ (t : eqb i d ≡ false).
        let z : i ≡ d → ⊥ = eqb-false i d t in
        get_or-set_other vs d i w 0 z ∙ k i l m (⊎_elim (λ (o : i < suc d). inl (omega (arith, z))) inr s))
        (true-or-false (eqb i d))

    -- .. and a gate that is not live, or not changed, is passed
    known-passed : (d n : ℕ) (vs T : List ℕ) → live d && changed d ≡ false → Known live changed d n vs T
        → Known live changed (suc d) n vs T
    known-passed d n vs T e k i l m s =
        ⊎_elim
        (λ (o : i < suc d).
        ⊎_elim
        (λ (t : eqb i d ≡ true).
        let q : i ≡ d = eqb-true i d t in
        ⊎_elim
        (λ (z : live d ≡ false). absurd (not-both m (ap live q ∙ z)))
        (λ (z : changed d ≡ false). k i l m (inr (ap changed q ∙ z)))
        (and_cases (live d) (changed d) e))
        (λ (t : eqb i d ≡ false).
        let z : i ≡ d → ⊥ = eqb-false i d t in
        k i l m (inl (omega (arith, z))))
        (true-or-false (eqb i d)))
        (λ o. k i l m (inr o))
        s

    pub run-part : (d : ℕ) (gs : List Gate) (known vs : List ℕ) → gates_good d gs ≡ true → all formed gs ≡ true
        → d + length gs ≤ 1024 → 1024 ≤ length vs → length known ≡ d → Closed live d gs → I vs
        → Known live changed d (d + length gs) vs (extended f known gs)
        → (i : ℕ) → i < d + length gs → live i ≡ true
        → net_at (evaluated F vs (part_of live changed d gs)) i ≡ net_at (extended f known gs) i
    unfolding packed_from keep evaluated extended
    run-part d [] known vs a b h s e c v k i l m = k i l m (inl (omega arith))
    run-part d (g ∷ gs) known vs a b h s e c v k i l m =
        let t = all_cons formed g gs b in
        let o : own (packed d g) ≡ d = packed-own d g (good-first d g gs a) t.0 (omega arith) in
        let n : d + length (g ∷ gs) ≡ suc d + length gs = omega arith in
        let T = extended f known (g ∷ gs) in
        let more = known ++ (f known g ∷ []) in
        let again : (ws : List ℕ) → 1024 ≤ length ws → I ws → Known live changed (suc d) (d + length (g ∷ gs)) ws T
        → net_at (evaluated F ws (part_of live changed (suc d) gs)) i ≡ net_at T i =
        λ ws z w q.
        run-part (suc d) gs more ws (good-rest d g gs a) t.1 (omega arith) z
        (omega (arith, length-append known (f known g ∷ [])))
        (closed-rest d g gs live c)
        w
        (λ x y. q x (omega arith))
        i
        (omega arith)
        m in
        ⊎_elim
        (λ (q : live d && changed d ≡ true).
        let w = F vs (packed d g) in
        let p : (live (own (packed d g)) && changed (own (packed d g))) ≡ true = rw o q in
        let ws = set vs (own (packed d g)) w in
        rw p
        (again ws (omega (arith, length-set vs (own (packed d g)) w)) (r.keeps vs (packed d g) v)
        (subst (λ (x : ℕ). Known live changed (suc d) (d + length (g ∷ gs)) (set vs x w) T) (sym o)
        (known-set d (d + length (g ∷ gs)) vs T w (omega arith)
        (first-value d g gs known vs a t.0 (omega arith) e c v (and_left (live d) (changed d) q) k)
        k))))
        (λ (q : live d && changed d ≡ false).
        let p : (live (own (packed d g)) && changed (own (packed d g))) ≡ false = rw o q in
        rw p (again vs s v (known-passed d (d + length (g ∷ gs)) vs T q k)))
        (true-or-false (live d && changed d))

-- ---- values

pub set-binary : (vs : List ℕ) (k w : ℕ) → w < 2 → Binary vs → Binary (set vs k w)
set-binary [] k w h b i = b i
set-binary (v ∷ vs) zero w h b zero = h
set-binary (v ∷ vs) zero w h b (suc i) = b (suc i)
set-binary (v ∷ vs) (suc k) w h b zero = b 0
set-binary (v ∷ vs) (suc k) w h b (suc i) = set-binary vs k w h (λ n. b (suc n)) i

pub values-follow : Follows value_of code_value Binary
values-follow =
    record {
      local = value_of-local;
      keeps = λ vs c b. set-binary vs (own c) (code_value vs c) (code_value-lt vs c) b;
      packs = λ vs d g b e o h. packed-value d g e o h vs b;
    }

-- gates that stand for others have their values
pub same-values : {d : ℕ} {gs hs : List Gate} → SameGates d gs hs → (leaves : List ℕ) → length leaves ≡ d
    → values leaves hs ≡ values leaves gs
unfolding values value_of
same-values s leaves e = s.same gate_value leaves e
