-- Laws of the numbers that fit gives the old nets (specs/Fit): ranks in an ascending list, the marks of a gate's operands,
-- the new number of each old net, and that the fitted gates are good. Assumes nothing.
--
--   Ascends a xs         each element of xs is above the one before, and none is below a
--   old_gate j k, old_net j k    the old gate k, and the old net that it drives
--   NetCase n m count i  the old net i is an input, a target or a gate's
--   led_start j is t     the new net of the first old gate that a target leads to
--   Numbered .. b start  the new net of each old gate with mark b is start and its rank among them
use Prim.Native.Nat.{ℕ, zero, suc, ◌+◌, ◌-◌, ◌≤◌, ◌<◌}
use mathlib.Core.Path.{◌≡◌, refl, sym, ◌∙◌, ap, subst}
use mathlib.Core.Logic.{◌↔◌, ◌⊎◌, inl, inr, ⊎_elim}
use mathlib.Core.List.Memᴰ.{cases_cons}
use mathlib.Core.List.Memᴰ.{head as here}
use mathlib.Core.List.Memᴰ.{not-nil}
use mathlib.Core.List.Memᴰ.{of_map as mem-of-map}
use mathlib.Core.List.Memᴰ.{tail as there}
use mathlib.Core.List.{List, [], ◌∷◌, ◌++◌, map, Memᴰ as Mem}
use mathlib.Core.Bool.{Bool, true, false, cond}
use native.Mathlib.Nat.{zero-add}
use native.Mathlib.Omega.{arith}
use borrow.Author.Tests.{lt-ltb, le-ltb, ltb-true, ltb-false, eqb-true, eq-eqb, ne_eqb}
use lib.Dec.{eqb, ltb}
use lib.ListN.{length, get_or, take, drop, replicate, length-append, length-map, get_or-append, get_or-map}
use lib.Seq.{get_or-append-add}
use Rattle.records.specs.Bytes.{up_from, tabulate, all}
use Rattle.records.specs.Gate.{Gate, operands, unused, gate_value, disj}
use Rattle.records.specs.Netlist.{net_at, mark_of, fanout}
use Rattle.records.specs.Job.{Job}
use Rattle.records.specs.Refusal.{gate_good, gates_good, netlists_good, old_nets}
use Rattle.records.specs.Inner.{leaf_marks}
use Rattle.records.proofs.Laws.Bytes.{and_left, length-up_from, get_or-up_from, get_d_tabulate}
use Rattle.records.proofs.Laws.Gate.{on_bit, gate_good-permits, gate_good-parts}
use Rattle.engine.specs.Choice.{keep}
use Rattle.engine.specs.Fit.{led, gate_indices, rank, new_free_gate, new_free_net, trees, new_gate, new_nets, moved, moved_gates, fitted}
use Rattle.engine.proofs.Laws.Choice.{all_true, all-of-members, mem-keep, mem_below, keep-lt, true-or-false}
use Rattle.engine.proofs.Laws.Eval.{Bits, bits-nil, bits-cons, bits-append, bits-map, net_at-lt, gate_value-lt}
use Rattle.engine.proofs.Laws.Marks.{leaf-target, length-leaf_marks}
use Rattle.engine.proofs.Laws.FitGates.{no_gate, good-append, good-at, good-of-each, mark_of-local, consistent-extended, net_at-extended, extended-bits}
use Rattle.engine.proofs.Laws.FitTree.{length-nets, trees-good, trees-below}

-- ---- lists

pub get_or-defaults : {A : Type 0} (xs : List A) (i : ℕ) (a b : A) → i < length xs → get_or xs i a ≡ get_or xs i b
get_or-defaults [] i a b h = let f : ⊥ = omega arith in absurd f
get_or-defaults (x ∷ xs) zero a b h = refl
get_or-defaults (x ∷ xs) (suc i) a b h = get_or-defaults xs i a b (omega arith)

pub mem-at : (xs : List ℕ) (r : ℕ) → r < length xs → Mem (get_or xs r 0) xs
mem-at [] r h = let f : ⊥ = omega arith in absurd f
mem-at (x ∷ xs) zero h = here refl
mem-at (x ∷ xs) (suc r) h = there (mem-at xs r (omega arith))

pub place_of : {k : ℕ} {xs : List ℕ} → Mem k xs → (r : ℕ) × (r < length xs) × (get_or xs r 0 ≡ k)
place_of (here {xs = xs} e) = (0, omega arith, sym e)
place_of (there {x = x} {xs = xs} m) = let p = place_of m in (suc p.0, omega (arith, p.1), p.2)

-- ---- ranks

data Ascends : ℕ → List ℕ → Type 0 where
  ascends-nil : {a : ℕ} → Ascends a []
  ascends-cons : {a x : ℕ} {xs : List ℕ} → a ≤ x → Ascends (suc x) xs → Ascends a (x ∷ xs)

ascends-lower : {a b : ℕ} {xs : List ℕ} → b ≤ a → Ascends a xs → Ascends b xs
ascends-lower h ascends-nil = ascends-nil
ascends-lower {b = b} h (ascends-cons {x = x} l s) = let p : b ≤ x = omega arith in ascends-cons p s

ascends-cond : (b : Bool) (a : ℕ) (xs : List ℕ) → Ascends (suc a) xs → Ascends a (cond b (a ∷ xs) xs)
ascends-cond true a xs s = let p : a ≤ a = omega arith in ascends-cons p s
ascends-cond false a xs s = let p : a ≤ suc a = omega arith in ascends-lower p s

ascends-keep : (p : ℕ → Bool) (a n : ℕ) → Ascends a (keep p (up_from a n))
unfolding keep up_from
ascends-keep p a zero = ascends-nil
ascends-keep p a (suc n) = ascends-cond (p a) a (keep p (up_from (suc a) n)) (ascends-keep p (suc a) n)

rank-above : (x : ℕ) (xs : List ℕ) (i : ℕ) → x < i → rank (x ∷ xs) i ≡ suc (rank xs i)
unfolding rank keep
rank-above x xs i h = rw (lt-ltb x i h)

rank-past : (x : ℕ) (xs : List ℕ) (i : ℕ) → i ≤ x → rank (x ∷ xs) i ≡ rank xs i
unfolding rank keep
rank-past x xs i h = rw (le-ltb x i h)

rank-low : {a : ℕ} {xs : List ℕ} → Ascends a xs → (i : ℕ) → i ≤ a → rank xs i ≡ 0
unfolding rank keep
rank-low ascends-nil i h = refl
rank-low (ascends-cons {x = x} {xs = xs} l s) i h = rank-past x xs i (omega arith) ∙ rank-low s i (omega arith)

get_or-ascends : {a : ℕ} {xs : List ℕ} → Ascends a xs → (r : ℕ) → r < length xs → a ≤ get_or xs r 0
get_or-ascends ascends-nil r h = let f : ⊥ = omega arith in absurd f
get_or-ascends (ascends-cons l s) zero h = l
get_or-ascends (ascends-cons l s) (suc r) h = let p = get_or-ascends s r (omega arith) in omega arith

-- the element at place r has rank r
rank-at : {a : ℕ} {xs : List ℕ} → Ascends a xs → (r : ℕ) → r < length xs → rank xs (get_or xs r 0) ≡ r
rank-at ascends-nil r h = let f : ⊥ = omega arith in absurd f
rank-at (ascends-cons {x = x} {xs = xs} l s) zero h = rank-past x xs x (omega arith) ∙ rank-low s x (omega arith)
rank-at (ascends-cons {x = x} {xs = xs} l s) (suc r) h =
    rank-above x xs (get_or xs r 0) (get_or-ascends s r (omega arith)) ∙ ap suc (rank-at s r (omega arith))

-- .. so an element stands at its rank
rank-mem : {a k : ℕ} {xs : List ℕ} → Ascends a xs → Mem k xs → (rank xs k < length xs) × (get_or xs (rank xs k) 0 ≡ k)
rank-mem {k = k} {xs = xs} s m =
    let p = place_of m in
    let e : rank xs k ≡ p.0 = ap (rank xs) (sym p.2) ∙ rank-at s p.0 p.1 in
    (rw e p.1, rw e p.2)

rank_lt : (xs : List ℕ) (k l : ℕ) → k < l → Mem k xs → rank xs k < rank xs l
unfolding rank
rank_lt xs k l h m =
    keep-lt (λ x. ltb x l) (λ x. ltb x k) (λ x e. le-ltb x k (omega (arith, ltb-false x l e))) m (lt-ltb k l h)
    (le-ltb k k (omega arith))

-- ---- marks

disj-above : (f : ℕ → ℕ) (is : List ℕ) (i : ℕ) → Mem i is → f i ≤ disj (map f is)
unfolding disj
disj-above f [] i m = absurd (not-nil m)
disj-above f (k ∷ is) i m =
    ⊎_elim
    (λ (q : i ≡ k). rw q (omega arith))
    (λ (n : Mem i is). let p = disj-above f is i n in omega arith)
    (cases_cons m)

mark_of-lt : (known : List ℕ) → Bits known → (g : Gate) → mark_of known g < 2
unfolding mark_of gate_value
mark_of-lt known b g = gate_value-lt 6 (bits-map (net_at known) (net_at-lt b) (operands g))

bits-replicate : (n c : ℕ) → c < 2 → Bits (replicate n c)
bits-replicate zero c h = bits-nil
bits-replicate (suc n) c h = bits-cons h (bits-replicate n c h)

module _ (j : Job) where
  pub mark-cases : (i : ℕ) → (net_at (led j) i ≡ 0) ⊎ (net_at (led j) i ≡ 1)
  unfolding led fanout
  mark-cases i =
      let b =
      extended-bits mark_of mark_of-lt (replicate j.inputs 0 ++ replicate j.targets 1)
      (bits-append (bits-replicate j.inputs 0 (omega arith)) (bits-replicate j.targets 1 (omega arith)))
      j.old.gates in
      on_bit (λ v. (v ≡ 0) ⊎ (v ≡ 1)) (inl refl) (inr refl) (net_at (led j) i) (net_at-lt b i)

  pub mark-target : (i : ℕ) → i < j.targets → net_at (led j) (j.inputs + i) ≡ 1
  unfolding led fanout leaf_marks net_at
  mark-target i h =
      net_at-extended mark_of (leaf_marks j.inputs j.targets) j.old.gates (j.inputs + i)
      (omega (arith, length-leaf_marks j.inputs j.targets))
      ∙ sym (leaf-target j.inputs j.targets (j.inputs + i) (omega arith) (omega arith))

-- ---- the gates of a good job

abbrev pub old_gate : Job → ℕ → Gate
old_gate j k = get_or j.old.gates k no_gate

abbrev pub old_net : Job → ℕ → ℕ
old_net j k = j.inputs + j.targets + k

module _ (j : Job) (good : netlists_good j ≡ true) where
  pub old-good : gates_good (j.inputs + j.targets) j.old.gates ≡ true
  unfolding netlists_good
  old-good = and_left (gates_good (j.inputs + j.targets) j.old.gates) (gates_good j.inputs j.golden.gates) good

  module _ (k : ℕ) (h : k < length j.old.gates) where
    pub gate-good : gate_good (old_net j k) (old_gate j k) ≡ true
    gate-good = good-at (j.inputs + j.targets) j.old.gates old-good k h

    pub operand_below : (i : ℕ) → Mem i (operands (old_gate j k)) → i < old_net j k
    operand_below i m =
        ltb-true i (old_net j k)
        (all_true (λ x. ltb x (old_net j k)) (operands (old_gate j k)) (gate_good-parts (old_net j k) (old_gate j k) gate-good).0 i m)

    -- no target leads to the operands of a gate that none leads to
    pub operand-unmarked : net_at (led j) (old_net j k) ≡ 0 → (i : ℕ) → Mem i (operands (old_gate j k)) → net_at (led j) i ≡ 0
    unfolding led fanout leaf_marks mark_of
    operand-unmarked e i m =
        let leaves = leaf_marks j.inputs j.targets in
        let c =
        (consistent-extended mark_of mark_of-local leaves j.old.gates (j.inputs + j.targets)
        (length-leaf_marks j.inputs j.targets)
        old-good).at
        k
        h in
        let l = disj-above (net_at (led j)) (operands (old_gate j k)) i m in
        omega arith

-- ---- old nets

pub data NetCase (n m count : ℕ) : ℕ → Type 0 where
  input : {i : ℕ} → i < n → NetCase n m count i
  target : {i : ℕ} → i < m → NetCase n m count (n + i)
  gate : {k : ℕ} → k < count → NetCase n m count (n + m + k)

pub net-case : (n m count i : ℕ) → i < n + m + count → NetCase n m count i
net-case n m count i h =
    ⊎_elim
    (λ (e : ltb i n ≡ true). input (ltb-true i n e))
    (λ (e : ltb i n ≡ false).
    let l = ltb-false i n e in
    ⊎_elim
    (λ (f : ltb i (n + m) ≡ true).
    let a = ltb-true i (n + m) f in
    let p : i - n < m = omega arith in
    let q : n + (i - n) ≡ i = omega arith in
    subst (NetCase n m count) q (target p))
    (λ (f : ltb i (n + m) ≡ false).
    let a = ltb-false i (n + m) f in
    let p : i - (n + m) < count = omega arith in
    let q : n + m + (i - (n + m)) ≡ i = omega arith in
    subst (NetCase n m count) q (gate p))
    (true-or-false (ltb i (n + m))))
    (true-or-false (ltb i n))

-- ---- the gates with a mark

module _ (j : Job) (b : ℕ) where
  indices-ascend : Ascends 0 (gate_indices j b)
  unfolding gate_indices
  indices-ascend = ascends-keep (λ i. eqb (net_at (led j) (old_net j i)) b) 0 (length j.old.gates)

  pub mem-indices : (k : ℕ) → Mem k (gate_indices j b) ↔ ((k < length j.old.gates) × (net_at (led j) (old_net j k) ≡ b))
  unfolding gate_indices
  mem-indices k =
      let p : ℕ → Bool = λ i. eqb (net_at (led j) (old_net j i)) b in
      let r = mem-keep p (up_from 0 (length j.old.gates)) k in
      let l = mem_below (length j.old.gates) k in (
        λ m. (l.0 (r.0 m).0, eqb-true (net_at (led j) (old_net j k)) b (r.0 m).1),
        λ h. r.1 (l.1 h.0, eq-eqb (net_at (led j) (old_net j k)) b h.1),
      )

  -- gate k stands at its rank among the gates with its mark
  pub gate-rank : (k : ℕ) → k < length j.old.gates → net_at (led j) (old_net j k) ≡ b
      → (rank (gate_indices j b) k < length (gate_indices j b)) × (get_or (gate_indices j b) (rank (gate_indices j b) k) 0 ≡ k)
  gate-rank k h e = rank-mem indices-ascend ((mem-indices k).1 (h, e))

  -- .. and comes before a later one
  pub gate-rank-lt : (k l : ℕ) → k < length j.old.gates → net_at (led j) (old_net j k) ≡ b → k < l
      → rank (gate_indices j b) k < rank (gate_indices j b) l
  gate-rank-lt k l h e p = rank_lt (gate_indices j b) k l p ((mem-indices k).1 (h, e))

-- ---- new numbers

module _ (j : Job) (is t : List ℕ) where
  -- how many gates stand before the remaining old gates, with the inputs
  abbrev pub led_start : ℕ
  led_start = j.inputs + length (gate_indices j 0) + length (trees j is t).gates

  length_front : length (up_from 0 j.inputs ++ (trees j is t).nets) ≡ j.inputs + j.targets
  unfolding trees
  length_front =
      length-append (up_from 0 j.inputs) (trees j is t).nets
      ∙ omega (
        arith,
        length-up_from 0 j.inputs,
        length-nets j.targets 0 (j.inputs + length (gate_indices j 0)) (map (new_free_net j) is) t,
      )

  pub number-input : (i : ℕ) → i < j.inputs → net_at (new_nets j is t) i ≡ i
  unfolding new_nets net_at
  number-input i h =
      let u = up_from 0 j.inputs in
      get_or-append (u ++ (trees j is t).nets) (tabulate (length j.old.gates) (new_gate j is t)) 0 i
      (omega (arith, length_front))
      ∙ get_or-append u (trees j is t).nets 0 i (omega (arith, length-up_from 0 j.inputs))
      ∙ get_or-up_from 0 j.inputs i 0 h
      ∙ zero-add i

  pub number-target : (i : ℕ) → i < j.targets → net_at (new_nets j is t) (j.inputs + i) ≡ get_or (trees j is t).nets i 0
  unfolding new_nets net_at
  number-target i h =
      let u = up_from 0 j.inputs in
      get_or-append (u ++ (trees j is t).nets) (tabulate (length j.old.gates) (new_gate j is t)) 0 (j.inputs + i)
      (omega (arith, length_front))
      ∙ ap (λ (n : ℕ). get_or (u ++ (trees j is t).nets) (n + i) 0) (sym (length-up_from 0 j.inputs))
      ∙ get_or-append-add u (trees j is t).nets i 0

  number-gate : (k : ℕ) → k < length j.old.gates → net_at (new_nets j is t) (old_net j k) ≡ new_gate j is t k
  unfolding new_nets net_at
  number-gate k h =
      let u = up_from 0 j.inputs ++ (trees j is t).nets in
      let gs = tabulate (length j.old.gates) (new_gate j is t) in
      ap (λ (n : ℕ). get_or (u ++ gs) (n + k) 0) (sym length_front)
      ∙ get_or-append-add u gs k 0
      ∙ get_d_tabulate (length j.old.gates) (new_gate j is t) k 0 h

  -- the new net of each gate with mark b is start and its rank among them
  abbrev pub Numbered : ℕ → ℕ → Type 0
  Numbered b start =
      (k : ℕ) → k < length j.old.gates → net_at (led j) (old_net j k) ≡ b
      → net_at (new_nets j is t) (old_net j k) ≡ start + rank (gate_indices j b) k

  pub number-free : Numbered 0 j.inputs
  unfolding new_gate new_free_gate
  number-free k h e = number-gate k h ∙ rw (eq-eqb (net_at (led j) (old_net j k)) 0 e)

  pub number-led : Numbered 1 led_start
  unfolding new_gate
  number-led k h e = number-gate k h ∙ rw (ne_eqb (net_at (led j) (old_net j k)) 0 (λ z. omega arith))

  support-case : {i : ℕ} → NetCase j.inputs j.targets (length j.old.gates) i → net_at (led j) i ≡ 0
      → new_free_net j i ≡ net_at (new_nets j is t) i
  unfolding new_free_net new_free_gate
  support-case (input {i} h) e = rw (lt-ltb i j.inputs h) (sym (number-input i h))
  support-case (target {i} h) e = let f : ⊥ = omega (arith, mark-target j i h) in absurd f
  support-case (gate {k} h) e =
      let l : ltb (old_net j k) j.inputs ≡ false = le-ltb (old_net j k) j.inputs (omega arith) in
      let d : old_net j k - (j.inputs + j.targets) ≡ k = omega arith in
      rw (l, d) (sym (number-free k h e))

  -- the number by which the trees read a net that no target leads to
  pub number-support : (i : ℕ) → i < old_nets j → net_at (led j) i ≡ 0 → new_free_net j i ≡ net_at (new_nets j is t) i
  unfolding old_nets
  number-support i h e = support-case (net-case j.inputs j.targets (length j.old.gates) i h) e

  number-target-below : (i : ℕ) → i < j.targets → net_at (new_nets j is t) (j.inputs + i) < led_start
  unfolding trees
  number-target-below i h =
      rw (number-target i h)
      (trees-below j.targets 0 (j.inputs + length (gate_indices j 0)) (map (new_free_net j) is) t i h)

  number-free-below : (k : ℕ) → k < length j.old.gates → net_at (led j) (old_net j k) ≡ 0
      → net_at (new_nets j is t) (old_net j k) < j.inputs + length (gate_indices j 0)
  number-free-below k h e = omega (arith, number-free k h e, (gate-rank j 0 k h e).0)

  support-below-case : {i : ℕ} → NetCase j.inputs j.targets (length j.old.gates) i → net_at (led j) i ≡ 0
      → net_at (new_nets j is t) i < j.inputs + length (gate_indices j 0)
  support-below-case (input {i} h) e = omega (arith, number-input i h)
  support-below-case (target {i} h) e = let f : ⊥ = omega (arith, mark-target j i h) in absurd f
  support-below-case (gate {k} h) e = number-free-below k h e

  -- .. which is below the trees' first net
  pub support-below : (i : ℕ) → i < old_nets j → net_at (led j) i ≡ 0
      → new_free_net j i < j.inputs + length (gate_indices j 0)
  unfolding old_nets
  support-below i h e =
      rw (number-support i h e) (support-below-case (net-case j.inputs j.targets (length j.old.gates) i h) e)

  -- an old net before gate k has a new number before the one of gate k, where no target leads to gate k nor to it
  free-before : {i : ℕ} → NetCase j.inputs j.targets (length j.old.gates) i → net_at (led j) i ≡ 0 → (k : ℕ)
      → i < old_net j k → net_at (new_nets j is t) i < j.inputs + rank (gate_indices j 0) k
  free-before (input {i} h) e k l = omega (arith, number-input i h)
  free-before (target {i} h) e k l = let f : ⊥ = omega (arith, mark-target j i h) in absurd f
  free-before (gate {k = a} h) e k l = omega (arith, number-free a h e, gate-rank-lt j 0 a k h e (omega arith))

  -- .. and where a target leads to gate k
  led-before : {i : ℕ} → NetCase j.inputs j.targets (length j.old.gates) i → (k : ℕ)
      → i < old_net j k → net_at (new_nets j is t) i < led_start + rank (gate_indices j 1) k
  led-before (input {i} h) k l = omega (arith, number-input i h)
  led-before (target {i} h) k l = omega (arith, number-target-below i h)
  led-before (gate {k = a} h) k l =
      ⊎_elim
      (λ (e : net_at (led j) (old_net j a) ≡ 0). omega (arith, number-free-below a h e))
      (λ (e : net_at (led j) (old_net j a) ≡ 1). omega (arith, number-led a h e, gate-rank-lt j 1 a k h e (omega arith)))
      (mark-cases j (old_net j a))

  number-case : {i : ℕ} → NetCase j.inputs j.targets (length j.old.gates) i
      → net_at (new_nets j is t) i < led_start + length (gate_indices j 1)
  number-case (input {i} h) = omega (arith, number-input i h)
  number-case (target {i} h) = omega (arith, number-target-below i h)
  number-case (gate {k} h) =
      ⊎_elim
      (λ (e : net_at (led j) (old_net j k) ≡ 0). omega (arith, number-free-below k h e))
      (λ (e : net_at (led j) (old_net j k) ≡ 1). omega (arith, number-led k h e, (gate-rank j 1 k h e).0))
      (mark-cases j (old_net j k))

  -- every old net has a new number below the number of new nets
  pub number-below : (i : ℕ) → i < old_nets j → net_at (new_nets j is t) i < led_start + length (gate_indices j 1)
  unfolding old_nets
  number-below i h = number-case (net-case j.inputs j.targets (length j.old.gates) i h)

  -- a gate's operands have new numbers below its own
  pub operand-number : netlists_good j ≡ true → (k : ℕ) → k < length j.old.gates → (i : ℕ) → Mem i (operands (old_gate j k))
      → net_at (new_nets j is t) i < net_at (new_nets j is t) (old_net j k)
  operand-number good k h i m =
      let l = operand_below j good k h i m in
      let c = net-case j.inputs j.targets (length j.old.gates) i (omega arith) in
      ⊎_elim
      (λ (e : net_at (led j) (old_net j k) ≡ 0).
      rw (number-free k h e) (free-before c (operand-unmarked j good k h e i m) k l))
      (λ (e : net_at (led j) (old_net j k) ≡ 1). rw (number-led k h e) (led-before c k l))
      (mark-cases j (old_net j k))

-- ---- moved gates

pub all-mapped : (f : ℕ → ℕ) (n : ℕ) (xs : List ℕ) → ((i : ℕ) → Mem i xs → f i < n) → all (λ i. ltb i n) (map f xs) ≡ true
all-mapped f n xs h =
    all-of-members (λ i. ltb i n) (map f xs)
    (λ x m.
    let r = mem-of-map f xs m in
    subst (λ (y : ℕ). ltb y n ≡ true) r.2 (lt-ltb (f r.0) n (h r.0 r.1)))

module _ (f : ℕ → ℕ) where
  take-moved : (n : ℕ) (xs : List ℕ) → take n (map f (take n xs) ++ drop n xs) ≡ map f (take n xs)
  take-moved zero xs = refl
  take-moved (suc n) [] = refl
  take-moved (suc n) (x ∷ xs) = ap (λ (l : List ℕ). f x ∷ l) (take-moved n xs)

  drop-moved : (n : ℕ) (xs : List ℕ) → drop n (map f (take n xs) ++ drop n xs) ≡ drop n xs
  drop-moved zero xs = refl
  drop-moved (suc n) [] = refl
  drop-moved (suc n) (x ∷ xs) = drop-moved n xs

-- a gate with its used operands renumbered by f
abbrev pub renumbered : (ℕ → ℕ) → Gate → Gate
renumbered f g = record { kind = g.kind; count = g.count; slots = map f (operands g) ++ unused g }

module _ (f : ℕ → ℕ) (g : Gate) where
  pub operands-renumbered : operands (renumbered f g) ≡ map f (operands g)
  unfolding operands unused
  operands-renumbered = take-moved f g.count g.slots

  unused-renumbered : unused (renumbered f g) ≡ unused g
  unfolding operands unused
  unused-renumbered = drop-moved f g.count g.slots

  -- a renumbered gate may drive a net above its operands' new numbers
  pub renumbered-good : (net new : ℕ) → gate_good net g ≡ true → ((i : ℕ) → Mem i (operands g) → f i < new)
      → gate_good new (renumbered f g) ≡ true
  unfolding gate_good
  renumbered-good net new e h =
      rw (
        operands-renumbered,
        unused-renumbered,
        gate_good-permits net g e,
        all-mapped f new (operands g) h,
        (gate_good-parts net g e).1,
      )

module _ (ns : List ℕ) (g : Gate) where
  moved-good : (net new : ℕ) → gate_good net g ≡ true → ((i : ℕ) → Mem i (operands g) → net_at ns i < new)
      → gate_good new (moved ns g) ≡ true
  unfolding moved
  moved-good = renumbered-good (net_at ns) g

module _ (j : Job) (ns ks : List ℕ) where
  pub length_moved : length (moved_gates j ns ks) ≡ length ks
  unfolding moved_gates
  length_moved = length-map ks (λ k. moved ns (get_or j.old.gates k no_gate))

  pub moved_at : (r : ℕ) → r < length ks → get_or (moved_gates j ns ks) r no_gate ≡ moved ns (old_gate j (get_or ks r 0))
  unfolding moved_gates
  moved_at r h =
      let f : ℕ → Gate = λ k. moved ns (get_or j.old.gates k no_gate) in
      get_or-defaults (map f ks) r no_gate (f 0) (omega (arith, length-map ks f)) ∙ get_or-map f ks r 0

pub length-fitted : (j : Job) (is t : List ℕ)
    → j.inputs + length (fitted j is t).gates ≡ led_start j is t + length (gate_indices j 1)
unfolding fitted
length-fitted j is t =
    let ns = new_nets j is t in
    let xs = moved_gates j ns (gate_indices j 0) in
    let ys = (trees j is t).gates in
    let zs = moved_gates j ns (gate_indices j 1) in
    omega (
      arith,
      length-append (xs ++ ys) zs,
      length-append xs ys,
      length_moved j ns (gate_indices j 0),
      length_moved j ns (gate_indices j 1),
    )

-- ---- good gates

module _ (j : Job) (is t : List ℕ) (good : netlists_good j ≡ true) where
  -- the old gates with a mark, moved, from their start on
  group-good : (b start : ℕ) → Numbered j is t b start
      → gates_good start (moved_gates j (new_nets j is t) (gate_indices j b)) ≡ true
  group-good b start numbered =
      let ns = new_nets j is t in
      let ks = gate_indices j b in
      good-of-each start (moved_gates j ns ks)
      (λ r h.
      let l : r < length ks = omega (arith, length_moved j ns ks) in
      let k = get_or ks r 0 in
      let m = (mem-indices j b k).0 (mem-at ks r l) in
      let e : net_at ns (old_net j k) ≡ start + r =
      numbered k m.0 m.1 ∙ ap (λ (x : ℕ). start + x) (rank-at (indices-ascend j b) r l) in
      rw (moved_at j ns ks r l)
      (moved-good ns (old_gate j k) (old_net j k) (start + r) (gate-good j good k m.0)
      (λ i o. rw e at (operand-number j is t good k m.0 i o))))

  module _ (free : (i : ℕ) → Mem i is → (i < old_nets j) × (net_at (led j) i ≡ 0)) where
    -- the trees read nets before their first
    tree-nets : (r : ℕ) → r < length (map (new_free_net j) is)
        → get_or (map (new_free_net j) is) r 0 < j.inputs + length (gate_indices j 0)
    tree-nets r h =
        let p = mem-of-map (new_free_net j) is (mem-at (map (new_free_net j) is) r h) in
        let q = free p.0 p.1 in
        rw p.2 at (support-below j is t p.0 q.0 q.1)

    all-trees-good : gates_good (j.inputs + length (gate_indices j 0)) (trees j is t).gates ≡ true
    unfolding trees
    all-trees-good = trees-good j.targets 0 (j.inputs + length (gate_indices j 0)) (map (new_free_net j) is) t tree-nets

    -- the fitted gates are good over the inputs
    pub fitted-good : gates_good j.inputs (fitted j is t).gates ≡ true
    unfolding fitted
    fitted-good =
        let ns = new_nets j is t in
        let xs = moved_gates j ns (gate_indices j 0) in
        let ys = (trees j is t).gates in
        let zs = moved_gates j ns (gate_indices j 1) in
        let l : length xs ≡ length (gate_indices j 0) = length_moved j ns (gate_indices j 0) in
        let e : j.inputs + length (gate_indices j 0) ≡ j.inputs + length xs = omega arith in
        let f : led_start j is t ≡ j.inputs + length (xs ++ ys) = omega (arith, length-append xs ys) in
        good-append j.inputs (xs ++ ys) zs
        (good-append j.inputs xs ys
        (group-good 0 j.inputs (number-free j is t))
        (rw e at all-trees-good))
        (rw f at (group-good 1 (led_start j is t) (number-led j is t)))
