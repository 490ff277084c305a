-- Laws of specs/Inner/Ranges: what is known of a packed gate's operands, slot by slot; a gate on completed operands, whose value
-- completes what is known of it; and what is known of a range of inputs. Assumes nothing.
use Prim.Native.Nat.{ℕ, zero, suc, ◌+◌, ◌-◌, ◌*◌, ◌/◌, ◌%◌, ◌^◌, min, ◌≤◌, ◌<◌}
use mathlib.Core.Path.{◌≡◌, refl, sym, ◌∙◌, ap}
use mathlib.Core.Logic.{◌⊎◌, inl, inr, ⊎_elim}
use mathlib.Core.List.{List, [], ◌∷◌, ◌++◌, map, map-map, append-nil}
use mathlib.Core.Bool.{true, false}
use native.Mathlib.Nat.{zero-add, add-mul}
use native.Mathlib.Omega.{arith}
use borrow.Author.Tests.{lt-ltb, le-ltb, ltb-true, ltb-false}
use lib.Dec.{ltb}
use lib.ListN.{length, get_or, take, set, length-set, get_or-append}
use lib.Pow.{high, shr-shr}
use lib.Seq.{length-take-le, get_or-append-add, get_or-take, take-suc-set, take-nil, append_snoc}
use Rattle.records.specs.Bytes.{up_from, tabulate, all, placed}
use Rattle.records.specs.Gate.{Gate, operands, gate_value}
use Rattle.records.specs.Netlist.{net_at, value_of}
use Rattle.records.specs.Refusal.{gate_good}
use Rattle.records.proofs.Laws.Bytes.{all_cons, length-tabulate, get_d_tabulate, tabulate-snoc, placed-nil, length-placed, take-placed, set-placed}
use Rattle.records.proofs.Laws.Gate.{gate_good-parts}
use Rattle.engine.specs.Eval.{bit, bits}
use Rattle.engine.specs.Ternary.{unknown, ternary_value, ternary_table, entry, Completes, CompletesAll}
use Rattle.engine.specs.Inner.Packed.{fields, kind_of, count_of, operands_of}
use Rattle.engine.specs.Inner.Ranges.{known_at, ternary_of, code_ternary, Completed, partial_input, InRange}
use Rattle.engine.proofs.Laws.Choice.{true-or-false}
use Rattle.engine.proofs.Laws.Eval.{bit-lt}
use Rattle.engine.proofs.Laws.Ternary.{entry-table, knowns, knowns-map, ternaries-map, completes-unknown, completes-nil, completes-cons, possible, possible-iff}

-- ---- what is known of a packed gate's operands, slot by slot

-- the first i slots are read, and rest has the others: the operands read, and then those in rest, are all n of them
abbrev pub ReadTo : (ℕ → ℕ) → ℕ → ℕ → List ℕ → ℕ → ℕ → Type 0
ReadTo f n z r rest i = take (min n i) r ++ map f (take (4 - i) (fields (n - i) rest)) ≡ map f (take 4 (fields n z))

module _ (f : ℕ → ℕ) (n z : ℕ) (r : List ℕ) where
  pub read_none : ReadTo f n z r z 0
  read_none = let e : min n 0 ≡ 0 = omega arith in let m : n - 0 ≡ n = omega arith in rw (e, m)

  module _ (rest i : ℕ) (w : ReadTo f n z r rest i) where
    pub read-used : i < n → i < 4 → length r ≡ 4 → ReadTo f n z (set r i (f (rest % 1024))) (rest / 1024) (i + 1)
    unfolding fields
    read-used h l e =
        let a : min n i ≡ i = omega arith in
        let b : min n (i + 1) ≡ suc i = omega arith in
        let p : n - i ≡ suc (n - (i + 1)) = omega arith in
        let q : 4 - i ≡ suc (4 - (i + 1)) = omega arith in
        let x = f (rest % 1024) in
        let more = map f (take (4 - (i + 1)) (fields (n - (i + 1)) (rest / 1024))) in
        rw (b, take-suc-set r i x (omega arith), append_snoc (take i r) x more) (rw (a, p, q) at w)

    pub read-unused : n ≤ i → ReadTo f n z r (rest / 1024) (i + 1)
    unfolding fields
    read-unused h =
        let a : min n i ≡ n = omega arith in
        let b : min n (i + 1) ≡ n = omega arith in
        let p : n - i ≡ 0 = omega arith in
        let q : n - (i + 1) ≡ 0 = omega arith in
        rw (b, q, take-nil {A = ℕ} (4 - (i + 1))) (rw (a, p, take-nil {A = ℕ} (4 - i)) at w)

    pub read-end : i ≡ 4 → take (min n 4) r ≡ map f (take 4 (fields n z))
    read-end e = sym (append-nil (take (min n 4) r)) ∙ (rw e at w)

-- ---- a packed gate

take_min : (n : ℕ) (xs : List ℕ) → take (min n (length xs)) xs ≡ take n xs
take_min zero xs = let e : min 0 (length xs) ≡ 0 = omega arith in rw e
take_min (suc n) [] = let e : min (suc n) 0 ≡ 0 = omega arith in rw e
take_min (suc n) (x ∷ xs) =
    let e : min (suc n) (suc (length xs)) ≡ suc (min n (length xs)) = omega arith in rw (e, take_min n xs)

-- what is known of it is its kind's value on what is known of its operands
pub code_ternary-operands : (nets : List ℕ) (c : ℕ) (xs : List ℕ) → length xs ≡ 4
    → take (min (count_of c) 4) xs ≡ map (net_at nets) (take 4 (operands_of c))
    → ternary_value (kind_of c) (knowns (count_of c) xs) ≡ code_ternary nets c
unfolding code_ternary known_at
code_ternary-operands nets c xs e w =
    let n = count_of c in
    let t : take n xs ≡ take (min n 4) xs = sym (take_min n xs) ∙ ap (λ (m : ℕ). take (min n m) xs) e in
    ap (ternary_value (kind_of c))
    (knowns-map n xs ∙ ap (map (λ x. min x unknown)) (t ∙ w) ∙ map-map (λ x. min x unknown) (net_at nets) (take 4 (operands_of c)))

-- .. and, of two operands, the entry of its kind's table at them
pub code_ternary-two : (nets : List ℕ) (c : ℕ) → count_of c ≡ 2
    → entry (ternary_table (kind_of c)) (net_at nets (c / 131072 % 1024)) (net_at nets (c / 131072 / 1024 % 1024)) ≡ code_ternary nets c
unfolding code_ternary known_at fields entry
code_ternary-two nets c e =
    let x = net_at nets (c / 131072 % 1024) in
    let y = net_at nets (c / 131072 / 1024 % 1024) in
    let a : min (min x 2) 2 ≡ min x 2 = omega arith in
    let b : min (min y 2) 2 ≡ min y 2 = omega arith in
    rw e (rw (a, b) at (entry-table (kind_of c) (min x 2) (min y 2) (omega arith) (omega arith)))

-- ---- a gate

known_at-le : (nets : List ℕ) (i : ℕ) → known_at nets i ≤ 2
unfolding known_at
known_at-le nets i = omega arith

module _ (net : ℕ) (known nets : List ℕ) (c : Completed net known nets) where
  operand : (i : ℕ) → i < net → Completes (net_at known i) (known_at nets i)
  unfolding net_at known_at
  operand i h =
      let v = c i h in record { bit = v.bit; kept = λ l. let e = v.kept (omega arith) in omega arith }

  operands-complete : (os : List ℕ) → all (λ i. ltb i net) os ≡ true
      → CompletesAll (map (net_at known) os) (map (known_at nets) os)
  operands-complete [] e = completes-nil
  operands-complete (o ∷ os) e =
      let t = all_cons (λ i. ltb i net) o os e in
      completes-cons (net_at known o) (known_at nets o) (map (net_at known) os) (map (known_at nets) os)
      (operand o (ltb-true o net t.0))
      (operands-complete os t.1)

  -- the value of a good gate completes what is known of it
  pub gate-completes : (g : Gate) → gate_good net g ≡ true → Completes (value_of known g) (ternary_of nets g)
  unfolding value_of ternary_of
  gate-completes g e =
      let k = g.kind in
      let vs = map (net_at known) (operands g) in
      let xs = map (known_at nets) (operands g) in
      let t = ternaries-map (known_at nets) (known_at-le nets) (operands g) in
      (possible-iff k xs t (gate_value k vs)).0 (possible k xs t vs (operands-complete (operands g) (gate_good-parts net g e).0))

-- ---- leaves: n numbers so far from place at on

abbrev pub Filling : List ℕ → ℕ → (ℕ → ℕ) → List ℕ → ℕ → Type 0
Filling d₀ at g d n = (length d ≡ length d₀) × (d ≡ placed d₀ at (tabulate n g))

module _ (d₀ : List ℕ) (at : ℕ) (g : ℕ → ℕ) where
  pub filling-none : Filling d₀ at g d₀ 0
  unfolding tabulate up_from
  filling-none = (refl, sym (placed-nil d₀ at))

  pub filling-next : (d : List ℕ) (n p x : ℕ) → p ≡ at + n → p < length d₀ → x ≡ g n → Filling d₀ at g d n
      → Filling d₀ at g (set d p x) (n + 1)
  filling-next d n p x q h e w =
      let l : p ≡ at + length (tabulate n g) = omega (arith, length-tabulate n g) in
      let s : set (placed d₀ at (tabulate n g)) p (g n) ≡ placed d₀ at (tabulate (n + 1) g) =
      ap (λ (j : ℕ). set (placed d₀ at (tabulate n g)) j (g n)) l
      ∙ set-placed d₀ at (tabulate n g) (g n) (omega arith)
      ∙ ap (placed d₀ at) (sym (tabulate-snoc n g)) in
      (length-set d p x ∙ w.0, rw (w.1, e) s)

-- ---- the places of a range

module _ (low prefix i : ℕ) where
  pub partial_input-low : i < low → partial_input low prefix i ≡ unknown
  unfolding partial_input
  partial_input-low h = let t : ltb i low ≡ true = lt-ltb i low h in rw t

  pub partial_input-high : low ≤ i → partial_input low prefix i ≡ bit (i - low) prefix
  unfolding partial_input
  partial_input-high h = let t : ltb i low ≡ false = le-ltb i low h in rw t

below_or_not : (a b : ℕ) → (b ≤ a) ⊎ (a < b)
below_or_not a b = ⊎_elim (λ t. inr (ltb-true a b t)) (λ t. inl (ltb-false a b t)) (true-or-false (ltb a b))

-- the bits from low on of a number of the range are those of the prefix
bit-prefix : (low prefix x i : ℕ) → InRange low prefix x → low ≤ i → bit i x ≡ bit (i - low) prefix
unfolding bit
bit-prefix low prefix x i r h =
    let m = add-mul prefix 1 (2 ^ low) in
    let e : prefix * 2 ^ low + (x - prefix * 2 ^ low) ≡ x = omega (arith, r.least) in
    let l : x - prefix * 2 ^ low < 2 ^ low = omega (arith, r.least, r.most) in
    let d : x / 2 ^ low ≡ prefix = rw e at (high prefix low l) in
    let n : low + (i - low) ≡ i = omega arith in
    ap (λ (y : ℕ). y % 2)
    (ap (λ (k : ℕ). x / 2 ^ k) (sym n) ∙ sym (shr-shr x low (i - low)) ∙ ap (λ (y : ℕ). y / 2 ^ (i - low)) d)

pub input-completes : (low prefix x i : ℕ) → InRange low prefix x → Completes (bit i x) (partial_input low prefix i)
input-completes low prefix x i r =
    ⊎_elim
    (λ (h : low ≤ i).
    rw (partial_input-high low prefix i h)
    (record { bit = bit-lt i x; kept = λ l. bit-prefix low prefix x i r h }))
    (λ (h : i < low). rw (partial_input-low low prefix i h) (completes-unknown (bit i x) (bit-lt i x)))
    (below_or_not i low)

get_or-second : (xs ys : List ℕ) (n i : ℕ) → length xs ≡ n → get_or (xs ++ ys) (n + i) 0 ≡ get_or ys i 0
get_or-second xs ys n i e = ap (λ (k : ℕ). get_or (xs ++ ys) (k + i) 0) (sym e) ∙ get_or-append-add xs ys i 0

module _ (d₀ : List ℕ) (at k : ℕ) (g : ℕ → ℕ) (h : at + k ≤ length d₀) where
  -- what stands in the first at + k places
  placed-front : take (at + k) (placed d₀ at (tabulate k g)) ≡ take at d₀ ++ tabulate k g
  placed-front =
      let n = length-tabulate k g in
      ap (λ (m : ℕ). take (at + m) (placed d₀ at (tabulate k g))) (sym n)
      ∙ take-placed d₀ at (tabulate k g) (omega arith)

  placed_at : (i : ℕ) → i < at + k → get_or (placed d₀ at (tabulate k g)) i 0 ≡ get_or (take at d₀ ++ tabulate k g) i 0
  placed_at i l =
      sym (get_or-take (at + k) (placed d₀ at (tabulate k g)) i 0 l) ∙ ap (λ (xs : List ℕ). get_or xs i 0) placed-front

  -- values behind others, where what they complete is put behind what the others complete
  pub completed-placed : (vs ws : List ℕ) → length vs ≡ at → Completed at vs d₀
      → ((i : ℕ) → i < k → Completes (get_or ws i 0) (g i))
      → Completed (at + k) (vs ++ ws) (placed d₀ at (tabulate k g))
  completed-placed vs ws e c f i l =
      let t : length (take at d₀) ≡ at = length-take-le at d₀ (omega arith) in
      rw (placed_at i l)
      (⊎_elim
      (λ (q : at ≤ i).
      let j = i - at in
      let m : at + j ≡ i = omega arith in
      let b : j < k = omega arith in
      rw (← m)
      (rw (get_or-second vs ws at j e, get_or-second (take at d₀) (tabulate k g) at j t, get_d_tabulate k g j 0 b) (f j b)))
      (λ (q : i < at).
      let b : i < length (take at d₀) = omega arith in
      rw (get_or-append vs ws 0 i (omega arith), get_or-append (take at d₀) (tabulate k g) 0 i b, get_or-take at d₀ i 0 q)
      (c i q))
      (below_or_not i at))

-- ---- the values of a range

module _ (n m low prefix : ℕ) (d₀ : List ℕ) (h : n + m ≤ length d₀) where
  inputs-placed : List ℕ
  inputs-placed = placed d₀ 0 (tabulate n (partial_input low prefix))

  length-inputs-placed : length inputs-placed ≡ length d₀
  unfolding inputs-placed
  length-inputs-placed =
      length-placed d₀ 0 (tabulate n (partial_input low prefix)) (omega (arith, length-tabulate n (partial_input low prefix)))

  targets-placed : List ℕ
  targets-placed = placed inputs-placed n (tabulate m (λ i. unknown))

  length-targets-placed : length targets-placed ≡ length d₀
  unfolding targets-placed
  length-targets-placed =
      length-placed inputs-placed n (tabulate m (λ i. unknown))
      (omega (arith, length-inputs-placed, length-tabulate m (λ i. unknown)))
      ∙ length-inputs-placed

  -- an input of the range completes the inputs' places
  inputs-completed : (x : ℕ) → InRange low prefix x → Completed n (bits n x) inputs-placed
  unfolding bits inputs-placed
  inputs-completed x r =
      rw zero-add at
      (completed-placed d₀ 0 n (partial_input low prefix) (omega arith) [] (bits n x) refl
      (λ i l. let f : ⊥ = omega arith in absurd f)
      (λ i l. rw (get_d_tabulate n (λ k. bit k x) i 0 l) (input-completes low prefix x i r)))

  -- .. and any vector the targets'
  leaves-completed : (x v : ℕ) → InRange low prefix x → Completed (n + m) (bits n x ++ bits m v) targets-placed
  unfolding bits targets-placed
  leaves-completed x v r =
      completed-placed inputs-placed n m (λ i. unknown) (omega (arith, length-inputs-placed)) (bits n x) (bits m v)
      (length-tabulate n (λ k. bit k x))
      (inputs-completed x r)
      (λ i l. rw (get_d_tabulate m (λ k. bit k v) i 0 l) (completes-unknown (bit i v) (bit-lt i v)))

-- inputs and targets loaded: an input of the range and any vector complete their places
pub leaves-loaded : (n m low prefix : ℕ) (d₀ d₁ d₂ : List ℕ) → n + m ≤ length d₀
    → d₁ ≡ placed d₀ 0 (tabulate n (partial_input low prefix)) → d₂ ≡ placed d₁ n (tabulate m (λ i. unknown))
    → (length d₂ ≡ length d₀) × ((x v : ℕ) → InRange low prefix x → Completed (n + m) (bits n x ++ bits m v) d₂)
unfolding targets-placed inputs-placed
leaves-loaded n m low prefix d₀ d₁ d₂ h p q =
    let t : d₂ ≡ targets-placed n m low prefix d₀ h = rw p at q in
    (ap length t ∙ length-targets-placed n m low prefix d₀ h, λ x v r. rw t (leaves-completed n m low prefix d₀ h x v r))

-- ---- outputs that are known

pub map-take-agree : (f g : ℕ → ℕ) (k : ℕ) (xs ys : List ℕ) → k ≤ length xs → k ≤ length ys
    → ((i : ℕ) → i < k → f (get_or xs i 0) ≡ g (get_or ys i 0)) → map f (take k xs) ≡ map g (take k ys)
map-take-agree f g zero xs ys h l e = refl
map-take-agree f g (suc k) [] ys h l e = let z : ⊥ = omega arith in absurd z
map-take-agree f g (suc k) (x ∷ xs) [] h l e = let z : ⊥ = omega arith in absurd z
map-take-agree f g (suc k) (x ∷ xs) (y ∷ ys) h l e =
    let r = map-take-agree f g k xs ys (omega arith) (omega arith) (λ i t. e (suc i) (omega arith)) in
    let q : f x ≡ g y = e 0 (omega arith) in
    cc
