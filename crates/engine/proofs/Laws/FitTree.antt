-- Laws of multiplexer trees (specs/Tree) and of a tree for each target (specs/Fit): the gates are good, and in values that agree
-- with each gate the tree's net has the column's entry at the reading of its nets. Assumes nothing.
use Prim.Native.Nat.{ℕ, zero, suc, ◌+◌, ◌-◌, ◌*◌, ◌^◌, ◌≤◌, ◌<◌}
use mathlib.Core.Path.{◌≡◌, refl, sym, ◌∙◌, ap, subst}
use mathlib.Core.Logic.{⊎_elim}
use mathlib.Core.List.{List, [], ◌∷◌, ◌++◌, map, map-append}
use mathlib.Core.Bool.{Bool, true, false}
use native.Mathlib.Nat.{add-zero, add_comm, zero-mul, one-mul, mul_assoc, pow-suc}
use native.Mathlib.Omega.{arith}
use lib.Dec.{eqb}
use lib.ListN.{length, get_or, take, drop, length-append, length-drop, length-map, get_or-map}
use lib.Seq.{get_or-take, get_or-drop, take-suc, length-take-le, take-length}
use Rattle.records.specs.Bytes.{all}
use Rattle.records.specs.Gate.{Gate, gate_of, least_count, most_count, permits, operands, unused, gate_value}
use Rattle.records.specs.Netlist.{net_at, value_of}
use Rattle.records.specs.Refusal.{gate_good, gates_good}
use Rattle.records.proofs.Laws.Gate.{on_bit}
use Rattle.engine.specs.Choice.{same}
use Rattle.engine.specs.Eval.{bit, number_of}
use Rattle.engine.specs.Tree.{constant, column, join_of, builds_low, builds_high, join_gates, tree}
use Rattle.engine.specs.Fit.{Trees, trees_from}
use Rattle.engine.specs.Inner.Tree.{join_size}
use Rattle.engine.specs.declared.tree.Join.{Join}
use Rattle.engine.proofs.Laws.Choice.{true-or-false, same_true}
use Rattle.engine.proofs.Laws.Eval.{Bits, bits-nil, bits-cons, get_d_bits, bits-map, bit-lt, net_at-lt, number_of-lt}
use Rattle.engine.proofs.Laws.Word.{bit-zero}
use Rattle.engine.proofs.Laws.FitGates.{good-append, Consistent, consistent-left, consistent-right}
use Rattle.engine.proofs.Laws.Join.{length-join, join_size-bounds, join-good, low_value, high_value, low_value-built, high_value-built}
use Rattle.engine.proofs.Laws.Join.{entry-zeros, entry-ones, join-entries, join-value}

-- ---- the cases of a tree

-- the tree of a half that has one
abbrev pub built : Bool → List Gate → List Gate
built b gs = elim b [ true ↦ gs | false ↦ [] ]

-- what holds of no gates and of the tree
pub built-case : (P : List Gate → Type 0) (b : Bool) {gs : List Gate} → P [] → P gs → P (built b gs)
built-case P true p q = q
built-case P false p q = p

-- the halves' trees over k nets, the first from net next on, and the gates that join them by net s
abbrev pub joined : Join → ℕ → ℕ → List ℕ → List ℕ → List ℕ → List Gate
joined j k next is low high =
    let ls = built (builds_low j) (tree k next is low) in
    let m = next + length ls in
    let hs = built (builds_high j) (tree k m is high) in
    ls ++ hs ++ join_gates j (get_or is k 0) (m - 1) (m + length hs)

pub data TreeCase (k next : ℕ) (is col : List ℕ) : List Gate → Type 0 where
  zeros : all (eqb 0) col ≡ true → TreeCase k next is col (constant 0 ∷ [])
  ones : all (eqb 1) col ≡ true → TreeCase k next is col (constant 1 ∷ [])
  halves : take (2 ^ k) col ≡ drop (2 ^ k) col → TreeCase k next is col (tree k next is (take (2 ^ k) col))
  halved : (j : Join) → join_of (take (2 ^ k) col) (drop (2 ^ k) col) ≡ j
      → TreeCase k next is col (joined j k next is (take (2 ^ k) col) (drop (2 ^ k) col))

pub tree-case : (k next : ℕ) (is col : List ℕ) → TreeCase k next is col (tree (suc k) next is col)
unfolding tree
tree-case k next is col =
    ⊎_elim
    (λ (z : all (eqb 0) col ≡ true). rw (z, tree) (zeros z))
    (λ (z : all (eqb 0) col ≡ false).
    ⊎_elim
    (λ (o : all (eqb 1) col ≡ true). rw (z, o, tree) (ones o))
    (λ (o : all (eqb 1) col ≡ false).
    ⊎_elim
    (λ (e : same (take (2 ^ k) col) (drop (2 ^ k) col) ≡ true).
    rw (z, o, e, tree) (halves (same_true (take (2 ^ k) col) (drop (2 ^ k) col) e)))
    (λ (e : same (take (2 ^ k) col) (drop (2 ^ k) col) ≡ false). rw (z, o, e, tree) (halved (join_of (take (2 ^ k) col) (drop (2 ^ k) col)) refl))
    (true-or-false (same (take (2 ^ k) col) (drop (2 ^ k) col))))
    (true-or-false (all (eqb 1) col)))
    (true-or-false (all (eqb 0) col))

-- ---- how many gates

pub length-joined : (j : Join) (k next : ℕ) (is low high : List ℕ) → let ls = built (builds_low j) (tree k next is low) in
    length (joined j k next is low high)
    ≡ length ls + length (built (builds_high j) (tree k (next + length ls) is high)) + join_size j
length-joined j k next is low high =
    let ls = built (builds_low j) (tree k next is low) in
    let m = next + length ls in
    let hs = built (builds_high j) (tree k m is high) in
    let js = join_gates j (get_or is k 0) (m - 1) (m + length hs) in
    length-append (ls ++ hs) js
    ∙ omega (arith, length-append ls hs, length-join j (get_or is k 0) (m - 1) (m + length hs))

some-case : (k next : ℕ) (is col : List ℕ) {gs : List Gate}
    → ((n : ℕ) (c : List ℕ) → 0 < length (tree k n is c)) → TreeCase k next is col gs → 0 < length gs
some-case k next is col ih (zeros z) = omega arith
some-case k next is col ih (ones o) = omega arith
some-case k next is col ih (halves e) = ih next (take (2 ^ k) col)
some-case k next is col ih (halved j e) =
    omega (arith, length-joined j k next is (take (2 ^ k) col) (drop (2 ^ k) col), join_size-bounds j)

-- a tree has a gate
pub tree-some : (k next : ℕ) (is col : List ℕ) → 0 < length (tree k next is col)
unfolding tree
tree-some zero next is col = omega arith
tree-some (suc k) next is col = some-case k next is col (λ n c. tree-some k n is c) (tree-case k next is col)

-- ---- good gates

constant-good : (net c : ℕ) → c < 2 → gates_good net (constant c ∷ []) ≡ true
unfolding gates_good gate_good constant gate_of permits least_count most_count operands unused all
constant-good net c h = on_bit (λ k. gates_good net (constant k ∷ []) ≡ true) refl refl c h

good-case : (k next : ℕ) (is col : List ℕ) {gs : List Gate} → get_or is k 0 < next
    → ((n : ℕ) (c : List ℕ) → next ≤ n → gates_good n (tree k n is c) ≡ true)
    → TreeCase k next is col gs → gates_good next gs ≡ true
unfolding gates_good
good-case k next is col low ih (zeros z) = constant-good next 0 (omega arith)
good-case k next is col low ih (ones o) = constant-good next 1 (omega arith)
good-case k next is col low ih (halves e) = ih next (take (2 ^ k) col) (omega arith)
good-case k next is col p ih (halved j e) =
    let low = take (2 ^ k) col in
    let high = drop (2 ^ k) col in
    let s = get_or is k 0 in
    let ls = built (builds_low j) (tree k next is low) in
    let m = next + length ls in
    let hs = built (builds_high j) (tree k m is high) in
    let n = m + length hs in
    let i : n ≡ next + length (ls ++ hs) = omega (arith, length-append ls hs) in
    good-append next (ls ++ hs) (join_gates j s (m - 1) n)
    (good-append next ls hs
    (built-case (λ gs. gates_good next gs ≡ true) (builds_low j) refl (ih next low (omega arith)))
    (built-case (λ gs. gates_good m gs ≡ true) (builds_high j) refl (ih m high (omega arith))))
    (subst (λ (x : ℕ). gates_good x (join_gates j s (m - 1) n) ≡ true) i (join-good j s (m - 1) n (omega arith) (omega arith)))

-- the gates of a tree over nets below its first
pub tree-good : (k next : ℕ) (is col : List ℕ) → ((i : ℕ) → i < k → get_or is i 0 < next)
    → gates_good next (tree k next is col) ≡ true
unfolding tree
tree-good zero next is col h =
    ⊎_elim
    (λ (z : all (eqb 0) col ≡ true). rw z (constant-good next 0 (omega arith)))
    (λ (z : all (eqb 0) col ≡ false). rw z (constant-good next 1 (omega arith)))
    (true-or-false (all (eqb 0) col))
tree-good (suc k) next is col h =
    good-case k next is col (h k (omega arith))
    (λ n c l. tree-good k n is c (λ i b. let p = h i (omega arith) in omega arith))
    (tree-case k next is col)

-- ---- columns

bits-take : {vs : List ℕ} → Bits vs → (n : ℕ) → Bits (take n vs)
bits-take b zero = bits-nil
bits-take bits-nil (suc n) = bits-nil
bits-take (bits-cons h b) (suc n) = bits-cons h (bits-take b n)

bits-drop : {vs : List ℕ} → Bits vs → (n : ℕ) → Bits (drop n vs)
bits-drop b zero = b
bits-drop bits-nil (suc n) = bits-nil
bits-drop (bits-cons h b) (suc n) = bits-drop b n

-- one more bit, the highest
number_of-snoc : (bs : List ℕ) (b : ℕ) → number_of (bs ++ (b ∷ [])) ≡ number_of bs + b * 2 ^ length bs
unfolding number_of
number_of-snoc [] b = omega arith
number_of-snoc (a ∷ bs) b =
    omega (arith, number_of-snoc bs b, ap (λ (n : ℕ). b * n) (pow-suc 2 (length bs)), mul_assoc b (2 ^ length bs) 2)

-- an entry of a column is one of a half's, by the highest bit of the reading
entry-halves : (col : List ℕ) (k q s : ℕ) → q < 2 ^ k → s < 2
    → get_or col (q + s * 2 ^ k) 0 ≡ get_or (get_or (take (2 ^ k) col) q 0 ∷ get_or (drop (2 ^ k) col) q 0 ∷ []) s 0
entry-halves col k q s h b =
    on_bit
    (λ x. get_or col (q + x * 2 ^ k) 0 ≡ get_or (get_or (take (2 ^ k) col) q 0 ∷ get_or (drop (2 ^ k) col) q 0 ∷ []) x 0)
    (ap (λ (r : ℕ). get_or col r 0) (ap (λ (r : ℕ). q + r) (zero-mul (2 ^ k)) ∙ add-zero q) ∙ sym (get_or-take (2 ^ k) col q 0 h))
    (ap (λ (r : ℕ). get_or col r 0) (ap (λ (r : ℕ). q + r) (one-mul (2 ^ k)) ∙ add_comm q (2 ^ k))
    ∙ sym (get_or-drop (2 ^ k) col q 0))
    s
    b

entry-alike : (a s : ℕ) → s < 2 → get_or (a ∷ a ∷ []) s 0 ≡ a
entry-alike a s b = on_bit (λ x. get_or (a ∷ a ∷ []) x 0 ≡ a) refl refl s b

-- ---- values

module _ (ws : List ℕ) (b : Bits ws) where
  -- the reading of the first k nets
  reading_of : List ℕ → ℕ → ℕ
  reading_of is k = number_of (map (net_at ws) (take k is))

  reading-below : (is : List ℕ) (k : ℕ) → k ≤ length is → reading_of is k < 2 ^ k
  unfolding reading_of
  reading-below is k h =
      let l : length (map (net_at ws) (take k is)) ≡ k = length-map (take k is) (net_at ws) ∙ length-take-le k is h in
      rw l at (number_of-lt (bits-map (net_at ws) (net_at-lt b) (take k is)))

  reading-suc : (is : List ℕ) (k : ℕ) → k < length is → reading_of is (suc k) ≡ reading_of is k + net_at ws (get_or is k 0) * 2 ^ k
  unfolding reading_of
  reading-suc is k h =
      let l : length (map (net_at ws) (take k is)) ≡ k = length-map (take k is) (net_at ws) ∙ length-take-le k is (omega arith) in
      ap (λ (xs : List ℕ). number_of (map (net_at ws) xs)) (take-suc is k 0 h)
      ∙ ap number_of (map-append (net_at ws) (take k is) (get_or is k 0 ∷ []))
      ∙ number_of-snoc (map (net_at ws) (take k is)) (net_at ws (get_or is k 0))
      ∙ ap (λ (n : ℕ). reading_of is k + net_at ws (get_or is k 0) * 2 ^ n) l

  constant-value : (net c : ℕ) → c < 2 → Consistent value_of ws net (constant c ∷ []) → net_at ws (net + 1 - 1) ≡ c
  unfolding value_of operands constant gate_of gate_value
  constant-value net c h t =
      let e : net + 1 - 1 ≡ net + 0 = omega arith in
      ap (net_at ws) e ∙ t.at 0 (omega arith) ∙ on_bit (λ k. value_of ws (constant k) ≡ k) refl refl c h

  -- the last net of a tree over k nets has the column's entry at their reading
  abbrev Reads : ℕ → List ℕ → Type 0
  Reads k is =
      (next : ℕ) (col : List ℕ) → Bits col → length col ≡ 2 ^ k → Consistent value_of ws next (tree k next is col)
      → net_at ws (next + length (tree k next is col) - 1) ≡ get_or col (reading_of is k) 0

  -- .. and so has the last net of a half's tree, where it has one
  built-value : (b : Bool) (k next : ℕ) (is half : List ℕ) → Reads k is → Bits half → length half ≡ 2 ^ k
      → Consistent value_of ws next (built b (tree k next is half)) → b ≡ true
      → net_at ws (next + length (built b (tree k next is half)) - 1) ≡ get_or half (reading_of is k) 0
  built-value b k next is half ih c l t e =
      let gs = tree k next is half in
      ap (λ (b : Bool). net_at ws (next + length (built b gs) - 1)) e
      ∙ ih next half c l (subst (λ (b : Bool). Consistent value_of ws next (built b gs)) e t)

  value-case : (k next : ℕ) (is col : List ℕ) {gs : List Gate} → k < length is → Bits col → length col ≡ 2 ^ suc k
      → Reads k is → TreeCase k next is col gs → Consistent value_of ws next gs
      → net_at ws (next + length gs - 1) ≡ get_or col (reading_of is (suc k)) 0
  value-case k next is col h c l ih (zeros z) t =
      constant-value next 0 (omega arith) t ∙ sym (entry-zeros col z (reading_of is (suc k)))
  value-case k next is col h c l ih (ones o) t =
      constant-value next 1 (omega arith) t
      ∙ sym (entry-ones col o (reading_of is (suc k)) (rw l (reading-below is (suc k) h)))
  value-case k next is col h c l ih (halves e) t =
      let s = net_at ws (get_or is k 0) in
      let q = reading_of is k in
      let low : List ℕ = take (2 ^ k) col in
      let m : length low ≡ 2 ^ k = length-take-le (2 ^ k) col (omega (arith, pow-suc 2 k)) in
      ih next low (bits-take c (2 ^ k)) m t
      ∙ sym (entry-alike (get_or low q 0) s (net_at-lt b (get_or is k 0)))
      ∙ ap (λ (xs : List ℕ). get_or (get_or low q 0 ∷ get_or xs q 0 ∷ []) s 0) e
      ∙ sym (entry-halves col k q s (reading-below is k (omega arith)) (net_at-lt b (get_or is k 0)))
      ∙ ap (λ (r : ℕ). get_or col r 0) (sym (reading-suc is k h))
  value-case k next is col h c l ih (halved j e) t =
      let s = get_or is k 0 in
      let q = reading_of is k in
      let low : List ℕ = take (2 ^ k) col in
      let high : List ℕ = drop (2 ^ k) col in
      let ls = built (builds_low j) (tree k next is low) in
      let m = next + length ls in
      let hs = built (builds_high j) (tree k m is high) in
      let n = m + length hs in
      let js = join_gates j s (m - 1) n in
      let a : next + length (ls ++ hs) ≡ n = omega (arith, length-append ls hs) in
      let z : next + length (joined j k next is low high) - 1 ≡ n + join_size j - 1 = omega (arith, length-joined j k next is low high) in
      let x : length low ≡ 2 ^ k = length-take-le (2 ^ k) col (omega (arith, pow-suc 2 k)) in
      let y : length high ≡ 2 ^ k = length-drop (2 ^ k) col ∙ omega (arith, pow-suc 2 k) in
      let d = reading-below is k (omega arith) in
      let both = consistent-left value_of ws next (ls ++ hs) js t in
      let last = consistent-right value_of ws next (ls ++ hs) js t in
      let u : builds_high j ≡ false → m - 1 ≡ n - 1 =
      λ f. sym (ap (λ (b : Bool). m + length (built b (tree k m is high)) - 1) f ∙ omega arith) in
      let p : low_value j (net_at ws (m - 1)) ≡ get_or low q 0 =
      low_value-built j
      (built-value (builds_low j) k next is low ih (bits-take c (2 ^ k)) x (consistent-left value_of ws next ls hs both))
      ∙ ap (λ (i : Join). low_value i (get_or low q 0)) (sym e)
      ∙ (join-entries low high q (omega arith) (omega arith)).0 in
      let r : high_value j (net_at ws (n - 1)) ≡ get_or high q 0 =
      high_value-built j
      (built-value (builds_high j) k m is high ih (bits-drop c (2 ^ k)) y (consistent-right value_of ws next ls hs both))
      ∙ ap (λ (i : Join). high_value i (get_or high q 0)) (sym e)
      ∙ (join-entries low high q (omega arith) (omega arith)).1 in
      ap (net_at ws) z
      ∙ join-value ws b j s (m - 1) n (subst (λ (i : ℕ). Consistent value_of ws i js) a last) u
      ∙ ap (λ (v : ℕ). get_or (v ∷ high_value j (net_at ws (n - 1)) ∷ []) (net_at ws s) 0) p
      ∙ ap (λ (v : ℕ). get_or (get_or low q 0 ∷ v ∷ []) (net_at ws s) 0) r
      ∙ sym (entry-halves col k q (net_at ws s) d (net_at-lt b s))
      ∙ ap (λ (i : ℕ). get_or col i 0) (sym (reading-suc is k h))

  leaf-value : (next : ℕ) (is col : List ℕ) → Bits col → length col ≡ 1
      → Consistent value_of ws next (tree 0 next is col)
      → net_at ws (next + length (tree 0 next is col) - 1) ≡ get_or col 0 0
  unfolding tree all
  leaf-value next is [] c l t = let f : ⊥ = omega arith in absurd f
  leaf-value next is (v ∷ []) c l t =
      on_bit (λ x. Consistent value_of ws next (tree 0 next is (x ∷ [])) → net_at ws (next + 1 - 1) ≡ x)
      (constant-value next 0 (omega arith))
      (constant-value next 1 (omega arith))
      v
      (get_d_bits c 0)
      t
  leaf-value next is (v ∷ w ∷ vs) c l t = let f : ⊥ = omega arith in absurd f

  tree-reads : (k : ℕ) (is : List ℕ) → k ≤ length is → Reads k is
  unfolding reading_of number_of
  tree-reads zero is h next col c l t = leaf-value next is col c l t
  tree-reads (suc k) is h next col c l t =
      value-case k next is col h c l (tree-reads k is (omega arith)) (tree-case k next is col) t

  -- in values that agree with a tree's gates, the tree's net has the column's entry at the reading of the tree's nets
  pub tree-value : (next : ℕ) (is col : List ℕ) → Bits col → length col ≡ 2 ^ length is
      → Consistent value_of ws next (tree (length is) next is col)
      → net_at ws (next + length (tree (length is) next is col) - 1) ≡ get_or col (number_of (map (net_at ws) is)) 0
  unfolding reading_of
  tree-value next is col c l t =
      tree-reads (length is) is (omega arith) next col c l t
      ∙ ap (λ (xs : List ℕ). get_or col (number_of (map (net_at ws) xs)) 0) (take-length is)

-- ---- a tree for each target

-- the gates of target k's tree, from net next on
abbrev first_tree : ℕ → ℕ → List ℕ → List ℕ → List Gate
first_tree k next is t = tree (length is) next is (column t k)

-- the trees of the m targets after it
abbrev later_trees : ℕ → ℕ → ℕ → List ℕ → List ℕ → Trees
later_trees m k next is t = trees_from m (suc k) (next + length (first_tree k next is t)) is t

pub length-nets : (m k next : ℕ) (is t : List ℕ) → length (trees_from m k next is t).nets ≡ m
unfolding trees_from
length-nets zero k next is t = refl
length-nets (suc m) k next is t =
    ap suc (length-nets m (suc k) (next + length (first_tree k next is t)) is t)

pub trees-good : (m k next : ℕ) (is t : List ℕ) → ((i : ℕ) → i < length is → get_or is i 0 < next)
    → gates_good next (trees_from m k next is t).gates ≡ true
unfolding trees_from gates_good
trees-good zero k next is t h = refl
trees-good (suc m) k next is t h =
    let gs = first_tree k next is t in
    good-append next gs (later_trees m k next is t).gates
    (tree-good (length is) next is (column t k) h)
    (trees-good m (suc k) (next + length gs) is t (λ i l. let p = h i l in omega arith))

-- a target's net is one of the trees'
pub trees-below : (m k next : ℕ) (is t : List ℕ) (i : ℕ) → i < m
    → get_or (trees_from m k next is t).nets i 0 < next + length (trees_from m k next is t).gates
unfolding trees_from
trees-below zero k next is t i h = let f : ⊥ = omega arith in absurd f
trees-below (suc m) k next is t zero h =
    let gs = first_tree k next is t in
    omega (arith, tree-some (length is) next is (column t k), length-append gs (later_trees m k next is t).gates)
trees-below (suc m) k next is t (suc i) h =
    let gs = first_tree k next is t in
    let r = trees-below m (suc k) (next + length gs) is t i (omega arith) in
    omega (arith, length-append gs (later_trees m k next is t).gates)

-- entries of a column
column-bits : (t : List ℕ) (k : ℕ) → Bits (column t k)
unfolding column
column-bits t k = bits-map (bit k) (bit-lt k) t

column-entry : (t : List ℕ) (k r : ℕ) → get_or (column t k) r 0 ≡ bit k (get_or t r 0)
unfolding column
column-entry t k r = ap (λ (d : ℕ). get_or (map (bit k) t) r d) (sym (bit-zero k)) ∙ get_or-map (bit k) t r 0

length-column : (t : List ℕ) (k : ℕ) → length (column t k) ≡ length t
unfolding column
length-column t k = length-map t (bit k)

-- in values that agree with the trees' gates, the net of a target has its bit of the table's entry at the reading
pub trees-value : (ws : List ℕ) → Bits ws → (m k next : ℕ) (is t : List ℕ) → length t ≡ 2 ^ length is
    → Consistent value_of ws next (trees_from m k next is t).gates → (i : ℕ) → i < m
    → net_at ws (get_or (trees_from m k next is t).nets i 0) ≡ bit (k + i) (get_or t (number_of (map (net_at ws) is)) 0)
unfolding trees_from
trees-value ws b zero k next is t l c i h = let f : ⊥ = omega arith in absurd f
trees-value ws b (suc m) k next is t l c zero h =
    let gs = first_tree k next is t in
    let r = number_of (map (net_at ws) is) in
    tree-value ws b next is (column t k) (column-bits t k) (length-column t k ∙ l)
    (consistent-left value_of ws next gs (later_trees m k next is t).gates c)
    ∙ column-entry t k r
    ∙ ap (λ (n : ℕ). bit n (get_or t r 0)) (sym (add-zero k))
trees-value ws b (suc m) k next is t l c (suc i) h =
    let gs = first_tree k next is t in
    let e : suc k + i ≡ k + suc i = omega arith in
    trees-value ws b m (suc k) (next + length gs) is t l
    (consistent-right value_of ws next gs (later_trees m k next is t).gates c)
    i
    (omega arith)
    ∙ ap (λ (n : ℕ). bit n (get_or t (number_of (map (net_at ws) is)) 0)) e
