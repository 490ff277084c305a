-- Laws of the fitted netlist (specs/Fit): in its values each old net's new number has the value of the old net in the circuit
-- driven by the table. Assumes nothing.
use Prim.Native.Nat.{ℕ, zero, suc, ◌+◌, ◌^◌, ◌<◌}
use mathlib.Core.Path.{◌≡◌, sym, ◌∙◌, ap, subst}
use mathlib.Core.Logic.{⊎_elim}
use mathlib.Core.List.{List, [], ◌∷◌, ◌++◌, map, map-map, Memᴰ as Mem}
use mathlib.Core.Bool.{true, ◌&&◌}
use native.Mathlib.Nat.{zero-add}
use native.Mathlib.Omega.{arith}
use borrow.Author.Tests.{ltb-true, eqb-true}
use lib.Dec.{eqb, ltb}
use lib.ListN.{length, get_or, length-append, length-map, get_or-append}
use lib.Seq.{get_or-append-add}
use Rattle.records.specs.Bytes.{all, nth}
use Rattle.records.specs.Gate.{Gate, operands, gate_value}
use Rattle.records.specs.Netlist.{net_at, value_of, values}
use Rattle.records.specs.Job.{Job, Candidate}
use Rattle.records.specs.Refusal.{netlists_good, outputs_good, old_nets, golden_nets, ascending, candidate_good, candidates_good}
use Rattle.records.specs.Sheet.{Patch, patch_of, sheet_whole, cost_of, is_candidate, patch_good}
use Rattle.records.proofs.Laws.Bytes.{and_left, and_right, row_at, length-tabulate, get_d_tabulate}
use Rattle.records.proofs.Laws.Shape.{length-nets_of}
use Rattle.records.proofs.Laws.SheetShape.{sheet_whole-facts}
use Rattle.engine.specs.Eval.{bit, bits, number_of, old_values, old_outputs}
use Rattle.engine.specs.Support.{reading, driven_by}
use Rattle.engine.specs.Fit.{led, gate_indices, rank, new_free_net, trees, new_nets, moved, moved_gates, fitted}
use Rattle.engine.specs.Claims.{FittedOutputs, FittedGood}
use Rattle.engine.proofs.Laws.Support.{all-nets, candidate-passes}
use Rattle.engine.proofs.Laws.Choice.{map-agree, all_true}
use Rattle.engine.proofs.Laws.Eval.{values-bits, bits-bits}
use Rattle.engine.proofs.Laws.FitGates.{value_of-local, Consistent, consistent-left, consistent-right, net_at-extended, consistent-extended}
use Rattle.engine.proofs.Laws.FitTree.{trees-value}
use Rattle.engine.proofs.Laws.FitNets.{old_gate, old_net, old-good, operand_below, operand-unmarked, mark-cases, mark-target, NetCase, input, target, gate, net-case, gate-rank, led_start, Numbered, number-input, number-target, number-free, number-led, number-support, number-below, renumbered, operands-renumbered, length_moved, moved_at, all-mapped, length-fitted, fitted-good}

-- the value of a renumbered gate, from what the new numbers of its operands have
pub value_of-renumbered : (ws : List ℕ) (f : ℕ → ℕ) (g : Gate)
    → value_of ws (renumbered f g) ≡ gate_value g.kind (map (λ i. net_at ws (f i)) (operands g))
unfolding value_of
value_of-renumbered ws f g = rw (operands-renumbered f g, map-map (net_at ws) f (operands g))

value_of-moved : (ws ns : List ℕ) (g : Gate)
    → value_of ws (moved ns g) ≡ gate_value g.kind (map (λ i. net_at ws (net_at ns i)) (operands g))
unfolding moved
value_of-moved ws ns g = value_of-renumbered ws (net_at ns) g

-- ---- the same values

-- lists of values of the new and of the old nets that agree with the moved and with the old gates
module _ (j : Job) (is t : List ℕ) (good : netlists_good j ≡ true) (ws vs : List ℕ)
    (free : Consistent value_of ws j.inputs (moved_gates j (new_nets j is t) (gate_indices j 0)))
    (rest : Consistent value_of ws (led_start j is t) (moved_gates j (new_nets j is t) (gate_indices j 1)))
    (old : Consistent value_of vs (j.inputs + j.targets) j.old.gates) where
  -- the new number of old net i has its value
  abbrev Same : ℕ → Type 0
  Same i = net_at ws (net_at (new_nets j is t) i) ≡ net_at vs i

  group-value : (b start : ℕ) → Numbered j is t b start
      → Consistent value_of ws start (moved_gates j (new_nets j is t) (gate_indices j b))
      → (k : ℕ) → k < length j.old.gates → net_at (led j) (old_net j k) ≡ b
      → net_at ws (net_at (new_nets j is t) (old_net j k)) ≡ value_of ws (moved (new_nets j is t) (old_gate j k))
  group-value b start numbered c k h e =
      let ns = new_nets j is t in
      let ks = gate_indices j b in
      let r = gate-rank j b k h e in
      ap (net_at ws) (numbered k h e)
      ∙ c.at (rank ks k) (omega (arith, r.0, length_moved j ns ks))
      ∙ ap (value_of ws) (moved_at j ns ks (rank ks k) r.0)
      ∙ ap (λ (i : ℕ). value_of ws (moved ns (old_gate j i))) r.1

  -- a gate has the same value where its operands have
  gate_same : (k : ℕ) → k < length j.old.gates → ((i : ℕ) → Mem i (operands (old_gate j k)) → Same i) → Same (old_net j k)
  unfolding value_of
  gate_same k h same =
      let ns = new_nets j is t in
      let g = old_gate j k in
      ⊎_elim
      (group-value 0 j.inputs (number-free j is t) free k h)
      (group-value 1 (led_start j is t) (number-led j is t) rest k h)
      (mark-cases j (old_net j k))
      ∙ value_of-moved ws ns g
      ∙ ap (gate_value g.kind) (map-agree (λ i. net_at ws (net_at ns i)) (net_at vs) (operands g) same)
      ∙ sym (old.at k h)

  -- so have all nets of a kind, where the inputs have and the targets of that kind, and a gate of that kind reads only such nets
  module _ (kind : ℕ → Type 0)
      (closed : (k : ℕ) → k < length j.old.gates → kind (old_net j k) → (i : ℕ) → Mem i (operands (old_gate j k)) → kind i)
      (inputs : (i : ℕ) → i < j.inputs → Same i)
      (targets : (i : ℕ) → i < j.targets → kind (j.inputs + i) → Same (j.inputs + i)) where
    same_case : {i : ℕ} → NetCase j.inputs j.targets (length j.old.gates) i → kind i
        → ((a : ℕ) → a < i → kind a → Same a) → Same i
    same_case (input {i} h) q below = inputs i h
    same_case (target {i} h) q below = targets i h q
    same_case (gate {k} h) q below =
        gate_same k h (λ i m. below i (operand_below j good k h i m) (closed k h q i m))

    same-below : (bound i : ℕ) → i < bound → i < old_nets j → kind i → Same i
    unfolding old_nets
    same-below zero i l h q = let f : ⊥ = omega arith in absurd f
    same-below (suc bound) i l h q =
        same_case (net-case j.inputs j.targets (length j.old.gates) i h) q
        (λ a p. same-below bound a (omega arith) (omega arith))

    pub all_same : (i : ℕ) → i < old_nets j → kind i → Same i
    all_same i h q = same-below (suc i) i (omega arith) h q

-- ---- the fitted netlist's values

pub output-below : (j : Job) → outputs_good j ≡ true → (i : ℕ) → Mem i j.old.outputs → i < old_nets j
unfolding outputs_good
output-below j o i m =
    let a = all (λ k. ltb k (old_nets j)) j.old.outputs in
    let b = all (λ k. ltb k (golden_nets j)) j.golden.outputs in
    let c = eqb (length j.old.outputs) (length j.golden.outputs) in
    ltb-true i (old_nets j)
    (all_true (λ k. ltb k (old_nets j)) j.old.outputs (and_left a b (and_left (a && b) c o)) i m)

pub length-bits : (k x : ℕ) → length (bits k x) ≡ k
unfolding bits
length-bits k x = length-tabulate k (λ i. bit i x)

abbrev pub fitted_values : Job → List ℕ → List ℕ → ℕ → List ℕ
fitted_values j is t x = values (bits j.inputs x) (fitted j is t).gates

-- at input x, the new number of old net i has the value that net i has with the targets set to vector v
abbrev pub Kept : Job → List ℕ → List ℕ → ℕ → ℕ → ℕ → Type 0
Kept j is t x v i = net_at (fitted_values j is t x) (net_at (new_nets j is t) i) ≡ net_at (old_values j x v) i

module _ (j : Job) (is t : List ℕ) (good : netlists_good j ≡ true)
    (support : (i : ℕ) → Mem i is → (i < old_nets j) × (net_at (led j) i ≡ 0)) (x : ℕ) where
  fitted-consistent : Consistent value_of (fitted_values j is t x) j.inputs (fitted j is t).gates
  unfolding values
  fitted-consistent =
      consistent-extended value_of value_of-local (bits j.inputs x) (fitted j is t).gates j.inputs
      (length-bits j.inputs x)
      (fitted-good j is t good support)

  -- .. agree with the gates of each group
  fitted-groups : Consistent value_of (fitted_values j is t x) j.inputs (moved_gates j (new_nets j is t) (gate_indices j 0))
      × Consistent value_of (fitted_values j is t x) (j.inputs + length (gate_indices j 0)) (trees j is t).gates
      × Consistent value_of (fitted_values j is t x) (led_start j is t) (moved_gates j (new_nets j is t) (gate_indices j 1))
  unfolding fitted
  fitted-groups =
      let ws = fitted_values j is t x in
      let ns = new_nets j is t in
      let xs = moved_gates j ns (gate_indices j 0) in
      let ys = (trees j is t).gates in
      let zs = moved_gates j ns (gate_indices j 1) in
      let l : j.inputs + length xs ≡ j.inputs + length (gate_indices j 0) = omega (arith, length_moved j ns (gate_indices j 0)) in
      let e : j.inputs + length (xs ++ ys) ≡ led_start j is t = omega (arith, length-append xs ys) in
      let c = consistent-left value_of ws j.inputs (xs ++ ys) zs fitted-consistent in (
        consistent-left value_of ws j.inputs xs ys c,
        subst (λ (n : ℕ). Consistent value_of ws n ys) l (consistent-right value_of ws j.inputs xs ys c),
        subst (λ (n : ℕ). Consistent value_of ws n zs) e (consistent-right value_of ws j.inputs (xs ++ ys) zs fitted-consistent),
      )

  module _ (v : ℕ) where
    old-consistent : Consistent value_of (old_values j x v) (j.inputs + j.targets) j.old.gates
    unfolding old_values values
    old-consistent =
        let xs = bits j.inputs x in
        let ys = bits j.targets v in
        consistent-extended value_of value_of-local (xs ++ ys) j.old.gates (j.inputs + j.targets)
        (length-append xs ys ∙ omega (arith, length-bits j.inputs x, length-bits j.targets v))
        (old-good j good)

    input-same : (i : ℕ) → i < j.inputs → Kept j is t x v i
    unfolding old_values values net_at
    input-same i h =
        let xs = bits j.inputs x in
        let ys = bits j.targets v in
        let l = length-bits j.inputs x in
        ap (net_at (fitted_values j is t x)) (number-input j is t i h)
        ∙ net_at-extended value_of xs (fitted j is t).gates i (omega arith)
        ∙ sym (get_or-append xs ys 0 i (omega arith))
        ∙ sym (net_at-extended value_of (xs ++ ys) j.old.gates i (omega (arith, length-append xs ys)))

    target-value : (i : ℕ) → i < j.targets → net_at (old_values j x v) (j.inputs + i) ≡ bit i v
    unfolding old_values values net_at bits
    target-value i h =
        let xs = bits j.inputs x in
        let ys = bits j.targets v in
        let l = length-bits j.inputs x in
        let m = length-bits j.targets v in
        net_at-extended value_of (xs ++ ys) j.old.gates (j.inputs + i) (omega (arith, length-append xs ys))
        ∙ ap (λ (n : ℕ). get_or (xs ++ ys) (n + i) 0) (sym l)
        ∙ get_or-append-add xs ys i 0
        ∙ get_d_tabulate j.targets (λ k. bit k v) i 0 h

    same-nets : (kind : ℕ → Type 0)
        → ((k : ℕ) → k < length j.old.gates → kind (old_net j k) → (i : ℕ) → Mem i (operands (old_gate j k)) → kind i)
        → ((i : ℕ) → i < j.targets → kind (j.inputs + i)
        → Kept j is t x v (j.inputs + i))
        → (i : ℕ) → i < old_nets j → kind i
        → Kept j is t x v i
    same-nets kind closed targets =
        all_same j is t good (fitted_values j is t x) (old_values j x v) fitted-groups.0 fitted-groups.2
        old-consistent
        kind
        closed
        input-same
        targets

    -- a net that no target leads to, whatever the vector
    free-same : (i : ℕ) → i < old_nets j → net_at (led j) i ≡ 0
        → Kept j is t x v i
    free-same =
        same-nets (λ i. net_at (led j) i ≡ 0) (operand-unmarked j good)
        (λ i h e. let f : ⊥ = omega (arith, mark-target j i h) in absurd f)

  -- the trees read the reading that the input gives
  fitted-reading : number_of (map (net_at (fitted_values j is t x)) (map (new_free_net j) is)) ≡ reading j is x
  unfolding reading
  fitted-reading =
      ap number_of
      (map-map (net_at (fitted_values j is t x)) (new_free_net j) is
      ∙ map-agree (λ i. net_at (fitted_values j is t x) (new_free_net j i)) (net_at (old_values j x 0)) is
      (λ i m.
      let s = support i m in
      ap (net_at (fitted_values j is t x)) (number-support j is t i s.0 s.1) ∙ free-same 0 i s.0 s.1))

  module _ (entries : length t ≡ 2 ^ length is) where
    -- so a target's net has the bit that the table gives it
    driven-target : (i : ℕ) → i < j.targets
        → net_at (fitted_values j is t x) (net_at (new_nets j is t) (j.inputs + i)) ≡ bit i (driven_by j is t x)
    unfolding trees driven_by
    driven-target i h =
        let ws = fitted_values j is t x in
        let ks = map (new_free_net j) is in
        ap (net_at ws) (number-target j is t i h)
        ∙ trees-value ws (values-bits (bits j.inputs x) (bits-bits j.inputs x) (fitted j is t).gates) j.targets 0
        (j.inputs + length (gate_indices j 0))
        ks
        t
        (entries ∙ ap (λ (n : ℕ). 2 ^ n) (sym (length-map is (new_free_net j))))
        fitted-groups.1
        i
        h
        ∙ ap (λ (n : ℕ). bit n (get_or t (number_of (map (net_at ws) ks)) 0)) (zero-add i)
        ∙ ap (λ (r : ℕ). bit i (get_or t r 0)) fitted-reading

    -- every old net's new number has the value of the old net in the driven circuit
    pub driven-same : (i : ℕ) → i < old_nets j
        → Kept j is t x (driven_by j is t x) i
    driven-same i h =
        let v = driven_by j is t x in
        same-nets v (λ i. Unit {0}) (λ k l q a m. tt) (λ a l q. driven-target a l ∙ sym (target-value v a l)) i h tt

    pub fitted-outputs : outputs_good j ≡ true
        → map (net_at (fitted_values j is t x)) (fitted j is t).outputs ≡ old_outputs j x (driven_by j is t x)
    unfolding fitted old_outputs
    fitted-outputs o =
        map-map (net_at (fitted_values j is t x)) (net_at (new_nets j is t)) j.old.outputs
        ∙ map-agree (λ i. net_at (fitted_values j is t x) (net_at (new_nets j is t) i)) (net_at (old_values j x (driven_by j is t x)))
        j.old.outputs
        (λ i m. driven-same i (output-below j o i m))

-- ---- the fitted netlist's outputs

module _ (j : Job) (is t : List ℕ) where
  outputs-below : outputs_good j ≡ true
      → all (λ i. ltb i (j.inputs + length (fitted j is t).gates)) (fitted j is t).outputs ≡ true
  unfolding fitted
  outputs-below o =
      all-mapped (net_at (new_nets j is t)) (j.inputs + length (fitted j is t).gates) j.old.outputs
      (λ i m. let l = number-below j is t i (output-below j o i m) in omega (arith, length-fitted j is t))

  outputs-count : length (fitted j is t).outputs ≡ length j.old.outputs
  unfolding fitted
  outputs-count = length-map j.old.outputs (net_at (new_nets j is t))

-- ---- accepted sheets

-- the support of an accepted sheet is of nets that no target leads to
pub support-free : (j : Job) → candidates_good j ≡ true → (p : Patch) → patch_good j.targets j.candidates p ≡ true
    → (i : ℕ) → Mem i p.support → (i < old_nets j) × (net_at (led j) i ≡ 0)
unfolding candidates_good patch_good candidate_good led
support-free j g p e i m =
    let a = ascending (map (λ (c : Candidate). c.net) j.candidates) in
    let q =
    row_at (ascending p.support)
    (all (is_candidate j.candidates) p.support
    ∷ all (λ v. ltb v (2 ^ j.targets)) p.table
    ∷ eqb p.cost (cost_of j.candidates p.support)
    ∷ [])
    e
    1 in
    let c =
    candidate-passes (candidate_good j) j.candidates
    (sym (all-nets (candidate_good j) j.candidates)
    ∙ and_right a (all (λ (c : Candidate). candidate_good j c.net) j.candidates) g)
    i
    (all_true (is_candidate j.candidates) p.support q i m) in
    let below = ltb i (old_nets j) in
    let unmarked = eqb (net_at (led j) i) 0 in
    (ltb-true i (old_nets j) (and_left below unmarked c), eqb-true (net_at (led j) i) 0 (and_right below unmarked c))

-- an accepted sheet's table has an entry for each reading
pub sheet-entries : (s : List ℕ) → sheet_whole s ≡ true → length (patch_of s).table ≡ 2 ^ length (patch_of s).support
unfolding patch_of
sheet-entries s e = (sheet_whole-facts s e).table ∙ ap (λ (k : ℕ). 2 ^ k) (sym (length-nets_of (nth 0 s)))

pub fitted-driven : FittedOutputs
fitted-driven j g p e l x =
    fitted-outputs j p.support p.table g.gates (support-free j g.candidates p e) x l g.outputs

pub fitted-netlist : FittedGood
fitted-netlist j g p e l =
    let s = support-free j g.candidates p e in (
      fitted-good j p.support p.table g.gates s,
      outputs-below j p.support p.table g.outputs,
      outputs-count j p.support p.table,
    )
