-- Laws of the miter (specs/Inner/Miter): its gates are good, its nets have the values of the two netlists' nets, its outputs say which
-- vectors rectify, and its gates may stand for themselves. Assumes nothing.
use Prim.Native.Nat.{ℕ, zero, suc, ◌+◌, ◌-◌, ◌≤◌, ◌<◌}
use mathlib.Core.Path.{◌≡◌, refl, sym, ◌∙◌, ap, subst}
use mathlib.Core.Logic.{⊎_elim}
use mathlib.Core.List.Memᴰ.{of_map as mem-of-map}
use mathlib.Core.List.{List, [], ◌∷◌, ◌++◌, map, map-map, Memᴰ as Mem}
use mathlib.Core.Bool.{Bool, true, false, ◌&&◌}
use native.Mathlib.Omega.{arith}
use borrow.Author.Tests.{lt-ltb, le-ltb, ltb-true, ltb-false, eqb-true}
use lib.Dec.{eqb, ltb}
use lib.ListN.{length, get_or, length-append, length-map, get_or-append, get_or-map}
use Rattle.records.specs.Bytes.{all}
use Rattle.records.specs.Gate.{Gate, operands, gate_value}
use Rattle.records.specs.Netlist.{net_at, extended, value_of, values}
use Rattle.records.specs.Job.{Candidate, Job}
use Rattle.records.specs.Refusal.{gate_good, gates_good, netlists_good, outputs_good, old_nets, golden_nets, ascending, candidate_good, candidates_good}
use Rattle.records.specs.Service.{counts_of, side_counts_of}
use Rattle.records.specs.Inner.{Within}
use Rattle.records.specs.Claims.{PartsGood}
use Rattle.records.proofs.Laws.Bytes.{and_left, and_right, and_both}
use Rattle.records.proofs.Laws.Counts.{counts_within-facts, counts_within-counts_of}
use Rattle.records.proofs.Laws.Gate.{gate_good-parts}
use Rattle.engine.specs.Choice.{same}
use Rattle.engine.specs.Eval.{bits, number_of, old_values, old_outputs, golden_outputs}
use Rattle.engine.specs.Rectify.{rectifies}
use Rattle.engine.specs.Support.{reading, candidate_nets}
use Rattle.engine.specs.Inner.Miter.{shift_of, miter_gates, miter_goldens, miter_nets, miter_values}
use Rattle.engine.specs.Inner.Shifted.{shifted_net, shifted}
use Rattle.engine.proofs.Laws.Choice.{true-or-false, all_true, all-of-members, all-below-more, map-agree}
use Rattle.engine.proofs.Laws.FitGates.{no_gate, good-append, good-at, value_of-local, Consistent, consistent-right, net_at-extended, consistent-extended}
use Rattle.engine.proofs.Laws.FitNets.{get_or-defaults, all-mapped, renumbered-good, old-good}
use Rattle.engine.proofs.Laws.Fitted.{value_of-renumbered, length-bits, output-below}

-- ---- shifted nets

module _ (n s : ℕ) where
  pub shifted_net-input : (i : ℕ) → i < n → shifted_net n s i ≡ i
  unfolding shifted_net
  shifted_net-input i h = rw (lt-ltb i n h)

  pub shifted_net-gate : (i : ℕ) → n ≤ i → shifted_net n s i ≡ i + s
  unfolding shifted_net
  shifted_net-gate i h = rw (le-ltb i n h)

  pub shifted_net-lt : (net i : ℕ) → i < net → shifted_net n s i < net + s
  shifted_net-lt net i h =
      ⊎_elim
      (λ (e : ltb i n ≡ true). omega (arith, shifted_net-input i (ltb-true i n e)))
      (λ (e : ltb i n ≡ false). omega (arith, shifted_net-gate i (ltb-false i n e)))
      (true-or-false (ltb i n))

  shifted-gate-good : (net : ℕ) (g : Gate) → gate_good net g ≡ true → gate_good (net + s) (shifted n s g) ≡ true
  unfolding shifted
  shifted-gate-good net g e =
      renumbered-good (shifted_net n s) g net (net + s) e
      (λ i m. shifted_net-lt net i (ltb-true i net (all_true (λ k. ltb k net) (operands g) (gate_good-parts net g e).0 i m)))

  pub shifted-good : (net : ℕ) (gs : List Gate) → gates_good net gs ≡ true
      → gates_good (net + s) (map (shifted n s) gs) ≡ true
  unfolding gates_good
  shifted-good net [] e = refl
  shifted-good net (g ∷ gs) e =
      and_both (gate_good (net + s) (shifted n s g)) (gates_good (suc (net + s)) (map (shifted n s) gs))
      (shifted-gate-good net g (and_left (gate_good net g) (gates_good (suc net) gs) e))
      (let m : suc net + s ≡ suc (net + s) = omega arith in
      rw m at (shifted-good (suc net) gs (and_right (gate_good net g) (gates_good (suc net) gs) e)))

-- ---- gates one list after the other

pub extended-append : (f : List ℕ → Gate → ℕ) (known : List ℕ) (gs hs : List Gate)
    → extended f known (gs ++ hs) ≡ extended f (extended f known gs) hs
unfolding extended
extended-append f known [] hs = refl
extended-append f known (g ∷ gs) hs = extended-append f (known ++ (f known g ∷ [])) gs hs

pub length-extended : (f : List ℕ → Gate → ℕ) (known : List ℕ) (gs : List Gate)
    → length (extended f known gs) ≡ length known + length gs
unfolding extended
length-extended f known [] = omega arith
length-extended f known (g ∷ gs) =
    length-extended f (known ++ (f known g ∷ [])) gs ∙ omega (arith, length-append known (f known g ∷ []))

-- ---- the gates of a miter

pub length-miter_gates : (j : Job) → length (miter_gates j) ≡ length j.old.gates + length j.golden.gates
unfolding miter_gates
length-miter_gates j =
    length-append j.old.gates (map (shifted j.inputs (shift_of j)) j.golden.gates)
    ∙ omega (arith, length-map j.golden.gates (shifted j.inputs (shift_of j)))

pub miter_nets-sum : (j : Job) → miter_nets j ≡ old_nets j + length j.golden.gates
unfolding miter_nets old_nets
miter_nets-sum j = omega (arith, length-miter_gates j)

-- a golden net shifted is a net of the miter
pub shifted-golden-lt : (j : Job) (i : ℕ) → i < golden_nets j → shifted_net j.inputs (shift_of j) i < miter_nets j
unfolding golden_nets miter_nets shift_of
shifted-golden-lt j i h =
    let s : ℕ = shift_of j in
    omega (arith, shifted_net-lt j.inputs s (j.inputs + length j.golden.gates) i h, length-miter_gates j)

module _ (j : Job) (p : PartsGood j) where
  -- the counts of a good job are within their ranges
  pub job-within : Within (counts_of j)
  job-within = counts_within-facts (counts_of j) (counts_within-counts_of j ∙ p.counts)

  pub golden-good : gates_good j.inputs j.golden.gates ≡ true
  unfolding netlists_good
  golden-good = and_right (gates_good (j.inputs + j.targets) j.old.gates) (gates_good j.inputs j.golden.gates) p.gates

  pub miter-good : gates_good (j.inputs + j.targets) (miter_gates j) ≡ true
  unfolding miter_gates shift_of
  miter-good =
      let s : ℕ = shift_of j in
      let e : j.inputs + s ≡ j.inputs + j.targets + length j.old.gates = omega arith in
      good-append (j.inputs + j.targets) j.old.gates (map (shifted j.inputs s) j.golden.gates)
      (old-good j p.gates)
      (rw e at (shifted-good j.inputs s j.inputs j.golden.gates golden-good))

  pub miter-gates : length (miter_gates j) ≤ 800
  unfolding counts_of side_counts_of
  miter-gates = let w = job-within in omega (arith, length-miter_gates j, w.old.gates, w.golden.gates)

  pub miter-nets : miter_nets j ≤ 824
  unfolding miter_nets counts_of
  miter-nets = let w = job-within in omega (arith, miter-gates, w.inputs, w.targets)

  pub old_nets-le : old_nets j ≤ miter_nets j
  old_nets-le = omega (arith, miter_nets-sum j)

-- ---- the values of its nets

leaves : Job → ℕ → ℕ → List ℕ
leaves j x v = bits j.inputs x ++ bits j.targets v

length-leaves : (j : Job) (x v : ℕ) → length (leaves j x v) ≡ j.inputs + j.targets
unfolding leaves
length-leaves j x v =
    length-append (bits j.inputs x) (bits j.targets v)
    ∙ omega (arith, length-bits j.inputs x, length-bits j.targets v)

-- an input's net has its bit whatever follows
leaf-input : (j : Job) (x v i : ℕ) → i < j.inputs → net_at (leaves j x v) i ≡ net_at (bits j.inputs x) i
unfolding leaves net_at
leaf-input j x v i h =
    get_or-append (bits j.inputs x) (bits j.targets v) 0 i (omega (arith, length-bits j.inputs x))

-- the old nets come first
pub miter-old : (j : Job) (x v i : ℕ) → i < old_nets j → net_at (miter_values j x v) i ≡ net_at (old_values j x v) i
unfolding miter_values miter_gates old_values values leaves old_nets
miter-old j x v i h =
    let hs : List Gate = map (shifted j.inputs (shift_of j)) j.golden.gates in
    ap (λ (vs : List ℕ). net_at vs i) (extended-append value_of (leaves j x v) j.old.gates hs)
    ∙ net_at-extended value_of (extended value_of (leaves j x v) j.old.gates) hs i
    (omega (arith, length-extended value_of (leaves j x v) j.old.gates, length-leaves j x v))

module _ (j : Job) (p : PartsGood j) (x v : ℕ) where
  abbrev shift : ℕ → ℕ
  shift = shifted_net j.inputs (shift_of j)

  golden_values : List ℕ
  golden_values = values (bits j.inputs x) j.golden.gates

  abbrev Kept : ℕ → Type 0
  Kept i = net_at (miter_values j x v) (shift i) ≡ net_at golden_values i

  miter-consistent : Consistent value_of (miter_values j x v) (j.inputs + j.targets) (miter_gates j)
  unfolding miter_values values leaves
  miter-consistent =
      consistent-extended value_of value_of-local (leaves j x v) (miter_gates j) (j.inputs + j.targets) (length-leaves j x v)
      (miter-good j p)

  golden-consistent : Consistent value_of golden_values j.inputs j.golden.gates
  unfolding golden_values values
  golden-consistent =
      consistent-extended value_of value_of-local (bits j.inputs x) j.golden.gates j.inputs (length-bits j.inputs x)
      (golden-good j p)

  shifted-consistent : Consistent value_of (miter_values j x v) (j.inputs + j.targets + length j.old.gates)
      (map (shifted j.inputs (shift_of j)) j.golden.gates)
  unfolding miter_gates
  shifted-consistent =
      consistent-right value_of (miter_values j x v) (j.inputs + j.targets) j.old.gates
      (map (shifted j.inputs (shift_of j)) j.golden.gates) miter-consistent

  -- what stands for the shifted golden gate r
  shifted_at : (r : ℕ) → r < length j.golden.gates
      → get_or (map (shifted j.inputs (shift_of j)) j.golden.gates) r no_gate
      ≡ shifted j.inputs (shift_of j) (get_or j.golden.gates r no_gate)
  shifted_at r h =
      let f : Gate → Gate = shifted j.inputs (shift_of j) in
      get_or-defaults (map f j.golden.gates) r no_gate (f no_gate) (omega (arith, length-map j.golden.gates f))
      ∙ get_or-map f j.golden.gates r no_gate

  input-kept : (i : ℕ) → i < j.inputs → Kept i
  unfolding miter_values values golden_values leaves
  input-kept i h =
      ap (net_at (miter_values j x v)) (shifted_net-input j.inputs (shift_of j) i h)
      ∙ net_at-extended value_of (leaves j x v) (miter_gates j) i (omega (arith, length-leaves j x v))
      ∙ leaf-input j x v i h
      ∙ sym (net_at-extended value_of (bits j.inputs x) j.golden.gates i (omega (arith, length-bits j.inputs x)))

  -- a gate has its value where its operands have theirs
  gate-kept : (r : ℕ) → r < length j.golden.gates
      → ((i : ℕ) → Mem i (operands (get_or j.golden.gates r no_gate)) → Kept i) → Kept (j.inputs + r)
  unfolding shift_of shifted value_of
  gate-kept r h below =
      let ws : List ℕ = miter_values j x v in
      let g : Gate = get_or j.golden.gates r no_gate in
      let e : shift (j.inputs + r) ≡ j.inputs + j.targets + length j.old.gates + r =
      shifted_net-gate j.inputs (shift_of j) (j.inputs + r) (omega arith) ∙ omega arith in
      ap (net_at ws) e
      ∙ shifted-consistent.at r (omega (arith, length-map j.golden.gates (shifted j.inputs (shift_of j))))
      ∙ ap (value_of ws) (shifted_at r h)
      ∙ value_of-renumbered ws shift g
      ∙ ap (gate_value g.kind) (map-agree (λ i. net_at ws (shift i)) (net_at golden_values) (operands g) below)
      ∙ sym (golden-consistent.at r h)

  golden-operand : (r : ℕ) → r < length j.golden.gates → (i : ℕ) → Mem i (operands (get_or j.golden.gates r no_gate))
      → i < j.inputs + r
  golden-operand r h i m =
      let g : Gate = get_or j.golden.gates r no_gate in
      let n : ℕ = j.inputs + r in
      ltb-true i n
      (all_true (λ k. ltb k n) (operands g)
      (gate_good-parts n g (good-at j.inputs j.golden.gates (golden-good j p) r h)).0 i m)

  kept-below : (bound i : ℕ) → i < bound → i < golden_nets j → Kept i
  unfolding golden_nets
  kept-below zero i l h = let f : ⊥ = omega arith in absurd f
  kept-below (suc bound) i l h =
      ⊎_elim
      (λ (e : ltb i j.inputs ≡ true). input-kept i (ltb-true i j.inputs e))
      (λ (e : ltb i j.inputs ≡ false).
      let a : j.inputs ≤ i = ltb-false i j.inputs e in
      let r : ℕ = i - j.inputs in
      let q : j.inputs + r ≡ i = omega arith in
      let b : r < length j.golden.gates = omega arith in
      subst Kept q
      (gate-kept r b
      (λ k m. let c = golden-operand r b k m in kept-below bound k (omega arith) (omega arith))))
      (true-or-false (ltb i j.inputs))

  -- the golden nets stand shifted behind them
  pub miter-golden : (i : ℕ) → i < golden_nets j
      → net_at (miter_values j x v) (shifted_net j.inputs (shift_of j) i) ≡ net_at (values (bits j.inputs x) j.golden.gates) i
  unfolding golden_values
  miter-golden i h = kept-below (suc i) i (omega arith) h

-- ---- outputs and readings

module _ (j : Job) (p : PartsGood j) where
  pub old-outputs-below : all (λ i. ltb i (old_nets j)) j.old.outputs ≡ true
  unfolding outputs_good
  old-outputs-below =
      let a = all (λ k. ltb k (old_nets j)) j.old.outputs in
      let b = all (λ k. ltb k (golden_nets j)) j.golden.outputs in
      let c = eqb (length j.old.outputs) (length j.golden.outputs) in
      and_left a b (and_left (a && b) c p.outputs)

  pub golden-outputs-below : all (λ i. ltb i (golden_nets j)) j.golden.outputs ≡ true
  unfolding outputs_good
  golden-outputs-below =
      let a = all (λ k. ltb k (old_nets j)) j.old.outputs in
      let b = all (λ k. ltb k (golden_nets j)) j.golden.outputs in
      let c = eqb (length j.old.outputs) (length j.golden.outputs) in
      and_right a b (and_left (a && b) c p.outputs)

  golden-output-below : (i : ℕ) → Mem i j.golden.outputs → i < golden_nets j
  golden-output-below i m =
      ltb-true i (golden_nets j) (all_true (λ k. ltb k (golden_nets j)) j.golden.outputs golden-outputs-below i m)

  pub outputs-equal : length j.old.outputs ≡ length j.golden.outputs
  unfolding outputs_good
  outputs-equal =
      let a = all (λ k. ltb k (old_nets j)) j.old.outputs in
      let b = all (λ k. ltb k (golden_nets j)) j.golden.outputs in
      let c = eqb (length j.old.outputs) (length j.golden.outputs) in
      eqb-true (length j.old.outputs) (length j.golden.outputs) (and_right (a && b) c p.outputs)

  -- the outputs' nets, old and golden, are nets of the miter ..
  pub outputs-nets : all (λ i. ltb i (miter_nets j)) j.old.outputs ≡ true
  outputs-nets = all-below-more (old_nets j) (miter_nets j) (old_nets-le j p) j.old.outputs old-outputs-below

  pub goldens-nets : all (λ i. ltb i (miter_nets j)) (miter_goldens j) ≡ true
  unfolding miter_goldens
  goldens-nets =
      all-mapped (shifted_net j.inputs (shift_of j)) (miter_nets j) j.golden.outputs
      (λ i m. shifted-golden-lt j i (golden-output-below i m))

  -- no target leads to a candidate
  pub candidates-good : all (candidate_good j) (candidate_nets j) ≡ true
  unfolding candidates_good candidate_nets
  candidates-good =
      all-of-members (candidate_good j) (candidate_nets j)
      (λ i m.
      let r = mem-of-map (λ (c : Candidate). c.net) j.candidates m in
      let g = and_right (ascending (candidate_nets j)) (all (λ (c : Candidate). candidate_good j c.net) j.candidates) p.candidates in
      subst (λ (k : ℕ). candidate_good j k ≡ true) r.2
      (all_true (λ (c : Candidate). candidate_good j c.net) j.candidates g r.0 r.1))

  -- .. which is an old net
  pub candidates-below : all (λ i. ltb i (old_nets j)) (candidate_nets j) ≡ true
  unfolding candidate_good
  candidates-below =
      let q : ℕ → Bool = λ i. ltb i (old_nets j) in
      all-of-members q (candidate_nets j)
      (λ i m. and_left (q i) _ (all_true (candidate_good j) (candidate_nets j) candidates-good i m))

  -- vector v rectifies input x where the miter's outputs, old and golden, are the same
  pub rectifies-miter : (x v : ℕ)
      → rectifies j x v
      ≡ same (map (net_at (miter_values j x v)) j.old.outputs) (map (net_at (miter_values j x v)) (miter_goldens j))
  unfolding rectifies old_outputs golden_outputs miter_goldens
  rectifies-miter x v =
      let ws : List ℕ = miter_values j x v in
      let vs : List ℕ = values (bits j.inputs x) j.golden.gates in
      let f : ℕ → ℕ = shifted_net j.inputs (shift_of j) in
      let a : map (net_at (old_values j x v)) j.old.outputs ≡ map (net_at ws) j.old.outputs =
      map-agree (net_at (old_values j x v)) (net_at ws) j.old.outputs
      (λ i m. sym (miter-old j x v i (output-below j p.outputs i m))) in
      let b : map (net_at vs) j.golden.outputs ≡ map (net_at ws) (map f j.golden.outputs) =
      map-agree (net_at vs) (λ i. net_at ws (f i)) j.golden.outputs
      (λ i m. sym (miter-golden j p x v i (golden-output-below i m)))
      ∙ sym (map-map (net_at ws) f j.golden.outputs) in
      rw (a, b)

-- the reading of old nets is one of the miter's nets
pub reading-miter : (j : Job) (is : List ℕ) (x : ℕ) → all (λ i. ltb i (old_nets j)) is ≡ true
    → reading j is x ≡ number_of (map (net_at (miter_values j x 0)) is)
unfolding reading
reading-miter j is x h =
    ap number_of
    (map-agree (net_at (old_values j x 0)) (net_at (miter_values j x 0)) is
    (λ i m. sym (miter-old j x 0 i (ltb-true i (old_nets j) (all_true (λ k. ltb k (old_nets j)) is h i m)))))
