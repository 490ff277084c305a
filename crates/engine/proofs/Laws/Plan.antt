-- Laws of a plan's lists: which values a block has once a list is run, after its inputs are loaded, after all targets are set, and
-- after one target is set anew. Assumes nothing.
use Prim.Native.Nat.{ℕ, ◌+◌, ◌-◌, ◌*◌, ◌≤◌, ◌<◌}
use mathlib.Core.Path.{◌≡◌, refl, sym, ◌∙◌, ap}
use mathlib.Core.Logic.{◌⊎◌, inl, inr, ⊎_elim}
use mathlib.Core.List.{List, ◌++◌, map}
use mathlib.Core.Bool.{Bool, true, false, not, and-true, ◌&&◌}
use native.Mathlib.Omega.{arith}
use borrow.Author.Tests.{ltb-true, ltb-false, eqb-true, not-true}
use lib.Dec.{ltb, eqb}
use lib.ListN.{length, get_or, length-append, get_or-append, get_or-eq_default}
use lib.Seq.{slice, get_or-append-add}
use Rattle.records.specs.Bytes.{tabulate}
use Rattle.records.specs.Gate.{Gate, operands}
use Rattle.records.specs.Netlist.{net_at, extended, value_of, values, mark_of, fanout}
use Rattle.records.specs.Job.{Job}
use Rattle.records.specs.Refusal.{old_nets, candidate_good}
use Rattle.records.specs.Claims.{PartsGood}
use Rattle.records.proofs.Laws.Bytes.{and_left, and_right, and_both, length-tabulate, get_d_tabulate}
use Rattle.engine.specs.Eval.{bit, bits}
use Rattle.engine.specs.Inner.Imply.{Binary}
use Rattle.engine.specs.Inner.Packed.{own, packed_from, code_value, evaluated}
use Rattle.engine.specs.Inner.Kernel.{value_in, column, Ran, NetSet, NetsSet}
use Rattle.engine.specs.Inner.Miter.{shift_of, miter_gates, miter_nets, miter_values, SameGates}
use Rattle.engine.specs.Inner.Shifted.{shifted}
use Rattle.engine.specs.Inner.Plan.{marks_of, marked, fanned, led_by, Closed, Agrees, BlockAt, BlockFree, ReadsOf, PlannedOf}
use Rattle.engine.specs.declared.plan.Plan.{Plan}
use Rattle.engine.proofs.Laws.Choice.{true-or-false, not-both, all_true, all-of-members}
use Rattle.engine.proofs.Laws.Eval.{bit-lt}
use Rattle.engine.proofs.Laws.FitGates.{no_gate, net_at-extended}
use Rattle.engine.proofs.Laws.Fitted.{length-bits}
use Rattle.engine.proofs.Laws.Kernel.{net_at-column}
use Rattle.engine.proofs.Laws.Marks.{leaf_mark, leaf_mark-out, leaf_mark-zero, marks-leaf, fanout-marks, unmarked-of, unmarked-zero, unmarked-operands, marks-agree, same-marks}
use Rattle.engine.proofs.Laws.Miter.{extended-append, length-extended, miter-nets}
use Rattle.engine.proofs.Laws.Run.{Known, part_of, run-part, keep-ext, values-follow, same-values}

-- ---- columns

pub length-column : (w : List ℕ) (y : ℕ) → length (column w y) ≡ 1024
unfolding column
length-column w y = length-tabulate 1024 (value_in w y)

pub value_in-lt : (w : List ℕ) (y i : ℕ) → value_in w y i < 2
unfolding value_in
value_in-lt w y i = bit-lt _ _

pub column-binary : (w : List ℕ) (y : ℕ) → Binary (column w y)
unfolding column
column-binary w y i =
    ⊎_elim
    (λ t. rw (get_d_tabulate 1024 (value_in w y) i 0 (ltb-true i 1024 t)) (value_in-lt w y i))
    (λ t.
    let h : length (tabulate 1024 (value_in w y)) ≤ i = omega (arith, length-tabulate 1024 (value_in w y), ltb-false i 1024 t) in
    let e : get_or (tabulate 1024 (value_in w y)) i 0 ≡ 0 = get_or-eq_default (tabulate 1024 (value_in w y)) 0 h in
    omega arith)
    (true-or-false (ltb i 1024))

-- ---- leaves

abbrev pub leaves_of : Job → ℕ → ℕ → List ℕ
leaves_of j x v = bits j.inputs x ++ bits j.targets v

module _ (j : Job) (x v : ℕ) where
  pub length-leaves : length (leaves_of j x v) ≡ j.inputs + j.targets
  length-leaves =
      length-append (bits j.inputs x) (bits j.targets v)
      ∙ omega (arith, length-bits j.inputs x, length-bits j.targets v)

  pub leaf-input : (i : ℕ) → i < j.inputs → get_or (leaves_of j x v) i 0 ≡ bit i x
  unfolding bits
  leaf-input i h =
      get_or-append (bits j.inputs x) (bits j.targets v) 0 i (omega (arith, length-bits j.inputs x))
      ∙ get_d_tabulate j.inputs (λ k. bit k x) i 0 h

  pub leaf-target : (k : ℕ) → k < j.targets → get_or (leaves_of j x v) (j.inputs + k) 0 ≡ bit k v
  unfolding bits
  leaf-target k h =
      ap (λ (n : ℕ). get_or (leaves_of j x v) (n + k) 0) (sym (length-bits j.inputs x))
      ∙ get_or-append-add (bits j.inputs x) (bits j.targets v) k 0
      ∙ get_d_tabulate j.targets (λ k. bit k v) k 0 h

  -- the first nets of the miter
  pub leaf-value : (i : ℕ) → i < j.inputs + j.targets → net_at (miter_values j x v) i ≡ get_or (leaves_of j x v) i 0
  unfolding miter_values values net_at
  leaf-value i h = net_at-extended value_of (leaves_of j x v) (miter_gates j) i (omega (arith, length-leaves))

-- ---- nets that no target leads to

abbrev pub base : Job → ℕ
base j = j.inputs + j.targets

abbrev pub fan_marks : Job → List ℕ
fan_marks j = marks_of (base j) j.inputs j.targets (miter_gates j)

abbrev pub free_of : Job → (ℕ → Bool) → ℕ → Bool
free_of j live i = live i && not (fanned j i)

module _ (j : Job) (live : ℕ → Bool) (i : ℕ) where
  free-zero : free_of j live i ≡ true → net_at (fan_marks j) i ≡ 0
  free-zero e = unmarked-zero (fan_marks j) i (not-true (fanned j i) (and_right (live i) (not (fanned j i)) e))

  pub zero-free : live i ≡ true → net_at (fan_marks j) i ≡ 0 → free_of j live i ≡ true
  zero-free l e = and_both (live i) (not (fanned j i)) l (ap not (unmarked-of (fan_marks j) i e))

-- an input is one of them, and no target is
free_input : (j : Job) (i : ℕ) → i < base j → net_at (fan_marks j) i ≡ 0 → i < j.inputs
free_input j i h e =
    ⊎_elim
    (λ l. l)
    (λ (l : base j ≤ i). let f : ⊥ = omega arith in absurd f)
    (leaf_mark-zero j.inputs j.targets i (sym (marks-leaf j.inputs j.targets (base j) (miter_gates j) i h) ∙ e))

-- a candidate is one of them
pub candidate-free : (j : Job) (i : ℕ) → candidate_good j i ≡ true → (i < old_nets j) × (net_at (fan_marks j) i ≡ 0)
unfolding candidate_good old_nets marks_of miter_gates
candidate-free j i e =
    let n = old_nets j in
    let gs = j.old.gates in
    let leaves = tabulate (base j) (leaf_mark j.inputs j.targets) in
    let hs = map (shifted j.inputs (shift_of j)) j.golden.gates in
    let ms = fanout j.inputs j.targets gs in
    let h = ltb-true i n (and_left (ltb i n) (eqb (net_at ms i) 0) e) in
    let l = length-tabulate (base j) (leaf_mark j.inputs j.targets) in (
      h,
      ap (λ (vs : List ℕ). net_at vs i) (extended-append mark_of leaves gs hs)
          ∙ net_at-extended mark_of (extended mark_of leaves gs) hs i (omega (arith, length-extended mark_of leaves gs))
          ∙ ap (λ (vs : List ℕ). net_at vs i) (sym (fanout-marks j.inputs j.targets gs))
          ∙ eqb-true (net_at ms i) 0 (and_right (ltb i n) (eqb (net_at ms i) 0) e),
    )

module _ (j : Job) {merged : List Gate} (s : SameGates (base j) (miter_gates j) merged) where
  -- with a gate they have its operands
  pub closed-free : (live : ℕ → Bool) → Closed live (base j) merged → Closed (free_of j live) (base j) merged
  closed-free live closed i h e =
      let is = operands (get_or merged i no_gate) in
      let k = base j + i in
      let m = same-marks s j.inputs j.targets in
      let z = free-zero j live k e in
      let ls = closed i h (and_left (live k) (not (fanned j k)) e) in
      all-of-members (free_of j live) is
      (λ n o.
      zero-free j live n (all_true live is ls n o)
      (rw m at (unmarked-operands (base j) j.inputs j.targets merged s.good i h (rw m z) n o)))

-- ---- runs of a list

pub room : (j : Job) → PartsGood j → base j + length (miter_gates j) ≤ 1024
unfolding miter_nets
room j g = omega (arith, miter-nets j g)

module _ {j : Job} {merged : List Gate} (good : PartsGood j) (s : SameGates (base j) (miter_gates j) merged) where
  -- the live gates that are changed, run where all other live nets have their values
  pub values_agree : (live changed : ℕ → Bool) → Closed live (base j) merged → (vs vs' : List ℕ) → length vs ≡ 1024 → Binary vs
      → vs' ≡ evaluated code_value vs (part_of live changed (base j) merged)
      → (x v : ℕ) → Known live changed (base j) (miter_nets j) vs (miter_values j x v) → Agrees j live x v vs'
  unfolding miter_values miter_nets values
  values_agree live changed closed vs vs' long binary e x v k i l m =
      let same = same-values s (leaves_of j x v) (length-leaves j x v) in
      ap (λ (us : List ℕ). net_at us i) e
      ∙ run-part values-follow live changed (base j) merged (leaves_of j x v) vs s.good s.forms
      (omega (arith, room j good, s.long))
      (omega arith)
      (length-leaves j x v)
      closed
      binary
      (λ n o p q. k n (omega (arith, s.long)) p q ∙ ap (λ (vs : List ℕ). net_at vs n) (sym same))
      i
      (omega (arith, s.long))
      m
      ∙ ap (λ (us : List ℕ). net_at us i) same

  -- .. in a scenario of a block
  run-agrees : (live changed : ℕ → Bool) → Closed live (base j) merged → (cs w w' : List ℕ)
      → cs ≡ part_of live changed (base j) merged → Ran cs w w'
      → (y x v : ℕ) → y < 1024 → Known live changed (base j) (miter_nets j) (column w y) (miter_values j x v)
      → Agrees j live x v (column w' y)
  run-agrees live changed closed cs w w' e r y x v h k =
      values_agree live changed closed (column w y) (column w' y) (length-column w y) (column-binary w y)
      (r.values y h ∙ ap (evaluated code_value (column w y)) e) x v k

-- a block whose inputs are loaded
module _ {j : Job} {is : List ℕ} {p : Plan} (q : ReadsOf j is p) where
  pub block_read : (b : ℕ) (w w' : List ℕ)
      → ((y k : ℕ) → y < 1024 → k < j.inputs → value_in w y k ≡ bit k (1024 * b + y))
      → Ran (slice 0 (get_or p.ends 0 0) p.gates) w w' → BlockFree j q.live b w'
  block_read b w w' loaded r =
      let free = free_of j q.live in
      record {
        agrees =
            λ y v h.
            run-agrees q.good q.same free (λ i. true) (closed-free j q.same q.live q.closed) _ w w'
            (q.free
            ∙ keep-ext (λ c. free (own c)) (λ c. free (own c) && true) (packed_from (base j) q.merged)
            (λ c m. sym (and-true (free (own c)))))
            r
            y
            (1024 * b + y)
            v
            h
            (λ i l m s.
            let t : i < base j = ⊎_elim (λ o. o) (λ z. absurd (not-both refl z)) s in
            let u = free_input j i t (free-zero j q.live i m) in
            net_at-column w y i (omega (arith, room j q.good))
            ∙ loaded y i h u
            ∙ sym (leaf-value j (1024 * b + y) v i t ∙ leaf-input j (1024 * b + y) v i u));
      }

-- ---- leaves set anew

-- a plan reads its nets
abbrev pub reads_of : {j : Job} {is : List ℕ} {p : Plan} → PlannedOf j is p → ReadsOf j is p
reads_of q =
    record {
      good = q.good;
      inputs = q.inputs;
      targets = q.targets;
      nets = q.nets;
      merged = q.merged;
      same = q.same;
      live = q.live;
      closed = q.closed;
      live-nets = q.live-nets;
      free = q.lists.free;
    }

module _ {j : Job} {is : List ℕ} {p : Plan} (q : PlannedOf j is p) where
  -- k leaves from from on set to their bits of the vectors u, in a block where the nets that they do not lead to have their values
  module _ (from k b : ℕ) (u : ℕ → ℕ) (w w₁ : List ℕ) (f : from + k ≤ base j)
      (put : (y i : ℕ) → y < 1024 → from ≤ i → i < from + k → value_in w₁ y i ≡ get_or (leaves_of j (1024 * b + y) (u y)) i 0)
      (kept : (y i : ℕ) → y < 1024 → (i < from) ⊎ (from + k ≤ i) → value_in w₁ y i ≡ value_in w y i)
      (stay : (y i : ℕ) → y < 1024 → i < miter_nets j → q.live i ≡ true → net_at (marks_of (base j) from k (miter_gates j)) i ≡ 0
      → net_at (column w y) i ≡ net_at (miter_values j (1024 * b + y) (u y)) i) where
    abbrev changed : ℕ → Bool
    changed = marked (marks_of (base j) from k (miter_gates j))

    -- a net that is none of the leaves set, and whose gate is not run, has its value already
    unmarked : (y i : ℕ) → y < 1024 → i < miter_nets j → q.live i ≡ true → (i < base j) ⊎ (changed i ≡ false)
        → (i < from) ⊎ (from + k ≤ i) → value_in w₁ y i ≡ net_at (miter_values j (1024 * b + y) (u y)) i
    unmarked y i h l m s o =
        kept y i h o
        ∙ sym (net_at-column w y i (omega (arith, miter-nets j q.good)))
        ∙ stay y i h l m
        (⊎_elim
        (λ (t : i < base j). marks-leaf from k (base j) (miter_gates j) i t ∙ leaf_mark-out from k i o)
        (λ (t : changed i ≡ false). unmarked-zero (marks_of (base j) from k (miter_gates j)) i t)
        s)

    changed-known : (y : ℕ) → y < 1024
        → Known q.live changed (base j) (miter_nets j) (column w₁ y) (miter_values j (1024 * b + y) (u y))
    changed-known y h i l m s =
        net_at-column w₁ y i (omega (arith, miter-nets j q.good))
        ∙ ⊎_elim
        (λ t. unmarked y i h l m s (inl (ltb-true i from t)))
        (λ t.
        ⊎_elim
        (λ g.
        let n = ltb-true i (from + k) g in
        put y i h (ltb-false i from t) n ∙ sym (leaf-value j (1024 * b + y) (u y) i (omega arith)))
        (λ g. unmarked y i h l m s (inr (ltb-false i (from + k) g)))
        (true-or-false (ltb i (from + k))))
        (true-or-false (ltb i from))

    block-changed : (cs w₂ : List ℕ) → cs ≡ part_of q.live changed (base j) q.merged → Ran cs w₁ w₂ → BlockAt j q.live b u w₂
    block-changed cs w₂ e r =
        record {
          agrees =
              λ y h. run-agrees q.good q.same q.live changed q.closed cs w₁ w₂ e r y (1024 * b + y) (u y) h (changed-known y h);
        }

  -- all targets set
  pub block-driven : (b : ℕ) (u : ℕ → ℕ) (w w₁ w₂ : List ℕ) → BlockFree j q.live b w
      → NetsSet j.inputs j.targets (λ y k. bit k (u y)) w w₁
      → Ran (slice (get_or p.ends 0 0) (get_or p.ends 1 0) p.gates) w₁ w₂ → BlockAt j q.live b u w₂
  block-driven b u w w₁ w₂ a s r =
      block-changed j.inputs j.targets b u w w₁ (omega arith)
      (λ y i l n o.
      let k : ℕ = i - j.inputs in
      let e : j.inputs + k ≡ i = omega arith in
      let c : k < j.targets = omega arith in
      rw e at (s.put y k l c ∙ sym (leaf-target j (1024 * b + y) (u y) k c)))
      (λ y i l o. s.kept y i l o)
      (λ y i h l m z. a.agrees y (u y) h i l (zero-free j q.live i m z))
      _
      w₂
      q.lists.fan
      r

  -- target t set anew, from the values at the vectors v
  pub block-target : (b t : ℕ) (u v : ℕ → ℕ) (w w₁ w₂ : List ℕ) → t < j.targets
      → slice (get_or p.ends (t + 1) 0) (get_or p.ends (t + 2) 0) p.gates
      ≡ part_of q.live (led_by j t) (base j) q.merged
      → BlockAt j q.live b v w
      → NetSet (j.inputs + t) (λ y. bit t (u y)) w w₁
      → ((y k : ℕ) → y < 1024 → k < j.targets → (k < t) ⊎ (t < k) → bit k (u y) ≡ bit k (v y))
      → Ran (slice (get_or p.ends (t + 1) 0) (get_or p.ends (t + 2) 0) p.gates) w₁ w₂ → BlockAt j q.live b u w₂
  unfolding miter_values
  block-target b t u v w w₁ w₂ h l a s d r =
      block-changed (j.inputs + t) 1 b u w w₁ (omega arith)
      (λ y i l n o.
      let e : i ≡ j.inputs + t = omega arith in
      rw e (s.put y l ∙ sym (leaf-target j (1024 * b + y) (u y) t h)))
      (λ y i l o. s.kept y i l (⊎_elim inl (λ (g : j.inputs + t + 1 ≤ i). inr (omega arith)) o))
      (λ y i l n m z.
      a.agrees y l i n m
      ∙ marks-agree (base j) (j.inputs + t) 1 (miter_gates j) (leaves_of j (1024 * b + y) (v y)) (leaves_of j (1024 * b + y) (u y))
      (λ k g o. leaf-same y k l g o)
      (length-leaves j (1024 * b + y) (v y))
      (length-leaves j (1024 * b + y) (u y))
      i
      z)
      _
      w₂
      l
      r
    where
      -- a leaf other than the target
      leaf-same : (y i : ℕ) → y < 1024 → i < base j → (i < j.inputs + t) ⊎ (j.inputs + t + 1 ≤ i)
          → get_or (leaves_of j (1024 * b + y) (v y)) i 0 ≡ get_or (leaves_of j (1024 * b + y) (u y)) i 0
      leaf-same y i l n o =
          ⊎_elim
          (λ g.
          let m = ltb-true i j.inputs g in
          leaf-input j (1024 * b + y) (v y) i m ∙ sym (leaf-input j (1024 * b + y) (u y) i m))
          (λ g.
          let m = ltb-false i j.inputs g in
          let k : ℕ = i - j.inputs in
          let e : j.inputs + k ≡ i = omega arith in
          let c : k < j.targets = omega arith in
          let x : (k < t) ⊎ (t < k) =
          ⊎_elim (λ (z : i < j.inputs + t). inl (omega arith)) (λ (z : j.inputs + t + 1 ≤ i). inr (omega arith)) o in
          rw e at
          (leaf-target j (1024 * b + y) (v y) k c ∙ sym (d y k l c x) ∙ sym (leaf-target j (1024 * b + y) (u y) k c)))
          (true-or-false (ltb i j.inputs))

-- the vectors have no say on the nets that no target leads to
pub free-agrees : (j : Job) (live : ℕ → Bool) (x u v : ℕ) (vs : List ℕ) → Agrees j live x u vs → Agrees j (free_of j live) x v vs
unfolding miter_values
free-agrees j live x u v vs a i l m =
    a i l (and_left (live i) (not (fanned j i)) m)
    ∙ marks-agree (base j) j.inputs j.targets (miter_gates j) (leaves_of j x u) (leaves_of j x v)
    (λ k g o.
    let n : k < j.inputs = ⊎_elim (λ z. z) (λ (z : base j ≤ k). let f : ⊥ = omega arith in absurd f) o in
    leaf-input j x u k n ∙ sym (leaf-input j x v k n))
    (length-leaves j x u)
    (length-leaves j x v)
    i
    (free-zero j live i m)

pub block-free : {j : Job} {live : ℕ → Bool} {b : ℕ} {u : ℕ → ℕ} {w : List ℕ} → BlockAt j live b u w → BlockFree j live b w
block-free {j} {live} {b} {u} {w} a =
    record { agrees = λ y v h. free-agrees j live (1024 * b + y) (u y) v (column w y) (a.agrees y h) }
