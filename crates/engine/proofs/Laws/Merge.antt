-- Laws of gates merged (specs/Inner/Merge): a gate whose operands are replaced by nets that stand for them, and a net that stands for
-- another, since its gate is the same. Assumes nothing.
--
--   Merging d n cs₀ i cs ns hs xs    the loop of src/merge.rt before gate i: the gates cs and the nets ns are merged from the gates cs₀,
--                         and hs and xs are chains of gates before gate i
use Prim.Native.Nat.{ℕ, zero, suc, ◌+◌, ◌/◌, ◌%◌, ◌≤◌, ◌<◌}
use mathlib.Core.Path.{◌≡◌, refl, sym, ◌∙◌, ap}
use mathlib.Core.Logic.{⊎_elim}
use mathlib.Core.List.{List, [], ◌∷◌, ◌++◌, map, map-map, Memᴰ as Mem}
use mathlib.Core.Bool.{Bool, true, false}
use native.Mathlib.Nat.{add-zero}
use native.Mathlib.Omega.{arith}
use borrow.Author.Tests.{eqb-true, eqb-false, ltb-true, ltb-false}
use lib.Dec.{eqb, ltb}
use lib.ListN.{length, get_or, take, set, length-set, length-append, get_or-map, get_or-eq_default}
use lib.Seq.{get_or-take, get_or-set_same, get_or-set_other, take-set-lt}
use Rattle.records.specs.Bytes.{all}
use Rattle.records.specs.Gate.{Gate, gate_of, operands, gate_value}
use Rattle.records.specs.Netlist.{net_at, extended, value_of, values}
use Rattle.records.specs.Job.{Job}
use Rattle.records.specs.Refusal.{gate_good, gates_good}
use Rattle.records.specs.Claims.{Below}
use Rattle.records.proofs.Laws.Bytes.{and_both, all_cons}
use Rattle.records.proofs.Laws.Gate.{gate_good-parts}
use Rattle.engine.specs.Eval.{bits}
use Rattle.engine.specs.Fit.{moved}
use Rattle.engine.specs.Inner.Packed.{fields, packed, packed_from, formed, gate_in}
use Rattle.engine.specs.Inner.Tree.{InputsNumbered}
use Rattle.engine.specs.Inner.Tree.{Nets}
use Rattle.engine.specs.Inner.Miter.{on_operands, SameGates, miter_gates, miter_goldens, miter_nets, miter_values, codes, PairsOf, MiterOf, MergedOf}
use Rattle.engine.specs.Inner.Merge.{Packs, StandsFor, MergedIn, Chained, GatesMerged}
use Rattle.engine.specs.declared.merge.MergedGates.{MergedGates}
use Rattle.engine.specs.declared.miter.Miter.{Miter}
use Rattle.engine.proofs.Laws.Choice.{true-or-false, all_true, map-agree}
use Rattle.engine.proofs.Laws.FitGates.{no_gate, good-at, Local, net_at-extended, consistent-extended}
use Rattle.engine.proofs.Laws.FitNets.{all-mapped, operands-renumbered, renumbered-good}
use Rattle.engine.proofs.Laws.Fitted.{length-bits}
use Rattle.engine.proofs.Laws.List.{set_below}
use Rattle.engine.proofs.Laws.Miter.{miter-good, outputs-nets, goldens-nets, rectifies-miter}
use Rattle.engine.proofs.Laws.MiterCode.{formed-mapped}
use Rattle.engine.proofs.Laws.Run.{good-first, good-rest}
use Rattle.engine.proofs.Laws.Unpacked.{gates-unpacked}

-- ---- a gate put for another

good-set : (d : ℕ) (gs : List Gate) (i : ℕ) (g : Gate) → gates_good d gs ≡ true → gate_good (d + i) g ≡ true
    → gates_good d (set gs i g) ≡ true
unfolding gates_good
good-set d [] i g p q = refl
good-set d (x ∷ gs) zero g p q = and_both (gate_good d g) (gates_good (suc d) gs) (rw add-zero at q) (good-rest d x gs p)
good-set d (x ∷ gs) (suc i) g p q =
    let e : d + suc i ≡ suc d + i = omega arith in
    and_both (gate_good d x) (gates_good (suc d) (set gs i g)) (good-first d x gs p)
    (good-set (suc d) gs i g (good-rest d x gs p) (rw e at q))

all_set : (p : Gate → Bool) (gs : List Gate) (i : ℕ) (g : Gate) → all p gs ≡ true → p g ≡ true → all p (set gs i g) ≡ true
unfolding all
all_set p [] i g a q = refl
all_set p (x ∷ gs) zero g a q = and_both (p g) (all p gs) q (all_cons p x gs a).1
all_set p (x ∷ gs) (suc i) g a q =
    and_both (p x) (all p (set gs i g)) (all_cons p x gs a).0 (all_set p gs i g (all_cons p x gs a).1 q)

packed_from-set : (d : ℕ) (gs : List Gate) (i : ℕ) (g : Gate)
    → packed_from d (set gs i g) ≡ set (packed_from d gs) i (packed (d + i) g)
unfolding packed_from
packed_from-set d [] i g = refl
packed_from-set d (x ∷ gs) zero g = ap (λ (k : ℕ). packed k g ∷ packed_from (suc d) gs) (sym (add-zero d))
packed_from-set d (x ∷ gs) (suc i) g =
    let e : suc d + i ≡ d + suc i = omega arith in
    ap (λ (l : List ℕ). packed d x ∷ l)
    (packed_from-set (suc d) gs i g ∙ ap (λ (k : ℕ). set (packed_from (suc d) gs) i (packed k g)) e)

module _ (f : List ℕ → Gate → ℕ) (l : Local f) where
  -- what f says of a gate, it says from all that follows too
  local-extended : (known : List ℕ) (gs : List Gate) (g : Gate) → gate_good (length known) g ≡ true
      → f known g ≡ f (extended f known gs) g
  local-extended known gs g p =
      let n = length known in
      l known (extended f known gs) g
      (map-agree (net_at known) (net_at (extended f known gs)) (operands g)
      (λ i m.
      sym
      (net_at-extended f known gs i (ltb-true i n (all_true (λ k. ltb k n) (operands g) (gate_good-parts n g p).0 i m)))))

  -- a gate of which f says the same leaves all as it is
  extended-set : (known : List ℕ) (gs : List Gate) (d i : ℕ) (g : Gate) → length known ≡ d → i < length gs
      → gates_good d gs ≡ true → gate_good (d + i) g ≡ true
      → f (extended f known gs) g ≡ f (extended f known gs) (get_or gs i no_gate)
      → extended f known (set gs i g) ≡ extended f known gs
  unfolding extended
  extended-set known [] d i g n h p q e = let z : ⊥ = omega arith in absurd z
  extended-set known (x ∷ gs) d zero g n h p q e =
      let a : gate_good (length known) g ≡ true = rw n (rw add-zero at q) in
      let b : gate_good (length known) x ≡ true = rw n (good-first d x gs p) in
      ap (λ (v : ℕ). extended f (known ++ (v ∷ [])) gs)
      (local-extended known (x ∷ gs) g a ∙ e ∙ sym (local-extended known (x ∷ gs) x b))
  extended-set known (x ∷ gs) d (suc i) g n h p q e =
      let z : d + suc i ≡ suc d + i = omega arith in
      extended-set (known ++ (f known x ∷ [])) gs (suc d) i g (omega (arith, length-append known (f known x ∷ [])))
      (omega arith)
      (good-rest d x gs p)
      (rw z at q)
      e

-- ---- gates that may stand for others

on_operands-local : (F : ℕ → List ℕ → ℕ) → Local (on_operands F)
on_operands-local F vs ws g e = ap (F g.kind) e

same_self : (d : ℕ) (gs : List Gate) → gates_good d gs ≡ true → all formed gs ≡ true → SameGates d gs gs
same_self d gs p f = record { long = refl; good = p; forms = f; same = λ F leaves e. refl }

stands_self : (d : ℕ) (gs : List Gate) (i : ℕ) → StandsFor d gs i i
stands_self d gs i = record { before = omega arith; same = λ F leaves e. refl }

formed-gate_in : (c : ℕ) → formed (gate_in c) ≡ true
unfolding formed gate_in fields
formed-gate_in c = refl

low-kind : (c : ℕ) → c % 16 ≡ c % 128 % 16
low-kind c = omega arith

low_count : (c : ℕ) → c / 16 % 8 ≡ c % 128 / 16
low_count c = omega arith

pub alike_same : (a b : ℕ) → a % 128 ≡ b % 128 → a / 131072 ≡ b / 131072 → gate_in a ≡ gate_in b
unfolding gate_in
alike_same a b p q = rw (low-kind a, low_count a, low-kind b, low_count b, p, q)

module _ {d n : ℕ} {gs : List Gate} {cs ns : List ℕ} (w : MergedIn d n gs cs ns) (e : n ≡ length gs) (r : d + n ≤ 1024) where
  merged-at : (i : ℕ) → i < n → gate_in (get_or cs i 0) ≡ get_or w.merged i no_gate
  unfolding gate_in fields gate_of
  merged-at i h =
      ap gate_in (sym (get_or-take n cs i 0 h) ∙ ap (λ (xs : List ℕ). get_or xs i 0) w.gates)
      ∙ sym (get_or-map gate_in (packed_from d w.merged) i 0)
      ∙ ap (λ (hs : List Gate). get_or hs i no_gate)
      (gates-unpacked d w.merged w.same.good w.same.forms (omega (arith, w.same.long)))

  module _ (i : ℕ) (h : i < n) where
    abbrev gate : Gate
    gate = gate_in (get_or cs i 0)

    gate-good : gate_good (d + i) gate ≡ true
    gate-good = rw (merged-at i h) (good-at d w.merged w.same.good i (omega (arith, w.same.long)))

    operand_below : (k : ℕ) → Mem k (operands gate) → k < d + i
    operand_below k m =
        ltb-true k (d + i)
        (all_true (λ x. ltb x (d + i)) (operands gate) (gate_good-parts (d + i) gate gate-good).0 k m)

    moved-good : gate_good (d + i) (moved ns gate) ≡ true
    unfolding moved
    moved-good =
        renumbered-good (net_at ns) gate (d + i) (d + i) gate-good
        (λ k m. let b = operand_below k m in omega (arith, (w.stands k (omega arith)).before))

    moved-formed : formed (moved ns gate) ≡ true
    unfolding moved
    moved-formed = formed-mapped (net_at ns) gate ∙ formed-gate_in (get_or cs i 0)

    moved_same : (F : ℕ → List ℕ → ℕ) (leaves : List ℕ) → length leaves ≡ d → let ws = extended (on_operands F) leaves gs in
        on_operands F ws (moved ns gate) ≡ on_operands F ws gate
    unfolding moved
    moved_same F leaves z =
        let ws = extended (on_operands F) leaves gs in
        ap (F gate.kind)
        (ap (map (net_at ws)) (operands-renumbered (net_at ns) gate)
        ∙ map-map (net_at ws) (net_at ns) (operands gate)
        ∙ map-agree (λ k. net_at ws (net_at ns k)) (net_at ws) (operands gate)
        (λ k m. let b = operand_below k m in (w.stands k (omega arith)).same F leaves z))

    -- gate i with its operands replaced
    merged-moved : MergedIn d n gs (set cs i (packed (d + i) (moved ns gate))) ns
    merged-moved =
        let hs = w.merged in
        let g = moved ns gate in
        let s = w.same in
        let l : i < length hs = omega (arith, s.long) in
        let c = packed (d + i) g in
        record {
          merged = set hs i g;
          same =
              record {
                long = length-set hs i g ∙ s.long;
                good = good-set d hs i g s.good moved-good;
                forms = all_set formed hs i g s.forms moved-formed;
                same =
                    λ F leaves z.
                    let t = s.same F leaves z in
                    extended-set (on_operands F) (on_operands-local F) leaves hs d i g z l s.good moved-good
                    (rw t (moved_same F leaves z ∙ ap (on_operands F (extended (on_operands F) leaves gs)) (merged-at i h)))
                    ∙ t;
              };
          gates = take-set-lt n cs i c h ∙ ap (λ (xs : List ℕ). set xs i c) w.gates ∙ sym (packed_from-set d hs i g);
          stands = w.stands;
        }

    -- .. which an earlier one is too
    module _ (k : ℕ) (b : k ≤ i) (same : gate_in (get_or cs k 0) ≡ gate) where
      stands-earlier : StandsFor d gs (d + i) (d + k)
      stands-earlier =
          record {
            before = omega arith;
            same =
                λ F leaves z.
                let hs = w.merged in
                let f = on_operands F in
                let c = consistent-extended f (on_operands-local F) leaves hs d z w.same.good in
                rw (sym (w.same.same F leaves z))
                (c.at k (omega (arith, w.same.long))
                ∙ ap (f (extended f leaves hs)) (sym (merged-at k (omega arith)) ∙ same ∙ merged-at i h)
                ∙ sym (c.at i (omega (arith, w.same.long))));
          }

      merged-stands : length ns ≡ 1024 → MergedIn d n gs cs (set ns (d + i) (d + k))
      unfolding net_at
      merged-stands q =
          record {
            merged = w.merged;
            same = w.same;
            gates = w.gates;
            stands =
                λ p l.
                ⊎_elim
                (λ (t : eqb p (d + i) ≡ true).
                rw (eqb-true p (d + i) t, get_or-set_same ns (d + i) (d + k) 0 (omega arith)) stands-earlier)
                (λ (t : eqb p (d + i) ≡ false).
                rw (get_or-set_other ns (d + i) p (d + k) 0 (eqb-false p (d + i) t)) (w.stands p l))
                (true-or-false (eqb p (d + i)));
          }

-- ---- the loop

-- past its end a list has 0
below-of-nets : (n : ℕ) (xs : List ℕ) → length xs ≡ n → Nets n xs → Below 1024 xs
below-of-nets n xs e b i =
    ⊎_elim
    (λ (t : ltb i n ≡ true). b i (ltb-true i n t))
    (λ (t : ltb i n ≡ false). let l = ltb-false i n t in omega (arith, get_or-eq_default xs 0 {n = i} (omega arith)))
    (true-or-false (ltb i n))

-- a store keeps what holds of each element at its index
set-held : (P : ℕ → ℕ → Type 0) (xs : List ℕ) (i x : ℕ) → ((k : ℕ) → P k (get_or xs k 0)) → P i x
    → (k : ℕ) → P k (get_or (set xs i x) k 0)
set-held P [] i x b h k = b k
set-held P (y ∷ ys) zero x b h zero = h
set-held P (y ∷ ys) zero x b h (suc k) = b (suc k)
set-held P (y ∷ ys) (suc i) x b h zero = b zero
set-held P (y ∷ ys) (suc i) x b h (suc k) = set-held (λ m. P (suc m)) ys i x (λ m. b (suc m)) h k

-- one gate more, which is the last of its place
pub chained_more : {i : ℕ} {hs xs : List ℕ} → Chained i hs xs → (at : ℕ) {v : ℕ} → v ≡ i + 1
    → Chained (i + 1) (set hs at v) (set xs i (get_or hs at 0))
chained_more {i} {hs} {xs} w at {v} e =
    record {
      heads = set_below hs at v (i + 1 + 1) (λ k. omega (arith, w.heads k)) (omega arith);
      next = set-held (λ k y. y ≤ k) xs i (get_or hs at 0) w.next (omega (arith, w.heads at));
    }

pub record Merging (d n : ℕ) (cs₀ : List ℕ) (i : ℕ) (cs ns hs xs : List ℕ) : Type 0 where
  pub long : length cs ≡ 800
  pub stood : length ns ≡ 1024
  pub nets : Below 1024 ns
  pub chained : Chained i hs xs
  pub merged : (gs : List Gate) → Packs d n cs₀ gs → MergedIn d n gs cs ns

pub merging-none : {d n i : ℕ} {cs ns hs xs : List ℕ} → length cs ≡ 800 → InputsNumbered (d + n) ns → Chained i hs xs
    → Merging d n cs i cs ns hs xs
unfolding net_at
merging-none {d} {ns = ns} l q b =
    record {
      long = l;
      stood = q.long;
      nets = below-of-nets 1024 ns q.long q.nets;
      chained = b;
      merged =
          λ gs p.
          record {
            merged = gs;
            same = same_self d gs p.good p.forms;
            gates = p.gates;
            stands = λ k h. rw (q.inputs k h) (stands_self d gs k);
          };
    }

module _ {d n i : ℕ} {cs₀ cs ns hs xs : List ℕ} (w : Merging d n cs₀ i cs ns hs xs) (r : d + n ≤ 1024) where
  pub merging-all : GatesMerged d n cs₀ (record { gates = cs; stands = ns })
  merging-all = record { long = w.long; nets = λ k h. w.nets k; merged = w.merged }

  pub merging-place : (at : ℕ) {v : ℕ} → v ≡ i + 1 → Merging d n cs₀ (i + 1) cs ns (set hs at v) (set xs i (get_or hs at 0))
  merging-place at {v} e =
      record {
        long = w.long;
        stood = w.stood;
        nets = w.nets;
        chained = chained_more w.chained at e;
        merged = w.merged;
      }

  module _ (h : i < n) where
    pub merging-moved : {c : ℕ} → c ≡ packed (d + i) (moved ns (gate_in (get_or cs i 0))) → Merging d n cs₀ i (set cs i c) ns hs xs
    merging-moved {c} e =
        record {
          long = length-set cs i c ∙ w.long;
          stood = w.stood;
          nets = w.nets;
          chained = w.chained;
          merged = λ gs p. rw e (merged-moved (w.merged gs p) p.count r i h);
        }

    pub merging-stands : (k : ℕ) → k ≤ i → gate_in (get_or cs k 0) ≡ gate_in (get_or cs i 0) → {v : ℕ} → v ≡ d + k
        → Merging d n cs₀ (i + 1) cs (set ns (d + i) v) hs xs
    merging-stands k b s {v} e =
        record {
          long = w.long;
          stood = length-set ns (d + i) v ∙ w.stood;
          nets = set_below ns (d + i) v 1024 w.nets (omega arith);
          chained = record { heads = λ m. omega (arith, w.chained.heads m); next = w.chained.next };
          merged = λ gs p. rw e (merged-stands (w.merged gs p) p.count r i h k b s w.stood);
        }

-- ---- the miter

pub merged-self : {j : Job} {m : Miter} → MiterOf j m → MergedOf j m
unfolding codes
merged-self {j} {m} q =
    record {
      good = q.good;
      inputs = q.inputs;
      targets = q.targets;
      count = q.count;
      merged = miter_gates j;
      same = same_self (j.inputs + j.targets) (miter_gates j) (miter-good j q.good) q.forms;
      gates = q.gates;
      pairs =
          record {
            olds = rw q.outputs (outputs-nets j q.good);
            goldens = rw q.goldens (goldens-nets j q.good);
            equal = λ x v. rw (q.outputs, q.goldens) (sym (rectifies-miter j q.good x v));
          };
    }

module _ {m : Miter} {g : MergedGates} (w : GatesMerged (m.inputs + m.targets) m.count m.gates g) {j : Job}
    (q : MiterOf j m) where
  pub miter-merged : MergedIn (j.inputs + j.targets) m.count (miter_gates j) g.gates g.stands
  unfolding codes
  miter-merged =
      rw (q.inputs, q.targets) at
      (w.merged (miter_gates j)
      (record {
        count = q.count;
        good = rw (q.inputs, q.targets) (miter-good j q.good);
        forms = q.forms;
        gates = rw (q.inputs, q.targets) q.gates;
      }))

  -- nets of the miter
  module _ (is : List ℕ) (b : all (λ i. ltb i (miter_nets j)) is ≡ true) where
    net-stands : (i : ℕ) → Mem i is → (i < miter_nets j) × StandsFor (j.inputs + j.targets) (miter_gates j) i (net_at g.stands i)
    unfolding miter_nets
    net-stands i t =
        let n = miter_nets j in
        let l : i < miter_nets j = ltb-true i n (all_true (λ k. ltb k n) is b i t) in
        (l, miter-merged.stands i (omega (arith, q.count)))

    nets-same : (x v : ℕ) → map (net_at (miter_values j x v)) (map (net_at g.stands) is) ≡ map (net_at (miter_values j x v)) is
    unfolding miter_values values value_of
    nets-same x v =
        let vs = miter_values j x v in
        let leaves = bits j.inputs x ++ bits j.targets v in
        let l : length leaves ≡ j.inputs + j.targets =
        length-append (bits j.inputs x) (bits j.targets v)
        ∙ omega (arith, length-bits j.inputs x, length-bits j.targets v) in
        map-map (net_at vs) (net_at g.stands) is
        ∙ map-agree (λ i. net_at vs (net_at g.stands i)) (net_at vs) is
        (λ i t. (net-stands i t).1.same gate_value leaves l)

    nets-below : all (λ i. ltb i (miter_nets j)) (map (net_at g.stands) is) ≡ true
    nets-below =
        all-mapped (net_at g.stands) (miter_nets j) is
        (λ i t. let s = net-stands i t in omega (arith, s.1.before))

  -- the nets that stand for the outputs
  pub moved-pairs : PairsOf j (map (λ o. get_or g.stands o 0) (take m.outs m.outputs)) (map (λ o. get_or g.stands o 0) (take m.outs m.goldens))
  unfolding net_at
  moved-pairs =
      let a = outputs-nets j q.good in
      let b = goldens-nets j q.good in
      record {
        olds = rw q.outputs (nets-below j.old.outputs a);
        goldens = rw q.goldens (nets-below (miter_goldens j) b);
        equal =
            λ x v.
            rw (q.outputs, q.goldens, nets-same j.old.outputs a x v, nets-same (miter_goldens j) b x v)
            (sym (rectifies-miter j q.good x v));
      }
