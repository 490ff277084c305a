-- Laws of what nets' values imply (specs/Inner/Imply): one net more is known; what a gate's net says of its operands; the values of a job's gates
-- are such as the gates give; and the cubes that are left. Assumes nothing.
use Prim.Native.Nat.{ℕ, suc, ◌+◌, ◌/◌, ◌%◌, ◌^◌, ◌≤◌, ◌<◌}
use mathlib.Core.Path.{◌≡◌, refl, sym, ◌∙◌, ap, subst}
use mathlib.Core.Logic.{⊎_elim}
use mathlib.Core.List.Memᴰ.{cases_cons}
use mathlib.Core.List.Memᴰ.{not-nil}
use mathlib.Core.List.{List, [], ◌∷◌, map, Memᴰ as Mem}
use mathlib.Core.Bool.{Bool, true, false, true≢false, not, ◌&&◌}
use native.Mathlib.Nat.{add-zero, eq-zero-or-pos}
use native.Mathlib.Omega.{arith}
use borrow.Author.Tests.{eqb-true, eqb-false, eq-eqb}
use lib.Dec.{eqb}
use lib.ListN.{length, get_or, set, replicate, get_or-replicate}
use lib.Pow.{pow_mono}
use lib.Seq.{set-set, get_or-set_same, get_or-set_other, slice}
use Rattle.records.specs.Bytes.{all}
use Rattle.records.specs.Gate.{Gate}
use Rattle.records.specs.Netlist.{net_at, value_of, values}
use Rattle.records.specs.Job.{Job}
use Rattle.records.specs.Refusal.{gate_good, gates_good, candidate_good}
use Rattle.records.proofs.Laws.Bytes.{and_both, all_cons}
use Rattle.engine.specs.Eval.{number_of}
use Rattle.engine.specs.Support.{reading}
use Rattle.engine.specs.Inner.Cover.{InCube, CubeAdded, CoverTo}
use Rattle.engine.specs.Inner.Given.{GivenCover}
use Rattle.engine.specs.Inner.Imply.{Binary, Implied, Learns, AllHave, Forces, GateHas, CubeHas, PlanValues, plan_reading, NoneGives, Unrefuted}
use Rattle.engine.specs.Inner.Miter.{miter_gates, miter_nets, miter_values}
use Rattle.engine.specs.Inner.Packed.{own, packed, packed_from, formed, joined, folded, folded_from, operation, count_of, operands_of, fields, code_value}
use Rattle.engine.specs.Inner.Plan.{fanned, ReadsOf}
use Rattle.engine.specs.Inner.Ranges.{Completed}
use Rattle.engine.specs.declared.cube.Cover.{Cover}
use Rattle.engine.specs.declared.cube.Cube.{Cube}
use Rattle.engine.specs.declared.plan.Plan.{Plan}
use Rattle.engine.proofs.Laws.BlockRows.{agree-reading}
use Rattle.engine.proofs.Laws.Choice.{true-or-false, mem-keep}
use Rattle.engine.proofs.Laws.Cover.{number_bit}
use Rattle.engine.proofs.Laws.Eval.{get_d_bits, bits-append, bits-bits, values-bits}
use Rattle.engine.proofs.Laws.FitGates.{value_of-local, Consistent, consistent-extended}
use Rattle.engine.proofs.Laws.FitNets.{mem-at}
use Rattle.engine.proofs.Laws.Miter.{miter-nets}
use Rattle.engine.proofs.Laws.Packed.{packed-own, packed-value}
use Rattle.engine.proofs.Laws.Partial.{gate-completes}
use Rattle.engine.proofs.Laws.Plan.{leaves_of, base, length-leaves}
use Rattle.engine.proofs.Laws.Ranges.{ternary-follows}
use Rattle.engine.proofs.Laws.Run.{good-first, good-rest, same-values}
use Rattle.engine.proofs.Laws.Search.{first-few}
use Rattle.engine.proofs.Laws.Support.{reading-lt}

-- ---- one net more

-- what is known already is the value, so that another is not met
pub known_same : (known vs : List ℕ) (i v : ℕ) → i < 1024 → Implied known vs → get_or known i 0 < 2 → net_at vs i ≡ v
    → eqb (get_or known i 0) v ≡ true
known_same known vs i v l m h e = eq-eqb (get_or known i 0) v (sym (m i l h) ∙ e)

pub known_more : (known vs : List ℕ) (i v : ℕ) → i < length known → Implied known vs → net_at vs i ≡ v → Implied (set known i v) vs
known_more known vs i v l m e k n h =
    ⊎_elim
    (λ (t : eqb k i ≡ true).
    let q : k ≡ i = eqb-true k i t in
    rw q (e ∙ sym (get_or-set_same known i v 0 l)))
    (λ (t : eqb k i ≡ false).
    let q : get_or (set known i v) k 0 ≡ get_or known k 0 = get_or-set_other known i k v 0 (eqb-false k i t) in
    m k n (rw q at h) ∙ sym q)
    (true-or-false (eqb k i))

-- at first nothing is known
pub known-none : (vs : List ℕ) → Implied (replicate 1024 2) vs
known-none vs i n h = let f : ⊥ = omega (arith, get_or-replicate {A = ℕ} 1024 i 2 0 n) in absurd f

-- ---- a step more

pub learns_none : {Q : List ℕ → Type 0} (a : List ℕ) → Learns Q a true a
learns_none a = record { well = λ vs m q. refl; more = λ vs m q. m }

-- a step by P, behind steps that went well, of values of which Q and what is known say more than P
pub learns-then : {Q P : List ℕ → Type 0} {a b d : List ℕ} {r s : Bool} → Learns Q a true b → ((vs : List ℕ) → Implied b vs → Q vs → P vs)
    → Learns P b r d → r ≡ s → Learns Q a s d
learns-then f i g e =
    record {
      well = λ vs m q. let k = f.more vs m q in sym e ∙ g.well vs k (i vs k q);
      more = λ vs m q. let k = f.more vs m q in g.more vs k (i vs k q);
    }

-- where a step does not go well, there are no such values
pub learns-never : {Q : List ℕ → Type 0} {a d : List ℕ} {r : Bool} → Learns Q a r d → r ≡ false → (vs : List ℕ) → Implied a vs → Q vs → ⊥
learns-never f e vs m q = true≢false (sym (f.well vs m q) ∙ e)

-- after two steps there are none in both cases of a net, so there are none
pub both-never : {P : List ℕ → Type 0} {a b d : List ℕ} {r s : Bool} → Learns P a r b → Learns P b s d → ((vs : List ℕ) → P vs → Binary vs)
    → length d ≡ 1024 → (i : ℕ) → i < 1024
    → ((vs : List ℕ) → P vs → Implied (set d i 0) vs → ⊥)
    → ((vs : List ℕ) → P vs → Implied (set (set d i 0) i 1) vs → ⊥)
    → (vs : List ℕ) → P vs → Implied a vs → ⊥
unfolding net_at
both-never {d = d} f g b e i l low high vs v m =
    let k = g.more vs (f.more vs m v) v in
    let n : i < length d = omega arith in
    ⊎_elim
    (λ (o : get_or vs i 0 ≡ 0). low vs v (known_more d vs i 0 n k o))
    (λ (o : 0 < get_or vs i 0). high vs v (rw (set-set d i 0 1) (known_more d vs i 1 n k (omega (arith, b vs v i)))))
    (eq-zero-or-pos (get_or vs i 0))

-- ---- operands

module _ (v : ℕ) (vs : List ℕ) {i : ℕ} {is ks : List ℕ} (e : ks ≡ i ∷ is) (a : AllHave v ks vs) where
  parts : (eqb (net_at vs i) v ≡ true) × AllHave v is vs
  parts = all_cons (λ (k : ℕ). eqb (net_at vs k) v) i is (rw e at a)

  pub first-has : net_at vs i ≡ v
  first-has = eqb-true (net_at vs i) v parts.0

  pub rest-have : AllHave v is vs
  rest-have = parts.1

-- ---- what a gate's net says

joined-lt : (op x y : ℕ) → x < 2 → y < 2 → joined op x y < 2
unfolding joined
joined-lt op x y h l =
    ⊎_elim
    (λ (a : eqb op 2 ≡ true). rw a (omega arith))
    (λ (a : eqb op 2 ≡ false).
    ⊎_elim
    (λ (b : eqb op 3 ≡ true). rw (a, b) (omega arith))
    (λ (b : eqb op 3 ≡ false). rw (a, b) (omega arith))
    (true-or-false (eqb op 3)))
    (true-or-false (eqb op 2))

module _ (op v : ℕ) (both : (x y : ℕ) → x < 2 → y < 2 → joined op x y ≡ v → (x ≡ v) × (y ≡ v)) (vs : List ℕ) (b : Binary vs) where
  folds-from : (x : ℕ) (is : List ℕ) → x < 2 → folded_from op x (map (net_at vs) is) ≡ v → (x ≡ v) × AllHave v is vs
  unfolding folded_from all net_at
  folds-from x [] h e = (e, refl)
  folds-from x (i ∷ is) h e =
      let r = folds-from (joined op x (net_at vs i)) is (joined-lt op x (net_at vs i) h (b i)) e in
      let p = both x (net_at vs i) h (b i) r.0 in
      (p.0, and_both (eqb (net_at vs i) v) (all (λ k. eqb (net_at vs k) v) is) (eq-eqb (net_at vs i) v p.1) r.1)

  folds-all : (is : List ℕ) → folded op (map (net_at vs) is) ≡ v → AllHave v is vs
  unfolding folded all net_at
  folds-all [] e = refl
  folds-all (i ∷ is) e =
      let r = folds-from (net_at vs i) is (b i) e in
      and_both (eqb (net_at vs i) v) (all (λ k. eqb (net_at vs k) v) is) (eq-eqb (net_at vs i) v r.0) r.1

pub and-forces : (c : ℕ) → operation c ≡ 2 → Forces c 1
unfolding joined
and-forces c o vs b e =
    folds-all 2 1 (λ x y h l f. (omega arith, omega arith)) vs b (operands_of c) (rw o at e)

pub or-forces : (c : ℕ) → operation c ≡ 3 → Forces c 0
unfolding joined
or-forces c o vs b e =
    folds-all 3 0 (λ x y h l f. (omega arith, omega arith)) vs b (operands_of c) (rw o at e)

pub one-forces : (c v : ℕ) → count_of c ≡ 1 → Forces c v
unfolding folded folded_from fields all
one-forces c v o vs b e =
    rw o
    (and_both (eqb (net_at vs (c / 131072 % 1024)) v) true (eq-eqb (net_at vs (c / 131072 % 1024)) v (rw o at e)) refl)

module _ (op : ℕ) (vs : List ℕ) (b : Binary vs) where
  folded-from-lt : (x : ℕ) (is : List ℕ) → x < 2 → folded_from op x (map (net_at vs) is) < 2
  unfolding folded_from net_at
  folded-from-lt x [] h = h
  folded-from-lt x (i ∷ is) h = folded-from-lt (joined op x (net_at vs i)) is (joined-lt op x (net_at vs i) h (b i))

  folded-lt : (is : List ℕ) → folded op (map (net_at vs) is) < 2
  unfolding folded net_at
  folded-lt [] = omega arith
  folded-lt (i ∷ is) = folded-from-lt (net_at vs i) is (b i)

-- a gate's value before its inversion
pub gate-plain : (c o : ℕ) (vs : List ℕ) → GateHas c vs → net_at vs (own c) ≡ o
    → folded (operation c) (map (net_at vs) (operands_of c)) ≡ (o + c % 2) % 2
unfolding code_value
gate-plain c o vs g e =
    let f : ℕ = folded (operation c) (map (net_at vs) (operands_of c)) in
    let s : (f + c % 2) % 2 ≡ o = sym g.value ∙ e in
    omega (arith, folded-lt (operation c) vs g.binary (operands_of c))

-- ---- the values of a job's gates

-- values complete what is known of them
known-completed : (k : ℕ) (vs ks : List ℕ) → k ≤ 1024 → Binary vs → Implied ks vs → Completed k vs ks
unfolding net_at
known-completed k vs ks h b m i l = record { bit = b i; kept = λ n. m i (omega arith) n }

packed-gate : (d : ℕ) (g : Gate) (ws : List ℕ) → gate_good d g ≡ true → formed g ≡ true → d < 1024 → Binary ws → net_at ws d ≡ value_of ws g
    → GateHas (packed d g) ws
packed-gate d g ws good f h b e =
    let o : net_at ws (own (packed d g)) ≡ value_of ws g = ap (net_at ws) (packed-own d g good f h) ∙ e in
    record {
      binary = b;
      value = o ∙ sym (packed-value d g good f h ws b);
      known = λ ks m l.
          let t = ternary-follows.packs ks d g tt good f h in
          o ∙ (gate-completes d ws ks (known-completed d ws ks (omega arith) b m) g good).kept (rw t at l) ∙ sym t;
    }

packed-gates : (d : ℕ) (gs : List Gate) (ws : List ℕ) → gates_good d gs ≡ true → all formed gs ≡ true → d + length gs ≤ 1024 → Binary ws
    → Consistent value_of ws d gs → (c : ℕ) → Mem c (packed_from d gs) → GateHas c ws
unfolding packed_from
packed-gates d [] ws a f h b k c m = absurd (not-nil m)
packed-gates d (g ∷ gs) ws a f h b k c m =
    let t = all_cons formed g gs f in
    ⊎_elim
    (λ (e : c ≡ packed d g).
    rw e
    (packed-gate d g ws (good-first d g gs a) t.0 (omega arith) b (ap (net_at ws) (sym (add-zero d)) ∙ k.at 0 (omega arith))))
    (λ n.
    packed-gates (suc d) gs ws (good-rest d g gs a) t.1 (omega arith) b
    record { at = λ r l. let q : suc d + r ≡ d + suc r = omega arith in ap (net_at ws) q ∙ k.at (suc r) (omega arith) }
    c
    n)
    (cases_cons m)

module _ {j : Job} {is : List ℕ} {p : Plan} (long : length p.gates ≡ 2400) (q : ReadsOf j is p) (x : ℕ) where
  binary : Binary (miter_values j x 0)
  unfolding miter_values
  binary i = get_d_bits (values-bits (leaves_of j x 0) (bits-append (bits-bits j.inputs x) (bits-bits j.targets 0)) (miter_gates j)) i

  consistent : Consistent value_of (miter_values j x 0) (base j) q.merged
  unfolding values miter_values
  consistent =
      subst (λ (ws : List ℕ). Consistent value_of ws (base j) q.merged) (same-values q.same (leaves_of j x 0) (length-leaves j x 0))
      (consistent-extended value_of value_of-local (leaves_of j x 0) q.merged (base j) (length-leaves j x 0) q.same.good)

  pub job-values : PlanValues p (miter_values j x 0)
  unfolding miter_nets
  job-values = (
    binary,
    λ i l.
        let n : ℕ = get_or p.ends 0 0 in
        let g : ℕ = get_or (slice 0 n p.gates) i 0 in
        let m : Mem g (slice 0 n p.gates) = mem-at (slice 0 n p.gates) i l in
        packed-gates (j.inputs + j.targets) q.merged (miter_values j x 0) q.same.good q.same.forms
        (omega (arith, miter-nets j q.good, q.same.long))
        binary
        consistent
        g
        ((mem-keep (λ c. q.live (own c) && not (fanned j (own c))) (packed_from (j.inputs + j.targets) q.merged) g).0
        (subst (λ (cs : List ℕ). Mem g cs) q.free m)).0,
  )

  -- the nets read have in them the reading
  pub job-reading : all (candidate_good j) is ≡ true → plan_reading p (miter_values j x 0) ≡ reading j is x
  job-reading f =
      ap (λ (os : List ℕ). number_of (map (net_at (miter_values j x 0)) os)) q.nets
      ∙ agree-reading j q.good is f q.live x (miter_values j x 0) (λ i l o. refl) q.live-nets

-- ---- the cubes that are left

-- a reading in a cube has its values
cube-has : (p : Plan) (u : Cube) (vs : List ℕ) → Binary vs → InCube u (plan_reading p vs) → CubeHas p u vs
unfolding net_at
cube-has p u vs b m k l c = sym (number_bit (net_at vs) b p.reads.nets p.reads.len k (omega (arith, p.reads_bound, p.reads_long)) l) ∙ m k c

-- .. so that none is in a cube that is refuted
pub none_in : (p : Plan) (u : Cube) → ((vs : List ℕ) → PlanValues p vs → CubeHas p u vs → ⊥) → (vs : List ℕ) → PlanValues p vs
    → InCube u (plan_reading p vs) → ⊥
none_in p u f vs v m = f vs v (cube-has p u vs v.0 m)

module _ {p : Plan} where
  -- .. of those that are left
  pub unrefuted-then : {c d e : Cover} → Unrefuted p c d → Unrefuted p d e → Unrefuted p c e
  unrefuted-then f g = record { left = λ vs v m. g.left vs v (f.left vs v m) }

  -- no cubes: no values give one
  pub no-cubes-given : {c : Cover} → c.count ≡ 0 → NoneGives p c
  no-cubes-given e = record { none = λ vs v m. omega (arith, m.within) }

  pub cover-given : {ss : List ℕ} {e c d : Cover} → length p.gates ≡ 2400 → CoverTo ss (2 ^ p.reads.len) e c → NoneGives p e → Unrefuted p c d
      → GivenCover p ss d
  cover-given h o n m =
      record {
        covers = λ j is q good x u.
            let k = first-few p.reads.len p.reads.nets q.nets in
            let few : reading j is x < 2 ^ p.reads.len = omega (arith, reading-lt j is x, pow_mono k) in
            let e = job-reading h q x good in
            let v = job-values h q x in
            ⊎_elim
            (λ i. absurd (n.none (miter_values j x 0) v (rw e i)))
            (λ i. rw e at (m.left (miter_values j x 0) v (rw e i)))
            (o (reading j is x) few u);
      }

  -- one cube more that is refuted
  pub none-added : {u : Cube} {c d : Cover} → ((vs : List ℕ) → PlanValues p vs → CubeHas p u vs → ⊥) → NoneGives p c → CubeAdded c u d
      → NoneGives p d
  none-added {u} f n a = record { none = λ vs v m. ⊎_elim (n.none vs v) (none_in p u f vs v) (a.only _ m) }
