-- Laws of partial evaluation on packed gates: what is known of a packed gate is what is known of the gate, a turn of the loop over
-- gates, the values that complete what is known of all nets, and outputs that are known in a range, so that every vector rectifies
-- every input of it. Assumes nothing.
use Prim.Native.Nat.{ℕ, zero, suc, ◌+◌, min, ◌≤◌, ◌<◌}
use mathlib.Core.Path.{◌≡◌, sym, ◌∙◌, ap, subst}
use mathlib.Core.List.{List, [], ◌∷◌, ◌++◌, map, map-map}
use mathlib.Core.Logic.{⊎_elim}
use mathlib.Core.Bool.{Bool, true, false, not, and-true, ◌&&◌, true≢false}
use native.Mathlib.Nat.{add-zero, eq-or-lt_of_le}
use native.Mathlib.Omega.{arith}
use borrow.Author.Tests.{ltb-true}
use lib.Dec.{ltb}
use lib.ListN.{length, get_or, take, length-append, take-append-drop, get_or-append}
use lib.Seq.{slice, length-take-le, take_all, take-take, get_or_at, get_or-take}
use Rattle.records.specs.Bytes.{all}
use Rattle.records.specs.Gate.{Gate, operands}
use Rattle.records.specs.Netlist.{net_at, extended, value_of, values}
use Rattle.records.specs.Job.{Job}
use Rattle.records.specs.Refusal.{gate_good, gates_good}
use Rattle.records.proofs.Laws.Bytes.{and_both, all_cons}
use Rattle.records.proofs.Laws.Gate.{gate_good-count}
use Rattle.engine.specs.Inner.Packed.{own, packed, packed_from, formed, evaluated}
use Rattle.engine.specs.Inner.Miter.{miter_gates, miter_nets, miter_values}
use Rattle.engine.specs.Inner.Plan.{fanned, PlannedOf}
use Rattle.engine.specs.declared.plan.Plan.{Plan}
use Rattle.engine.specs.Eval.{bits}
use Rattle.engine.specs.Rectify.{rectifies}
use Rattle.engine.specs.Ternary.{unknown, ternary_value, Completes}
use Rattle.engine.specs.Inner.Ranges.{known_at, ternary_of, code_ternary, Completed, InRange, Known}
use Rattle.engine.proofs.Laws.Choice.{mem-keep, same_refl}
use Rattle.engine.proofs.Laws.Fitted.{length-bits}
use Rattle.engine.proofs.Laws.Miter.{miter-nets}
use Rattle.engine.proofs.Laws.Packed.{packed-kind, packed-operands, length-operands}
use Rattle.engine.proofs.Laws.Partial.{gate-completes, map-take-agree}
use Rattle.engine.proofs.Laws.FitGates.{net_at-extended}
use Rattle.engine.proofs.Laws.Plan.{free_of, closed-free}
use Rattle.engine.proofs.Laws.Run.{evaluated-append, length-evaluated, evaluated-other, keep-ext, good-first, good-rest, own-within, Follows, run-part, same-values}

-- ---- a gate

module _ (vs : List ℕ) (g : Gate) where
  -- what is known of a gate by what stands at its operands
  ternary_of-operands : ternary_of vs g ≡ ternary_value g.kind (map (λ x. min x unknown) (map (net_at vs) (operands g)))
  unfolding ternary_of known_at
  ternary_of-operands =
      ap (ternary_value g.kind) (sym (map-map (λ x. min x unknown) (net_at vs) (operands g)))

  ternary-packed : (d : ℕ) → gate_good d g ≡ true → formed g ≡ true → d < 1024 → code_ternary vs (packed d g) ≡ ternary_of vs g
  unfolding code_ternary ternary_of
  ternary-packed d e f h =
      let n : length (operands g) ≤ 4 = omega (arith, length-operands d g e f h, gate_good-count d g e) in
      rw (packed-kind d g e f h, packed-operands d g e f h, take_all 4 (operands g) n)

-- the packed gate is the gate, on any places
pub ternary-follows : Follows ternary_of code_ternary (λ vs. Unit {0})
ternary-follows =
    record {
      local =
          λ vs ws g h.
          ternary_of-operands vs g
          ∙ ap (λ (us : List ℕ). ternary_value g.kind (map (λ x. min x unknown) us)) h
          ∙ sym (ternary_of-operands ws g);
      keeps = λ vs c i. tt;
      packs = λ vs d g i e f h. ternary-packed vs g d e f h;
    }

-- ---- values that complete what is known

-- one more value and one more entry
completed-append : (k : ℕ) (vs ns : List ℕ) (v w : ℕ) → length vs ≡ k → length ns ≡ k → Completed k vs ns → Completes v w
    → Completed (suc k) (vs ++ (v ∷ [])) (ns ++ (w ∷ []))
completed-append k vs ns v w e f c d i l =
    ⊎_elim
    (λ (q : i ≡ k). rw (q, get_or_at vs v [] 0 k e, get_or_at ns w [] 0 k f) d)
    (λ (q : i < k).
    rw (get_or-append vs (v ∷ []) 0 i (omega arith), get_or-append ns (w ∷ []) 0 i (omega arith)) (c i q))
    (eq-or-lt_of_le (last l))
  where
    last : i < suc k → i ≤ k
    last q = omega arith

-- whatever values complete what is known of the leaves, the values of all nets complete what is known of them
pub extended-completed : (d : ℕ) (gs : List Gate) (known nets : List ℕ) → gates_good d gs ≡ true
    → length known ≡ d → length nets ≡ d → Completed d known nets
    → Completed (d + length gs) (extended value_of known gs) (extended ternary_of nets gs)
unfolding extended
extended-completed d [] known nets a e f c = rw add-zero c
extended-completed d (g ∷ gs) known nets a e f c =
    let n : d + length (g ∷ gs) ≡ suc d + length gs = omega arith in
    let v = value_of known g in
    let w = ternary_of nets g in
    rw n
    (extended-completed (suc d) gs (known ++ (v ∷ [])) (nets ++ (w ∷ [])) (good-rest d g gs a)
    (omega (arith, length-append known (v ∷ [])))
    (omega (arith, length-append nets (w ∷ [])))
    (completed-append d known nets v w e f c (gate-completes d known nets c g (good-first d g gs a))))

-- ---- a plan's gates

all-take-at : (q : ℕ → Bool) (k : ℕ) (xs : List ℕ) → k ≤ length xs → all q (take k xs) ≡ true
    → (i : ℕ) → i < k → q (get_or xs i 0) ≡ true
all-take-at q zero xs l e i h = let z : ⊥ = omega arith in absurd z
all-take-at q (suc k) [] l e i h = let z : ⊥ = omega arith in absurd z
all-take-at q (suc k) (x ∷ xs) l e zero h = (all_cons q x (take k xs) e).0
all-take-at q (suc k) (x ∷ xs) l e (suc i) h = all-take-at q k xs (omega arith) (all_cons q x (take k xs) e).1 i (omega arith)

module _ (j : Job) (is : List ℕ) (p : Plan) (o : PlannedOf j is p) where
  abbrev leaf_count : ℕ
  leaf_count = j.inputs + j.targets

  -- the gates that no target leads to
  abbrev free_gates : List ℕ
  free_gates = slice 0 (get_or p.ends 0 0) p.gates

  -- .. and the others
  abbrev live_gates : List ℕ
  live_gates = slice 0 (get_or p.ends 1 0) p.gates

  fits : leaf_count + length o.merged ≤ 1024
  unfolding miter_nets
  fits = omega (arith, miter-nets j o.good, o.same.long)

  both-lists : live_gates ≡ free_gates ++ slice (get_or p.ends 0 0) (get_or p.ends 1 0) p.gates
  both-lists =
      let a = get_or p.ends 0 0 in
      let b = get_or p.ends 1 0 in
      sym (take-append-drop a (take b p.gates)) ∙ ap (λ (l : List ℕ). l ++ slice a b p.gates) (take-take a b p.gates o.lists.order)

  module _ (nets : List ℕ) (long : length nets ≡ 1024) where
    -- what is known of each net
    abbrev known : List ℕ
    known = extended ternary_of (take leaf_count nets) o.merged

    -- .. once the gates that no target leads to are evaluated
    abbrev free_known : List ℕ
    free_known = evaluated code_ternary nets free_gates

    leaves-long : length (take leaf_count nets) ≡ leaf_count
    leaves-long = length-take-le leaf_count nets (omega (arith, fits))

    leaf-known : (i : ℕ) → i < leaf_count → net_at nets i ≡ net_at known i
    unfolding net_at
    leaf-known i h =
        sym (net_at-extended ternary_of (take leaf_count nets) o.merged i (omega (arith, leaves-long)) ∙ get_or-take leaf_count nets i 0 h)

    -- they drive no leaf
    leaf-kept : (i : ℕ) → i < leaf_count → net_at free_known i ≡ net_at nets i
    leaf-kept i h =
        let free = free_of j o.live in
        evaluated-other code_ternary nets free_gates i
        (λ c m e.
        let n = ((mem-keep (λ k. free (own k)) (packed_from leaf_count o.merged) c).0 (rw o.lists.free at m)).0 in
        let w = (own-within leaf_count o.merged o.same.good o.same.forms fits c n).0 in
        omega arith)

    free-known : (i : ℕ) → i < leaf_count + length o.merged → free_of j o.live i ≡ true → net_at free_known i ≡ net_at known i
    free-known i l m =
        let free = free_of j o.live in
        ap (λ (cs : List ℕ). net_at (evaluated code_ternary nets cs) i)
        (o.lists.free
        ∙ keep-ext (λ c. free (own c)) (λ c. free (own c) && true) (packed_from leaf_count o.merged) (λ c n. sym (and-true (free (own c)))))
        ∙ run-part ternary-follows free (λ k. true) leaf_count o.merged (take leaf_count nets) nets o.same.good o.same.forms fits
        (omega arith)
        leaves-long
        (closed-free j o.same o.live o.closed)
        tt
        (λ k u w s. ⊎_elim (leaf-known k) (λ z. absurd (true≢false z)) s)
        i
        l
        m

    live-known : (i : ℕ) → i < leaf_count + length o.merged → o.live i ≡ true
        → net_at (evaluated code_ternary nets live_gates) i ≡ net_at known i
    live-known i l m =
        ap (λ (vs : List ℕ). net_at vs i)
        (ap (evaluated code_ternary nets) both-lists
        ∙ evaluated-append code_ternary nets free_gates _
        ∙ ap (evaluated code_ternary free_known) o.lists.fan)
        ∙ run-part ternary-follows o.live (fanned j) leaf_count o.merged (take leaf_count nets) free_known o.same.good o.same.forms fits
        (omega (arith, length-evaluated code_ternary nets free_gates))
        leaves-long
        o.closed
        tt
        (λ k u w s.
        ⊎_elim
        (λ (b : k < leaf_count). leaf-kept k b ∙ leaf-known k b)
        (λ (z : fanned j k ≡ false). free-known k u (and_both (o.live k) (not (fanned j k)) w (ap not z)))
        s)
        i
        l
        m

  -- what is known of a live net is completed by its value, whatever values complete what is known of the leaves
  live-completed : (leaves nets : List ℕ) → length leaves ≡ leaf_count → length nets ≡ 1024
      → Completed leaf_count leaves nets
      → (i : ℕ) → i < miter_nets j → o.live i ≡ true
      → Completes (net_at (values leaves (miter_gates j)) i) (net_at (evaluated code_ternary nets live_gates) i)
  unfolding miter_nets values net_at
  live-completed leaves nets e f c i l h =
      let t = leaves-long nets f in
      let n : i < leaf_count + length o.merged = omega (arith, o.same.long) in
      subst (λ (v : ℕ). Completes v (net_at (evaluated code_ternary nets live_gates) i))
      (ap (λ (vs : List ℕ). net_at vs i) (same-values o.same leaves e))
      (subst (λ (w : ℕ). Completes (net_at (values leaves o.merged) i) w) (sym (live-known nets f i n h))
      (extended-completed leaf_count o.merged leaves (take leaf_count nets) o.same.good e t
      (λ k u. rw (get_or-take leaf_count nets k 0 u) (c k u))
      i
      n))

  -- outputs that are known, and equal, in the places of all live nets are equal in the values that complete the leaves
  outputs-settled : (leaves nets : List ℕ) → length leaves ≡ leaf_count → length nets ≡ 1024
      → Completed leaf_count leaves nets → p.outs ≤ length p.outputs → p.outs ≤ length p.goldens
      → let after = evaluated code_ternary nets live_gates in
      ((i : ℕ) → i < p.outs → Known (get_or after (get_or p.outputs i 0) 0) (get_or after (get_or p.goldens i 0) 0))
      → map (net_at (values leaves (miter_gates j))) (take p.outs p.outputs)
      ≡ map (net_at (values leaves (miter_gates j))) (take p.outs p.goldens)
  unfolding net_at
  outputs-settled leaves nets e f c a b k =
      let vs = values leaves (miter_gates j) in
      let after = evaluated code_ternary nets live_gates in
      let below : ℕ → Bool = λ i. ltb i (miter_nets j) in
      map-take-agree (net_at vs) (net_at vs) p.outs p.outputs p.goldens a b
      (λ i l.
      let u = get_or p.outputs i 0 in
      let w = get_or p.goldens i 0 in
      let z = k i l in
      let y : get_or after w 0 < unknown = omega (arith, z.below, z.equal) in
      (live-completed leaves nets e f c u
      (ltb-true u (miter_nets j) (all-take-at below p.outs p.outputs a o.pairs.olds i l))
      (all-take-at o.live p.outs p.outputs a o.live-outputs i l)
      ).kept
      z.below
      ∙ z.equal
      ∙ sym
      ((live-completed leaves nets e f c w
      (ltb-true w (miter_nets j) (all-take-at below p.outs p.goldens b o.pairs.goldens i l))
      (all-take-at o.live p.outs p.goldens b o.live-goldens i l)
      ).kept
      y))

  -- .. so that every vector rectifies every input of a range in which they are known
  pub rectifies-range : (low prefix : ℕ) (nets : List ℕ) → length nets ≡ 1024
      → ((x v : ℕ) → InRange low prefix x
      → Completed (p.inputs + p.targets) (bits p.inputs x ++ bits p.targets v) nets)
      → p.outs ≤ length p.outputs → p.outs ≤ length p.goldens
      → let after = evaluated code_ternary nets live_gates in
      ((i : ℕ) → i < p.outs → Known (get_or after (get_or p.outputs i 0) 0) (get_or after (get_or p.goldens i 0) 0))
      → (x v : ℕ) → InRange low prefix x → rectifies j x v ≡ true
  unfolding miter_values
  rectifies-range low prefix nets f c a b k x v r =
      let n = j.inputs in
      let m = j.targets in
      let leaves = bits n x ++ bits m v in
      let l : length leaves ≡ n + m = omega (arith, length-append (bits n x) (bits m v), length-bits n x, length-bits m v) in
      let s = outputs-settled leaves nets l f (rw (o.inputs, o.targets) at (c x v r)) a b k in
      sym (o.pairs.equal x v) ∙ rw s (same_refl (map (net_at (values leaves (miter_gates j))) (take p.outs p.goldens)))
