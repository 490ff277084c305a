-- Laws of fit's code (specs/Fitting): new numbers of nets, and gates moved to them. Assumes nothing.
use Prim.Native.Nat.{ℕ, zero, suc, ◌+◌, ◌-◌, ◌^◌, ◌/◌, min, ◌≤◌, ◌<◌}
use mathlib.Core.Path.{◌≡◌, refl, sym, ◌∙◌, ap}
use mathlib.Core.Logic.{⊎_elim}
use mathlib.Core.List.{List, [], ◌∷◌, ◌++◌, map, append-nil, map-append, Memᴰ as Mem}
use mathlib.Core.Bool.{Bool, true, false, cond}
use native.Mathlib.Nat.{add-zero, zero-add}
use native.Mathlib.Omega.{arith}
use borrow.Author.Tests.{eq-eqb, ne_eqb, eqb-true, eqb-false, ltb-true, ltb-false}
use lib.Dec.{eqb, ltb}
use lib.ListN.{length, get_or, take, drop, set, replicate, length-set, length-append, length-map, length-replicate, get_or-map}
use lib.ListN.{get_or-replicate}
use lib.Seq.{take-length, length-take-le, get_or-take, get_or-set_same, get_or-set_other}
use Rattle.std.proofs.lemmas.List.{take_all, drop_all}
use Rattle.records.specs.Bytes.{up_from}
use Rattle.records.specs.Gate.{Gate, gate_of, operands, unused}
use Rattle.records.specs.Netlist.{net_at, fanout}
use Rattle.records.specs.Refusal.{gates_good}
use Rattle.records.specs.Claims.{Below}
use Rattle.records.proofs.Laws.Bytes.{length-up_from}
use Rattle.records.proofs.Laws.Gate.{gate_good-parts}
use Rattle.engine.specs.Choice.{keep}
use Rattle.engine.specs.Fit.{moved}
use Rattle.engine.specs.Inner.Packed.{fields, kind_of, count_of, gate_with, packed, packed_from, gate_in, unpacked}
use Rattle.engine.specs.Inner.Tree.{Nets, GateRoom, GatesPut, TreesPut, InputsNumbered}
use Rattle.engine.specs.Inner.Renumber.{old_gates, old_base, indices_with, Numbered}
use Rattle.engine.specs.Inner.Renumber.{moved_from, with_mark, MarkedPlaced}
use Rattle.engine.specs.Inner.Fitting.{TreesPlaced}
use Rattle.engine.specs.declared.renumber.NewSide.{NewSide}
use Rattle.engine.specs.declared.renumber.OldSide.{OldSide}
use Rattle.engine.proofs.Laws.Choice.{true-or-false, length-keep-le, mem-keep, mem_below, map-agree, all_true}
use Rattle.engine.proofs.Laws.FitGates.{no_gate, good-at}
use Rattle.engine.proofs.Laws.InPlace.{mapped, below-map}
use Rattle.engine.proofs.Laws.Tree.{gates-put-one, gates-put-append, gates-put-same, room-kept, room-less}

-- ---- keep

module _ {A : Type 0} (p : A → Bool) where
  keep-cond : (b : Bool) (x : A) (xs ys : List A) → cond b (x ∷ xs) xs ++ ys ≡ cond b (x ∷ (xs ++ ys)) (xs ++ ys)
  keep-cond true x xs ys = refl
  keep-cond false x xs ys = refl

  pub keep_append : (xs ys : List A) → keep p (xs ++ ys) ≡ keep p xs ++ keep p ys
  unfolding keep
  keep_append [] ys = refl
  keep_append (x ∷ xs) ys = rw (keep_append xs ys, keep-cond (p x) x (keep p xs) (keep p ys))

  pub keep_one : (x : A) → p x ≡ true → keep p (x ∷ []) ≡ x ∷ []
  unfolding keep
  keep_one x e = rw e

  pub keep-none : (x : A) → p x ≡ false → keep p (x ∷ []) ≡ []
  unfolding keep
  keep-none x e = rw e

pub up_from-append : (a n m : ℕ) → up_from a (n + m) ≡ up_from a n ++ up_from (a + n) m
unfolding up_from
up_from-append a zero m = rw (zero-add, add-zero)
up_from-append a (suc n) m =
    let e : suc n + m ≡ suc (n + m) = omega arith in
    let f : suc a + n ≡ a + suc n = omega arith in
    ap (up_from a) e
    ∙ ap (λ (l : List ℕ). a ∷ l) (up_from-append (suc a) n m)
    ∙ ap (λ (k : ℕ). a ∷ (up_from (suc a) n ++ up_from k m)) f

up_from-snoc : (n : ℕ) → up_from 0 (n + 1) ≡ up_from 0 n ++ (n ∷ [])
unfolding up_from
up_from-snoc n = up_from-append 0 n 1 ∙ ap (λ (k : ℕ). up_from 0 n ++ (k ∷ [])) (zero-add n)

-- ---- the gates with a mark

module _ (ms : List ℕ) (base b : ℕ) where
  abbrev has : ℕ → Bool
  has i = eqb (net_at ms (base + i)) b

  indices_with-next : (i : ℕ) → get_or ms (base + i) 0 ≡ b → indices_with ms base b (i + 1) ≡ indices_with ms base b i ++ (i ∷ [])
  unfolding indices_with net_at
  indices_with-next i e =
      ap (keep has) (up_from-snoc i)
      ∙ keep_append has (up_from 0 i) (i ∷ [])
      ∙ ap (λ (l : List ℕ). keep has (up_from 0 i) ++ l) (keep_one has i (eq-eqb (get_or ms (base + i) 0) b e))

  indices_with-skip : (i : ℕ) → (get_or ms (base + i) 0 ≡ b → ⊥) → indices_with ms base b (i + 1) ≡ indices_with ms base b i
  unfolding indices_with net_at
  indices_with-skip i e =
      ap (keep has) (up_from-snoc i)
      ∙ keep_append has (up_from 0 i) (i ∷ [])
      ∙ ap (λ (l : List ℕ). keep has (up_from 0 i) ++ l) (keep-none has i (ne_eqb (get_or ms (base + i) 0) b e))
      ∙ append-nil (keep has (up_from 0 i))

-- ---- new numbers

pub inputs-none : InputsNumbered 0 (replicate 1024 0)
inputs-none =
    record {
      long = length-replicate {A = ℕ} 1024 0;
      inputs = λ i h. let f : ⊥ = omega arith in absurd f;
      nets = λ i h. rw (get_or-replicate {A = ℕ} 1024 i 0 0 h) (omega arith);
    }

pub inputs-next : {i : ℕ} {ns : List ℕ} → InputsNumbered i ns → i < 1024 → InputsNumbered (i + 1) (set ns i i)
inputs-next {i} {ns} w h =
    let same : get_or (set ns i i) i 0 ≡ i = get_or-set_same ns i i 0 (omega (arith, w.long)) in
    let other : (k : ℕ) → (k ≡ i → ⊥) → get_or (set ns i i) k 0 ≡ get_or ns k 0 = λ k d. get_or-set_other ns i k i 0 d in
    record {
      long = length-set ns i i ∙ w.long;
      inputs =
          λ k l.
          ⊎_elim
          (λ (t : eqb k i ≡ true). let e = eqb-true k i t in rw e same)
          (λ (t : eqb k i ≡ false). let d = eqb-false k i t in other k d ∙ w.inputs k (omega arith))
          (true-or-false (eqb k i));
      nets =
          λ k l.
          ⊎_elim
          (λ (t : eqb k i ≡ true). let e = eqb-true k i t in rw (e, same) h)
          (λ (t : eqb k i ≡ false). rw (other k (eqb-false k i t)) (w.nets k l))
          (true-or-false (eqb k i));
    }

numbered-none : (ms : List ℕ) (base b first : ℕ) (d : List ℕ) → Numbered ms base b 0 first d d
numbered-none ms base b first d =
    record {
      long = refl;
      numbers = λ i h e. let f : ⊥ = omega arith in absurd f;
      leaves = λ i h. refl;
      others = λ i h. refl;
    }

module _ (ms : List ℕ) (base b first : ℕ) (before after : List ℕ) (i : ℕ) (w : Numbered ms base b i first before after) where
  numbered_next : get_or ms (base + i) 0 ≡ b → base + i < length before → {v : ℕ} → v ≡ first + length (indices_with ms base b i)
      → Numbered ms base b (i + 1) first before (set after (base + i) v)
  numbered_next e h {v} n =
      let other : (k : ℕ) → (k ≡ base + i → ⊥) → get_or (set after (base + i) v) k 0 ≡ get_or after k 0 =
      λ k d. get_or-set_other after (base + i) k v 0 d in
      record {
        long = length-set after (base + i) v ∙ w.long;
        numbers =
            λ k l d.
            ⊎_elim
            (λ (t : ltb k i ≡ true).
            let u = ltb-true k i t in other (base + k) (λ z. omega arith) ∙ w.numbers k u d)
            (λ (t : ltb k i ≡ false).
            let u : k ≡ i = let q = ltb-false k i t in omega arith in
            rw u (get_or-set_same after (base + i) v 0 (omega (arith, w.long)) ∙ n))
            (true-or-false (ltb k i));
        leaves = λ k l. other k (λ z. omega arith) ∙ w.leaves k l;
        others =
            λ k d.
            let n : k ≡ i → ⊥ = λ z. d (omega arith) (rw z e) in
            other (base + k) (λ z. n (omega arith)) ∙ w.others k (λ l. d (omega arith));
      }

  numbered-skip : (get_or ms (base + i) 0 ≡ b → ⊥) → Numbered ms base b (i + 1) first before after
  numbered-skip e =
      record {
        long = w.long;
        numbers =
            λ k l d.
            ⊎_elim
            (λ (t : ltb k i ≡ true). w.numbers k (ltb-true k i t) d)
            (λ (t : ltb k i ≡ false).
            let u : k ≡ i = let q = ltb-false k i t in omega arith in
            absurd (e (rw u at d)))
            (true-or-false (ltb k i));
        leaves = w.leaves;
        others = λ k d. w.others k (λ l. d (omega arith));
      }

pub indices_with-most : (ms : List ℕ) (base b n : ℕ) → length (indices_with ms base b n) ≤ n
unfolding indices_with
indices_with-most ms base b n = omega (arith, length-keep-le (has ms base b) (up_from 0 n), length-up_from 0 n)

-- the numbers stay nets
pub numbered-nets : {ms : List ℕ} {base b n first : ℕ} {before after : List ℕ} → Numbered ms base b n first before after
    → first + n ≤ 1024 → Nets 1024 before → Nets 1024 after
numbered-nets {ms} {base} {b} {n} {first} {before} {after} w h p k l =
    ⊎_elim
    (λ (t : ltb k base ≡ true). rw (w.leaves k (ltb-true k base t)) (p k l))
    (λ (t : ltb k base ≡ false).
    let q = ltb-false k base t in
    let i = k - base in
    let e : base + i ≡ k = omega arith in
    let kept : (i < n → get_or ms (base + i) 0 ≡ b → ⊥) → get_or after k 0 < 1024 =
    λ d. rw (ap (λ (x : ℕ). get_or after x 0) (sym e) ∙ w.others i d ∙ ap (λ (x : ℕ). get_or before x 0) e) (p k l) in
    ⊎_elim
    (λ (u : ltb i n ≡ true).
    let v = ltb-true i n u in
    ⊎_elim
    (λ (m : eqb (get_or ms (base + i) 0) b ≡ true).
    rw (ap (λ (x : ℕ). get_or after x 0) (sym e) ∙ w.numbers i v (eqb-true (get_or ms (base + i) 0) b m))
    (omega (arith, indices_with-most ms base b i)))
    (λ (m : eqb (get_or ms (base + i) 0) b ≡ false). kept (λ x. eqb-false (get_or ms (base + i) 0) b m))
    (true-or-false (eqb (get_or ms (base + i) 0) b)))
    (λ (u : ltb i n ≡ false). kept (λ x. let f : ⊥ = omega (arith, ltb-false i n u) in absurd f))
    (true-or-false (ltb i n)))
    (true-or-false (ltb k base))

-- the more gates, the more have the mark
indices_with-le : (ms : List ℕ) (base b i n : ℕ) → i ≤ n → length (indices_with ms base b i) ≤ length (indices_with ms base b n)
unfolding indices_with
indices_with-le ms base b i n h =
    let p = has ms base b in
    let m : i + (n - i) ≡ n = omega arith in
    let e : keep p (up_from 0 n) ≡ keep p (up_from 0 i) ++ keep p (up_from (0 + i) (n - i)) =
    ap (λ (k : ℕ). keep p (up_from 0 k)) (sym m)
    ∙ ap (keep p) (up_from-append 0 i (n - i))
    ∙ keep_append p (up_from 0 i) (up_from (0 + i) (n - i)) in
    omega (arith, ap length e, length-append (keep p (up_from 0 i)) (keep p (up_from (0 + i) (n - i))))

-- ---- gates at their new numbers

pub below-fields : (n x : ℕ) → Below 1024 (fields n x)
unfolding fields
below-fields zero x i = omega arith
below-fields (suc n) x zero = omega arith
below-fields (suc n) x (suc i) = below-fields n (x / 1024) i

take-min : (n : ℕ) (xs : List ℕ) → length xs ≡ 4 → (take (min 4 n) xs ≡ take n xs) × (drop (min 4 n) xs ≡ drop n xs)
take-min n xs h =
    ⊎_elim
    (λ (t : ltb n 4 ≡ true).
    let l = ltb-true n 4 t in
    let e : min 4 n ≡ n = omega arith in
    (ap (λ (k : ℕ). take k xs) e, ap (λ (k : ℕ). drop k xs) e))
    (λ (t : ltb n 4 ≡ false).
    let l = ltb-false n 4 t in
    let e : min 4 n ≡ 4 = omega arith in (
      ap (λ (k : ℕ). take k xs) e ∙ take_all 4 xs (omega arith) ∙ sym (take_all n xs (omega arith)),
      ap (λ (k : ℕ). drop k xs) e ∙ drop_all 4 xs (omega arith) ∙ sym (drop_all n xs (omega arith)),
    ))
    (true-or-false (ltb n 4))

-- the gate in the number c, its used slots at their new numbers
pub moved-packed : (ns : List ℕ) (c d : ℕ)
    → packed d (gate_with (kind_of c) (count_of c) (mapped (λ o. get_or ns o 0) (min 4 (count_of c)) (fields 4 (c / 131072))))
    ≡ packed d (moved ns (gate_in c))
unfolding moved gate_in operands unused fields net_at
moved-packed ns c d =
    let t = take-min (count_of c) (fields 4 (c / 131072)) refl in
    rw (t.0, t.1)

-- ---- the loop that numbers and puts them

-- what an old side keeps, and how long its array of gates is
pub record OldHeld (o : OldSide) : Type 0 where
  pub inputs : o.inputs ≤ 20
  pub targets : o.targets ≤ 4
  pub count : o.count ≤ 400
  pub long : length o.gates ≡ 800
  pub good : gates_good (old_base o) (old_gates o) ≡ true
  pub marks : (i : ℕ) → i < old_base o + o.count
      → get_or o.marks i 0 ≡ net_at (fanout o.inputs o.targets (old_gates o)) i

pub old-held : (o : OldSide) → length o.gates ≡ 800 → OldHeld o
old-held o l =
    record { inputs = o.inputs_bound; targets = o.targets_bound; count = o.count_bound; long = l; good = o.good; marks = o.led }

module _ (o : OldSide) (h : OldHeld o) where
  pub length-old : length (old_gates o) ≡ o.count
  length-old =
      length-map (take o.count o.gates) gate_in ∙ length-take-le o.count o.gates (omega (arith, h.count, h.long))

  pub gate-at : (i : ℕ) → i < o.count → get_or (old_gates o) i no_gate ≡ gate_in (get_or o.gates i 0)
  unfolding gate_in fields gate_of
  gate-at i l =
      get_or-map gate_in (take o.count o.gates) i 0 ∙ ap gate_in (get_or-take o.count o.gates i 0 l)

moved_from-snoc : (gs : List Gate) (ns is : List ℕ) (i : ℕ)
    → moved_from gs ns (is ++ (i ∷ [])) ≡ moved_from gs ns is ++ (moved ns (get_or gs i no_gate) ∷ [])
unfolding moved_from
moved_from-snoc gs ns is i = map-append (λ k. moved ns (get_or gs k no_gate)) is (i ∷ [])

pub length-moved_from : (gs : List Gate) (ns ks : List ℕ) → length (moved_from gs ns ks) ≡ length ks
unfolding moved_from
length-moved_from gs ns ks = length-map ks _

-- numbers that agree on a gate's operands move it alike
pub moved-agree : (ns ns' : List ℕ) (g : Gate) → ((i : ℕ) → Mem i (operands g) → get_or ns i 0 ≡ net_at ns' i)
    → moved ns g ≡ moved ns' g
unfolding moved net_at
moved-agree ns ns' g h =
    ap (λ (l : List ℕ). gate_with g.kind g.count (l ++ unused g)) (map-agree (net_at ns) (net_at ns') (operands g) h)

-- the gates with mark b among the first i of the old ones have their numbers in ns, and stand behind the first r₀ gates: r in all
pub record Placing (ms codes : List ℕ) (base many n b : ℕ) (ns₀ cs₀ : List ℕ) (r₀ i : ℕ) (ns cs : List ℕ) (r : ℕ) : Type 0 where
  pub most : i ≤ many
  pub numbered : Numbered ms base b i (n + r₀) ns₀ ns
  pub gates : GatesPut n r₀ cs₀ (moved_from (unpacked many codes) ns (indices_with ms base b i)) r cs

module _ (o : OldSide) (b : ℕ) (new : NewSide) where
  abbrev pub PlacingOf : ℕ → List ℕ → List ℕ → ℕ → Type 0
  PlacingOf i ns cs r =
      Placing o.marks o.gates (old_base o) o.count o.inputs b new.numbers new.gates new.count i ns cs r

  abbrev indices : ℕ → List ℕ
  indices i = indices_with o.marks (old_base o) b i

  pub placing-none : PlacingOf 0 new.numbers new.gates new.count
  unfolding moved_from indices_with up_from keep packed_from
  placing-none =
      record {
        most = omega arith;
        numbered = numbered-none _ _ _ _ _;
        gates = record { end = sym (add-zero _); gates = sym (append-nil _); long = refl };
      }

  module _ {i r : ℕ} {ns cs : List ℕ} (w : PlacingOf i ns cs r) where
    placing-count : r ≡ new.count + length (indices i)
    placing-count = omega (arith, w.gates.end, length-moved_from (old_gates o) ns (indices i))

    pub placing-skip : i < o.count → (get_or o.marks (old_base o + i) 0 ≡ b → ⊥) → PlacingOf (i + 1) ns cs r
    placing-skip l m =
        record {
          most = omega arith;
          numbered = numbered-skip _ _ _ _ _ _ _ w.numbered m;
          gates = gates-put-same w.gates (ap (moved_from (old_gates o) ns) (sym (indices_with-skip o.marks (old_base o) b i m)));
        }

    pub placing-all : o.count ≤ i → MarkedPlaced o b new (record { count = r; numbers = ns; gates = cs })
    placing-all l =
        let e : i ≡ o.count = omega (arith, w.most) in
        record { numbered = rw e at w.numbered; gates = rw e at w.gates }

    module _ (h : OldHeld o) (l : i < o.count) (m : get_or o.marks (old_base o + i) 0 ≡ b) where
      -- the number of gate i
      abbrev put : List ℕ
      put = set ns (old_base o + i) (o.inputs + r)

      -- .. has no say in the gates before it
      moved-kept : moved_from (old_gates o) ns (indices i) ≡ moved_from (old_gates o) put (indices i)
      unfolding moved_from indices_with net_at
      moved-kept =
          map-agree _ _ (indices i)
          (λ k t.
          let p = (mem_below i k).0 ((mem-keep (has o.marks (old_base o) b) (up_from 0 i) k).0 t).0 in
          let g = get_or (old_gates o) k no_gate in
          let e = good-at (old_base o) (old_gates o) h.good k (omega (arith, length-old o h)) in
          moved-agree ns put g
          (λ x y.
          let q =
          ltb-true x (old_base o + k)
          (all_true (λ z. ltb z (old_base o + k)) (operands g) (gate_good-parts (old_base o + k) g e).0 x y) in
          sym (get_or-set_other ns (old_base o + i) x (o.inputs + r) 0 (λ z. omega arith))))

      -- there is room for one more where there is room for all
      pub placing-room : GateRoom o.inputs (new.count + length (with_mark o b)) new.gates → GateRoom o.inputs (r + 1) cs
      placing-room v =
          let k = length-append (indices i) (i ∷ []) in
          let n = ap length (indices_with-next o.marks (old_base o) b i m) in
          let u = indices_with-le o.marks (old_base o) b (i + 1) o.count (omega arith) in
          room-less (room-kept v w.gates) (omega (arith, placing-count))

      placing-number : length new.numbers ≡ 1024
          → Numbered o.marks (old_base o) b (i + 1) (o.inputs + new.count) new.numbers put
      placing-number v =
          numbered_next _ _ _ _ _ _ _ w.numbered m (omega (arith, h.inputs, h.targets, h.count)) (omega (arith, placing-count))

      pub placing-nets : length new.numbers ≡ 1024 → new.count ≤ 400 → Nets 1024 new.numbers → Nets 1024 put
      placing-nets v f p = numbered-nets (placing-number v) (omega (arith, h.inputs, h.count)) p

      pub placing-next : length new.numbers ≡ 1024 → GateRoom o.inputs (new.count + length (with_mark o b)) new.gates
          → {c : ℕ} → c ≡ packed (o.inputs + r) (moved put (gate_in (get_or o.gates i 0))) → PlacingOf (i + 1) put (set cs r c) (r + 1)
      placing-next v f {c} e =
          let g = gate_in (get_or o.gates i 0) in
          let one : GatesPut o.inputs r cs (moved put g ∷ []) (r + 1) (set cs r c) =
          rw e (gates-put-one o.inputs r cs (placing-room f) (moved put g)) in
          let z : moved_from (old_gates o) ns (indices i) ++ (moved put g ∷ []) ≡ moved_from (old_gates o) put (indices (i + 1)) =
          ap (λ (q : List Gate). q ++ (moved put g ∷ [])) moved-kept
          ∙ ap (λ (q : Gate). moved_from (old_gates o) put (indices i) ++ (moved put q ∷ [])) (sym (gate-at o h i l))
          ∙ sym (moved_from-snoc (old_gates o) put (indices i) i)
          ∙ ap (moved_from (old_gates o) put) (sym (indices_with-next o.marks (old_base o) b i m)) in
          record {
            most = omega arith;
            numbered = placing-number v;
            gates = gates-put-same (gates-put-append w.gates one) z;
          }

-- ---- the trees

-- nets at their numbers are nets
pub moved-nets : (ns is : List ℕ) {js : List ℕ} → js ≡ map (λ o. get_or ns o 0) is → Below 1024 is → Nets 1024 ns → Below 1024 js
moved-nets ns is e p q = rw e (below-map 1024 (λ o. get_or ns o 0) is (omega arith) (λ i h. q (get_or is i 0) (p i)))

pub trees-placed : (n m : ℕ) (nets : List ℕ) (a b : NewSide) {tb js : List ℕ} → length tb ≡ 2 ^ length nets
    → js ≡ map (λ o. get_or a.numbers o 0) nets → TreesPut m (length js) n js tb a.count a.numbers a.gates b.count b.numbers b.gates
    → TreesPlaced n m nets tb a b
trees-placed n m nets a b {tb} {js} l e w =
    let f : ℕ → ℕ = λ o. get_or a.numbers o 0 in
    let i : length js ≡ length nets = ap length e ∙ length-map nets f in
    let x : take (length js) js ≡ map f nets = take-length js ∙ e in
    let t : take (2 ^ length js) tb ≡ tb = take_all (2 ^ length js) tb (omega (arith, l, ap (λ (k : ℕ). 2 ^ k) i)) in
    record { gates = rw (x, t) at w.gates; nets = rw (x, t) at w.nets }
