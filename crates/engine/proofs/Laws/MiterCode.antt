-- Laws of the code that makes a miter (src/miter.rt): gates put one after the other, nets shifted, and the struct. Assumes nothing.
use Prim.Native.Nat.{ℕ, suc, ◌+◌, ◌≤◌, ◌<◌}
use mathlib.Core.Path.{◌≡◌, refl, sym, ◌∙◌, ap}
use mathlib.Core.List.{List, [], ◌∷◌, ◌++◌, map, map-append}
use mathlib.Core.Bool.{Bool, true, false, cond}
use native.Mathlib.Nat.{add-zero}
use native.Mathlib.Numerals.{add-one}
use native.Mathlib.Omega.{arith}
use lib.Dec.{eqb, ltb}
use lib.ListN.{length, get_or, take, drop, set, length-append, length-map, take-append-drop, get_or-map}
use borrow.Rule.Slice.PartMut.{put_mid}
use Rattle.std.proofs.lemmas.Slice.{take-put_mid}
use lib.Seq.{take_at, take-suc, take-suc-set, get_or-take, length-take-le}
use Rattle.records.specs.Bytes.{all}
use Rattle.records.specs.Gate.{Gate, gate_of, operands, unused}
use Rattle.records.specs.Job.{Job}
use Rattle.records.specs.Refusal.{gate_good, gates_good, old_nets, golden_nets}
use Rattle.records.specs.Service.{struct_slots, gate_from, gates_in, no_gate, counts_of, side_counts_of}
use Rattle.records.specs.Claims.{Below}
use Rattle.records.specs.Inner.{Within}
use Rattle.records.specs.Parts.{PartsOf}
use Rattle.records.specs.declared.gate.Gate.{Gate as GateStruct}
use Rattle.records.specs.declared.job.Counts.{Counts}
use Rattle.records.specs.declared.loading.JobParts.{JobParts}
use Rattle.records.proofs.Laws.Gate.{gate_good-kind, gate_good-count, slots-le}
use Rattle.records.proofs.Laws.Job.{length-gates_in}
use Rattle.engine.specs.Inner.Packed.{gate_with, packed, packed_from, formed}
use Rattle.engine.specs.Inner.Miter.{shift_of, miter_gates, miter_goldens, codes}
use Rattle.engine.specs.Inner.Shifted.{shifted_net, shifted, GatesFit}
use Rattle.engine.proofs.Laws.Choice.{all_append, all_get_d}
use Rattle.engine.proofs.Laws.FitGates.{good-at}
use Rattle.engine.proofs.Laws.FitNets.{old-good}
use Rattle.engine.proofs.Laws.Miter.{shifted_net-lt, job-within, golden-good, length-miter_gates, outputs-equal, old-outputs-below, golden-outputs-below}
use Rattle.engine.proofs.Laws.InPlace.{mapped, mapped-below}

-- ---- one gate

-- a shifted net fits where its number with the shift added does
pub net-lt : (n s i : ℕ) {v : ℕ} → v ≡ shifted_net n s i → i + s < 1024 → v < 1024
net-lt n s i e h = omega (arith, shifted_net-lt n s (suc i) i (omega arith))

-- the shifted net too
pub shifted-below : (n s : ℕ) (xs : List ℕ) → ((i : ℕ) → get_or xs i 0 + s < 1024) → (k : ℕ) → Below 1024 (mapped (shifted_net n s) k xs)
shifted-below n s xs h k =
    mapped-below (shifted_net n s) 1024 k xs (λ i. omega (arith, h i)) (λ i. net-lt n s (get_or xs i 0) refl (h i))

-- the shifted gate, packed
pub packed-shifted : (g : GateStruct) (d n s : ℕ) {ss : List ℕ} {r : ℕ}
    → ss ≡ map (shifted_net n s) (take g.count (struct_slots g)) ++ drop g.count (struct_slots g)
    → r ≡ packed d (gate_with g.kind g.count ss) → r ≡ packed d (shifted n s (gate_from g))
unfolding shifted operands unused gate_from gate_of struct_slots
packed-shifted g d n s e q = q ∙ ap (λ (l : List ℕ). packed d (gate_with g.kind g.count l)) e

-- ---- gates one after the other

pub packed_from-append : (d : ℕ) (gs hs : List Gate)
    → packed_from d (gs ++ hs) ≡ packed_from d gs ++ packed_from (d + length gs) hs
unfolding packed_from
packed_from-append d [] hs = rw add-zero
packed_from-append d (g ∷ gs) hs =
    let e : suc d + length gs ≡ d + suc (length gs) = omega arith in
    ap (λ (l : List ℕ). packed d g ∷ l)
    (packed_from-append (suc d) gs hs ∙ ap (λ (k : ℕ). packed_from (suc d) gs ++ packed_from k hs) e)

pub length-packed_from : (d : ℕ) (gs : List Gate) → length (packed_from d gs) ≡ length gs
unfolding packed_from
length-packed_from d [] = refl
length-packed_from d (g ∷ gs) = ap suc (length-packed_from (suc d) gs)

structs-snoc : (gs : List GateStruct) (i : ℕ) → i < length gs
    → map gate_from (take (i + 1) gs) ≡ map gate_from (take i gs) ++ (gate_from (get_or gs i no_gate) ∷ [])
structs-snoc gs i h =
    ap (λ (k : ℕ). map gate_from (take k gs)) (add-one i)
    ∙ ap (map gate_from) (take-suc gs i no_gate h)
    ∙ map-append gate_from (take i gs) (get_or gs i no_gate ∷ [])

-- how many numbers they are
pub length-codes : (gs : List GateStruct) (k n s base : ℕ) → k ≤ length gs → length (packed_from base (map (shifted n s) (map gate_from (take k gs)))) ≡ k
length-codes gs k n s base h =
    let g = map gate_from (take k gs) in
    length-packed_from base (map (shifted n s) g) ∙ length-map g (shifted n s) ∙ length-map (take k gs) gate_from ∙ length-take-le k gs h

-- numbers put behind others
pub put-behind : (xs ys zs : List ℕ) (a b k : ℕ) → length xs ≡ a → length ys ≡ b → take (a + b) (put_mid a k (xs ++ zs) ys) ≡ xs ++ ys
put-behind xs ys zs a b k e f =
    take-put_mid a k (xs ++ zs) ys (a + b) (omega arith) (omega (arith, length-append xs zs))
    ∙ ap (λ (l : List ℕ). l ++ ys) (take_at xs zs a e)

-- the loop that puts gates: what stands in the first i places, and the turn at place i
module _ (gs : List GateStruct) (n s base : ℕ) where
  abbrev pub Putting : ℕ → List ℕ → Type 0
  Putting i out = take i out ≡ packed_from base (map (shifted n s) (map gate_from (take i gs)))

  pub putting-next : (i v : ℕ) (out : List ℕ) → i < length gs → i < length out → Putting i out
      → v ≡ packed (base + i) (shifted n s (gate_from (get_or gs i no_gate))) → Putting (i + 1) (set out i v)
  unfolding packed_from
  putting-next i v out h l p q =
      let f : Gate → Gate = shifted n s in
      let g : Gate = gate_from (get_or gs i no_gate) in
      let xs : List Gate = map f (map gate_from (take i gs)) in
      let e : length xs ≡ i =
      length-map (map gate_from (take i gs)) f ∙ length-map (take i gs) gate_from ∙ length-take-le i gs (omega arith) in
      ap (λ (k : ℕ). take k (set out i v)) (add-one i)
      ∙ take-suc-set out i v l
      ∙ ap (λ (ys : List ℕ). ys ++ (v ∷ [])) p
      ∙ ap (λ (k : ℕ). packed_from base xs ++ (k ∷ [])) q
      ∙ ap (λ (k : ℕ). packed_from base xs ++ (packed (base + k) (f g) ∷ [])) (sym e)
      ∙ sym (packed_from-append base xs (f g ∷ []))
      ∙ ap (packed_from base) (sym (ap (map f) (structs-snoc gs i h) ∙ map-append f (map gate_from (take i gs)) (g ∷ [])))

-- ---- no shift

shifted_net-none : (n i : ℕ) → shifted_net n 0 i ≡ i
unfolding shifted_net
shifted_net-none n i = go (ltb i n)
  where
    go : (b : Bool) → cond b i (i + 0) ≡ i
    go true = refl
    go false = add-zero i

map-shifted_net-none : (n : ℕ) (is : List ℕ) → map (shifted_net n 0) is ≡ is
map-shifted_net-none n [] = refl
map-shifted_net-none n (i ∷ is) = rw (shifted_net-none n i, map-shifted_net-none n is)

-- gates that are shifted by nothing stay
pub shifted_none : (n : ℕ) (g : Gate) → shifted n 0 g ≡ g
unfolding shifted operands unused
shifted_none n g =
    ap (gate_with g.kind g.count)
    (ap (λ (l : List ℕ). l ++ drop g.count g.slots) (map-shifted_net-none n (take g.count g.slots))
    ∙ take-append-drop g.count g.slots)

map-shifted-none : (n : ℕ) (gs : List Gate) → map (shifted n 0) gs ≡ gs
map-shifted-none n [] = refl
map-shifted-none n (g ∷ gs) = rw (shifted_none n g, map-shifted-none n gs)

-- ---- slots

-- .. has as many slots as before
pub formed-mapped : (f : ℕ → ℕ) (g : Gate) → formed (gate_with g.kind g.count (map f (operands g) ++ unused g)) ≡ formed g
unfolding formed operands unused
formed-mapped f g =
    let k = g.count in
    let xs = take k g.slots in
    let e : length (map f xs ++ drop k g.slots) ≡ length g.slots =
    length-append (map f xs) (drop k g.slots)
    ∙ ap (λ (i : ℕ). i + length (drop k g.slots)) (length-map xs f)
    ∙ sym (length-append xs (drop k g.slots))
    ∙ ap length (take-append-drop k g.slots) in
    ap (λ (i : ℕ). eqb i 4) e

formed-shifted : (n s : ℕ) (g : Gate) → formed (shifted n s g) ≡ formed g
unfolding shifted
formed-shifted n s g = formed-mapped (shifted_net n s) g

formed-map : (n s : ℕ) (gs : List Gate) → all formed (map (shifted n s) gs) ≡ all formed gs
unfolding all
formed-map n s [] = refl
formed-map n s (g ∷ gs) = rw (formed-shifted n s g, formed-map n s gs)

formed-structs : (gs : List GateStruct) → all formed (map gate_from gs) ≡ true
unfolding all formed gate_from gate_of
formed-structs [] = refl
formed-structs (g ∷ gs) = formed-structs gs

formed-in : (k : ℕ) (gs : List GateStruct) → all formed (gates_in k gs) ≡ true
unfolding gates_in
formed-in k gs = formed-structs (take k gs)

-- ---- what the two loops ask

get_or-gates_in : (k : ℕ) (gs : List GateStruct) (i : ℕ) → i < k → get_or (gates_in k gs) i (gate_of 0 0 0 0 0 0) ≡ gate_from (get_or gs i no_gate)
unfolding gates_in gate_from no_gate
get_or-gates_in k gs i h = get_or-map gate_from (take k gs) i no_gate ∙ ap gate_from (get_or-take k gs i no_gate h)

-- good gates fit where their nets do
structs-fit : (gs : List GateStruct) (k net s : ℕ) {base : ℕ} → k ≤ length gs → gates_good net (gates_in k gs) ≡ true
    → net + k + s ≤ 1024 → base + k ≤ 1024 → GatesFit (take k gs) s base
unfolding gate_from gate_of struct_slots
structs-fit gs k net s h good room nets =
    let long = length-take-le k gs h in
    record {
      nets = omega arith;
      gates =
          λ i l.
          let g : GateStruct = get_or gs i no_gate in
          let m : i < k = omega arith in
          let e : gate_good (net + i) (gate_from g) ≡ true =
          rw (get_or-gates_in k gs i m) at (good-at net (gates_in k gs) good i (omega (arith, length-gates_in k gs h))) in
          rw (get_or-take k gs i no_gate m)
          (record {
            kind = gate_good-kind (net + i) (gate_from g) e;
            count = gate_good-count (net + i) (gate_from g) e;
            slots = λ n. omega (arith, slots-le (net + i) (gate_from g) e n);
          });
    }

-- nets below a bound fit where it does
nets-fit : (is os : List ℕ) (k s bound : ℕ) → k ≤ length is → take k is ≡ os → all (λ i. ltb i bound) os ≡ true
    → bound + s ≤ 1024 → k ≤ 32 → (length (take k is) ≤ 32) × ((i : ℕ) → i < length (take k is) → get_or (take k is) i 0 + s < 1024)
nets-fit is os k s bound h e below room few =
    let a : all (λ i. ltb i bound) (take k is) ≡ true = rw e below in
    (omega (arith, length-take-le k is h), λ i l. omega (arith, all_get_d bound (take k is) a i l))

-- ---- a good job's parts

module _ {p : JobParts} {j : Job} (q : PartsOf j p) where
  abbrev counts : Counts
  counts = p.counts

  pub parts_within : Within counts
  parts_within = rw q.counts (job-within j q.good)

  pub old-fit : GatesFit (take counts.old.gates p.old) 0 (counts.inputs + counts.targets)
  unfolding counts_of side_counts_of
  old-fit =
      let w = parts_within in
      let g : gates_good (counts.inputs + counts.targets) (gates_in counts.old.gates p.old) ≡ true =
      rw (q.counts, q.old) (old-good j q.good.gates) in
      structs-fit p.old counts.old.gates (counts.inputs + counts.targets) 0 (omega (arith, w.old.gates, q.old-long)) g
      (omega (arith, w.inputs, w.targets, w.old.gates))
      (omega (arith, w.inputs, w.targets))

  pub golden-fit : GatesFit (take counts.golden.gates p.golden) (counts.targets + counts.old.gates)
      (counts.inputs + counts.targets + counts.old.gates)
  unfolding counts_of side_counts_of
  golden-fit =
      let w = parts_within in
      let g : gates_good counts.inputs (gates_in counts.golden.gates p.golden) ≡ true =
      rw (q.counts, q.golden) (golden-good j q.good) in
      structs-fit p.golden counts.golden.gates counts.inputs (counts.targets + counts.old.gates)
      (omega (arith, w.golden.gates, q.golden-long))
      g
      (omega (arith, w.inputs, w.targets, w.old.gates, w.golden.gates))
      (omega (arith, w.inputs, w.targets, w.old.gates, w.golden.gates))

  old-nets : old_nets j ≡ counts.inputs + counts.targets + counts.old.gates
  unfolding old_nets counts_of side_counts_of
  old-nets = rw q.counts

  golden-nets : golden_nets j ≡ counts.inputs + counts.golden.gates
  unfolding golden_nets counts_of side_counts_of
  golden-nets = rw q.counts

  -- the nets xs may be shifted by s
  abbrev NetsFit : List ℕ → ℕ → Type 0
  NetsFit xs s = (length xs ≤ 32) × ((i : ℕ) → i < length xs → get_or xs i 0 + s < 1024)

  pub outputs-fit : NetsFit (take counts.old.outputs p.outputs) 0
  unfolding counts_of side_counts_of
  outputs-fit =
      let w = parts_within in
      let e : take counts.old.outputs p.outputs ≡ j.old.outputs = rw q.counts q.outputs in
      nets-fit p.outputs j.old.outputs counts.old.outputs 0 (old_nets j) (omega (arith, w.old.outputs, q.outputs-long)) e
      (old-outputs-below j q.good)
      (omega (arith, old-nets, w.inputs, w.targets, w.old.gates))
      w.old.outputs

  pub goldens-fit : NetsFit (take counts.old.outputs p.goldens) (counts.targets + counts.old.gates)
  unfolding counts_of side_counts_of
  goldens-fit =
      let w = parts_within in
      let e : take counts.old.outputs p.goldens ≡ j.golden.outputs = rw (q.counts, outputs-equal j q.good) q.goldens in
      nets-fit p.goldens j.golden.outputs counts.old.outputs (counts.targets + counts.old.gates) (golden_nets j)
      (omega (arith, w.old.outputs, q.goldens-long))
      e
      (golden-outputs-below j q.good)
      (omega (arith, golden-nets, w.inputs, w.targets, w.old.gates, w.golden.gates))
      w.old.outputs

-- ---- the struct

module _ {p : JobParts} {j : Job} (q : PartsOf j p) where
  pub made-forms : all formed (miter_gates j) ≡ true
  unfolding miter_gates
  made-forms =
      let a : all formed j.old.gates ≡ true = rw q.old at (formed-in (length j.old.gates) p.old) in
      let b : all formed j.golden.gates ≡ true = rw q.golden at (formed-in (length j.golden.gates) p.golden) in
      all_append formed j.old.gates (map (shifted j.inputs (shift_of j)) j.golden.gates) a
      (formed-map j.inputs (shift_of j) j.golden.gates ∙ b)

  pub made-count : p.counts.old.gates + p.counts.golden.gates ≡ length (miter_gates j)
  unfolding counts_of side_counts_of
  made-count = rw q.counts (sym (length-miter_gates j))

  -- the gates of both sides, one behind the other
  pub made-codes : (gates : List ℕ)
      → take (p.counts.old.gates + p.counts.golden.gates) gates
      ≡ packed_from (p.counts.inputs + p.counts.targets) (map (shifted p.counts.inputs 0) (map gate_from (take p.counts.old.gates p.old)))
      ++ packed_from (p.counts.inputs + p.counts.targets + p.counts.old.gates)
      (map (shifted p.counts.inputs (p.counts.targets + p.counts.old.gates)) (map gate_from (take p.counts.golden.gates p.golden)))
      → take (p.counts.old.gates + p.counts.golden.gates) gates ≡ codes j
  unfolding counts_of side_counts_of codes miter_gates shift_of gates_in
  made-codes gates e =
      let n = j.inputs in
      let base = j.inputs + j.targets in
      let a = length j.old.gates in
      let s = j.targets + a in
      let x : take (a + length j.golden.gates) gates
      ≡ packed_from base (map (shifted n 0) (gates_in a p.old))
      ++ packed_from (base + a) (map (shifted n s) (gates_in (length j.golden.gates) p.golden)) = rw q.counts at e in
      rw q.counts
      (x
      ∙ ap (λ (gs : List Gate). packed_from base gs ++ packed_from (base + a) (map (shifted n s) (gates_in (length j.golden.gates) p.golden)))
      (ap (map (shifted n 0)) q.old ∙ map-shifted-none n j.old.gates)
      ∙ ap (λ (gs : List Gate). packed_from base j.old.gates ++ packed_from (base + a) (map (shifted n s) gs)) q.golden
      ∙ sym (packed_from-append base j.old.gates (map (shifted n s) j.golden.gates)))

  pub made-outputs : (os : List ℕ)
      → take p.counts.old.outputs os ≡ map (shifted_net p.counts.inputs 0) (take p.counts.old.outputs p.outputs)
      → take p.counts.old.outputs os ≡ j.old.outputs
  unfolding counts_of side_counts_of
  made-outputs os e =
      let k = length j.old.outputs in
      let x : take k os ≡ map (shifted_net j.inputs 0) (take k p.outputs) = rw q.counts at e in
      rw q.counts (x ∙ map-shifted_net-none j.inputs (take k p.outputs) ∙ q.outputs)

  pub made-goldens : (gos : List ℕ)
      → take p.counts.old.outputs gos
      ≡ map (shifted_net p.counts.inputs (p.counts.targets + p.counts.old.gates)) (take p.counts.old.outputs p.goldens)
      → take p.counts.old.outputs gos ≡ miter_goldens j
  unfolding counts_of side_counts_of miter_goldens shift_of
  made-goldens gos e =
      let k = length j.old.outputs in
      let s = j.targets + length j.old.gates in
      let x : take k gos ≡ map (shifted_net j.inputs s) (take k p.goldens) = rw q.counts at e in
      rw q.counts
      (x
      ∙ ap (λ (i : ℕ). map (shifted_net j.inputs s) (take i p.goldens)) (outputs-equal j q.good)
      ∙ ap (map (shifted_net j.inputs s)) q.goldens)
