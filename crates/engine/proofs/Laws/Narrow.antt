-- Laws of words that have a net's values at all of 64 inputs: one gate more, the leaves, the values of all nets, rows and readings.
-- Assumes nothing.
use Prim.Native.Nat.{ℕ, zero, suc, ◌+◌, ◌-◌, ◌*◌, ◌%◌, ◌^◌, ◌≤◌, ◌<◌}
use mathlib.Core.Path.{◌≡◌, refl, sym, ◌∙◌, ap, subst}
use mathlib.Core.Logic.{inl, inr, ⊎_elim}
use mathlib.Core.List.{List, [], ◌∷◌, map}
use mathlib.Core.Bool.{Bool, true, false, cond, ◌&&◌}
use native.Mathlib.Nat.{eq-zero-or-pos}
use native.Mathlib.Omega.{arith}
use borrow.Author.Tests.{ltb-true, ltb-false, lt-ltb, le-ltb}
use lib.Dec.{ltb, lit<}
use lib.Bits.{bit_xor}
use lib.ListN.{length, get_or, set, take, drop, replicate, length-set, length-map, get_or-map}
use lib.Pow.{pow_pos, pow_mono}
use lib.Seq.{take-length, get_or-set_same, get_or-set_other}
use Rattle.records.specs.Bytes.{all}
use Rattle.records.specs.Netlist.{net_at}
use Rattle.records.specs.Job.{Job}
use Rattle.records.specs.Claims.{PartsGood}
use Rattle.records.specs.Refusal.{candidate_good}
use Rattle.engine.specs.Choice.{same}
use Rattle.engine.specs.Eval.{bit, number_of}
use Rattle.engine.specs.Rectify.{rectifies}
use Rattle.engine.specs.Support.{reading, candidate_nets}
use Rattle.engine.specs.Inner.Imply.{Binary}
use Rattle.engine.specs.Inner.Packed.{own, operands_of, operation, inverts, folded, packed_from, code_value, evaluated}
use Rattle.engine.specs.Inner.Kernel.{applied, row_value, NetSet}
use Rattle.engine.specs.Inner.Masks.{rectifiers, ordered}
use Rattle.engine.specs.Inner.Miter.{MergedOf}
use Rattle.engine.specs.Inner.List.{listed_of, listed_from, start_list}
use Rattle.engine.specs.Inner.Note.{sets_from, gathered, filled, ListNoted}
use Rattle.engine.specs.Inner.Search.{SetsTo, BlockRange}
use Rattle.engine.specs.Inner.Guess.{ListTo}
use Rattle.engine.specs.declared.list.Vectors.{Vectors}
use Rattle.engine.specs.Inner.Narrow.{values_at, leaf_at, LeavesLoaded, WordsRan, NarrowOf, ValuesOf, MasksOf}
use Rattle.engine.specs.declared.miter.Miter.{Miter}
use Rattle.engine.proofs.Laws.BlockRows.{agree-values, agree-reading, MasksTo, masks-none, masks-next, masks-gathered}
use Rattle.engine.proofs.Laws.Choice.{true-or-false, not-both, all-of-members}
use Rattle.engine.proofs.Laws.Eval.{bit-lt}
use Rattle.engine.proofs.Laws.Kernel.{bit-sum, bit-applied, row-replicate, left, left-all}
use Rattle.engine.proofs.Laws.Plan.{leaves_of, base, leaf-value, leaf-input, leaf-target, values_agree, free-agrees}
use Rattle.engine.proofs.Laws.PlanCode.{evaluated-next, evaluated-end}
use Rattle.engine.proofs.Laws.Run.{keep_all}
use Rattle.engine.proofs.Laws.ReadingSets.{sets_more}
use Rattle.engine.proofs.Laws.Search.{rectifies-low, rectifiers-low, reading-low, noted-sets, list-noted}
use Rattle.engine.proofs.Laws.Support.{reading-lt}
use Rattle.engine.proofs.Laws.Word.{bit-zero}

-- ---- the values of a net

pub net-bit : (words : List ℕ) (y i : ℕ) → net_at (values_at words y) i ≡ bit y (get_or words i 0)
unfolding net_at
net-bit words y i = ap (get_or (map (bit y) words) i) (sym (bit-zero y)) ∙ get_or-map (bit y) words i 0

values-binary : (words : List ℕ) (y : ℕ) → Binary (values_at words y)
unfolding net_at
values-binary words y i = omega (arith, net-bit words y i, bit-lt y (get_or words i 0))

-- ---- a gate's operands, one after the other

module _ (words : List ℕ) (c y : ℕ) where
  abbrev at : ℕ → ℕ
  at = net_at (values_at words y)

  -- the word so far, with the operands left, gives the whole
  abbrev pub WordLeft : ℕ → ℕ → List ℕ → Type 0
  WordLeft op r is = left op (operation c) (bit y r) (map at is) ≡ folded (operation c) (map at (operands_of c))

  pub word-start : WordLeft 3 0 (operands_of c)
  word-start = rw (bit-zero y) (left-all (operation c) (map at (operands_of c)))

  pub word_next : (op r x : ℕ) {w : ℕ} {is js : List ℕ} → is ≡ x ∷ js → w ≡ applied op r (get_or words x 0) → WordLeft op r is
      → WordLeft (operation c) w js
  unfolding left
  word_next op r x s e l =
      rw (e, bit-applied op y r (get_or words x 0), ← net-bit words y x) (rw s at l)

  pub word-all : (op r x : ℕ) {is : List ℕ} → is ≡ [] → bit y x ≡ inverts c → WordLeft op r is
      → bit y (bit_xor r x) ≡ code_value (values_at words y) c
  unfolding code_value left
  word-all op r x s e l = bit-sum y r x ∙ rw (e, rw s at l)

-- ---- one gate more

map-set : (f : ℕ → ℕ) (xs : List ℕ) (i x : ℕ) → map f (set xs i x) ≡ set (map f xs) i (f x)
map-set f [] i x = refl
map-set f (z ∷ xs) zero x = refl
map-set f (z ∷ xs) (suc i) x = ap (λ (l : List ℕ). f z ∷ l) (map-set f xs i x)

module _ (gates words : List ℕ) where
  pub run-next : (i r y : ℕ) → i < length gates → bit y r ≡ code_value (values_at words y) (get_or gates i 0)
      → evaluated code_value (values_at (set words (own (get_or gates i 0)) r) y) (drop (i + 1) gates)
      ≡ evaluated code_value (values_at words y) (drop i gates)
  run-next i r y l e =
      rw (map-set (bit y) words (own (get_or gates i 0)) r, e)
      (rw (take-length gates) at (evaluated-next code_value (values_at words y) gates (length gates) i (omega arith) l))

  -- no gate more
  pub run-end : (i y : ℕ) → length gates ≤ i → evaluated code_value (values_at words y) (drop i gates) ≡ values_at words y
  run-end i y l = rw (take-length gates) at (evaluated-end code_value (values_at words y) gates (length gates) i (omega arith) l)

-- ---- leaves

module _ (n v : ℕ) where
  pub leaf-of-input : (y i : ℕ) {b : ℕ} → i < n → b ≡ bit i (64 * 0 + y) → b ≡ leaf_at n v y i
  unfolding leaf_at
  leaf-of-input y i l e =
      let z : 64 * 0 + y ≡ y = omega arith in
      rw (lt-ltb i n l) (e ∙ ap (bit i) z)

  pub leaf-of-target : (y i : ℕ) {b : ℕ} → n ≤ i → b ≡ bit (i - n) v → b ≡ leaf_at n v y i
  unfolding leaf_at
  leaf-of-target y i l e = rw (le-ltb i n l) e

  pub loaded-none : (words : List ℕ) → LeavesLoaded n v 0 words words
  loaded-none words = record { long = refl; leaves = λ y i h l. let z : ⊥ = omega arith in absurd z }

  pub loaded-next : (k x : ℕ) {before words : List ℕ} → LeavesLoaded n v k before words → k < length words
      → ((y : ℕ) → y < 64 → bit y x ≡ leaf_at n v y k) → LeavesLoaded n v (k + 1) before (set words k x)
  loaded-next k x {words = words} d h e =
      record {
        long = length-set words k x ∙ d.long;
        leaves = λ y i l m.
            ⊎_elim
            (λ (z : k - i ≡ 0). let q : i ≡ k = omega arith in rw (q, get_or-set_same words k x 0 h) (e y l))
            (λ (z : 0 < k - i). ap (bit y) (get_or-set_other words k i x 0 (λ q. omega arith)) ∙ d.leaves y i l (omega arith))
            (eq-zero-or-pos (k - i));
      }

-- ---- the values of all nets

leaf-at : {n : ℕ} (j : Job) (v y i : ℕ) → n ≡ j.inputs → i < base j → leaf_at n v y i ≡ get_or (leaves_of j y v) i 0
unfolding leaf_at
leaf-at {n} j v y i e t =
    ⊎_elim
    (λ (a : ltb i n ≡ true). rw a (sym (leaf-input j y v i (omega (arith, ltb-true i n a)))))
    (λ (a : ltb i n ≡ false).
    let k : ℕ = i - n in
    let b : j.inputs + k ≡ i = omega (arith, ltb-false i n a) in
    rw a (sym (rw b at (leaf-target j y v k (omega arith)))))
    (true-or-false (ltb i n))

pub values-run : {j : Job} {n m : ℕ} {cs w₀ w₁ w₂ : List ℕ} (v : ℕ) → NarrowOf j n m cs → length w₁ ≡ 1024
    → LeavesLoaded n v (n + m) w₀ w₁ → WordsRan cs w₁ w₂ → ValuesOf j v w₂
values-run {j} {n} {m} {cs} {w₀} {w₁} {w₂} v q long d r y h =
    values_agree q.good q.same (λ i. true) (λ i. true) (λ i l e. all-of-members (λ i. true) _ (λ k o. refl))
    (values_at w₁ y)
    (values_at w₂ y)
    (length-map w₁ (bit y) ∙ long)
    (values-binary w₁ y)
    (r.values y h
    ∙ ap (evaluated code_value (values_at w₁ y))
    (q.gates ∙ sym (keep_all (λ c. true && true) (packed_from (base j) q.merged) (λ c o. refl))))
    y
    v
    (λ i l e s.
    let t : i < base j = ⊎_elim (λ o. o) (λ z. absurd (not-both refl z)) s in
    net-bit w₁ y i ∙ d.leaves y i h (omega (arith, q.inputs, q.targets)) ∙ leaf-at j v y i q.inputs t ∙ sym (leaf-value j y v i t))

pub narrow-of : {j : Job} {m : Miter} → MergedOf j m → m.inputs ≤ 6 → NarrowOf j m.inputs m.targets (take m.count m.gates)
narrow-of q h =
    record {
      good = q.good;
      few = omega (arith, q.inputs);
      inputs = q.inputs;
      targets = q.targets;
      merged = q.merged;
      same = q.same;
      gates = q.gates;
    }

-- ---- rows

here : (y : ℕ) → 1024 * 0 + y ≡ y
here y = omega arith

-- equal outputs say that the vector rectifies the input
pub word-rectifies : {j : Job} {m : Miter} (v : ℕ) (words : List ℕ) → MergedOf j m → ValuesOf j v words → (y : ℕ) → y < 64
    → same (map (net_at (values_at words y)) (take m.outs m.outputs)) (map (net_at (values_at words y)) (take m.outs m.goldens))
    ≡ rectifies j y v
word-rectifies {j} {m} v words q a y h =
    let os = take m.outs m.outputs in
    let gs = take m.outs m.goldens in
    let p = q.pairs in
    let true_of : (is : List ℕ) → all (λ i. true) is ≡ true = λ is. all-of-members (λ i. true) is (λ k o. refl) in
    rw (
      agree-values j (λ i. true) y v (values_at words y) (a y h) os p.olds (true_of os),
      agree-values j (λ i. true) y v (values_at words y) (a y h) gs p.goldens (true_of gs),
    )
    (p.equal y v)

module _ (j : Job) (few : j.inputs ≤ 6) where
  -- a word, 16 times, is a row
  pub word_row : (v r : ℕ) → ((y : ℕ) → y < 64 → bit y r ≡ cond (rectifies j y v) 1 0)
      → (y : ℕ) → y < 1024 → row_value (replicate 16 r) y ≡ cond (rectifies j (1024 * 0 + y) v) 1 0
  word_row v r e y h =
      row-replicate r y h
      ∙ e (y % 64) (omega arith)
      ∙ ap (λ (b : Bool). cond b 1 0) (sym (rectifies-low j 6 y few v) ∙ ap (λ (x : ℕ). rectifies j x v) (sym (here y)))

  -- read nets that no target leads to are the reading
  pub word-reading : (is : List ℕ) (v : ℕ) (words : List ℕ) → PartsGood j → ValuesOf j v words → all (candidate_good j) is ≡ true
      → (y : ℕ) → number_of (map (net_at (values_at words (y % 64))) is) ≡ reading j is (1024 * 0 + y)
  word-reading is v words good a f y =
      let x : ℕ = y % 64 in
      agree-reading j good is f (λ i. true) x (values_at words x)
      (free-agrees j (λ i. true) x v 0 (values_at words x) (a x (omega arith)))
      (all-of-members (λ i. true) is (λ k o. refl))
      ∙ sym (reading-low j 6 y few is)
      ∙ ap (reading j is) (sym (here y))

-- ---- the rows of the vectors taken so far, and the words at the last of them

module _ (j : Job) (m : Miter) where
  pub record WordsTo (s : ℕ) (words masks : List ℕ) : Type 0 where
    pub rows : MasksTo j 0 0 s masks
    pub values : 0 < s → (v : ℕ) × ValuesOf j v words

  pub words-none : (words : List ℕ) → WordsTo 0 words (replicate 256 0)
  words-none words =
      record { rows = masks-none j 0 0 (lit< tt) 0; values = λ h. let z : ⊥ = omega arith in absurd z }

  -- one vector more: the word r says where it rectifies the inputs
  pub words-next : (s v r : ℕ) {w w' ms ms' : List ℕ} → MergedOf j m → m.inputs ≤ 6 → s < 16 → v ≡ ordered 0 s → WordsTo s w ms → ValuesOf j v w'
      → ((y : ℕ) → y < 64 → bit y r ≡ cond (same (map (net_at (values_at w' y)) (take m.outs m.outputs))
      (map (net_at (values_at w' y)) (take m.outs m.goldens))) 1 0)
      → NetSet v (row_value (replicate 16 r)) ms ms' → WordsTo (s + 1) w' ms'
  words-next s v r {w' = w'} {ms = ms} {ms' = ms'} q few h e t a o n =
      let row = word_row j (omega (arith, q.inputs)) v r
      (λ y l. o y l ∙ ap (λ (b : Bool). cond b 1 0) (word-rectifies v w' q a y l)) in
      record {
        rows = masks-next j 0 0 (lit< tt) s (replicate 16 r) t.rows h
            (subst (λ (x : ℕ). NetSet x (row_value (replicate 16 r)) ms ms') e n)
            (λ y l. row y l ∙ ap (λ (x : ℕ). cond (rectifies j (1024 * 0 + y) x) 1 0) e);
        values = λ z. (v, a);
      }

  pub words-all : {w ms : List ℕ} → MergedOf j m → m.targets ≤ 4 → WordsTo (2 ^ m.targets) w ms → MasksOf j ms × ((v : ℕ) × ValuesOf j v w)
  words-all {w} {ms} q few t = (
    record {
      long = t.rows.long;
      sets = λ y h.
          masks-gathered j 0 0 ms (omega (arith, q.targets)) (lit< tt) (inl refl)
          (subst (λ (k : ℕ). MasksTo j 0 0 (2 ^ k) ms) q.targets t.rows) y h
          ∙ ap (rectifiers j) (here y);
    },
    t.values (pow_pos m.targets),
  )

-- ---- the list and the sets of all inputs

module _ (j : Job) (few : j.inputs ≤ 6) {masks : List ℕ} (m : MasksOf j masks) where
  sets-here : (y : ℕ) → y < 1024 → gathered masks y ≡ rectifiers j (1024 * 0 + y)
  sets-here y h = m.sets y h ∙ ap (rectifiers j) (sym (here y))

  inputs-few : 2 ^ j.inputs ≤ 64
  inputs-few = pow_mono {j = 6} few

  pub list-of-masks : {v w : Vectors} → listed_of v ≡ start_list → ListNoted masks 0 (2 ^ j.inputs) v w → ListTo j (2 ^ j.inputs) w
  unfolding listed_from
  list-of-masks {w = w} e n =
      subst (λ (x : ℕ). ListTo j x w) (here (2 ^ j.inputs))
      (list-noted j 0 (2 ^ j.inputs) (omega (arith, inputs-few)) sets-here n e)

  pub sets-of-masks : (readings ss : List ℕ) {ts : List ℕ} → j.targets ≤ 4 → length (candidate_nets j) ≤ 10
      → ((y : ℕ) → y < 1024 → gathered readings y ≡ reading j (candidate_nets j) (1024 * 0 + y))
      → SetsTo j 0 0 ss → ts ≡ sets_from (gathered masks) (λ y. gathered readings y % 1024) ss 0 (64 * 1) → SetsTo j (2 ^ j.inputs) 0 ts
  sets-of-masks readings ss {ts} t c g s e =
      let n : ℕ = 2 ^ j.inputs in
      let one : filled n ≡ 64 * 1 = omega (arith, inputs-few, pow_pos j.inputs) in
      let is = candidate_nets j in
      let range : BlockRange j.inputs 0 n =
      record { few = omega (arith, inputs-few); within = omega arith; whole = inr (refl, refl) } in
      subst (λ (x : ℕ). SetsTo j x 0 ts) (here n)
      (sets_more j t (1024 * 0) n
      (e
      ∙ ap (sets_from (gathered masks) (λ y. gathered readings y % 1024) ss 0) (sym one)
      ∙ noted-sets j is (rectifiers j) (λ x. rectifiers-low j j.inputs x (omega arith)) 0 n masks readings ss range sets-here g
      (λ x. omega (arith, reading-lt j is x, pow_mono {j = 10} c)))
      s)
