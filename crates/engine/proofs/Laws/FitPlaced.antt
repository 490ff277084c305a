-- The three groups of gates, placed one behind the other (specs/Fitting), are the gates of the patched netlist, and the numbers
-- that the nets got are their new numbers. Assumes nothing.
use Prim.Native.Nat.{ℕ, ◌+◌, ◌-◌, ◌^◌, ◌≤◌, ◌<◌}
use mathlib.Core.Path.{◌≡◌, refl, sym, ◌∙◌, ap}
use mathlib.Core.Logic.{◌⊎◌, inl, inr, ⊎_elim}
use mathlib.Core.List.Memᴰ.{head as here}
use mathlib.Core.List.Memᴰ.{tail as there}
use mathlib.Core.List.{List, [], ◌∷◌, ◌++◌, map, append-nil, Memᴰ as Mem}
use mathlib.Core.Bool.{Bool, true, false}
use native.Mathlib.Nat.{add-zero, zero-add}
use native.Mathlib.Omega.{arith}
use borrow.Author.Tests.{eq-eqb, ne_eqb, ltb-true, ltb-false, lt-ltb, le-ltb}
use lib.Dec.{eqb, ltb}
use lib.ListN.{length, get_or, take, drop, length-append, get_or-append}
use lib.Seq.{length-take-le, get_or-take, get_or-drop, get_or-append-add}
use Rattle.records.specs.Bytes.{up_from, placed}
use Rattle.records.specs.Gate.{Gate, operands}
use Rattle.records.specs.Netlist.{net_at}
use Rattle.records.specs.Job.{Job}
use Rattle.records.specs.Refusal.{gates_good, netlists_good, old_nets}
use Rattle.records.proofs.Laws.Bytes.{and_both, length-up_from}
use Rattle.engine.specs.Choice.{keep}
use Rattle.engine.specs.Fit.{led, gate_indices, rank, Trees, trees, new_free_net, new_nets, moved_gates, fitted}
use Rattle.engine.specs.Inner.Packed.{packed_from}
use Rattle.engine.specs.Inner.Tree.{Nets, GateRoom, GatesPut, trees_size, InputsNumbered}
use Rattle.engine.specs.Inner.Renumber.{old_gates, old_base, with_mark, Numbered, moved_from, MarkedPlaced, indices_with}
use Rattle.engine.specs.Inner.Fitting.{numbered_trees, TreesPlaced, old_job, side_job, Fittable, patched_count, GatesPlaced}
use Rattle.engine.specs.declared.renumber.OldSide.{OldSide}
use Rattle.engine.specs.declared.renumber.NewSide.{NewSide}
use Rattle.engine.proofs.Laws.Choice.{mem-keep, mem_below, mem-up_from, map-agree, true-or-false}
use Rattle.std.proofs.lemmas.List.{take_all}
use Rattle.records.specs.Claims.{Below}
use Rattle.engine.proofs.Laws.InPlace.{below-all}
use Rattle.engine.proofs.Laws.FitCode.{OldHeld, keep_append, up_from-append, indices_with-most, length-old, numbered-nets, length-moved_from, moved-agree}
use Rattle.engine.proofs.Laws.FitNets.{mark-cases, mark-target, old_net, old_gate, operand_below, operand-unmarked}
use Rattle.engine.proofs.Laws.FitNets.{NetCase, input, target, gate, net-case, mem-indices, mem-at}
use Rattle.engine.proofs.Laws.FitNets.{number-input, number-target, number-free, number-led, number-support}
use Rattle.engine.proofs.Laws.FitTree.{length-nets, trees-below}
use Rattle.engine.proofs.Laws.Run.{keep-ext, keep_all}
use Rattle.engine.proofs.Laws.Tree.{gates-put-append, gates-put-same, length-patch}

-- ---- keep

keep-nothing : {A : Type 0} (p : A → Bool) (xs : List A) → ((x : A) → Mem x xs → p x ≡ false) → keep p xs ≡ []
unfolding keep
keep-nothing p [] h = refl
keep-nothing p (x ∷ xs) h = rw (h x (here refl)) (keep-nothing p xs (λ y m. h y (there m)))

-- of the numbers below n with p, those below k are the numbers below k with p
keep-below : (p : ℕ → Bool) (n k : ℕ) → k ≤ n → keep (λ x. ltb x k) (keep p (up_from 0 n)) ≡ keep p (up_from 0 k)
keep-below p n k h =
    let m : k + (n - k) ≡ n = omega arith in
    let low = keep p (up_from 0 k) in
    let high = keep p (up_from (0 + k) (n - k)) in
    let e : keep p (up_from 0 n) ≡ low ++ high =
    ap (λ (i : ℕ). keep p (up_from 0 i)) (sym m)
    ∙ ap (keep p) (up_from-append 0 k (n - k))
    ∙ keep_append p (up_from 0 k) (up_from (0 + k) (n - k)) in
    ap (keep (λ x. ltb x k)) e
    ∙ keep_append (λ x. ltb x k) low high
    ∙ ap (λ (l : List ℕ). l ++ keep (λ x. ltb x k) high)
    (keep_all (λ x. ltb x k) low (λ x i. lt-ltb x k ((mem_below k x).0 ((mem-keep p (up_from 0 k) x).0 i).0)))
    ∙ ap (λ (l : List ℕ). low ++ l)
    (keep-nothing (λ x. ltb x k) high
    (λ x i. le-ltb x k (omega (arith, ((mem-up_from (0 + k) (n - k) x).0 ((mem-keep p (up_from (0 + k) (n - k)) x).0 i).0).0))))
    ∙ append-nil low

-- ---- marks, and the gates with a mark

-- what marks say of the old nets
abbrev pub MarksOf : Job → List ℕ → Type 0
MarksOf j ms = (i : ℕ) → i < old_nets j → get_or ms i 0 ≡ net_at (led j) i

module _ (j : Job) (ms : List ℕ) (f : MarksOf j ms) where
  mark-at : (k : ℕ) → k < length j.old.gates → get_or ms (old_net j k) 0 ≡ net_at (led j) (old_net j k)
  unfolding old_nets
  mark-at k h = f (old_net j k) (omega arith)

  indices_with-led : (b k : ℕ) → k ≤ length j.old.gates
      → indices_with ms (j.inputs + j.targets) b k ≡ keep (λ i. eqb (net_at (led j) (old_net j i)) b) (up_from 0 k)
  unfolding indices_with net_at
  indices_with-led b k h =
      keep-ext _ _ (up_from 0 k)
      (λ i m.
      let l = (mem_below k i).0 m in
      ap (λ (x : ℕ). eqb x b) (mark-at i (omega arith)))

  pub indices_with-indices : (b : ℕ) → indices_with ms (j.inputs + j.targets) b (length j.old.gates) ≡ gate_indices j b
  unfolding gate_indices
  indices_with-indices b = indices_with-led b (length j.old.gates) (omega arith)

  indices_with-rank : (b k : ℕ) → k ≤ length j.old.gates
      → length (indices_with ms (j.inputs + j.targets) b k) ≡ rank (gate_indices j b) k
  unfolding rank gate_indices
  indices_with-rank b k h =
      ap length
      (indices_with-led b k h ∙ sym (keep-below (λ i. eqb (net_at (led j) (old_net j i)) b) (length j.old.gates) k h))

-- each gate has one of the two marks
keep-either : (p q : ℕ → Bool) → ((x : ℕ) → ((p x ≡ true) × (q x ≡ false)) ⊎ ((p x ≡ false) × (q x ≡ true))) → (xs : List ℕ)
    → length (keep p xs) + length (keep q xs) ≡ length xs
unfolding keep
keep-either p q h [] = refl
keep-either p q h (x ∷ xs) =
    let r = keep-either p q h xs in
    ⊎_elim (λ e. rw (e.0, e.1) (omega arith)) (λ e. rw (e.0, e.1) (omega arith)) (h x)

pub indices-all : (j : Job) → length (gate_indices j 0) + length (gate_indices j 1) ≡ length j.old.gates
unfolding gate_indices
indices-all j =
    keep-either _ _
    (λ i.
    let m = net_at (led j) (old_net j i) in
    ⊎_elim
    (λ (e : m ≡ 0). inl (eq-eqb m 0 e, ne_eqb m 1 (λ z. let f : ⊥ = omega arith in f)))
    (λ (e : m ≡ 1). inr (ne_eqb m 0 (λ z. let f : ⊥ = omega arith in f), eq-eqb m 1 e))
    (mark-cases j (old_net j i)))
    (up_from 0 (length j.old.gates))
    ∙ length-up_from 0 (length j.old.gates)

-- ---- moved gates

-- the gates with mark b, at numbers that their operands have
moved-indices : (j : Job) (ns ns' : List ℕ) (b : ℕ)
    → ((k : ℕ) → k < length j.old.gates → net_at (led j) (old_net j k) ≡ b → (i : ℕ) → Mem i (operands (old_gate j k))
    → get_or ns i 0 ≡ net_at ns' i)
    → moved_from j.old.gates ns (gate_indices j b) ≡ moved_gates j ns' (gate_indices j b)
unfolding moved_from moved_gates
moved-indices j ns ns' b h =
    map-agree _ _ (gate_indices j b)
    (λ k m. let r = (mem-indices j b k).0 m in moved-agree ns ns' (old_gate j k) (h k r.0 r.1))

-- ---- the numbers after each group

-- the inputs have their numbers in d₀, and the gates with mark 0 in d₁
module _ (j : Job) (is t ms : List ℕ) (f : MarksOf j ms) {d₀ d₁ : List ℕ}
    (s : (i : ℕ) → i < j.inputs → get_or d₀ i 0 ≡ i)
    (w₁ : Numbered ms (j.inputs + j.targets) 0 (length j.old.gates) j.inputs d₀ d₁) where
  free_input : (i : ℕ) → i < j.inputs → get_or d₁ i 0 ≡ i
  free_input i h = w₁.leaves i (omega arith) ∙ s i h

  free-case : {i : ℕ} → NetCase j.inputs j.targets (length j.old.gates) i → net_at (led j) i ≡ 0
      → get_or d₁ i 0 ≡ net_at (new_nets j is t) i
  free-case (input {i} h) e = free_input i h ∙ sym (number-input j is t i h)
  free-case (target {i} h) e = let z : ⊥ = omega (arith, mark-target j i h) in absurd z
  free-case (gate {k} h) e =
      w₁.numbers k h (mark-at j ms f k h ∙ e)
      ∙ ap (λ (x : ℕ). j.inputs + x) (indices_with-rank j ms f 0 k (omega arith))
      ∙ sym (number-free j is t k h e)

  -- the nets that no target leads to have their numbers after the first group
  free-number : (i : ℕ) → i < old_nets j → net_at (led j) i ≡ 0 → get_or d₁ i 0 ≡ net_at (new_nets j is t) i
  unfolding old_nets
  free-number i h e = free-case (net-case j.inputs j.targets (length j.old.gates) i h) e

  trees-same : (a : ℕ) → a ≡ length (gate_indices j 0) → ((i : ℕ) → Mem i is → (i < old_nets j) × (net_at (led j) i ≡ 0))
      → numbered_trees j.inputs j.targets a d₁ is t ≡ trees j is t
  unfolding trees
  trees-same a e free =
      rw (
        e,
        map-agree (λ o. get_or d₁ o 0) (new_free_net j) is
            (λ i m. let r = free i m in free-number i r.0 r.1 ∙ sym (number-support j is t i r.0 r.1)),
      )

-- nets put over the places from n on
module _ (n : ℕ) (d ns : List ℕ) (r : n + length ns ≤ length d) where
  length_front : length (take n d ++ ns) ≡ n + length ns
  length_front = length-append (take n d) ns ∙ omega (arith, length-take-le n d (omega arith))

  placed-before : (i : ℕ) → i < n → get_or (placed d n ns) i 0 ≡ get_or d i 0
  unfolding placed
  placed-before i h =
      get_or-append (take n d ++ ns) (drop (n + length ns) d) 0 i (omega (arith, length_front))
      ∙ get_or-append (take n d) ns 0 i (omega (arith, length-take-le n d (omega arith)))
      ∙ get_or-take n d i 0 h

  placed_at : (i : ℕ) → i < length ns → get_or (placed d n ns) (n + i) 0 ≡ get_or ns i 0
  unfolding placed
  placed_at i h =
      get_or-append (take n d ++ ns) (drop (n + length ns) d) 0 (n + i) (omega (arith, length_front))
      ∙ ap (λ (k : ℕ). get_or (take n d ++ ns) (k + i) 0) (sym (length-take-le n d (omega arith)))
      ∙ get_or-append-add (take n d) ns i 0

  placed-behind : (k : ℕ) → get_or (placed d n ns) (n + length ns + k) 0 ≡ get_or d (n + length ns + k) 0
  unfolding placed
  placed-behind k =
      ap (λ (i : ℕ). get_or (take n d ++ ns ++ drop (n + length ns) d) (i + k) 0) (sym length_front)
      ∙ get_or-append-add (take n d ++ ns) (drop (n + length ns) d) k 0
      ∙ get_or-drop (n + length ns) d k 0

module _ (j : Job) (is t ms : List ℕ) (f : MarksOf j ms) {d₀ d₁ d₂ d₃ : List ℕ} {a b : ℕ}
    (room : old_nets j ≤ length d₀) (free : (i : ℕ) → Mem i is → (i < old_nets j) × (net_at (led j) i ≡ 0))
    (s : (i : ℕ) → i < j.inputs → get_or d₀ i 0 ≡ i)
    (w₁ : Numbered ms (j.inputs + j.targets) 0 (length j.old.gates) j.inputs d₀ d₁)
    (e₁ : a ≡ length (gate_indices j 0))
    (w₂ : d₂ ≡ placed d₁ j.inputs (numbered_trees j.inputs j.targets a d₁ is t).nets)
    (e₂ : b ≡ a + length (trees j is t).gates)
    (w₃ : Numbered ms (j.inputs + j.targets) 1 (length j.old.gates) (j.inputs + b) d₂ d₃)
  where
    nets-long : length (trees j is t).nets ≡ j.targets
    unfolding trees
    nets-long = length-nets j.targets 0 (j.inputs + length (gate_indices j 0)) (map (new_free_net j) is) t

    long : j.inputs + length (trees j is t).nets ≤ length d₁
    unfolding old_nets
    long = omega (arith, w₁.long, nets-long)

    second_at : (i : ℕ) → get_or d₂ i 0 ≡ get_or (placed d₁ j.inputs (trees j is t).nets) i 0
    second_at i =
        ap (λ (l : List ℕ). get_or l i 0) w₂
        ∙ ap (λ (x : Trees). get_or (placed d₁ j.inputs x.nets) i 0) (trees-same j is t ms f s w₁ a e₁ free)

    number-case : {i : ℕ} → NetCase j.inputs j.targets (length j.old.gates) i → get_or d₃ i 0 ≡ net_at (new_nets j is t) i
    number-case (input {i} h) =
        w₃.leaves i (omega arith)
        ∙ second_at i
        ∙ placed-before j.inputs d₁ (trees j is t).nets long i h
        ∙ free_input j is t ms f s w₁ i h
        ∙ sym (number-input j is t i h)
    number-case (target {i} h) =
        w₃.leaves (j.inputs + i) (omega arith)
        ∙ second_at (j.inputs + i)
        ∙ placed_at j.inputs d₁ (trees j is t).nets long i (omega (arith, nets-long))
        ∙ sym (number-target j is t i h)
    number-case (gate {k} h) =
        let q = mark-at j ms f k h in
        let n : j.inputs + length (trees j is t).nets + k ≡ old_net j k = omega (arith, nets-long) in
        ⊎_elim
        (λ (e : net_at (led j) (old_net j k) ≡ 0).
        w₃.others k (λ l z. let y : ⊥ = omega arith in y)
        ∙ second_at (old_net j k)
        ∙ (rw n at (placed-behind j.inputs d₁ (trees j is t).nets long k))
        ∙ free-case j is t ms f s w₁ (gate h) e)
        (λ (e : net_at (led j) (old_net j k) ≡ 1).
        let r = indices_with-rank j ms f 1 k (omega arith) in
        w₃.numbers k h (q ∙ e) ∙ omega (arith, number-led j is t k h e))
        (mark-cases j (old_net j k))

    -- all old nets have their numbers after the last
    new-number : (i : ℕ) → i < old_nets j → get_or d₃ i 0 ≡ net_at (new_nets j is t) i
    unfolding old_nets
    new-number i h = number-case (net-case j.inputs j.targets (length j.old.gates) i h)

    module _ (good : netlists_good j ≡ true) where
      free_moved : moved_from j.old.gates d₁ (gate_indices j 0) ≡ moved_gates j (new_nets j is t) (gate_indices j 0)
      unfolding old_nets
      free_moved =
          moved-indices j d₁ (new_nets j is t) 0
          (λ k h e i m.
          free-number j is t ms f s w₁ i (omega (arith, operand_below j good k h i m)) (operand-unmarked j good k h e i m))

      rest-moved : moved_from j.old.gates d₃ (gate_indices j 1) ≡ moved_gates j (new_nets j is t) (gate_indices j 1)
      unfolding old_nets
      rest-moved =
          moved-indices j d₃ (new_nets j is t) 1
          (λ k h e i m. new-number i (omega (arith, operand_below j good k h i m)))

      -- the three groups are the patched netlist's gates
      all-put : {cs₀ cs₁ cs₂ cs₃ : List ℕ} {c : ℕ}
          → GatesPut j.inputs 0 cs₀ (moved_from j.old.gates d₁ (gate_indices j 0)) a cs₁
          → GatesPut j.inputs a cs₁ (trees j is t).gates b cs₂
          → GatesPut j.inputs b cs₂ (moved_from j.old.gates d₃ (gate_indices j 1)) c cs₃
          → GatesPut j.inputs 0 cs₀ (fitted j is t).gates c cs₃
      unfolding fitted
      all-put p q r =
          gates-put-append (gates-put-append (gates-put-same p free_moved) q) (gates-put-same r rest-moved)

-- ---- an old side and a patch

old_job-good : (n m : ℕ) (gs : List Gate) (os : List ℕ) → gates_good (n + m) gs ≡ true → netlists_good (old_job n m gs os) ≡ true
unfolding netlists_good gates_good
old_job-good n m gs os e = and_both (gates_good (n + m) gs) true e refl

module _ {o : OldSide} {is table : List ℕ} (v : OldHeld o) (h : Fittable o is table) where
  abbrev job : Job
  job = side_job o []

  pub gate-count : length job.old.gates ≡ o.count
  gate-count = length-old o v

  pub net-count : old_nets job ≡ old_base o + o.count
  unfolding old_nets
  net-count = ap (λ (k : ℕ). old_base o + k) gate-count

  net-most : old_nets job ≤ 424
  net-most = let w = v in omega (arith, net-count, w.inputs, w.targets, w.count)

  side-marks : MarksOf job o.marks
  unfolding led
  side-marks i l = v.marks i (omega (arith, net-count))

  pub side-good : netlists_good job ≡ true
  side-good = old_job-good o.inputs o.targets (old_gates o) [] v.good

  -- the support's nets are nets
  pub support-nets : Below 1024 is
  support-nets = below-all 1024 is (omega arith) (λ i l. omega (arith, (h.free (get_or is i 0) (mem-at is i l)).0, net-most))

  pub trees-count : length (trees job is table).gates ≡ trees_size o.targets 0 (length is) table
  trees-count =
      ap (λ (t : List ℕ). length (trees job is t).gates) (sym (take_all (2 ^ length is) table (omega (arith, h.entries))))
      ∙ length-patch job is table refl

  pub free-room : {cs : List ℕ} → length cs ≡ 400 → GateRoom o.inputs (0 + length (with_mark o 0)) cs
  free-room l =
      let w = v in
      let m = indices_with-most o.marks (old_base o) 0 o.count in
      record { long = l; room = omega (arith, w.count); nets = omega (arith, w.inputs, w.count) }

  module _ (fit : patched_count o is table ≤ 400) {d₀ cs₀ : List ℕ} {n₁ : NewSide} (w₀ : InputsNumbered o.inputs d₀)
      (room : length cs₀ ≡ 400) (w₁ : MarkedPlaced o 0 (record { count = 0; numbers = d₀; gates = cs₀ }) n₁) where
    free-numbered : Numbered o.marks (old_base o) 0 (length job.old.gates) o.inputs d₀ n₁.numbers
    free-numbered = rw gate-count (rw (add-zero o.inputs) at w₁.numbered)

    free-put : GatesPut o.inputs 0 cs₀ (moved_from (old_gates o) n₁.numbers (gate_indices job 0)) n₁.count n₁.gates
    free-put =
        gates-put-same w₁.gates
        (ap (moved_from (old_gates o) n₁.numbers) (rw gate-count at (indices_with-indices job o.marks side-marks 0)))

    free-count : n₁.count ≡ length (gate_indices job 0)
    free-count = omega (arith, free-put.end, length-moved_from (old_gates o) n₁.numbers (gate_indices job 0))

    free-most : n₁.count + length (gate_indices job 1) ≡ o.count
    free-most = omega (arith, free-count, indices-all job, gate-count)

    pub free-nets : Nets 1024 n₁.numbers
    free-nets = let w = v in numbered-nets w₁.numbered (omega (arith, w.inputs, w.count)) w₀.nets

    pub trees-room : GateRoom o.inputs (n₁.count + trees_size o.targets 0 (length is) table) n₁.gates
    trees-room =
        record {
          long = w₁.gates.long ∙ room;
          room = omega (arith, free-most);
          nets = omega (arith, free-most, v.inputs);
        }

    module _ {n₂ : NewSide} (w₂ : TreesPlaced o.inputs o.targets is table n₁ n₂) where
      same : numbered_trees o.inputs o.targets n₁.count n₁.numbers is table ≡ trees job is table
      same = trees-same job is table o.marks side-marks w₀.inputs free-numbered n₁.count free-count h.free

      grown-put : GatesPut o.inputs n₁.count n₁.gates (trees job is table).gates n₂.count n₂.gates
      grown-put = gates-put-same w₂.gates (ap (λ (x : Trees). x.gates) same)

      grown : n₂.count ≡ n₁.count + trees_size o.targets 0 (length is) table
      grown = grown-put.end ∙ ap (λ (k : ℕ). n₁.count + k) trees-count

      pub rest-room : GateRoom o.inputs (n₂.count + length (with_mark o 1)) n₂.gates
      rest-room =
          let e : length (with_mark o 1) ≡ length (gate_indices job 1) =
          ap length (rw gate-count at (indices_with-indices job o.marks side-marks 1)) in
          record {
            long = w₂.gates.long ∙ w₁.gates.long ∙ room;
            room = omega (arith, grown, free-most);
            nets = omega (arith, grown, free-most, v.inputs);
          }

      -- the trees' nets are nets
      tree-net : (i : ℕ) → i < o.targets → get_or (trees job is table).nets i 0 < 1024
      unfolding trees
      tree-net i l =
          omega (
            arith,
            trees-below o.targets 0 (o.inputs + length (gate_indices job 0)) (map (new_free_net job) is) table i l,
            grown-put.end,
            free-count,
            rest-room.nets,
          )

      tree-nets : length (trees job is table).nets ≡ o.targets
      unfolding trees
      tree-nets = length-nets o.targets 0 (o.inputs + length (gate_indices job 0)) (map (new_free_net job) is) table

      tree-room : o.inputs + length (trees job is table).nets ≤ length n₁.numbers
      tree-room = let w = v in omega (arith, tree-nets, w₁.numbered.long, w₀.long, w.inputs, w.targets)

      grown-numbers : n₂.numbers ≡ placed n₁.numbers o.inputs (trees job is table).nets
      grown-numbers = w₂.nets ∙ ap (λ (x : Trees). placed n₁.numbers o.inputs x.nets) same

      pub grown-nets : Nets 1024 n₂.numbers
      grown-nets i l =
          let ns = (trees job is table).nets in
          rw grown-numbers
          (⊎_elim
          (λ (t : ltb i o.inputs ≡ true).
          let p = ltb-true i o.inputs t in
          rw (placed-before o.inputs n₁.numbers ns tree-room i p) (free-nets i l))
          (λ (t : ltb i o.inputs ≡ false).
          let p = ltb-false i o.inputs t in
          ⊎_elim
          (λ (u : ltb i (o.inputs + length ns) ≡ true).
          let q = ltb-true i (o.inputs + length ns) u in
          let k : o.inputs + (i - o.inputs) ≡ i = omega arith in
          rw (sym (ap (λ (x : ℕ). get_or (placed n₁.numbers o.inputs ns) x 0) k)
          ∙ placed_at o.inputs n₁.numbers ns tree-room (i - o.inputs) (omega arith))
          (tree-net (i - o.inputs) (omega (arith, tree-nets))))
          (λ (u : ltb i (o.inputs + length ns) ≡ false).
          let q = ltb-false i (o.inputs + length ns) u in
          let k : o.inputs + length ns + (i - (o.inputs + length ns)) ≡ i = omega arith in
          rw (rw k at (placed-behind o.inputs n₁.numbers ns tree-room (i - (o.inputs + length ns)))) (free-nets i l))
          (true-or-false (ltb i (o.inputs + length ns))))
          (true-or-false (ltb i o.inputs)))

      module _ {n₃ : NewSide} (w₃ : MarkedPlaced o 1 n₂ n₃) where
        rest-numbered : Numbered o.marks (old_base o) 1 (length job.old.gates) (o.inputs + n₂.count) n₂.numbers
            n₃.numbers
        rest-numbered = rw gate-count w₃.numbered

        rest_put : GatesPut o.inputs n₂.count n₂.gates (moved_from (old_gates o) n₃.numbers (gate_indices job 1))
            n₃.count n₃.gates
        rest_put =
            gates-put-same w₃.gates
            (ap (moved_from (old_gates o) n₃.numbers) (rw gate-count at (indices_with-indices job o.marks side-marks 1)))

        pub gates-placed : GatesPlaced job is table n₃
        gates-placed =
            let l : old_nets job ≤ length d₀ = omega (arith, net-most, w₀.long) in
            let p =
            all-put job is table o.marks side-marks l h.free w₀.inputs free-numbered free-count w₂.nets
            grown-put.end
            rest-numbered
            side-good
            free-put
            grown-put
            rest_put in
            record {
              count = p.end ∙ zero-add (length (fitted job is table).gates);
              gates = p.gates ∙ ap (λ (k : ℕ). packed_from k (fitted job is table).gates) (add-zero o.inputs);
              numbers =
                  new-number job is table o.marks side-marks l h.free w₀.inputs free-numbered free-count w₂.nets
                  grown-put.end
                  rest-numbered;
            }
