-- Laws of specs/Netlist and of good gates in a row: the turns of the loops over a job's gates. Assumes nothing.
use Prim.Native.Nat.{ℕ, suc, ◌+◌, ◌-◌, ◌/◌, max, ◌≤◌, ◌<◌}
use mathlib.Core.Path.{◌≡◌, refl, sym, ◌∙◌, ap}
use mathlib.Core.List.{List, [], ◌∷◌, ◌++◌, map, append-nil, append_assoc}
use mathlib.Core.Bool.{Bool, true, ◌&&◌}
use native.Mathlib.Omega.{arith}
use borrow.Author.Tests.{ltb-true}
use lib.Dec.{ltb}
use borrow.Rule.Slice.PartMut.{put_mid}
use native.Mathlib.Nat.{add-zero}
use Rattle.std.proofs.lemmas.Slice.{take-put_mid}
use lib.ListN.{length, get_or, take, drop, set, replicate, length-take, drop_of_length-le, length-replicate, replicate-append-replicate}
use lib.Seq.{length-take-le, get_or-take, take_at, take-suc-set}
use Rattle.records.specs.Bytes.{all}
use Rattle.records.specs.Gate.{Gate, gate_of, operands, disj}
use Rattle.records.specs.Netlist.{net_at, extended, mark_of}
use Rattle.records.specs.Job.{gate_at, gates_of}
use Rattle.records.specs.Refusal.{gate_good, gates_good}
use Rattle.records.specs.Service.{gate_from}
use Rattle.records.specs.Inner.{leaf_marks, struct_slots}
use Rattle.records.specs.declared.gate.Gate.{Gate as GateStruct}
use Rattle.records.proofs.Laws.Bytes.{and_left, and_right, all_cons, drop-tabulate, drop-tabulate-past}
use Rattle.records.proofs.Laws.Gate.{drop-back, gate_good-parts, gate_good-count, operand-lt}

module _ (s : List ℕ) (i : ℕ) (h : i < length s / 10) where
  drop-gates : drop i (gates_of s) ≡ gate_at s i ∷ drop (i + 1) (gates_of s)
  unfolding gates_of
  drop-gates = drop-tabulate (length s / 10) (gate_at s) i h

  -- the gates from i on are good where gate i is, and those after it
  pub gates_good-drop : (base : ℕ)
      → gates_good (base + i) (drop i (gates_of s))
      ≡ (gate_good (base + i) (gate_at s i) && gates_good (base + (i + 1)) (drop (i + 1) (gates_of s)))
  unfolding gates_good
  gates_good-drop base =
      let n : suc (base + i) ≡ base + (i + 1) = omega arith in
      ap (gates_good (base + i)) drop-gates
      ∙ ap (λ (k : ℕ). gate_good (base + i) (gate_at s i) && gates_good k (drop (i + 1) (gates_of s))) n

  pub gates_good-both : (base : ℕ) → gates_good (base + i) (drop i (gates_of s)) ≡ true
      → (gate_good (base + i) (gate_at s i) ≡ true) × (gates_good (base + (i + 1)) (drop (i + 1) (gates_of s)) ≡ true)
  gates_good-both base e =
      let g : Bool = gate_good (base + i) (gate_at s i) in
      let gs : Bool = gates_good (base + (i + 1)) (drop (i + 1) (gates_of s)) in
      let t : (g && gs) ≡ true = sym (gates_good-drop base) ∙ e in
      (and_left g gs t, and_right g gs t)

pub drop-gates-past : (s : List ℕ) (i : ℕ) → length s / 10 ≤ i → drop i (gates_of s) ≡ []
unfolding gates_of
drop-gates-past s i h = drop-tabulate-past (length s / 10) (gate_at s) i h

-- the used slots of a good gate struct, where there are at least as many nets as its own
pub slots-lt : (net : ℕ) (g : GateStruct) (nets : ℕ) → net ≤ nets → gate_good net (gate_from g) ≡ true
    → (g.count ≤ 4) × ((i : ℕ) → i < g.count → get_or (struct_slots g) i 0 < nets)
unfolding gate_from gate_of struct_slots
slots-lt net g nets h e =
    let n = gate_good-count net (gate_from g) e in
    (n, λ i l. let m : i < 4 = omega arith in omega (arith, operand-lt net (gate_from g) e i l m))

-- ---- marks

-- a turn of the loop over a gate's operands, from the last: the greater of operand i - 1's mark and of that of those after it
pub disj-back : (known : List ℕ) (count : ℕ) (xs : List ℕ) (i : ℕ) → 0 < i → i ≤ count → count ≤ length xs
    → disj (map (net_at known) (drop (i - 1) (take count xs)))
    ≡ max (get_or known (get_or xs (i - 1) 0) 0) (disj (map (net_at known) (drop i (take count xs))))
unfolding disj net_at
disj-back known count xs i z h l =
    let n = length-take-le count xs l in
    let a = get_or-take count xs (i - 1) 0 (omega arith) in
    rw (drop-back (take count xs) i z (omega arith), a)

pub disj-none : (known : List ℕ) (count : ℕ) (xs : List ℕ) → disj (map (net_at known) (drop count (take count xs))) ≡ 0
unfolding disj
disj-none known count xs =
    let h : length (take count xs) ≤ count = omega (arith, length-take count xs) in
    rw (drop_of_length-le (take count xs) {i = count} h)

-- leaves: without targets all is 0, and targets filled in are 1
leaf_marks-none : (n size : ℕ) → n ≤ size → take (n + 0) (replicate size 0) ≡ leaf_marks n 0
unfolding leaf_marks
leaf_marks-none n size h =
    let m : size ≡ n + (size - n) = omega arith in
    ap (λ (k : ℕ). take (n + 0) (replicate k 0)) m
    ∙ ap (take (n + 0)) (sym (replicate-append-replicate n (size - n) 0))
    ∙ take_at (replicate n 0) (replicate (size - n) 0) (n + 0) (omega (arith, length-replicate {A = ℕ} n 0))
    ∙ sym (append-nil (replicate n 0))

pub leaf_marks-more : (n i : ℕ) (marks : List ℕ) → n + i < length marks → take (n + i) marks ≡ leaf_marks n i
    → take (n + (i + 1)) (set marks (n + i) 1) ≡ leaf_marks n (i + 1)
unfolding leaf_marks
leaf_marks-more n i marks h e =
    let m : n + (i + 1) ≡ suc (n + i) = omega arith in
    ap (λ (k : ℕ). take k (set marks (n + i) 1)) m
    ∙ take-suc-set marks (n + i) 1 h
    ∙ ap (λ (l : List ℕ). l ++ (1 ∷ [])) e
    ∙ append_assoc (replicate n 0) (replicate i 1) (1 ∷ [])
    ∙ ap (λ (l : List ℕ). replicate n 0 ++ l) (replicate-append-replicate i 1 1)

pub leaf_marks-filled : (n m k size : ℕ) (ys : List ℕ) → n ≤ size → ys ≡ replicate m 1
    → take (n + m) (put_mid n k (replicate size 0) ys) ≡ leaf_marks n m
unfolding leaf_marks
leaf_marks-filled n m k size ys h e =
    let l : length ys ≡ m = ap length e ∙ length-replicate {A = ℕ} m 1 in
    let z : length (replicate {A = ℕ} size 0) ≡ size = length-replicate {A = ℕ} size 0 in
    let b = leaf_marks-none n size h in
    take-put_mid {X = ℕ} n k (replicate size 0) ys (n + m) (omega arith) (omega arith)
    ∙ rw e (ap (λ (xs : List ℕ). xs ++ replicate m 1) (ap (λ (i : ℕ). take i (replicate size 0)) (sym (add-zero n)) ∙ b ∙ append-nil (replicate n 0)))

-- the marks below n decide a gate whose operands are below n
net_at-take : (n : ℕ) (known xs : List ℕ) → all (λ i. ltb i n) xs ≡ true
    → map (net_at (take n known)) xs ≡ map (net_at known) xs
unfolding net_at
net_at-take n known [] h = refl
net_at-take n known (x ∷ xs) h =
    let t = all_cons (λ i. ltb i n) x xs h in
    let p = get_or-take n known x 0 (ltb-true x n t.0) in
    let q = net_at-take n known xs t.1 in
    cc

pub mark_of-take : (n : ℕ) (known : List ℕ) (g : Gate) → gate_good n g ≡ true → mark_of (take n known) g ≡ mark_of known g
unfolding mark_of
mark_of-take n known g h = ap disj (net_at-take n known (operands g) (gate_good-parts n g h).0)

-- a turn of the loop that marks: the mark of gate i, stored at its net, extends those before it
pub extended-drop : (s : List ℕ) (i : ℕ) → i < length s / 10 → (base : ℕ) (marks : List ℕ) → base + i < length marks
    → gate_good (base + i) (gate_at s i) ≡ true
    → extended mark_of (take (base + i) marks) (drop i (gates_of s))
    ≡ extended mark_of (take (base + (i + 1)) (set marks (base + i) (mark_of marks (gate_at s i)))) (drop (i + 1) (gates_of s))
unfolding extended
extended-drop s i h base marks l g =
    let gs : List Gate = drop (i + 1) (gates_of s) in
    let m : ℕ = mark_of marks (gate_at s i) in
    let n : suc (base + i) ≡ base + (i + 1) = omega arith in
    ap (extended mark_of (take (base + i) marks)) (drop-gates s i h)
    ∙ ap (λ (v : ℕ). extended mark_of (take (base + i) marks ++ (v ∷ [])) gs) (mark_of-take (base + i) marks (gate_at s i) g)
    ∙ ap (λ (known : List ℕ). extended mark_of known gs) (sym (take-suc-set marks (base + i) m l))
    ∙ ap (λ (k : ℕ). extended mark_of (take k (set marks (base + i) m)) gs) n
