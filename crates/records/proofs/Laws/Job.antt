-- Laws of specs/Job and of places: pieces put one after the other, how many bytes a job takes, what the tests of counts tell,
-- and the parts that stand in places. Assumes nothing.
use Prim.Native.Nat.{ℕ, zero, suc, ◌+◌, ◌*◌, ◌/◌, ◌%◌, ◌≤◌, ◌<◌}
use mathlib.Core.Path.{◌≡◌, refl, sym, ◌∙◌, ap}
use mathlib.Core.List.{List, [], ◌∷◌, ◌++◌, map, append_assoc, append-nil}
use mathlib.Core.Bool.{true}
use native.Mathlib.Nat.{zero-add, mul-zero, mul-suc}
use native.Mathlib.Numerals.{add-one}
use native.Mathlib.Omega.{arith}
use lib.ListN.{length, get_or, take, drop, set, length-append, length-set, length-map, get_or-append}
use lib.Seq.{length-take-le, take-suc, take-append_seam, drop-append_seam, sets, sets-eq}
use Rattle.records.specs.Bytes.{up_from, tabulate, flat, byte_pair, placed, field}
use Rattle.records.specs.Gate.{Gate, gate_of}
use Rattle.records.specs.Job.{Job, Candidate, gate_bytes, candidate_bytes, job_bytes}
use Rattle.records.specs.Service.{SidePlaces, Places, gate_from, side_counts_of, counts_of, gates_in, netlist_from, candidates_from, job_from, side_held, held}
use Rattle.records.specs.Inner.{gates_bytes, holds}
use Rattle.records.specs.declared.gate.Gate.{Gate as GateStruct}
use Rattle.records.specs.declared.job.SideCounts.{SideCounts}
use Rattle.records.specs.declared.job.Counts.{Counts}
use Rattle.records.proofs.Laws.Bytes.{length-up_from, length-tabulate, tabulate-snoc, placed-nil, length-placed, placed-placed, set-placed}
use Rattle.records.proofs.Laws.Counts.{holds-facts, holds-true}

-- ---- flat

module _ {A : Type 0} (f : A → List ℕ) where
  pub flat_append : (xs ys : List A) → flat f (xs ++ ys) ≡ flat f xs ++ flat f ys
  unfolding flat
  flat_append [] ys = refl
  flat_append (x ∷ xs) ys = rw (flat_append xs ys, append_assoc)

  pub flat-snoc : (xs : List A) (x : A) → flat f (xs ++ (x ∷ [])) ≡ flat f xs ++ f x
  unfolding flat
  flat-snoc xs x = rw (flat_append, append-nil)

  -- pieces of one size
  pub length-flat : (k : ℕ) → ((x : A) → length (f x) ≡ k) → (xs : List A) → length (flat f xs) ≡ k * length xs
  unfolding flat
  length-flat k e [] = sym (mul-zero k)
  length-flat k e (x ∷ xs) =
      length-append (f x) (flat f xs) ∙ omega (arith, e x, length-flat k e xs, mul-suc k (length xs))

-- .. of what another list gives
module _ {A B : Type 0} (f : A → List ℕ) (g : B → A) where
  flat_map : (ys : List B) → flat f (map g ys) ≡ flat (λ y. f (g y)) ys
  unfolding flat
  flat_map [] = refl
  flat_map (y ∷ ys) = ap (λ (l : List ℕ). f (g y) ++ l) (flat_map ys)

  pub length-flat-map : (k : ℕ) → ((y : B) → length (f (g y)) ≡ k) → (ys : List B) → length (flat f (map g ys)) ≡ k * length ys
  length-flat-map k e ys = ap length (flat_map ys) ∙ length-flat (λ y. f (g y)) k e ys

pub length-flat-tabulate : {A : Type 0} (f : A → List ℕ) (k : ℕ) (g : ℕ → A) → ((i : ℕ) → length (f (g i)) ≡ k)
    → (n : ℕ) → length (flat f (tabulate n g)) ≡ k * n
unfolding tabulate
length-flat-tabulate f k g e n =
    length-flat-map f g k e (up_from 0 n) ∙ ap (λ (m : ℕ). k * m) (length-up_from 0 n)

pub tabulate-get_or : (xs : List ℕ) (n : ℕ) → n ≤ length xs → tabulate n (λ i. get_or xs i 0) ≡ take n xs
unfolding tabulate up_from
tabulate-get_or xs zero h = refl
tabulate-get_or xs (suc n) h =
    ap (λ (k : ℕ). tabulate k (λ i. get_or xs i 0)) (sym (add-one n))
    ∙ tabulate-snoc n (λ i. get_or xs i 0)
    ∙ ap (λ (l : List ℕ). l ++ (get_or xs n 0 ∷ [])) (tabulate-get_or xs n (omega arith))
    ∙ sym (take-suc xs n 0 (omega arith))

-- ---- records of one size, one after the other

pub next-record : (size i : ℕ) → size * (i + 1) ≡ size * i + size
next-record size i = rw (add-one, mul-suc)

-- ---- a list placed at the front

module _ {A : Type 0} (d xs : List A) where
  placed-front : placed d 0 xs ≡ xs ++ drop (length xs) d
  unfolding placed
  placed-front = rw zero-add

  pub length-placed-front : length xs ≤ length (placed d 0 xs)
  length-placed-front = rw placed-front (omega (arith, length-append xs (drop (length xs) d)))

  pub take-placed-front : take (length xs) (placed d 0 xs) ≡ xs
  take-placed-front = rw placed-front (take-append_seam xs (drop (length xs) d))

  pub drop-placed-front : drop (length xs) (placed d 0 xs) ≡ drop (length xs) d
  drop-placed-front = rw placed-front (drop-append_seam xs (drop (length xs) d))

  pub get_or-placed-front : (i : ℕ) (a : A) → i < length xs → get_or (placed d 0 xs) i a ≡ get_or xs i a
  get_or-placed-front i a h =
      ap (λ (l : List A). get_or l i a) placed-front ∙ get_or-append xs (drop (length xs) d) a i h

-- ---- stores

-- a run of stores
pub sets-placed : (d : List ℕ) (at : ℕ) (xs : List ℕ) → at + length xs ≤ length d → sets d at xs ≡ placed d at xs
unfolding placed
sets-placed d at xs h = sets-eq xs d at h

-- the code's high byte of a two-byte number
pub high_byte : (x : ℕ) → x < 65536 → x / 256 % 256 ≡ x / 256
high_byte x h = omega arith

pub two_bytes : (d : List ℕ) (a x y : ℕ) → a + 2 ≤ length d → set (set d a x) (a + 1) y ≡ placed d a (x ∷ y ∷ [])
two_bytes d a x y r = rw add-one (sets-placed d a (x ∷ y ∷ []) (omega arith))

-- xs put at a position, and then ys behind it
pub placed-then : (d : List ℕ) {d₁ d₂ : List ℕ} (at : ℕ) (xs ys : List ℕ) (p : ℕ)
    → p ≡ at + length xs → p + length ys ≤ length d
    → d₁ ≡ placed d at xs → d₂ ≡ placed d₁ p ys → d₂ ≡ placed d at (xs ++ ys)
placed-then d at xs ys p q h e f =
    f
    ∙ ap (λ (l : List ℕ). placed l p ys) e
    ∙ ap (λ (k : ℕ). placed (placed d at xs) k ys) q
    ∙ placed-placed d at xs ys (omega arith)

-- a gate's stores, a candidate's, a field's
pub gate-placed : (d : List ℕ) {d₁ d₂ d₃ d₄ : List ℕ} (p k n w x y z : ℕ) → p + 10 ≤ length d
    → d₁ ≡ placed (set (set d p k) (p + 1) n) (p + 2) (byte_pair w)
    → d₂ ≡ placed d₁ (p + 4) (byte_pair x) → d₃ ≡ placed d₂ (p + 6) (byte_pair y) → d₄ ≡ placed d₃ (p + 8) (byte_pair z)
    → d₄ ≡ placed d p (gate_bytes (gate_of k n w x y z))
unfolding gate_bytes gate_of byte_pair flat
gate-placed d p k n w x y z h e₁ e₂ e₃ e₄ =
    let s : set (set d p k) (p + 1) n ≡ placed d p (k ∷ n ∷ []) =
    rw add-one (sets-placed d p (k ∷ n ∷ []) (omega arith)) in
    placed-then d p (k ∷ n ∷ flat byte_pair (w ∷ x ∷ y ∷ [])) (byte_pair z) (p + 8) refl (omega arith)
    (placed-then d p (k ∷ n ∷ flat byte_pair (w ∷ x ∷ [])) (byte_pair y) (p + 6) refl (omega arith)
    (placed-then d p (k ∷ n ∷ byte_pair w) (byte_pair x) (p + 4) refl (omega arith)
    (placed-then d p (k ∷ n ∷ []) (byte_pair w) (p + 2) refl (omega arith) s e₁)
    e₂)
    e₃)
    e₄

pub candidate-placed : (d : List ℕ) {d₁ d₂ : List ℕ} (p : ℕ) (c : Candidate) → p + 4 ≤ length d
    → d₁ ≡ placed d p (byte_pair c.net) → d₂ ≡ placed d₁ (p + 2) (byte_pair c.weight)
    → d₂ ≡ placed d p (candidate_bytes c)
unfolding candidate_bytes byte_pair
candidate-placed d p c h e f = placed-then d p (byte_pair c.net) (byte_pair c.weight) (p + 2) refl (omega arith) e f

pub field-placed : (d : List ℕ) {d₁ d₂ : List ℕ} (at t n : ℕ) (xs : List ℕ) (p : ℕ) → n ≡ length xs → p ≡ at + 3
    → at + 3 + n ≤ length d → d₁ ≡ placed d at (t ∷ byte_pair n) → d₂ ≡ placed d₁ p xs
    → d₂ ≡ placed d at (field t xs)
unfolding field byte_pair
field-placed d at t n xs p m q h e f =
    placed-then d at (t ∷ byte_pair (length xs)) xs p q (omega arith) (rw m at e) f

-- ---- loops that fill a list d₀; d is what stands there now

-- the first n elements are those of a numbered list
abbrev pub Filled : {A : Type 0} → List A → List A → ℕ → (ℕ → A) → Type 0
Filled d₀ d n g = (length d ≡ length d₀) × (d ≡ placed d₀ 0 (tabulate n g))

module _ {A : Type 0} (d₀ : List A) (g : ℕ → A) where
  pub filled_none : Filled d₀ d₀ 0 g
  unfolding tabulate up_from
  filled_none = (refl, sym (placed-nil d₀ 0))

  pub filled_next : (d : List A) (i : ℕ) (x : A) → i < length d₀ → x ≡ g i → Filled d₀ d i g → Filled d₀ (set d i x) (i + 1) g
  filled_next d i x h e w =
      let n : i ≡ 0 + length (tabulate i g) = omega (arith, length-tabulate i g) in
      let s : set (placed d₀ 0 (tabulate i g)) i (g i) ≡ placed d₀ 0 (tabulate (i + 1) g) =
      ap (λ (j : ℕ). set (placed d₀ 0 (tabulate i g)) j (g i)) n
      ∙ set-placed d₀ 0 (tabulate i g) (g i) (omega arith)
      ∙ ap (placed d₀ 0) (sym (tabulate-snoc i g)) in
      (length-set d i x ∙ w.0, rw (w.1, e) s)

-- from position at on stand the pieces f (g i) for each i below n
abbrev pub Put : {A : Type 0} → (A → List ℕ) → (ℕ → A) → List ℕ → ℕ → List ℕ → ℕ → Type 0
Put f g d₀ at d n = (length d ≡ length d₀) × (d ≡ placed d₀ at (flat f (tabulate n g)))

module _ {A : Type 0} (f : A → List ℕ) (g : ℕ → A) (d₀ : List ℕ) (at : ℕ) where
  pub put-none : Put f g d₀ at d₀ 0
  unfolding tabulate up_from flat
  put-none = (refl, sym (placed-nil d₀ at))

  -- .. of k elements each
  pub put_next : (k : ℕ) → ((i : ℕ) → length (f (g i)) ≡ k) → (d d' : List ℕ) (i p : ℕ) → p ≡ at + k * i → p + k ≤ length d₀
      → d' ≡ placed d p (f (g i)) → Put f g d₀ at d i → Put f g d₀ at d' (i + 1)
  put_next k e d d' i p q h r w =
      let xs : List ℕ = flat f (tabulate i g) in
      let n : p ≡ at + length xs = omega (arith, length-flat-tabulate f k g e i) in
      let m : length (placed d p (f (g i))) ≡ length d = length-placed d p (f (g i)) (omega (arith, e i)) in (
        ap length r ∙ m ∙ w.0,
        placed-then d₀ at xs (f (g i)) p n (omega (arith, e i)) w.1 r
            ∙ ap (placed d₀ at) (sym (flat-snoc f (tabulate i g) (g i)) ∙ ap (flat f) (sym (tabulate-snoc i g))),
      )

-- ---- how many bytes

pub length-field : (t : ℕ) (xs : List ℕ) → length (field t xs) ≡ 3 + length xs
unfolding field byte_pair
length-field t xs = omega arith

pub length-byte_pair : (x : ℕ) → length (byte_pair x) ≡ 2
unfolding byte_pair
length-byte_pair x = refl

pub length-gate_bytes : (g : Gate) → length g.slots ≡ 4 → length (gate_bytes g) ≡ 10
unfolding gate_bytes
length-gate_bytes g e = omega (arith, length-flat byte_pair 2 length-byte_pair g.slots)

pub length-struct_bytes : (g : GateStruct) → length (gate_bytes (gate_from g)) ≡ 10
unfolding gate_from gate_of
length-struct_bytes g = length-gate_bytes (gate_from g) refl

pub length-candidate_bytes : (c : Candidate) → length (candidate_bytes c) ≡ 4
unfolding candidate_bytes byte_pair
length-candidate_bytes c = refl

-- gates that have four operand slots take ten bytes each
abbrev pub TenEach : List Gate → Type 0
TenEach gs = length (flat gate_bytes gs) ≡ 10 * length gs

ten-each : (gs : List GateStruct) → TenEach (map gate_from gs)
ten-each gs =
    length-flat-map gate_bytes gate_from 10 length-struct_bytes gs
    ∙ ap (λ (m : ℕ). 10 * m) (sym (length-map gs gate_from))

pub length-outputs : (xs : List ℕ) → length (flat byte_pair xs) ≡ 2 * length xs
length-outputs = length-flat byte_pair 2 length-byte_pair

pub length-candidates : (cs : List Candidate) → length (flat candidate_bytes cs) ≡ 4 * length cs
length-candidates = length-flat candidate_bytes 4 length-candidate_bytes

abbrev pub job_size : Counts → ℕ
job_size c = 20 + 10 * c.old.gates + 2 * c.old.outputs + 10 * c.golden.gates + 2 * c.golden.outputs + 4 * c.candidates

pub length-job_bytes : (j : Job) → TenEach j.old.gates → TenEach j.golden.gates
    → length (job_bytes j) ≡ job_size (counts_of j)
unfolding job_bytes counts_of side_counts_of
length-job_bytes j e e' =
    simp (length-append, length-field)
    (omega (
      arith,
      length-outputs j.old.outputs,
      length-outputs j.golden.outputs,
      length-candidates j.candidates,
    ))

-- ---- places that hold the counts: number 3 for write as inequalities

pub record SideBounds (c : SideCounts) (p : SidePlaces) : Type 0 where
  pub gates : c.gates ≤ length p.gates
  pub outputs : c.outputs ≤ length p.outputs

pub record JobBounds (c : Counts) (p : Places) : Type 0 where
  pub old : SideBounds c.old p.old
  pub golden : SideBounds c.golden p.golden
  pub nets : c.candidates ≤ length p.nets
  pub weights : c.candidates ≤ length p.weights

module _ (c : Counts) (p : Places) where
  -- the test by how many places there are
  pub held-holds : held c p
      ≡ holds c (length p.old.gates) (length p.old.outputs) (length p.golden.gates) (length p.golden.outputs)
      (length p.nets) (length p.weights)
  unfolding held side_held holds
  held-holds = refl

  pub held-bounds : held c p ≡ true → JobBounds c p
  held-bounds h =
      let t = holds-facts c _ _ _ _ _ _ (sym held-holds ∙ h) in
      record {
        old = record { gates = t.0; outputs = t.1 };
        golden = record { gates = t.2; outputs = t.3 };
        nets = t.4;
        weights = t.5;
      }

  pub held-true : JobBounds c p → held c p ≡ true
  held-true b =
      held-holds
      ∙ holds-true c _ _ _ _ _ _ (b.old.gates, b.old.outputs, b.golden.gates, b.golden.outputs, b.nets, b.weights)

-- ---- what stands in places: how many parts, how many bytes

module _ (k : ℕ) (gs : List GateStruct) where
  ten-in : TenEach (gates_in k gs)
  unfolding gates_in
  ten-in = ten-each (take k gs)

  module _ (h : k ≤ length gs) where
    pub length-gates_in : length (gates_in k gs) ≡ k
    unfolding gates_in
    length-gates_in = length-map (take k gs) gate_from ∙ length-take-le k gs h

    pub length-gates_bytes : length (gates_bytes k gs) ≡ 10 * k
    unfolding gates_bytes
    length-gates_bytes = ten-in ∙ rw length-gates_in

pub length-candidates_from : (k : ℕ) (ns ws : List ℕ) → length (candidates_from k ns ws) ≡ k
unfolding candidates_from
length-candidates_from k ns ws = length-tabulate k _

module _ {c : Counts} {p : Places} (b : JobBounds c p) where
  -- places that hold the counts have parts of these counts
  pub counts_of-job_from : counts_of (job_from c p) ≡ c
  unfolding counts_of side_counts_of job_from netlist_from
  counts_of-job_from =
      rw (
        length-gates_in c.old.gates p.old.gates b.old.gates,
        length-take-le c.old.outputs p.old.outputs b.old.outputs,
        length-gates_in c.golden.gates p.golden.gates b.golden.gates,
        length-take-le c.golden.outputs p.golden.outputs b.golden.outputs,
        length-candidates_from c.candidates p.nets p.weights,
      )

  pub length-job_from : length (job_bytes (job_from c p)) ≡ job_size c
  unfolding job_from netlist_from
  length-job_from =
      length-job_bytes (job_from c p) (ten-in c.old.gates p.old.gates) (ten-in c.golden.gates p.golden.gates)
      ∙ ap job_size counts_of-job_from
