-- Laws of what is put: a list placed in a part of another, a field where it fits, and a job's fields around its gates' bytes.
-- Assumes nothing.
use Prim.Native.Nat.{ℕ, zero, suc, ◌+◌, ◌*◌, ◌≤◌, ◌<◌}
use mathlib.Core.Path.{◌≡◌, refl, sym, ◌∙◌, ap}
use mathlib.Core.List.{List, [], ◌∷◌, ◌++◌, append_assoc}
use mathlib.Core.Bool.{true, false, cond}
use native.Mathlib.Nat.{zero-add, mul-suc}
use native.Mathlib.Numerals.{add-one}
use native.Mathlib.Omega.{arith}
use borrow.Author.Tests.{le-leb, lt-leb, lt-ltb, le-ltb}
use lib.Dec.{leb}
use lib.ListN.{length, get_or, take, drop, length-append, length-drop, take-append-drop}
use lib.Seq.{drop-append-le, drop-drop, length-take-le}
use Rattle.records.specs.Bytes.{flat, placed, head_size, field, byte_pair}
use Rattle.records.specs.Job.{Candidate, candidate_bytes, job_bytes}
use Rattle.records.specs.Service.{Places, netlist_from, candidates_from, job_from, field_fits}
use Rattle.records.specs.Inner.{Within, starts_of, gates_bytes, spread, SidePut, SideDone, JobPut, JobDone, GatesPut}
use Rattle.records.specs.declared.job.SideCounts.{SideCounts}
use Rattle.records.specs.declared.job.Counts.{Counts}
use Rattle.records.proofs.Laws.Bytes.{and_both, and-false-left, and-false-right, length-placed, drop-placed, drop-placed-behind, placed_same, placed-swap}
use Rattle.records.proofs.Laws.Job.{tabulate-get_or, Put, put-none, put_next, candidate-placed, length-byte_pair, length-candidate_bytes, JobBounds, placed-then, field-placed, take-placed-front, length-field, length-outputs, length-candidates, length-gates_bytes, length-candidates_from, length-job_from}

-- a part of d overwritten by xs
pub mid-placed : (d : List ℕ) (at n : ℕ) (xs : List ℕ) {ys : List ℕ} → ys ≡ xs → n ≡ length xs
    → take at d ++ (ys ++ drop n (drop at d)) ≡ placed d at xs
unfolding placed
mid-placed d at n xs e f =
    ap (λ (r : List ℕ). take at d ++ (r ++ drop n (drop at d))) e
    ∙ ap (λ (k : ℕ). take at d ++ (xs ++ drop k (drop at d))) f
    ∙ ap (λ (r : List ℕ). take at d ++ (xs ++ r)) (drop-drop (length xs) at d)
    ∙ sym (append_assoc (take at d) xs (drop (at + length xs) d))

-- a list placed at the start of the k elements from position a on
pub part_placed : (d : List ℕ) (a k : ℕ) (xs : List ℕ) → a + k ≤ length d → length xs ≤ k
    → take a d ++ (placed (take k (drop a d)) 0 xs ++ drop k (drop a d)) ≡ placed d a xs
unfolding placed
part_placed d a k xs h l =
    let m : List ℕ = drop a d in
    let n : length (take k m) ≡ k = length-take-le k m (omega (arith, length-drop a d)) in
    let e : xs ++ drop (0 + length xs) (take k m) ++ drop k m ≡ xs ++ drop (a + length xs) d =
    append_assoc xs (drop (0 + length xs) (take k m)) (drop k m)
    ∙ ap (λ (i : ℕ). xs ++ (drop i (take k m) ++ drop k m)) (zero-add (length xs))
    ∙ ap (λ (r : List ℕ). xs ++ r) (sym (drop-append-le (length xs) (take k m) (drop k m) (omega arith)))
    ∙ ap (λ (r : List ℕ). xs ++ drop (length xs) r) (take-append-drop k m)
    ∙ ap (λ (r : List ℕ). xs ++ r) (drop-drop (length xs) a d) in
    ap (λ (r : List ℕ). take a d ++ r) e ∙ sym (append_assoc (take a d) xs (drop (a + length xs) d))

-- ---- whether a field fits

module _ (d : List ℕ) (at : ℕ) (xs : List ℕ) where
  pub put-field-fits : at + 3 + length xs ≤ length d → length xs < 65536 → field_fits d at xs ≡ true
  unfolding field_fits
  put-field-fits h l = and_both _ _ (le-leb _ _ h) (lt-ltb _ _ l)

  pub put-field-full : length d < at + 3 + length xs → field_fits d at xs ≡ false
  unfolding field_fits
  put-field-full h = and-false-left _ _ (lt-leb _ _ h)

  pub put-field-long : 65535 < length xs → field_fits d at xs ≡ false
  unfolding field_fits
  put-field-long h = and-false-right (leb (at + head_size + length xs) (length d)) _ (le-ltb _ _ h)

  -- what put_field gives and leaves
  abbrev pub FieldPut : ℕ → ℕ → List ℕ → Type 0
  FieldPut t r d' =
      record {
        end : r ≡ cond (field_fits d at xs) (at + head_size + length xs) at;
        lent : d' ≡ cond (field_fits d at xs) (placed d at (field t xs)) d;
      }

  pub field-left : (t : ℕ) → field_fits d at xs ≡ false → FieldPut t at d
  field-left t e = record { end = rw e; lent = rw e }

  -- the head put, and the bytes at the start of what stands behind it
  pub field_put : (t a : ℕ) (d₁ d₂ : List ℕ) → at + 3 + length xs ≤ length d → length xs < 65536
      → length d₁ ≡ length d → a ≡ at + 3 → d₁ ≡ placed d at (t ∷ byte_pair (length xs)) → d₂ ≡ placed d₁ a xs
      → FieldPut t (a + length xs) d₂
  field_put t a d₁ d₂ h l n q e f =
      let b : field_fits d at xs ≡ true = put-field-fits h l in
      record { end = rw b (omega arith); lent = rw b (f ∙ field-placed d at t (length xs) xs a refl q h e refl) }

  -- for callers: where there is room, the field is put and the position is the one behind it
  pub put-field-put : (t r : ℕ) {d' : List ℕ} → at + 3 + length xs ≤ length d → length xs < 65536 → FieldPut t r d'
      → (r ≡ at + length (field t xs)) × (d' ≡ placed d at (field t xs))
  put-field-put t r h l w =
      let e : field_fits d at xs ≡ true = put-field-fits h l in
      let f : r ≡ at + 3 + length xs = rw e at w.end in
      (omega (arith, length-field t xs), rw e at w.lent)

-- ---- numbers put from a position on, so many bytes apart

pub spread-next : (d : List ℕ) (at size n : ℕ) (f : ℕ → ℕ) (p : ℕ) → p ≡ at + size * n
    → placed (spread d at size n f) p (byte_pair (f n)) ≡ spread d at size (n + 1) f
unfolding spread
spread-next d at size n f p e = rw (e, add-one)

pub length-spread : (d : List ℕ) (at size n : ℕ) (f : ℕ → ℕ) → at + size * n + 2 ≤ length d + size
    → length (spread d at size n f) ≡ length d
unfolding spread
length-spread d at size zero f h = refl
length-spread d at size (suc n) f h =
    let m = mul-suc size n in
    let e = length-spread d at size n f (omega arith) in
    length-placed _ (at + size * n) (byte_pair (f n)) (omega (arith, length-byte_pair (f n))) ∙ e

-- next to each other they are one list
pub spread-two : (d : List ℕ) (at n : ℕ) (f : ℕ → ℕ) → at + 2 * n ≤ length d → Put byte_pair f d at (spread d at 2 n f) n
unfolding spread
spread-two d at zero f h = put-none byte_pair f d at
spread-two d at (suc n) f h =
    rw add-one at
    (put_next byte_pair f d at 2 (λ i. length-byte_pair (f i)) (spread d at 2 n f) _ n (at + 2 * n)
    refl (omega arith) refl (spread-two d at n f (omega arith)))

-- a list placed behind them, before or after
spread-placed : (d : List ℕ) (at n : ℕ) (f : ℕ → ℕ) (p : ℕ) (xs : List ℕ) → at + 4 * n ≤ p + 2 → p + length xs ≤ length d
    → spread (placed d p xs) at 4 n f ≡ placed (spread d at 4 n f) p xs
unfolding spread
spread-placed d at zero f p xs h l = refl
spread-placed d at (suc n) f p xs h l =
    let k = length-spread d at 4 n f (omega arith) in
    ap (λ (r : List ℕ). placed r (at + 4 * n) (byte_pair (f n))) (spread-placed d at n f p xs (omega arith) l)
    ∙ placed-swap (spread d at 4 n f) (at + 4 * n) (byte_pair (f n)) p xs (omega (arith, length-byte_pair (f n))) (omega arith)

-- nets, and weights two bytes behind them, are candidates
pub spread-pairs : (d : List ℕ) (at n : ℕ) (f g : ℕ → ℕ) → at + 4 * n ≤ length d
    → Put candidate_bytes (λ i. record { net = f i; weight = g i }) d at (spread (spread d at 4 n f) (at + 2) 4 n g) n
unfolding spread
spread-pairs d at zero f g h = put-none candidate_bytes _ d at
spread-pairs d at (suc n) f g h =
    let c : ℕ → Candidate = λ i. record { net = f i; weight = g i } in
    let p : ℕ = at + 4 * n in
    let s : List ℕ = spread d at 4 n f in
    let x : List ℕ = spread s (at + 2) 4 n g in
    let w : Put candidate_bytes c d at x n = spread-pairs d at n f g (omega arith) in
    let k = length-spread d at 4 n f (omega arith) in
    let y : List ℕ = spread (placed s p (byte_pair (f n))) (at + 2) 4 n g in
    let e : y ≡ placed x p (byte_pair (f n)) =
    spread-placed s (at + 2) n g p (byte_pair (f n)) (omega arith) (omega (arith, length-byte_pair (f n))) in
    let q : at + 2 + 4 * n ≡ p + 2 = omega arith in
    rw add-one at
    (put_next candidate_bytes c d at 4 (λ i. length-candidate_bytes (c i)) x (placed y (at + 2 + 4 * n) (byte_pair (g n))) n p refl
    (omega arith) (candidate-placed x p (c n) (omega (arith, w.0)) e (ap (λ (i : ℕ). placed y i (byte_pair (g n))) q)) w)

-- the candidates behind a head at e
candidates-placed : (d : List ℕ) {d₁ d₂ : List ℕ} (e n : ℕ) (nets weights : List ℕ) → e + 3 + 4 * n ≤ length d
    → d₁ ≡ spread d (e + 3) 4 n (λ i. get_or nets i 0) → d₂ ≡ spread d₁ (e + 5) 4 n (λ i. get_or weights i 0)
    → d₂ ≡ placed d (e + 3) (flat candidate_bytes (candidates_from n nets weights))
unfolding candidates_from
candidates-placed d {d₁} e n nets weights h e₁ e₂ =
    let k : e + 5 ≡ e + 3 + 2 = omega arith in
    e₂
    ∙ ap (λ (i : ℕ). spread d₁ i 4 n (λ j. get_or weights j 0)) k
    ∙ ap (λ (r : List ℕ). spread r (e + 3 + 2) 4 n (λ j. get_or weights j 0)) e₁
    ∙ (spread-pairs d (e + 3) n (λ i. get_or nets i 0) (λ i. get_or weights i 0) h).1

-- ---- a job's fields around its gates' bytes, which stand in the buffer d already

-- a field's head keeps the bytes' length
pub length-headed : (d : List ℕ) {d₁ : List ℕ} (at t n : ℕ) → at + 3 ≤ length d → d₁ ≡ placed d at (t ∷ byte_pair n)
    → length d₁ ≡ length d
unfolding byte_pair
length-headed d at t n h e = ap length e ∙ length-placed d at (t ∷ byte_pair n) (omega arith)

-- the steps of put_side
module _ (d : List ℕ) {d₁ : List ℕ} (at t : ℕ) (c : SideCounts) (os : List ℕ)
    (n : length d ≡ 8188) (h : SidePut 8188 at t c (length os)) (e₁ : d₁ ≡ placed d at (t ∷ byte_pair (10 * c.gates))) where
  pub side-first : length d₁ ≡ 8188
  side-first = length-headed d at t (10 * c.gates) (omega arith) e₁ ∙ n

  module _ {d₂ : List ℕ} (e₂ : d₂ ≡ placed d₁ (at + 3 + 10 * c.gates) ((t + 1) ∷ byte_pair (2 * c.outputs))) where
    pub side-second : length d₂ ≡ 8188
    side-second =
        length-headed d₁ (at + 3 + 10 * c.gates) (t + 1) (2 * c.outputs) (omega (arith, side-first)) e₂ ∙ side-first

    pub side-done : {d₃ : List ℕ} → d₃ ≡ spread d₂ (at + 3 + 10 * c.gates + 3) 2 c.outputs (λ i. get_or os i 0)
        → (length d₃ ≡ 8188) × SideDone d at t c os (at + 3 + 10 * c.gates + 3 + 2 * c.outputs) d₃
    side-done {d₃} e₃ =
        let b : ℕ = at + 3 + 10 * c.gates in
        let ys : List ℕ = flat byte_pair (take c.outputs os) in
        let m : 2 * c.outputs ≡ length ys = sym (length-outputs _ ∙ rw (length-take-le c.outputs os h.held)) in
        let w = spread-two d₂ (b + 3) c.outputs (λ i. get_or os i 0) (omega (arith, side-second)) in
        let e : d₃ ≡ placed d₂ (b + 3) ys =
        e₃ ∙ w.1 ∙ ap (λ (xs : List ℕ). placed d₂ (b + 3) (flat byte_pair xs)) (tabulate-get_or os c.outputs h.held) in (
          ap length e₃ ∙ w.0 ∙ side-second,
          record {
            end = omega arith;
            bytes =
                rw (← e₁)
                (field-placed d₁ b (suc t) (2 * c.outputs) ys (b + 3) m refl (omega (arith, side-first)) (rw add-one at e₂) e);
          },
        )

pub job-bounds : {n : ℕ} {z : List ℕ} {c : Counts} (p : Places)
    → JobPut n c (length p.old.outputs) (length p.golden.outputs) (length p.nets) (length p.weights)
    → GatesPut c p.old.gates p.golden.gates z → JobBounds c p
job-bounds p j g =
    record {
      old = record { gates = g.held.0; outputs = j.old };
      golden = record { gates = g.held.1; outputs = j.golden };
      nets = j.nets;
      weights = j.weights;
    }

length-sides : (t : ℕ) (fs gs ys : List ℕ)
    → length (fs ++ field t gs ++ field (suc t) ys) ≡ length fs + 6 + length gs + length ys
length-sides t fs gs ys = simp (length-append, length-field) (omega arith)

module _ (d : List ℕ) where
  -- a head and the field of the outputs around a netlist's gates, behind the fields fs: n is the gates' length
  side-around : {d₀ d₁ : List ℕ} (fs : List ℕ) (at t n : ℕ) (gs ys : List ℕ)
      → d₀ ≡ placed d 0 fs → at ≡ length fs → n ≡ length gs → at + 6 + n + length ys ≤ length d
      → take n (drop (at + 3) d) ≡ gs
      → d₁ ≡ placed (placed d₀ at (t ∷ byte_pair n)) (at + 3 + n) (field (suc t) ys)
      → d₁ ≡ placed d 0 (fs ++ field t gs ++ field (suc t) ys)
  unfolding byte_pair
  side-around {d₀} fs at t n gs ys e q m h g f =
      let a : List ℕ = placed d₀ at (t ∷ byte_pair n) in
      let k : length d₀ ≡ length d = ap length e ∙ length-placed d 0 fs (omega arith) in
      let b : drop (at + 3) a ≡ drop (at + 3) d =
      drop-placed d₀ at (t ∷ byte_pair n) (omega arith)
      ∙ ap (drop (at + 3)) e
      ∙ drop-placed-behind d 0 fs (omega arith) (at + 3) (omega arith) in
      let s : take (length gs) (drop (at + 3) a) ≡ gs =
      ap (λ (i : ℕ). take i (drop (at + 3) a)) (sym m) ∙ ap (take n) b ∙ g in
      let w : a ≡ placed d 0 (fs ++ field t gs) =
      placed-then d 0 fs (field t gs) at (omega arith) (omega (arith, length-field t gs)) e
      (field-placed d₀ at t n gs (at + 3) m refl (omega arith) refl (sym (placed_same a (at + 3) gs s))) in
      let l = length-append fs (field t gs) in
      placed-then d 0 (fs ++ field t gs) (field (suc t) ys) (at + 3 + n)
      (omega (arith, length-field t gs)) (omega (arith, length-field (suc t) ys)) w f

  -- the steps of put_rest; b and e are where the netlists' fields end
  pub job-done : {d₁ d₂ d₃ d₄ d₅ d₆ d₇ : List ℕ} {b e : ℕ} {c : Counts} {p : Places}
      → JobBounds c p → Within c → GatesPut c p.old.gates p.golden.gates d → 8188 ≤ length d
      → d₁ ≡ placed d 0 (1 ∷ byte_pair 2) → d₂ ≡ placed d₁ 3 (c.inputs ∷ c.targets ∷ [])
      → SideDone d₂ 5 2 c.old p.old.outputs b d₃
      → SideDone d₃ b 4 c.golden p.golden.outputs e d₄
      → d₅ ≡ placed d₄ e (6 ∷ byte_pair (4 * c.candidates))
      → d₆ ≡ spread d₅ (e + 3) 4 c.candidates (λ i. get_or p.nets i 0)
      → d₇ ≡ spread d₆ (e + 5) 4 c.candidates (λ i. get_or p.weights i 0)
      → JobDone c p (e + 3 + 4 * c.candidates) d₇
  unfolding job_bytes job_from netlist_from gates_bytes starts_of
  job-done {d₃} {d₄} {d₅} {d₇} {b} {e} {c} {p} o w g h e₁ e₂ e₃ e₄ e₅ e₆ e₇ =
      let f : List ℕ = field 1 (c.inputs ∷ c.targets ∷ []) in
      let gs : List ℕ = gates_bytes c.old.gates p.old.gates in
      let hs : List ℕ = gates_bytes c.golden.gates p.golden.gates in
      let xs : List ℕ = flat byte_pair (take c.old.outputs p.old.outputs) in
      let ys : List ℕ = flat byte_pair (take c.golden.outputs p.golden.outputs) in
      let cs : List ℕ = flat candidate_bytes (candidates_from c.candidates p.nets p.weights) in
      let nf : length f ≡ 5 = length-field 1 (c.inputs ∷ c.targets ∷ []) in
      let ng : length gs ≡ 10 * c.old.gates = length-gates_bytes _ _ o.old.gates in
      let nh : length hs ≡ 10 * c.golden.gates = length-gates_bytes _ _ o.golden.gates in
      let nx : length xs ≡ 2 * c.old.outputs = length-outputs _ ∙ rw (length-take-le _ _ o.old.outputs) in
      let ny : length ys ≡ 2 * c.golden.outputs = length-outputs _ ∙ rw (length-take-le _ _ o.golden.outputs) in
      let nc : length cs ≡ 4 * c.candidates = length-candidates _ ∙ rw length-candidates_from in
      let s : List ℕ = f ++ field 2 gs ++ field 3 xs in
      let z : List ℕ = s ++ field 4 hs ++ field 5 ys in
      let ns = length-sides 2 f gs xs in
      let nz = length-sides 4 s hs ys in
      let n6 = length-field 6 cs in
      let lb = e₃.end in
      let le = e₄.end in
      let st : b + 3 ≡ (starts_of c).golden = omega arith in
      let w₃ : d₃ ≡ placed d 0 s =
      side-around f 5 2 (10 * c.old.gates) gs xs
      (field-placed d 0 1 2 (c.inputs ∷ c.targets ∷ []) 3 refl refl (omega arith) e₁ e₂)
      (sym nf) (sym ng) (omega arith) g.old e₃.bytes in
      let w₄ : d₄ ≡ placed d 0 z =
      side-around s b 4 (10 * c.golden.gates) hs ys w₃ (omega arith) (sym nh) (omega arith)
      (ap (λ (k : ℕ). take (10 * c.golden.gates) (drop k d)) st ∙ g.golden) e₄.bytes in
      let k : length d₄ ≡ length d = ap length w₄ ∙ length-placed d 0 z (omega arith) in
      let l = length-headed d₄ e 6 (4 * c.candidates) (omega arith) e₅ in
      let w₇ : d₇ ≡ placed d 0 (job_bytes (job_from c p)) =
      placed-then d 0 z (field 6 cs) e (omega arith) (omega arith) w₄
      (field-placed d₄ e 6 (4 * c.candidates) cs (e + 3) (sym nc) refl (omega arith) e₅
      (candidates-placed d₅ e c.candidates p.nets p.weights (omega arith) e₆ e₇)) in
      let m : e + 3 + 4 * c.candidates ≡ length (job_bytes (job_from c p)) = omega (arith, length-job_from o) in
      record {
        len = m;
        bytes =
            ap (λ (i : ℕ). take i d₇) m
            ∙ ap (take (length (job_bytes (job_from c p)))) w₇
            ∙ take-placed-front d (job_bytes (job_from c p));
      }
