-- Laws of what the services accept: tests in a row, the longest job, and read and write one after the other, by laws over what can
-- hold a job's parts. Assumes nothing.
use Prim.Native.Nat.{ℕ, zero, suc, ◌+◌, ◌≤◌, ◌<◌}
use mathlib.Core.Path.{◌≡◌, refl, sym, ◌∙◌, ap}
use mathlib.Core.Logic.{◌↔◌}
use mathlib.Core.List.{List, [], ◌∷◌, map}
use mathlib.Core.Bool.{Bool, true, false, cond}
use native.Mathlib.Omega.{arith}
use borrow.Author.Tests.{ltb-true, leb-true, le-leb, eqb-true, eq-eqb, ne_eqb}
use lib.Dec.{T, leb, ltb, eqb, lit<}
use lib.ListN.{length, get_or, take, drop, length-map, get_or-map}
use lib.Seq.{ext_get_or}
use Rattle.records.specs.Bytes.{up_from, all, flat, tabulate, byte_pair, placed, field, nth}
use Rattle.records.specs.Gate.{Gate, gate_of, least_count, most_count, permits, operands, unused, disj}
use Rattle.records.specs.Netlist.{Netlist, net_at, extended, mark_of, fanout}
use Rattle.records.specs.Job.{Candidate, Job, gate_at, gates_of, netlist_of, job_tags, job_whole, job_of, gate_bytes, candidate_bytes, job_bytes}
use Rattle.records.specs.Refusal.{side_counts_good, counts_good, gate_good, gates_good, netlists_good, old_nets, golden_nets, outputs_good, ascending, candidate_good, candidates_good, longest_job, Test, first_failing, part_tests, job_tests, job_refusal}
use Rattle.records.specs.Sheet.{sheet_tests}
use Rattle.records.specs.Service.{SidePlaces, Places, struct_of, side_counts_of, counts_of, no_counts, roomy, filled_side, filled, gates_in, netlist_from, candidates_from, job_from, held, read_number, read_reply, read_places, write_number, write_reply, written_bytes, sheet_number, sheet_reply}
use Rattle.records.specs.Columns.{columns_reply, columns_write_reply}
use Rattle.records.specs.Inner.{start_of, Within}
use Rattle.records.specs.Claims.{Below, PartsGood, First, ReadAccepts, WriteAccepts, SheetAccepts, ReadRefuses, WriteRefuses, SheetRefuses, NumberGiven, PlacesGiven, ReadWrite, WriteRead, LongestJob, LongestJobMet}
use Rattle.records.specs.declared.gate.Gate.{Gate as GateStruct}
use Rattle.records.specs.declared.job.Counts.{Counts}
use Rattle.records.proofs.Laws.Bytes.{and_left, and_right, length-tabulate, get_d_tabulate}
use Rattle.records.proofs.Laws.Counts.{counts_within-facts, counts_within-counts_of}
use Rattle.records.proofs.Laws.Field.{whole-end, start_of-suc, start_of-position}
use Rattle.records.proofs.Laws.Shape.{JobWhole, job_whole-facts, length-gates_of, length-nets_of, length-candidates_of}
use Rattle.records.proofs.Laws.Job.{length-placed-front, take-placed-front, drop-placed-front, get_or-placed-front, SideBounds, held-bounds, held-true, counts_of-job_from}
use Rattle.records.proofs.Laws.RoundTrip.{All, all-tabulate, Four, FourEach, gates-structs, four-job_from, read-write, write_read, job_refusal-job_bytes}

-- ---- tests in a row

pub pick-zero : (b : Bool) (m n : ℕ) → 0 < n → cond b m n ≡ 0 → (b ≡ true) × (m ≡ 0)
pick-zero true m n h e = (refl, e)
pick-zero false m n h e = let f : ⊥ = omega arith in absurd f

abbrev pub Passes : Test → Type 0
Passes t = t.passes ≡ true

-- where no test fails, each passes, if each has a number above 0
pub passes-of-none : (ts : List Test) → All (λ (t : Test). 0 < t.number) ts → first_failing ts ≡ 0 → All Passes ts
unfolding first_failing
passes-of-none [] n e = tt
passes-of-none (t ∷ ts) n e =
    let u = pick-zero t.passes (first_failing ts) t.number n.0 e in
    (u.0, passes-of-none ts n.1 u.1)

pub none-of-passes : (ts : List Test) → All Passes ts → first_failing ts ≡ 0
unfolding first_failing
none-of-passes [] p = refl
none-of-passes (t ∷ ts) p = rw p.0 (none-of-passes ts p.1)

pub first : First
unfolding first_failing all
first [] us t p f = rw f
first (x ∷ ts) us t p f = rw (and_left x.passes _ p) (first ts us t (and_right x.passes _ p) f)

-- the tests of the parts
module _ (j : Job) where
  parts-tests : All (λ (t : Test). 0 < t.number) (part_tests j)
  unfolding part_tests
  parts-tests = (omega arith, (omega arith, (omega arith, (omega arith, tt))))

  parts-good : All Passes (part_tests j) → PartsGood j
  unfolding part_tests
  parts-good p = record { counts = p.0; gates = p.1.0; outputs = p.1.1.0; candidates = p.1.1.1.0 }

  parts-pass : PartsGood j → All Passes (part_tests j)
  unfolding part_tests
  parts-pass g = (g.counts, (g.gates, (g.outputs, (g.candidates, tt))))

-- a job's bytes, given whether there is room
pub job-accepts : (b : Bool) (s : List ℕ)
    → (first_failing (record { number = 1; passes = b } ∷ job_tests s) ≡ 0)
    ↔ ((b ≡ true) × (job_whole s ≡ true) × PartsGood (job_of s))
unfolding job_tests
job-accepts b s = (
  λ e.
      let u = passes-of-none _ (omega arith, (omega arith, parts-tests (job_of s))) e in
      (u.0, u.1.0, parts-good (job_of s) u.1.1),
  λ h. none-of-passes _ (h.0, (h.1, parts-pass (job_of s) h.2)),
)

pub read-accepts : ReadAccepts
unfolding read_number
read-accepts p s = job-accepts (roomy p) s

-- a job's parts, given the buffer's length and whether the counts are held
pub parts-accept : (n : ℕ) (b : Bool) (j : Job)
    → (first_failing
    (record { number = 1; passes = leb longest_job n } ∷ record { number = 3; passes = b } ∷ part_tests j)
    ≡ 0)
    ↔ ((longest_job ≤ n) × (b ≡ true) × PartsGood j)
parts-accept n b j = (
  λ e.
      let u = passes-of-none _ (omega arith, (omega arith, parts-tests j)) e in
      (leb-true _ _ u.0, u.1.0, parts-good j u.1.1),
  λ h. none-of-passes _ (le-leb _ _ h.0, (h.1, parts-pass j h.2)),
)

pub write-accepts : WriteAccepts
unfolding write_number
write-accepts c p d = parts-accept (length d) (held c p) (job_from c p)

pub sheet-accepts : SheetAccepts
unfolding sheet_number sheet_tests
sheet-accepts m k nets weights s = (
  λ e.
      let u = passes-of-none _ (omega arith, (omega arith, (omega arith, tt))) e in
      (u.0, u.1.0, u.1.1.0),
  λ h. none-of-passes _ (h.0, (h.1, (h.2, tt))),
)

pub read-refuses : ReadRefuses
unfolding read_reply read_places
read-refuses p s h = let e = ne_eqb (read_number p s) 0 h in (rw e, rw e)

pub write-refuses : WriteRefuses
unfolding write_reply written_bytes
write-refuses c p d h = let e = ne_eqb (write_number c p d) 0 h in (rw e, rw e)

pub sheet-refuses : SheetRefuses
unfolding sheet_reply
sheet-refuses m k nets weights s h = let e = ne_eqb (sheet_number m k nets weights s) 0 h in (rw e, rw e)

sheet-number : (m k : ℕ) (nets weights s : List ℕ) → (sheet_reply m k nets weights s).number ≡ sheet_number m k nets weights s
unfolding sheet_reply
sheet-number m k nets weights s = pick (eqb (sheet_number m k nets weights s) 0) refl
  where
    pick : (b : Bool) → eqb (sheet_number m k nets weights s) 0 ≡ b
        → (sheet_reply m k nets weights s).number ≡ sheet_number m k nets weights s
    pick true e = rw e (sym (eqb-true (sheet_number m k nets weights s) 0 e))
    pick false e = rw e

pub number-given : NumberGiven
unfolding read_reply write_reply columns_reply columns_write_reply
number-given = (λ p s. refl, λ c p d. refl, sheet-number, λ p s. refl, λ c p d. refl)

-- ---- the longest job

module _ (s : List ℕ) (w : JobWhole s) where
  -- where field k + 1 starts, by field k
  start : (k : ℕ) → T (ltb k 6) → start_of (suc k) s ≡ start_of k s + length (nth k s) + 3
  start k h = start_of-suc job_tags s w.fields k (lit< h)

  length-job : length s ≡ 20 + length (nth 1 s) + length (nth 2 s) + length (nth 3 s) + length (nth 4 s) + length (nth 5 s)
  unfolding start_of
  length-job =
      let e : start_of 6 s ≡ length s + 3 = start_of-position 6 s ∙ rw (whole-end job_tags s w.fields) in
      omega (arith, start 0 tt, start 1 tt, start 2 tt, start 3 tt, start 4 tt, start 5 tt)

  length-within : Within (counts_of (job_of s)) → length s ≤ longest_job
  unfolding counts_of side_counts_of job_of netlist_of
  length-within c =
      let o = length-nets_of (nth 2 s) in
      let g = length-nets_of (nth 4 s) in
      let k = length-candidates_of (nth 5 s) in
      omega (arith, length-job, length-gates_of (nth 1 s), length-gates_of (nth 3 s))

pub longest : LongestJob
unfolding job_refusal job_tests
longest s e =
    let u = passes-of-none _ (omega arith, parts-tests (job_of s)) e in
    let c = (parts-good (job_of s) u.1).counts in
    length-within s (job_whole-facts s u.0)
    (counts_within-facts (counts_of (job_of s)) (counts_within-counts_of (job_of s) ∙ c))

-- good parts take no more bytes
pub length-good : (j : Job) → FourEach j → PartsGood j → length (job_bytes j) ≤ longest_job
length-good j w g = longest (job_bytes j) (job_refusal-job_bytes j w ∙ none-of-passes (part_tests j) (parts-pass j g))

-- every count at its range's end: gates are constant zeros, outputs net 0, candidates the first nets
longest_side : Netlist
longest_side = record { gates = tabulate 400 (λ i. gate_of 0 0 0 0 0 0); outputs = tabulate 32 (λ i. 0) }

longest_parts : Job
longest_parts =
    record {
      inputs = 20;
      targets = 4;
      old = longest_side;
      golden = longest_side;
      candidates = tabulate 10 (λ i. record { net = i; weight = 0 });
    }

four-longest : FourEach longest_parts
unfolding longest_parts longest_side gate_of
four-longest = record { old = all-tabulate Four _ (λ i. refl) 400; golden = all-tabulate Four _ (λ i. refl) 400 }

tests-longest : first_failing (part_tests longest_parts) ≡ 0
unfolding part_tests first_failing longest_parts longest_side tabulate up_from all
    counts_good side_counts_good netlists_good gates_good gate_good permits least_count most_count gate_of operands unused outputs_good old_nets golden_nets
    candidates_good candidate_good ascending net_at fanout extended mark_of disj
tests-longest = refl

bytes-longest : (all (λ x. ltb x 256) (job_bytes longest_parts) ≡ true) × (length (job_bytes longest_parts) ≡ 8188)
unfolding all job_bytes field flat byte_pair gate_bytes candidate_bytes gate_of longest_parts longest_side tabulate up_from
bytes-longest = (refl, refl)

pub below-of-all : (n : ℕ) → 0 < n → (xs : List ℕ) → all (λ x. ltb x n) xs ≡ true → Below n xs
unfolding all
below-of-all n h [] p i = h
below-of-all n h (x ∷ xs) p zero = ltb-true x n (and_left (ltb x n) _ p)
below-of-all n h (x ∷ xs) p (suc i) = below-of-all n h xs (and_right (ltb x n) _ p) i

pub longest-met : LongestJobMet
longest-met =
    let s = job_bytes longest_parts in (
      s,
      below-of-all 256 (omega arith) s bytes-longest.0,
      job_refusal-job_bytes longest_parts four-longest ∙ tests-longest,
      bytes-longest.1,
    )

-- ---- places that hold the parts

-- a part of each record, in places of its own
module _ {A B : Type 0} (f : A → B) (ps : List B) (xs : List A) where
  pub column-room : length xs ≤ length (placed ps 0 (map f xs))
  column-room = rw (← length-map xs f) (length-placed-front ps (map f xs))

  pub take-column : take (length xs) (placed ps 0 (map f xs)) ≡ map f xs
  take-column = rw (← length-map xs f) (take-placed-front ps (map f xs))

  pub drop-column : drop (length xs) (placed ps 0 (map f xs)) ≡ drop (length xs) ps
  drop-column = rw (← length-map xs f) (drop-placed-front ps (map f xs))

  pub get_or-column : (d : A) (b : B) → f d ≡ b → (i : ℕ) → i < length xs → get_or (placed ps 0 (map f xs)) i b ≡ f (get_or xs i d)
  get_or-column d b z i h =
      get_or-placed-front ps (map f xs) i b (omega (arith, length-map xs f))
      ∙ ap (get_or (map f xs) i) (sym z)
      ∙ get_or-map f xs i d

pub tabulate-list : {A : Type 0} (d : A) (xs : List A) (f : ℕ → A) → ((i : ℕ) → i < length xs → f i ≡ get_or xs i d)
    → tabulate (length xs) f ≡ xs
tabulate-list d xs f h =
    let n = length-tabulate (length xs) f in
    ext_get_or d (tabulate (length xs) f) xs n (λ i l. get_d_tabulate (length xs) f i d (omega arith) ∙ h i (omega arith))

gates_in-placed : (ps : List GateStruct) (gs : List Gate) → All Four gs
    → gates_in (length gs) (placed ps 0 (map struct_of gs)) ≡ gs
unfolding gates_in
gates_in-placed ps gs w = rw (take-column struct_of ps gs) (gates-structs gs w)

netlist_from-filled : (p : SidePlaces) (l : Netlist) → All Four l.gates
    → netlist_from (side_counts_of l) (filled_side p l) ≡ l
unfolding netlist_from side_counts_of filled_side
netlist_from-filled p l w =
    rw (gates_in-placed p.gates l.gates w, take-placed-front p.outputs l.outputs)

pub candidates_from-filled : (ns ws : List ℕ) (cs : List Candidate)
    → candidates_from (length cs)
    (placed ns 0 (map (λ (c : Candidate). c.net) cs)) (placed ws 0 (map (λ (c : Candidate). c.weight) cs))
    ≡ cs
unfolding candidates_from
candidates_from-filled ns ws cs =
    let none : Candidate = record { net = 0; weight = 0 } in
    tabulate-list none cs _
    (λ i h.
    rw (
      get_or-column (λ (c : Candidate). c.net) ns cs none 0 refl i h,
      get_or-column (λ (c : Candidate). c.weight) ws cs none 0 refl i h,
    ))

-- the places of a read job hold its parts
pub job_from-filled : (p : Places) (j : Job) → FourEach j → job_from (counts_of j) (filled p j) ≡ j
unfolding job_from counts_of filled
job_from-filled p j w =
    rw (
      netlist_from-filled p.old j.old w.old,
      netlist_from-filled p.golden j.golden w.golden,
      candidates_from-filled p.nets p.weights j.candidates,
    )

side-filled : (p : SidePlaces) (l : Netlist) → SideBounds (side_counts_of l) (filled_side p l)
unfolding side_counts_of filled_side
side-filled p l =
    record { gates = column-room struct_of p.gates l.gates; outputs = length-placed-front p.outputs l.outputs }

pub held-filled : (p : Places) (j : Job) → held (counts_of j) (filled p j) ≡ true
unfolding counts_of filled
held-filled p j =
    held-true (counts_of j) (filled p j)
    (record {
      old = side-filled p.old j.old;
      golden = side-filled p.golden j.golden;
      nets = column-room (λ (c : Candidate). c.net) p.nets j.candidates;
      weights = column-room (λ (c : Candidate). c.weight) p.weights j.candidates;
    })

-- ---- what can hold a job's parts: places, columns

pub four-job_of : (s : List ℕ) → FourEach (job_of s)
unfolding job_of netlist_of gates_of gate_at gate_of
four-job_of s = record { old = all-tabulate Four _ (λ i. refl) _; golden = all-tabulate Four _ (λ i. refl) _ }

-- whether there is room for any job, a job put there, whether counts are held, and the job that is held with them
pub record Holder (P : Type 0) : Type 0 where
  pub room : P → Bool
  pub put : P → Job → P
  pub holds : Counts → P → Bool
  pub job : Counts → P → Job
  pub four : (c : Counts) (p : P) → FourEach (job c p)
  pub counts_of-job : (c : Counts) (p : P) → holds c p ≡ true → counts_of (job c p) ≡ c
  pub holds-put : (p : P) (j : Job) → FourEach j → holds (counts_of j) (put p j) ≡ true
  pub job-put : (p : P) (j : Job) → FourEach j → job (counts_of j) (put p j) ≡ j

module _ {P : Type 0} (k : Holder P) where
  -- the number and the counts that reading replies, and what is held afterwards
  abbrev pub read_number_in : P → List ℕ → ℕ
  read_number_in p s = first_failing (record { number = 1; passes = k.room p } ∷ job_tests s)

  abbrev pub counts_in : P → List ℕ → Counts
  counts_in p s = cond (eqb (read_number_in p s) 0) (counts_of (job_of s)) no_counts

  abbrev pub read_in : P → List ℕ → P
  read_in p s = cond (eqb (read_number_in p s) 0) (k.put p (job_of s)) p

  -- the number and the length that writing replies, and the buffer afterwards
  abbrev pub write_number_in : Counts → P → List ℕ → ℕ
  write_number_in c p d =
      first_failing
      (record { number = 1; passes = leb longest_job (length d) }
      ∷ record { number = 3; passes = k.holds c p }
      ∷ part_tests (k.job c p))

  abbrev pub length_in : Counts → P → List ℕ → ℕ
  length_in c p d = cond (eqb (write_number_in c p d) 0) (length (job_bytes (k.job c p))) 0

  abbrev pub written_in : Counts → P → List ℕ → List ℕ
  written_in c p d = cond (eqb (write_number_in c p d) 0) (placed d 0 (job_bytes (k.job c p))) d

  -- what is read is held
  pub held_in : (p : P) (s : List ℕ) → read_number_in p s ≡ 0 → k.holds (counts_in p s) (read_in p s) ≡ true
  held_in p s e = rw (eq-eqb (read_number_in p s) 0 e) (k.holds-put p (job_of s) (four-job_of s))

  pub given-in : (p : P) (s : List ℕ) → read_number_in p s ≡ 0 → k.job (counts_in p s) (read_in p s) ≡ job_of s
  given-in p s e = rw (eq-eqb (read_number_in p s) 0 e) (k.job-put p (job_of s) (four-job_of s))

  -- read, then write
  pub write-read-in : (p : P) (s : List ℕ) → Below 256 s → read_number_in p s ≡ 0 → (d : List ℕ) → longest_job ≤ length d
      → let c = counts_in p s in
      let q = read_in p s in
      (write_number_in c q d ≡ 0) × (length_in c q d ≡ length s) × (written_in c q d ≡ placed d 0 s)
  write-read-in p s b e d h =
      let u = (job-accepts (k.room p) s).0 e in
      let c = counts_of (job_of s) in
      let q = k.put p (job_of s) in
      let f : k.job c q ≡ job_of s = k.job-put p (job_of s) (four-job_of s) in
      let r : job_bytes (k.job c q) ≡ s = ap job_bytes f ∙ write_read s b u.1 in
      let n : write_number_in c q d ≡ 0 =
      (parts-accept (length d) (k.holds c q) (k.job c q)).1 (h, k.holds-put p (job_of s) (four-job_of s), rw f u.2) in
      rw (eq-eqb (read_number_in p s) 0 e)
      (n, rw (eq-eqb (write_number_in c q d) 0 n) (ap length r), rw (eq-eqb (write_number_in c q d) 0 n) (ap (placed d 0) r))

  -- write, then read
  pub read-write-in : (c : Counts) (p : P) (d : List ℕ) → write_number_in c p d ≡ 0 → (q : P) → k.room q ≡ true
      → let s = take (length_in c p d) (written_in c p d) in
      (read_number_in q s ≡ 0) × (counts_in q s ≡ c) × (k.job c (read_in q s) ≡ k.job c p)
  read-write-in c p d e q h =
      let u = (parts-accept (length d) (k.holds c p) (k.job c p)).0 e in
      let s = job_bytes (k.job c p) in
      let w = read-write (k.job c p) (k.four c p) in
      let n : read_number_in q s ≡ 0 = (job-accepts (k.room q) s).1 (h, w.0, rw w.1 u.2) in
      let m : counts_in q s ≡ c = rw (eq-eqb (read_number_in q s) 0 n) (ap counts_of w.1 ∙ k.counts_of-job c p u.1) in
      let f : k.job c (read_in q s) ≡ k.job c p =
      ap (λ (x : Counts). k.job x (read_in q s)) (sym m) ∙ given-in q s n ∙ w.1 in
      rw (eq-eqb (write_number_in c p d) 0 e, take-placed-front d s) (n, m, f)

-- ---- read and write

module _ (p : Places) (s : List ℕ) (e : read_number p s ≡ 0) where
  pub read-counts : (read_reply p s).counts ≡ counts_of (job_of s)
  unfolding read_reply
  read-counts = rw (eq-eqb (read_number p s) 0 e)

  pub read-places : read_places p s ≡ filled p (job_of s)
  unfolding read_places
  read-places = rw (eq-eqb (read_number p s) 0 e)

abbrev pub in_places : Holder Places
in_places =
    record {
      room = roomy;
      put = filled;
      holds = held;
      job = job_from;
      four = four-job_from;
      counts_of-job = λ c p h. counts_of-job_from (held-bounds c p h);
      holds-put = λ p j w. held-filled p j;
      job-put = job_from-filled;
    }

pub places-given : PlacesGiven
unfolding read_reply read_places read_number
places-given p s e = (held_in in_places p s e, given-in in_places p s e)

pub rewritten : WriteRead
unfolding read_reply read_places read_number write_reply written_bytes write_number
rewritten = write-read-in in_places

pub reread : ReadWrite
unfolding read_reply read_places read_number write_reply written_bytes write_number
reread = read-write-in in_places
