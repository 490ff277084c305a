-- Laws of specs/Columns: what read_columns and write_columns accept, columns that hold a job's parts, both services one after the other,
-- and beside read and write. Assumes nothing.
use Prim.Native.Nat.{ℕ, zero, suc, ◌+◌, ◌*◌, ◌≤◌, ◌<◌}
use mathlib.Core.Path.{◌≡◌, refl, sym, ◌∙◌, ap}
use mathlib.Core.List.{List, [], ◌∷◌, ◌++◌, map}
use mathlib.Core.Bool.{true}
use native.Mathlib.Nat.{add-zero, zero-add, mul-zero, mul-suc}
use native.Mathlib.Omega.{arith}
use borrow.Author.Tests.{leb-true, le-leb, eq-eqb, ne_eqb}
use lib.Dec.{leb}
use lib.ListN.{length, get_or, take, drop, length-map, get_or-append}
use lib.Seq.{length-take-le, get_or-drop, drop_at}
use Rattle.records.specs.Bytes.{flat, placed}
use Rattle.records.specs.Gate.{Gate, gate_of}
use Rattle.records.specs.Netlist.{Netlist}
use Rattle.records.specs.Job.{Candidate, Job, job_of}
use Rattle.records.specs.Service.{slot_of, struct_of, side_counts_of, counts_of, read_number, read_reply, write_number, write_reply, written_bytes}
use Rattle.records.specs.Columns.{SideColumns, Columns, columns_roomy, side_columns_filled, columns_filled, columns_number, columns_reply, columns_after, gates_from, columns_netlist, columns_job, side_columns_held, columns_held, columns_write_number, columns_write_reply, columns_written}
use Rattle.records.specs.Inner.{struct_slots}
use Rattle.records.specs.Claims.{ColumnsRead, ColumnsAccepts, ColumnsRefuses, ColumnsGiven, ColumnsWithin, ColumnsWrite, ColumnsWriteAccepts, ColumnsWriteRefuses, ColumnsReadWrite, ColumnsWriteRead}
use Rattle.records.specs.declared.gate.Gate.{Gate as GateStruct}
use Rattle.records.specs.declared.job.SideCounts.{SideCounts}
use Rattle.records.specs.declared.job.Counts.{Counts}
use Rattle.records.proofs.Laws.Bytes.{and_both, row_at, length-tabulate}
use Rattle.records.proofs.Laws.Job.{length-flat, length-placed-front, take-placed-front, drop-placed-front, get_or-placed-front, length-candidates_from}
use Rattle.records.proofs.Laws.RoundTrip.{All, all-tabulate, Four, FourEach, four-slots}
use Rattle.records.proofs.Laws.Accepted.{job-accepts, parts-accept, column-room, get_or-column, tabulate-list, candidates_from-filled, Holder, held_in, given-in, write-read-in, read-write-in}

-- ---- what is accepted

pub columns-accepts : ColumnsAccepts
unfolding columns_number
columns-accepts p s = job-accepts (columns_roomy p) s

pub columns-write-accepts : ColumnsWriteAccepts
unfolding columns_write_number
columns-write-accepts c p d = parts-accept (length d) (columns_held c p) (columns_job c p)

pub columns-refuses : ColumnsRefuses
unfolding columns_reply columns_after
columns-refuses p s h = let e = ne_eqb (columns_number p s) 0 h in (rw e, rw e)

pub columns-write-refuses : ColumnsWriteRefuses
unfolding columns_write_reply columns_written
columns-write-refuses c p d h = let e = ne_eqb (columns_write_number c p d) 0 h in (rw e, rw e)

module _ (p : Columns) (s : List ℕ) (e : columns_number p s ≡ 0) where
  pub columns-counts : (columns_reply p s).counts ≡ counts_of (job_of s)
  unfolding columns_reply
  columns-counts = rw (eq-eqb (columns_number p s) 0 e)

  pub columns-after : columns_after p s ≡ columns_filled p (job_of s)
  unfolding columns_after
  columns-after = rw (eq-eqb (columns_number p s) 0 e)

-- ---- slots: one list, four a gate

-- element j of piece i, where pieces of one size stand one after the other
get_or-pieces : {A : Type 0} (f : A → List ℕ) (k : ℕ) (d : A) (xs : List A) → All (λ (x : A). length (f x) ≡ k) xs
    → (i j : ℕ) → i < length xs → j < k → get_or (flat f xs) (k * i + j) 0 ≡ get_or (f (get_or xs i d)) j 0
unfolding flat
get_or-pieces f k d [] w i j h l = let z : ⊥ = omega arith in absurd z
get_or-pieces f k d (x ∷ xs) w zero j h l =
    rw (mul-zero, zero-add) (get_or-append (f x) (flat f xs) 0 j (omega (arith, w.0)))
get_or-pieces f k d (x ∷ xs) w (suc i) j h l =
    let e : k * suc i + j ≡ k + (k * i + j) = omega (arith, mul-suc k i) in
    ap (λ (n : ℕ). get_or (f x ++ flat f xs) n 0) e
    ∙ sym (get_or-drop k (f x ++ flat f xs) (k * i + j) 0)
    ∙ ap (λ (r : List ℕ). get_or r (k * i + j) 0) (drop_at (f x) (flat f xs) k w.0)
    ∙ get_or-pieces f k d xs w.1 i j (omega arith) l

abbrev pub slot_column : List Gate → List ℕ
slot_column gs = flat (λ (g : Gate). g.slots) gs

pub length-struct_slots : (g : GateStruct) → length (struct_slots g) ≡ 4
unfolding struct_slots
length-struct_slots g = refl

struct-slots : (g : Gate) → Four g → struct_slots (struct_of g) ≡ g.slots
unfolding struct_slots struct_of slot_of gate_of
struct-slots g w = sym (ap (λ (x : Gate). x.slots) (four-slots g w))

-- the slots of gates as structs
pub slots-structs : (gs : List Gate) → All Four gs → flat struct_slots (map struct_of gs) ≡ slot_column gs
unfolding flat
slots-structs [] w = refl
slots-structs (g ∷ gs) w = rw (struct-slots g w.0, slots-structs gs w.1)

module _ (ss : List ℕ) (gs : List Gate) (w : All Four gs) where
  length-slots : length (slot_column gs) ≡ 4 * length gs
  length-slots =
      ap length (sym (slots-structs gs w))
      ∙ length-flat struct_slots 4 length-struct_slots (map struct_of gs)
      ∙ ap (λ (n : ℕ). 4 * n) (length-map gs struct_of)

  slots-room : 4 * length gs ≤ length (placed ss 0 (slot_column gs))
  slots-room = rw (← length-slots) (length-placed-front ss (slot_column gs))

  pub take-slots : take (4 * length gs) (placed ss 0 (slot_column gs)) ≡ slot_column gs
  take-slots = rw (← length-slots) (take-placed-front ss (slot_column gs))

  pub drop-slots : drop (4 * length gs) (placed ss 0 (slot_column gs)) ≡ drop (4 * length gs) ss
  drop-slots = rw (← length-slots) (drop-placed-front ss (slot_column gs))

  get_or-slots : (d : Gate) (i j : ℕ) → i < length gs → j < 4
      → get_or (placed ss 0 (slot_column gs)) (4 * i + j) 0 ≡ get_or (get_or gs i d).slots j 0
  get_or-slots d i j h l =
      get_or-placed-front ss (slot_column gs) (4 * i + j) 0 (omega (arith, length-slots))
      ∙ get_or-pieces (λ (g : Gate). g.slots) 4 d gs w i j h l

-- ---- columns that hold the parts

all_get_d : {A : Type 0} (P : A → Type 0) (d : A) → P d → (xs : List A) → All P xs → (i : ℕ) → P (get_or xs i d)
all_get_d P d z [] a i = z
all_get_d P d z (x ∷ xs) a zero = a.0
all_get_d P d z (x ∷ xs) a (suc i) = all_get_d P d z xs a.1 i

gates_from-placed : (ks ns ss : List ℕ) (gs : List Gate) → All Four gs
    → gates_from (length gs)
    (placed ks 0 (map (λ (g : Gate). g.kind) gs)) (placed ns 0 (map (λ (g : Gate). g.count) gs)) (placed ss 0 (slot_column gs))
    ≡ gs
unfolding gates_from gate_of
gates_from-placed ks ns ss gs w =
    let none : Gate = gate_of 0 0 0 0 0 0 in
    tabulate-list none gs _
    (λ i h.
    rw (
      get_or-column (λ (g : Gate). g.kind) ks gs none 0 refl i h,
      get_or-column (λ (g : Gate). g.count) ns gs none 0 refl i h,
      ap (λ (n : ℕ). get_or (placed ss 0 (slot_column gs)) n 0) (sym (add-zero (4 * i))) ∙ get_or-slots ss gs w none i 0 h (omega arith),
      get_or-slots ss gs w none i 1 h (omega arith),
      get_or-slots ss gs w none i 2 h (omega arith),
      get_or-slots ss gs w none i 3 h (omega arith),
    )
    (sym (four-slots (get_or gs i none) (all_get_d Four none refl gs w i))))

columns_netlist-filled : (p : SideColumns) (l : Netlist) → All Four l.gates
    → columns_netlist (side_counts_of l) (side_columns_filled p l) ≡ l
unfolding columns_netlist side_counts_of side_columns_filled
columns_netlist-filled p l w =
    rw (gates_from-placed p.kinds p.counts p.slots l.gates w, take-placed-front p.outputs l.outputs)

-- the columns of a read job hold its parts
pub columns_job-filled : (p : Columns) (j : Job) → FourEach j → columns_job (counts_of j) (columns_filled p j) ≡ j
unfolding columns_job counts_of columns_filled
columns_job-filled p j w =
    rw (
      columns_netlist-filled p.old j.old w.old,
      columns_netlist-filled p.golden j.golden w.golden,
      candidates_from-filled p.nets p.weights j.candidates,
    )

side_columns_held-filled : (p : SideColumns) (l : Netlist) → All Four l.gates
    → side_columns_held (side_counts_of l) (side_columns_filled p l) ≡ true
unfolding side_columns_held side_counts_of side_columns_filled
side_columns_held-filled p l w =
    and_both _ _
    (and_both _ _
    (and_both _ _
    (le-leb _ _ (column-room (λ (g : Gate). g.kind) p.kinds l.gates))
    (le-leb _ _ (column-room (λ (g : Gate). g.count) p.counts l.gates)))
    (le-leb _ _ (slots-room p.slots l.gates w)))
    (le-leb _ _ (length-placed-front p.outputs l.outputs))

pub columns_held-filled : (p : Columns) (j : Job) → FourEach j → columns_held (counts_of j) (columns_filled p j) ≡ true
unfolding columns_held counts_of columns_filled
columns_held-filled p j w =
    and_both _ _
    (and_both _ _
    (and_both _ _
    (side_columns_held-filled p.old j.old w.old)
    (side_columns_held-filled p.golden j.golden w.golden))
    (le-leb _ _ (column-room (λ (c : Candidate). c.net) p.nets j.candidates)))
    (le-leb _ _ (column-room (λ (c : Candidate). c.weight) p.weights j.candidates))

-- ---- the job that columns hold

four-gates_from : (k : ℕ) (ks ns ss : List ℕ) → All Four (gates_from k ks ns ss)
unfolding gates_from gate_of
four-gates_from k ks ns ss = all-tabulate Four _ (λ i. refl) k

pub four-columns_job : (c : Counts) (p : Columns) → FourEach (columns_job c p)
unfolding columns_job columns_netlist
four-columns_job c p = record { old = four-gates_from _ _ _ _; golden = four-gates_from _ _ _ _ }

side_counts_of-columns : (c : SideCounts) (p : SideColumns) → side_columns_held c p ≡ true → side_counts_of (columns_netlist c p) ≡ c
unfolding side_counts_of columns_netlist gates_from side_columns_held
side_counts_of-columns c p h =
    let t =
    row_at (leb c.gates (length p.kinds))
    (leb c.gates (length p.counts)
    ∷ leb (4 * c.gates) (length p.slots)
    ∷ leb c.outputs (length p.outputs)
    ∷ [])
    h in
    rw (length-tabulate, length-take-le c.outputs p.outputs (leb-true _ _ (t 3)))

module _ (c : Counts) (p : Columns) (h : columns_held c p ≡ true) where
  pub sides-held : (side_columns_held c.old p.old ≡ true) × (side_columns_held c.golden p.golden ≡ true)
  unfolding columns_held
  sides-held =
      let t =
      row_at (side_columns_held c.old p.old)
      (side_columns_held c.golden p.golden
      ∷ leb c.candidates (length p.nets)
      ∷ leb c.candidates (length p.weights)
      ∷ [])
      h in
      (t 0, t 1)

  pub counts_of-columns_job : counts_of (columns_job c p) ≡ c
  unfolding counts_of columns_job
  counts_of-columns_job =
      rw (
        side_counts_of-columns c.old p.old sides-held.0,
        side_counts_of-columns c.golden p.golden sides-held.1,
        length-candidates_from c.candidates p.nets p.weights,
      )

abbrev pub in_columns : Holder Columns
in_columns =
    record {
      room = columns_roomy;
      put = columns_filled;
      holds = columns_held;
      job = columns_job;
      four = four-columns_job;
      counts_of-job = counts_of-columns_job;
      holds-put = columns_held-filled;
      job-put = columns_job-filled;
    }

pub columns-given : ColumnsGiven
unfolding columns_reply columns_after columns_number
columns-given = given-in in_columns

pub columns-within : ColumnsWithin
unfolding columns_reply columns_after columns_number
columns-within = held_in in_columns

pub columns-write-read : ColumnsWriteRead
unfolding columns_reply columns_after columns_number columns_write_reply columns_written columns_write_number
columns-write-read = write-read-in in_columns

pub columns-read-write : ColumnsReadWrite
unfolding columns_reply columns_after columns_number columns_write_reply columns_written columns_write_number
columns-read-write = read-write-in in_columns

-- ---- beside read and write

pub columns-read : ColumnsRead
unfolding columns_reply columns_number read_reply read_number
columns-read p q s e = rw e

pub columns-write : ColumnsWrite
unfolding columns_write_reply columns_written columns_write_number write_reply written_bytes write_number
columns-write c p q d e h = (rw (e, h), rw (e, h))
