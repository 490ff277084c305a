-- Laws of what a call leaves alone: what stands behind its reply stays, and plays no part in it, and neither does what was held before.
-- One law over what can hold a job's parts for each; places and columns are instances. Assumes nothing.
use Prim.Native.Nat.{ℕ, ◌+◌, ◌*◌, ◌≤◌, ◌<◌}
use mathlib.Core.Path.{◌≡◌, refl, sym, ◌∙◌, ap}
use mathlib.Core.List.{List, map}
use mathlib.Core.Bool.{Bool, true, false, cond}
use native.Mathlib.Omega.{arith}
use borrow.Author.Tests.{eqb-true}
use lib.Dec.{eqb}
use lib.ListN.{length, get_or, take, drop}
use lib.Seq.{get_or-take}
use Rattle.records.specs.Bytes.{placed}
use Rattle.records.specs.Gate.{Gate}
use Rattle.records.specs.Netlist.{Netlist}
use Rattle.records.specs.Job.{Candidate, Job, job_of, job_bytes}
use Rattle.records.specs.Service.{SidePlaces, Places, side_places, places, struct_of, side_counts_of, counts_of, no_counts, side_roomy, roomy, filled_side, filled, read_number, read_reply, read_places, gates_in, netlist_from, candidates_from, job_from, write_number, write_reply, written_bytes, sheet_roomy, sheet_number, sheet_reply}
use Rattle.records.specs.Columns.{SideColumns, Columns, side_columns, columns, side_columns_roomy, columns_roomy, side_columns_filled, columns_filled, columns_number, columns_reply, columns_after, gates_from, columns_netlist, columns_job, columns_write_number, columns_write_reply, columns_written}
use Rattle.records.specs.Claims.{side_behind, behind, ReadKeeps, WriteKeeps, SideAlike, Alike, side_up_to, up_to, ReadIndependent, WriteIndependent, SheetIndependent, side_columns_behind, columns_behind, ColumnsKeeps, ColumnsWriteKeeps, SideColumnsAlike, ColumnsAlike, side_columns_up_to, columns_up_to, ColumnsIndependent, ColumnsWriteIndependent}
use Rattle.records.specs.declared.job.SideCounts.{SideCounts}
use Rattle.records.specs.declared.job.Counts.{Counts}
use Rattle.records.proofs.Laws.Bytes.{tabulate-ext}
use Rattle.records.proofs.Laws.Job.{take-placed-front, drop-placed-front}
use Rattle.records.proofs.Laws.RoundTrip.{All, Four, FourEach}
use Rattle.records.proofs.Laws.Accepted.{parts-accept, length-good, four-job_of, take-column, drop-column, Holder, read_number_in, counts_in, read_in, write_number_in, length_in, written_in, in_places}
use Rattle.records.proofs.Laws.ReadColumns.{slot_column, take-slots, drop-slots, in_columns}

-- ---- lists

-- the first k elements tell each of them
get_or-taken : {A : Type 0} (k : ℕ) (d : A) (xs ys : List A) → take k xs ≡ take k ys → (i : ℕ) → i < k → get_or xs i d ≡ get_or ys i d
get_or-taken {A} k d xs ys e i h = sym (get_or-take k xs i d h) ∙ ap (λ (l : List A). get_or l i d) e ∙ get_or-take k ys i d h

-- ---- over what can hold a job's parts

module _ {P : Type 0} (k : Holder P) where
  module _ (part : Counts → P → P) (p : P) (s : List ℕ) where
    -- a part that the job put there does not alter
    read-keeps-in : part (counts_of (job_of s)) (k.put p (job_of s)) ≡ part (counts_of (job_of s)) p
        → part (counts_in k p s) (read_in k p s) ≡ part (counts_in k p s) p
    read-keeps-in h = go (eqb (read_number_in k p s) 0)
      where
        go : (b : Bool) → let c = cond b (counts_of (job_of s)) no_counts in part c (cond b (k.put p (job_of s)) p) ≡ part c p
        go true = h
        go false = refl

    -- a part that is the same in p and q, and once the job is put there
    read-same-in : (q : P) → k.room p ≡ k.room q → part no_counts p ≡ part no_counts q
        → part (counts_of (job_of s)) (k.put p (job_of s)) ≡ part (counts_of (job_of s)) (k.put q (job_of s))
        → part (counts_in k p s) (read_in k p s) ≡ part (counts_in k p s) (read_in k q s)
    read-same-in q e z h = rw e (go (eqb (read_number_in k q s) 0))
      where
        go : (b : Bool)
            → let c = cond b (counts_of (job_of s)) no_counts in
            part c (cond b (k.put p (job_of s)) p) ≡ part c (cond b (k.put q (job_of s)) q)
        go true = h
        go false = z

  module _ (c : Counts) (p : P) (d : List ℕ) where
    write-keeps-in : (length_in k c p d ≤ length d) × (drop (length_in k c p d) (written_in k c p d) ≡ drop (length_in k c p d) d)
    write-keeps-in = go (eqb (write_number_in k c p d) 0) refl
      where
        go : (b : Bool) → eqb (write_number_in k c p d) 0 ≡ b
            → let n = cond b (length (job_bytes (k.job c p))) 0 in
            (n ≤ length d) × (drop n (cond b (placed d 0 (job_bytes (k.job c p))) d) ≡ drop n d)
        go true e =
            let u = (parts-accept (length d) (k.holds c p) (k.job c p)).0 (eqb-true (write_number_in k c p d) 0 e) in
            (omega (arith, length-good (k.job c p) (k.four c p) u.2), drop-placed-front d (job_bytes (k.job c p)))
        go false e = (omega arith, refl)

    write-same-in : (q : P) (e : List ℕ) → k.holds c p ≡ k.holds c q → k.job c p ≡ k.job c q → length d ≡ length e
        → take (length_in k c p d) (written_in k c p d) ≡ take (length_in k c p d) (written_in k c q e)
    write-same-in q e h f l = rw (h, f, l) (go (eqb (write_number_in k c q e) 0))
      where
        go : (b : Bool)
            → let xs = job_bytes (k.job c q) in
            let n = cond b (length xs) 0 in
            take n (cond b (placed d 0 xs) d) ≡ take n (cond b (placed e 0 xs) e)
        go true = take-placed-front d (job_bytes (k.job c q)) ∙ sym (take-placed-front e (job_bytes (k.job c q)))
        go false = refl

-- ---- candidates

candidates_from-taken : (k : ℕ) (ns ws ns' ws' : List ℕ) → take k ns ≡ take k ns' → take k ws ≡ take k ws'
    → candidates_from k ns ws ≡ candidates_from k ns' ws'
unfolding candidates_from
candidates_from-taken k ns ws ns' ws' e f =
    tabulate-ext k _ _ (λ i h. rw (get_or-taken k 0 ns ns' e i h, get_or-taken k 0 ws ws' f i h))

pub sheet-independent : SheetIndependent
unfolding sheet_reply sheet_number sheet_roomy
sheet-independent m k nets weights nets' weights' s n w e f =
    rw (n, w, candidates_from-taken k nets weights nets' weights' e f)

-- ---- places

-- places of just the parts of a netlist
abbrev side_of : Netlist → SidePlaces
side_of l = side_places (map struct_of l.gates) l.outputs

module _ (p : SidePlaces) (l : Netlist) where
  side_up_to-filled : side_up_to (side_counts_of l) (filled_side p l) ≡ side_of l
  unfolding side_up_to side_counts_of filled_side
  side_up_to-filled = rw (take-column struct_of p.gates l.gates, take-placed-front p.outputs l.outputs)

  side_behind-filled : side_behind (side_counts_of l) (filled_side p l) ≡ side_behind (side_counts_of l) p
  unfolding side_behind side_counts_of filled_side
  side_behind-filled = rw (drop-column struct_of p.gates l.gates, drop-placed-front p.outputs l.outputs)

module _ (p : Places) (j : Job) where
  up_to-filled : up_to (counts_of j) (filled p j)
      ≡ places (side_of j.old) (side_of j.golden) (map (λ (c : Candidate). c.net) j.candidates)
      (map (λ (c : Candidate). c.weight) j.candidates)
  unfolding up_to counts_of filled
  up_to-filled =
      rw (
        side_up_to-filled p.old j.old,
        side_up_to-filled p.golden j.golden,
        take-column (λ (c : Candidate). c.net) p.nets j.candidates,
        take-column (λ (c : Candidate). c.weight) p.weights j.candidates,
      )

  behind-filled : behind (counts_of j) (filled p j) ≡ behind (counts_of j) p
  unfolding behind counts_of filled
  behind-filled =
      rw (
        side_behind-filled p.old j.old,
        side_behind-filled p.golden j.golden,
        drop-column (λ (c : Candidate). c.net) p.nets j.candidates,
        drop-column (λ (c : Candidate). c.weight) p.weights j.candidates,
      )

side_roomy-alike : {p q : SidePlaces} → SideAlike p q → side_roomy p ≡ side_roomy q
unfolding side_roomy
side_roomy-alike a = rw (a.gates, a.outputs)

roomy-alike : {p q : Places} → Alike p q → roomy p ≡ roomy q
unfolding roomy
roomy-alike a = rw (side_roomy-alike a.old, side_roomy-alike a.golden, a.nets, a.weights)

netlist_from-up_to : (c : SideCounts) (p q : SidePlaces) → side_up_to c p ≡ side_up_to c q → netlist_from c p ≡ netlist_from c q
unfolding netlist_from gates_in side_up_to
netlist_from-up_to c p q e = rw (ap (λ (x : SidePlaces). x.gates) e, ap (λ (x : SidePlaces). x.outputs) e)

job_from-up_to : (c : Counts) (p q : Places) → up_to c p ≡ up_to c q → job_from c p ≡ job_from c q
unfolding job_from up_to
job_from-up_to c p q e =
    rw (
      netlist_from-up_to c.old p.old q.old (ap (λ (x : Places). x.old) e),
      netlist_from-up_to c.golden p.golden q.golden (ap (λ (x : Places). x.golden) e),
      candidates_from-taken c.candidates p.nets p.weights q.nets q.weights
          (ap (λ (x : Places). x.nets) e) (ap (λ (x : Places). x.weights) e),
    )

pub read_keeps : ReadKeeps
unfolding read_reply read_places read_number
read_keeps p s = read-keeps-in in_places behind p s (behind-filled p (job_of s))

pub write_keeps : WriteKeeps
unfolding write_reply written_bytes write_number
write_keeps = write-keeps-in in_places

pub read-independent : ReadIndependent
unfolding read_reply read_places read_number up_to side_up_to no_counts
read-independent p q s a =
    let e = roomy-alike a in
    (rw e, read-same-in in_places up_to p s q e refl (up_to-filled p (job_of s) ∙ sym (up_to-filled q (job_of s))))

pub write-independent : WriteIndependent
unfolding write_reply written_bytes write_number
write-independent c p q d e h u l =
    let f = job_from-up_to c p q u in (rw (h, f, l), write-same-in in_places c p d q e h f l)

-- ---- columns

abbrev side_columns_of : Netlist → SideColumns
side_columns_of l =
    side_columns (map (λ (g : Gate). g.kind) l.gates) (map (λ (g : Gate). g.count) l.gates) (slot_column l.gates) l.outputs

module _ (p : SideColumns) (l : Netlist) (w : All Four l.gates) where
  side_columns_up_to-filled : side_columns_up_to (side_counts_of l) (side_columns_filled p l) ≡ side_columns_of l
  unfolding side_columns_up_to side_counts_of side_columns_filled
  side_columns_up_to-filled =
      rw (
        take-column (λ (g : Gate). g.kind) p.kinds l.gates,
        take-column (λ (g : Gate). g.count) p.counts l.gates,
        take-slots p.slots l.gates w,
        take-placed-front p.outputs l.outputs,
      )

  side_columns_behind-filled : side_columns_behind (side_counts_of l) (side_columns_filled p l) ≡ side_columns_behind (side_counts_of l) p
  unfolding side_columns_behind side_counts_of side_columns_filled
  side_columns_behind-filled =
      rw (
        drop-column (λ (g : Gate). g.kind) p.kinds l.gates,
        drop-column (λ (g : Gate). g.count) p.counts l.gates,
        drop-slots p.slots l.gates w,
        drop-placed-front p.outputs l.outputs,
      )

module _ (p : Columns) (j : Job) (w : FourEach j) where
  columns_up_to-filled : columns_up_to (counts_of j) (columns_filled p j)
      ≡ columns (side_columns_of j.old) (side_columns_of j.golden) (map (λ (c : Candidate). c.net) j.candidates)
      (map (λ (c : Candidate). c.weight) j.candidates)
  unfolding columns_up_to counts_of columns_filled
  columns_up_to-filled =
      rw (
        side_columns_up_to-filled p.old j.old w.old,
        side_columns_up_to-filled p.golden j.golden w.golden,
        take-column (λ (c : Candidate). c.net) p.nets j.candidates,
        take-column (λ (c : Candidate). c.weight) p.weights j.candidates,
      )

  columns_behind-filled : columns_behind (counts_of j) (columns_filled p j) ≡ columns_behind (counts_of j) p
  unfolding columns_behind counts_of columns_filled
  columns_behind-filled =
      rw (
        side_columns_behind-filled p.old j.old w.old,
        side_columns_behind-filled p.golden j.golden w.golden,
        drop-column (λ (c : Candidate). c.net) p.nets j.candidates,
        drop-column (λ (c : Candidate). c.weight) p.weights j.candidates,
      )

side_columns_roomy-alike : {p q : SideColumns} → SideColumnsAlike p q → side_columns_roomy p ≡ side_columns_roomy q
unfolding side_columns_roomy
side_columns_roomy-alike a = rw (a.kinds, a.counts, a.slots, a.outputs)

columns_roomy-alike : {p q : Columns} → ColumnsAlike p q → columns_roomy p ≡ columns_roomy q
unfolding columns_roomy
columns_roomy-alike a = rw (side_columns_roomy-alike a.old, side_columns_roomy-alike a.golden, a.nets, a.weights)

module _ (c : SideCounts) (p q : SideColumns) (e : side_columns_up_to c p ≡ side_columns_up_to c q) where
  gates_from-up_to : gates_from c.gates p.kinds p.counts p.slots ≡ gates_from c.gates q.kinds q.counts q.slots
  unfolding gates_from side_columns_up_to
  gates_from-up_to =
      let slot : (i : ℕ) → i < 4 * c.gates → get_or p.slots i 0 ≡ get_or q.slots i 0 =
      get_or-taken (4 * c.gates) 0 p.slots q.slots (ap (λ (x : SideColumns). x.slots) e) in
      tabulate-ext c.gates _ _
      (λ i h.
      rw (
        get_or-taken c.gates 0 p.kinds q.kinds (ap (λ (x : SideColumns). x.kinds) e) i h,
        get_or-taken c.gates 0 p.counts q.counts (ap (λ (x : SideColumns). x.counts) e) i h,
        slot (4 * i) (omega arith),
        slot (4 * i + 1) (omega arith),
        slot (4 * i + 2) (omega arith),
        slot (4 * i + 3) (omega arith),
      ))

  columns_netlist-up_to : columns_netlist c p ≡ columns_netlist c q
  unfolding columns_netlist side_columns_up_to
  columns_netlist-up_to = rw (gates_from-up_to, ap (λ (x : SideColumns). x.outputs) e)

columns_job-up_to : (c : Counts) (p q : Columns) → columns_up_to c p ≡ columns_up_to c q → columns_job c p ≡ columns_job c q
unfolding columns_job columns_up_to
columns_job-up_to c p q e =
    rw (
      columns_netlist-up_to c.old p.old q.old (ap (λ (x : Columns). x.old) e),
      columns_netlist-up_to c.golden p.golden q.golden (ap (λ (x : Columns). x.golden) e),
      candidates_from-taken c.candidates p.nets p.weights q.nets q.weights
          (ap (λ (x : Columns). x.nets) e) (ap (λ (x : Columns). x.weights) e),
    )

pub columns-keeps : ColumnsKeeps
unfolding columns_reply columns_after columns_number
columns-keeps p s = read-keeps-in in_columns columns_behind p s (columns_behind-filled p (job_of s) (four-job_of s))

pub columns-write-keeps : ColumnsWriteKeeps
unfolding columns_write_reply columns_written columns_write_number
columns-write-keeps = write-keeps-in in_columns

pub columns-independent : ColumnsIndependent
unfolding columns_reply columns_after columns_number columns_up_to side_columns_up_to no_counts
columns-independent p q s a =
    let e = columns_roomy-alike a in
    let w = four-job_of s in (
      rw e,
      read-same-in in_columns columns_up_to p s q e refl (columns_up_to-filled p (job_of s) w ∙ sym (columns_up_to-filled q (job_of s) w)),
    )

pub columns-write-independent : ColumnsWriteIndependent
unfolding columns_write_reply columns_written columns_write_number
columns-write-independent c p q d e h u l =
    let f = columns_job-up_to c p q u in (rw (h, f, l), write-same-in in_columns c p d q e h f l)
