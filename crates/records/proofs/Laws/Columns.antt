-- Laws of read_columns and write_columns: gate structs split into columns and joined from them, and the replies over columns from
-- those of read and write. Assumes nothing.
use Prim.Native.Nat.{ℕ, suc, ◌+◌, ◌≤◌, ◌<◌}
use mathlib.Core.Path.{◌≡◌, refl, sym, ◌∙◌, ap}
use mathlib.Core.List.{List, [], ◌∷◌, map, map-map}
use mathlib.Core.Bool.{Bool, true, false, true≢false, ◌&&◌}
use native.Mathlib.Numerals.{add-one}
use native.Mathlib.Omega.{arith}
use borrow.Author.Tests.{ne_eqb, lt-leb, le-leb}
use lib.Dec.{leb}
use lib.ListN.{length, get_or, set, take, length-map, length-replicate}
use Rattle.records.specs.Bytes.{tabulate, flat, placed}
use Rattle.records.specs.Netlist.{Netlist}
use Rattle.records.specs.Job.{job_of}
use Rattle.records.specs.Refusal.{first_failing}
use Rattle.records.specs.Service.{SidePlaces, Places, side_places, places, gate_from, struct_of, side_counts_of, counts_of, number_of, read_told, write_told, side_roomy, roomy, filled_side, filled, read_number, read_reply, read_places, gates_in, netlist_from, job_from, side_held, held, write_reply, written_bytes}
use Rattle.records.specs.Columns.{SideColumns, Columns, side_columns, columns, side_columns_roomy, columns_roomy, side_columns_filled, columns_filled, columns_number, columns_reply, columns_after, gates_from, columns_netlist, columns_job, side_columns_held, columns_held, columns_write_number, columns_write_reply, columns_written}
use Rattle.records.specs.Inner.{counts_within, Within, no_gate, no_gates, columns_hold, ColumnsHold, struct_slots, Split, structs_from}
use Rattle.records.specs.declared.gate.Gate.{Gate as GateStruct}
use Rattle.records.specs.declared.job.SideCounts.{SideCounts}
use Rattle.records.specs.declared.job.Counts.{Counts}
use Rattle.records.specs.declared.refusal.Refusal.{Refusal}
use Rattle.std.specs.Prelude.{Result, Ok, Err}
use Rattle.records.proofs.Laws.Bytes.{row_at, and_left, false_of, length-tabulate, map-tabulate, tabulate-take}
use Rattle.records.proofs.Laws.Counts.{columns_hold-facts, counts_within-facts, counts_within-counts_of}
use Rattle.records.proofs.Laws.Job.{sets-placed, Filled, Put, length-placed-front, take-placed-front}
use Rattle.records.proofs.Laws.RoundTrip.{All, Four}
use Rattle.records.proofs.Laws.Accepted.{four-job_of, read-accepts, read-refuses, read-counts, read-places}
use Rattle.records.proofs.Laws.ReadColumns.{slots-structs, sides-held, columns-write}
use Rattle.records.proofs.Laws.Reply.{refusal-number, ok-number, ok-counts, err-number, Written, write-counts}

-- ---- gate structs and columns

pub length-no_gates : length no_gates ≡ 400
unfolding no_gates
length-no_gates = length-replicate 400 no_gate

-- the gates that columns must hold, at most m, from a list of so many
pub splits_of : (most m count k n s : ℕ) → count ≤ most → count ≤ m → columns_hold m k n s ≡ true → ColumnsHold most count k n s
splits_of most m count k n s h l e =
    let t = columns_hold-facts m k n s e in
    record { gates = h; kinds = omega (arith, t.0); counts = omega (arith, t.1); slots = omega (arith, t.2) }

-- a gate's stores to the slots
pub slots-placed : (d : List ℕ) (at : ℕ) (g : GateStruct) → at + 4 ≤ length d
    → set (set (set (set d at g.first) (at + 1) g.second) (at + 2) g.third) (at + 3) g.fourth
    ≡ placed d at (struct_slots g)
unfolding struct_slots
slots-placed d at g h =
    let e : at + 2 ≡ suc (suc at) = omega arith in
    let f : at + 3 ≡ suc (suc (suc at)) = omega arith in
    rw (add-one, e, f) (sets-placed d at (g.first ∷ g.second ∷ g.third ∷ g.fourth ∷ []) (omega arith))

-- a loop that has put what F gives for the first gates at a column's start
module _ (gs : List GateStruct) (d₀ d : List ℕ) (i count : ℕ) (e : i ≡ count) (h : count ≤ length gs) where
  taken-split : (F : List GateStruct → List ℕ) → d ≡ placed d₀ 0 (F (tabulate i (λ k. get_or gs k no_gate)))
      → d ≡ placed d₀ 0 (F (take count gs))
  taken-split F w = w ∙ ap (λ (z : List GateStruct). placed d₀ 0 (F z)) (rw e (tabulate-take no_gate gs count h))

  pub column-split : (f : GateStruct → ℕ) → Filled d₀ d i (λ k. f (get_or gs k no_gate)) → d ≡ placed d₀ 0 (map f (take count gs))
  column-split f w =
      taken-split (map f) (w.1 ∙ ap (placed d₀ 0) (sym (map-tabulate i (λ k. get_or gs k no_gate) f)))

  pub slots-split : Put struct_slots (λ k. get_or gs k no_gate) d₀ 0 d i → d ≡ placed d₀ 0 (flat struct_slots (take count gs))
  slots-split w = taken-split (flat struct_slots) w.1

-- a netlist's columns once the first gates are split into them: as filled from a netlist, or as they were
module _ (q : SideColumns) {gs : List GateStruct} {count : ℕ} {ks ns ss : List ℕ}
    (t : Split gs count q.kinds q.counts q.slots ks ns ss) (os : List ℕ) where
  side-filled : (l : Netlist) → All Four l.gates → take count gs ≡ map struct_of l.gates
      → os ≡ placed q.outputs 0 l.outputs → side_columns ks ns ss os ≡ side_columns_filled q l
  unfolding side_columns_filled struct_of
  side-filled l w e o =
      rw (
        column (map (λ (g : GateStruct). g.kind)) _ _ _ (map-map (λ (g : GateStruct). g.kind) struct_of l.gates) t.kinds,
        column (map (λ (g : GateStruct). g.count)) _ _ _ (map-map (λ (g : GateStruct). g.count) struct_of l.gates) t.counts,
        column (flat struct_slots) _ _ _ (slots-structs l.gates w) t.slots,
        o,
      )
    where
      column : (F : List GateStruct → List ℕ) (d d' xs : List ℕ) → F (map struct_of l.gates) ≡ xs
          → d' ≡ placed d 0 (F (take count gs)) → d' ≡ placed d 0 xs
      column F d d' xs h p = p ∙ ap (λ (z : List GateStruct). placed d 0 (F z)) e ∙ ap (placed d 0) h

-- the columns of q hold n gates
abbrev pub side_holds : SideColumns → ℕ → Bool
side_holds q n = columns_hold n (length q.kinds) (length q.counts) (length q.slots)

-- ---- read_columns

side-roomy : (q : SideColumns) → side_columns_roomy q ≡ (side_holds q 400 && leb 32 (length q.outputs))
unfolding side_columns_roomy columns_hold
side-roomy q = refl

module _ (p : Columns) where
  -- the places that read_columns hands to read
  abbrev pub read_into : Places
  read_into =
      places (side_places no_gates p.old.outputs) (side_places no_gates p.golden.outputs) p.nets p.weights

  roomy-rows : columns_roomy p ≡ true → (side_holds p.old 400 ≡ true) × (side_holds p.golden 400 ≡ true)
  unfolding columns_roomy
  roomy-rows h =
      let t =
      row_at (side_columns_roomy p.old)
      (side_columns_roomy p.golden ∷ leb 10 (length p.nets) ∷ leb 10 (length p.weights) ∷ [])
      h in (
        and_left _ (leb 32 (length p.old.outputs)) (sym (side-roomy p.old) ∙ t 0),
        and_left _ (leb 32 (length p.golden.outputs)) (sym (side-roomy p.golden) ∙ t 1),
      )

  module _ (s : List ℕ) where
    columns-small : columns_roomy p ≡ false → (read_told (Err Refusal.Room) ≡ columns_reply p s) × (p ≡ columns_after p s)
    unfolding number_of columns_reply columns_after columns_number first_failing
    columns-small e = (rw e, rw e)

    pub small-old : side_holds p.old 400 ≡ false → (read_told (Err Refusal.Room) ≡ columns_reply p s) × (p ≡ columns_after p s)
    small-old e = columns-small (false_of (columns_roomy p) (λ t. true≢false (sym (roomy-rows t).0 ∙ e)))

    pub small-golden : side_holds p.golden 400 ≡ false → (read_told (Err Refusal.Room) ≡ columns_reply p s) × (p ≡ columns_after p s)
    small-golden e = columns-small (false_of (columns_roomy p) (λ t. true≢false (sym (roomy-rows t).1 ∙ e)))

  module _ (h : side_holds p.old 400 ≡ true) (g : side_holds p.golden 400 ≡ true) where
    roomy-read_into : columns_roomy p ≡ roomy read_into
    unfolding columns_roomy roomy side_roomy
    roomy-read_into = rw (side-roomy p.old, side-roomy p.golden, h, g, length-no_gates)

    number-read_into : (s : List ℕ) → columns_number p s ≡ read_number read_into s
    unfolding columns_number read_number
    number-read_into s = rw roomy-read_into

-- what read finds of a netlist: its gates stand at the start of gs
record Found (q : SideColumns) (l : Netlist) (gs : List GateStruct) (count : ℕ) (os : List ℕ) : Type 0 where
  pub counted : count ≡ length (map struct_of l.gates)
  pub gates : gs ≡ placed no_gates 0 (map struct_of l.gates)
  pub outputs : os ≡ placed q.outputs 0 l.outputs

module _ {q : SideColumns} {l : Netlist} {gs : List GateStruct} {count : ℕ} {os : List ℕ} (f : Found q l gs count os) where
  found-le : count ≤ length gs
  found-le = rw (f.counted, f.gates) (length-placed-front no_gates (map struct_of l.gates))

  found_take : take count gs ≡ map struct_of l.gates
  found_take = rw (f.counted, f.gates) (take-placed-front no_gates (map struct_of l.gates))

-- once read is done: what it answers, and the gates, outputs and candidates it leaves
module _ (p : Columns) (s : List ℕ) {gs hs : List GateStruct} {b d n w : List ℕ}
    (f : places (side_places gs b) (side_places hs d) n w ≡ read_places (read_into p) s) where
  pub read-columns-refused : (x : Refusal) → read_told (Err x) ≡ read_reply (read_into p) s
      → side_holds p.old 400 ≡ true → side_holds p.golden 400 ≡ true
      → let q = columns (side_columns p.old.kinds p.old.counts p.old.slots b) (side_columns p.golden.kinds p.golden.counts p.golden.slots d) n w in
      (read_told (Err x) ≡ columns_reply p s) × (q ≡ columns_after p s)
  unfolding read_reply columns_reply columns_after
  read-columns-refused x e h g =
      let m : read_number (read_into p) s ≡ number_of x = err-number _ x e in
      let u : read_number (read_into p) s ≡ 0 → ⊥ = λ z. refusal-number x (sym m ∙ z) in
      let q = f ∙ (read-refuses (read_into p) s u).1 in (
        e ∙ rw (number-read_into p h g s),
        rw (
          number-read_into p h g s,
          m,
          ne_eqb (number_of x) 0 (refusal-number x),
          ap (λ (y : Places). y.old.outputs) q,
          ap (λ (y : Places). y.golden.outputs) q,
          ap (λ (y : Places). y.nets) q,
          ap (λ (y : Places). y.weights) q,
        ),
      )

  module _ (c : Counts) (e : read_told (Ok c) ≡ read_reply (read_into p) s) where
    accepted : read_number (read_into p) s ≡ 0
    unfolding read_reply
    accepted = ok-number _ c e

    counts-read : c ≡ counts_of (job_of s)
    counts-read = ok-counts _ c e ∙ read-counts (read_into p) s accepted

    places-read : places (side_places gs b) (side_places hs d) n w ≡ filled (read_into p) (job_of s)
    places-read = f ∙ read-places (read_into p) s accepted

    found-old : Found p.old (job_of s).old gs c.old.gates b
    unfolding counts_of side_counts_of filled filled_side
    found-old =
        record {
          counted = ap (λ (x : Counts). x.old.gates) counts-read ∙ sym (length-map (job_of s).old.gates struct_of);
          gates = ap (λ (x : Places). x.old.gates) places-read;
          outputs = ap (λ (x : Places). x.old.outputs) places-read;
        }

    found-golden : Found p.golden (job_of s).golden hs c.golden.gates d
    unfolding counts_of side_counts_of filled filled_side
    found-golden =
        record {
          counted = ap (λ (x : Counts). x.golden.gates) counts-read ∙ sym (length-map (job_of s).golden.gates struct_of);
          gates = ap (λ (x : Places). x.golden.gates) places-read;
          outputs = ap (λ (x : Places). x.golden.outputs) places-read;
        }

    within-read : Within c
    within-read =
        rw counts-read
        (counts_within-facts (counts_of (job_of s)) (counts_within-counts_of (job_of s) ∙ ((read-accepts (read_into p) s).0 accepted).2.counts))

    pub old-splits : side_holds p.old 400 ≡ true
        → ColumnsHold (length gs) c.old.gates (length p.old.kinds) (length p.old.counts) (length p.old.slots)
    old-splits h = splits_of _ 400 _ _ _ _ (found-le found-old) within-read.old.gates h

    pub golden-splits : side_holds p.golden 400 ≡ true
        → ColumnsHold (length hs) c.golden.gates (length p.golden.kinds) (length p.golden.counts) (length p.golden.slots)
    golden-splits h = splits_of _ 400 _ _ _ _ (found-le found-golden) within-read.golden.gates h

    -- the reply and the columns, once the gates are split
    pub read-columns-ends : {ks ns ss gks gns gss : List ℕ} → side_holds p.old 400 ≡ true → side_holds p.golden 400 ≡ true
        → Split gs c.old.gates p.old.kinds p.old.counts p.old.slots ks ns ss
        → Split hs c.golden.gates p.golden.kinds p.golden.counts p.golden.slots gks gns gss
        → (read_told (Ok c) ≡ columns_reply p s)
        × (columns (side_columns ks ns ss b) (side_columns gks gns gss d) n w ≡ columns_after p s)
    unfolding read_reply columns_reply columns_after columns_filled filled
    read-columns-ends {ks} {ns} {ss} {gks} {gns} {gss} h g o k = (
      e ∙ rw (number-read_into p h g s),
      rw (
        number-read_into p h g s,
        accepted,
        side-filled p.old o b (job_of s).old (four-job_of s).old (found_take found-old) found-old.outputs,
        side-filled p.golden k d (job_of s).golden (four-job_of s).golden (found_take found-golden) found-golden.outputs,
        ap (λ (x : Places). x.nets) places-read,
        ap (λ (x : Places). x.weights) places-read,
      ),
    )

-- ---- write_columns

side-held : (k : SideCounts) (q : SideColumns)
    → side_columns_held k q ≡ (side_holds q k.gates && leb k.outputs (length q.outputs))
unfolding side_columns_held columns_hold
side-held k q = refl

-- a netlist's gates joined from its columns
abbrev pub joined_side : SideCounts → SideColumns → SidePlaces
joined_side k q = side_places (placed no_gates 0 (structs_from k.gates q.kinds q.counts q.slots)) q.outputs

module _ (k : SideCounts) (q : SideColumns) where
  joined-count : k.gates ≡ length (structs_from k.gates q.kinds q.counts q.slots)
  unfolding structs_from
  joined-count = sym (length-tabulate k.gates _)

  joined-room : k.gates ≤ length (joined_side k q).gates
  joined-room = omega (arith, joined-count, length-placed-front no_gates (structs_from k.gates q.kinds q.counts q.slots))

  held-joined : side_holds q k.gates ≡ true → side_held k (joined_side k q) ≡ side_columns_held k q
  unfolding side_held
  held-joined h = rw (le-leb _ _ joined-room, side-held k q, h)

  gates-joined : gates_in k.gates (joined_side k q).gates ≡ gates_from k.gates q.kinds q.counts q.slots
  unfolding gates_in gates_from gate_from structs_from
  gates-joined =
      let gs = structs_from k.gates q.kinds q.counts q.slots in
      ap (λ (n : ℕ). map gate_from (take n (placed no_gates 0 gs))) joined-count
      ∙ ap (map gate_from) (take-placed-front no_gates gs)
      ∙ map-tabulate k.gates _ gate_from

module _ (c : Counts) (p : Columns) where
  -- the places that write_columns hands to write
  abbrev pub written_from : Places
  written_from = places (joined_side c.old p.old) (joined_side c.golden p.golden) p.nets p.weights

  held_rows : columns_held c p ≡ true
      → (side_holds p.old c.old.gates ≡ true) × (side_holds p.golden c.golden.gates ≡ true)
  held_rows h =
      let t = sides-held c p h in (
        and_left _ (leb c.old.outputs (length p.old.outputs)) (sym (side-held c.old p.old) ∙ t.0),
        and_left _ (leb c.golden.outputs (length p.golden.outputs)) (sym (side-held c.golden p.golden) ∙ t.1),
      )

  job-written : job_from c written_from ≡ columns_job c p
  unfolding job_from netlist_from columns_job columns_netlist
  job-written = rw (gates-joined c.old p.old, gates-joined c.golden p.golden)

  module _ (d : List ℕ) where
    -- columns and the gates joined from them hold one job: they are written alike
    written-columns : side_holds p.old c.old.gates ≡ true → side_holds p.golden c.golden.gates ≡ true
        → (columns_write_reply c p d ≡ write_reply c written_from d) × (columns_written c p d ≡ written_bytes c written_from d)
    unfolding held columns_held
    written-columns h g =
        columns-write c p written_from d (sym job-written)
        (sym (rw (held-joined c.old p.old h, held-joined c.golden p.golden g)))

    -- what write_columns answers, and that it alters nothing, or puts the job
    abbrev pub ColumnsWritten : Result ℕ Refusal → List ℕ → Type 0
    ColumnsWritten r d' = (write_told r ≡ columns_write_reply c p d) × (d' ≡ columns_written c p d)

    -- .. once write is done with the joined gates
    pub write-columns-ends : side_holds p.old c.old.gates ≡ true → side_holds p.golden c.golden.gates ≡ true
        → (gs hs : List GateStruct) (r : Result ℕ Refusal) (d' : List ℕ)
        → gs ≡ (joined_side c.old p.old).gates → hs ≡ (joined_side c.golden p.golden).gates
        → Written c (places (side_places gs p.old.outputs) (side_places hs p.golden.outputs) p.nets p.weights) d r d'
        → ColumnsWritten r d'
    write-columns-ends h g gs hs r d' x y e =
        let w = written-columns h g in (e.0 ∙ rw (x, y) (sym w.0), e.1 ∙ rw (x, y) (sym w.1))

    put_other : (e : Refusal) → columns_write_number c p d ≡ number_of e → ColumnsWritten (Err e) d
    unfolding columns_write_reply columns_written
    put_other e h = (rw (h, ne_eqb (number_of e) 0 (refusal-number e)), rw (h, ne_eqb (number_of e) 0 (refusal-number e)))

    pub put-short : length d < 8188 → ColumnsWritten (Err Refusal.Room) d
    unfolding columns_write_number first_failing number_of
    put-short h = put_other Refusal.Room (rw (lt-leb 8188 (length d) h))

    module _ (l : 8188 ≤ length d) where
      unheld : columns_held c p ≡ false → ColumnsWritten (Err Refusal.Counts) d
      unfolding columns_write_number first_failing number_of
      unheld e = put_other Refusal.Counts (rw (le-leb 8188 (length d) l, e))

      pub unheld-old : side_holds p.old c.old.gates ≡ false → ColumnsWritten (Err Refusal.Counts) d
      unheld-old e = unheld (false_of (columns_held c p) (λ t. true≢false (sym (held_rows t).0 ∙ e)))

      pub unheld-golden : side_holds p.golden c.golden.gates ≡ false → ColumnsWritten (Err Refusal.Counts) d
      unheld-golden e = unheld (false_of (columns_held c p) (λ t. true≢false (sym (held_rows t).1 ∙ e)))

      -- a count outside its range is 3, whether or not the columns hold the counts
      pub put-counts : counts_within c ≡ false → ColumnsWritten (Err Refusal.Counts) d
      put-counts e = pick (columns_held c p) refl
        where
          pick : (b : Bool) → columns_held c p ≡ b → ColumnsWritten (Err Refusal.Counts) d
          pick false h = unheld h
          pick true h =
              let t = held_rows h in
              let w = written-columns t.0 t.1 in
              let v = write-counts c written_from d l e in
              (v.0 ∙ sym w.0, v.1 ∙ sym w.1)
