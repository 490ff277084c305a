-- What is promised of the record library beyond the contracts of its functions: the request's demands 1 and 2, and document 01,
-- "Nets and gates", "Bytes", "Fitting and comparing" and "Numbers given when a call is declined". proofs/Theorems.antt proves each.
-- Assumes nothing.
--
--   Below n xs        every element of xs is below n
--   PartsGood j       the parts j pass every test of numbers 3 to 6
--   First             the first number that applies is given
--   ReadAccepts, WriteAccepts, SheetAccepts     what passes the tests is accepted, and nothing else
--   ReadRefuses, WriteRefuses, SheetRefuses     a refusal gives length 0 (read: counts of 0) and alters nothing lent
--   NumberGiven       every reply has its call's number
--   side_behind, behind c p       what stands in the places p behind the counts c
--   ReadKeeps, WriteKeeps         places and bytes behind a reply's counts or length are as they were
--   SideAlike, Alike p q          the places p and q have the same lengths, whatever they hold
--   side_up_to, up_to c p         the places p as far as the counts c say
--   ReadIndependent, WriteIndependent, SheetIndependent     what lent places held before, or hold behind the counts, plays no part
--   assignments k                 all lists of k values of 0 and 1, counting up, the last value fastest
--   permitted_counts k            the counts of operands that kind k permits
--   TruthTable                    the values of all kinds on 0 and 1, with every count of operands
--   OperandsFold, OddInverts      .. however many they are: the plain kinds go from operand to operand, the others invert the whole
--   PlacesGiven                   the places of an accepted job hold it
--   ReadWrite, WriteRead          the round trip
--   LongestJob, LongestJobMet     no accepted job has more than 8,188 bytes, and one has as many
--   SheetIn m k nets weights s, SheetGiven      an accepted sheet's support, table and cost are replied
--   SheetNotes, NotesSeven        a sheet with notes gets the reply that it gets without, and one with wrong notes gets 7
--   LeftOverSeven                 .. and so does one with any other bytes left over behind its three fields
--   VectorsSeven                  .. and so does one with a vector list, wherever it stands
--   SevenExactly                  what is no whole sheet gets 7, and nothing else does
--   ColumnsRead       read_columns replies what read does
--   ColumnsAccepts, ColumnsRefuses              what read_columns accepts; a refusal alters no column
--   ColumnsGiven, ColumnsWithin   the columns of an accepted job hold it
--   ColumnsWrite      write_columns replies and writes what write does
--   ColumnsWriteAccepts, ColumnsWriteRefuses    what write_columns accepts; a refusal alters no byte
--   ColumnsReadWrite, ColumnsWriteRead          the round trip over columns
--   side_columns_behind, columns_behind c p        what stands in the columns p behind the counts c
--   ColumnsKeeps, ColumnsWriteKeeps             columns and bytes behind a reply's counts or length are as they were
--   SideColumnsAlike, ColumnsAlike p q          the columns p and q have the same lengths, whatever they hold
--   side_columns_up_to, columns_up_to c p            the columns p as far as the counts c say
--   ColumnsIndependent, ColumnsWriteIndependent             what columns held before, or hold behind the counts, plays no part
use Rattle.std.specs.Prelude.{ℕ, zero, suc, ◌-◌, ◌*◌, ◌%◌, ◌^◌, ◌≤◌, ◌<◌, ◌≡◌, ◌↔◌, List, [], ◌∷◌, ◌++◌, map, true, false, length, get_or, take, drop, replicate}
use Rattle.records.specs.Bytes.{up_from, tabulate, all, placed, field, fits, whole, nth}
use Rattle.records.specs.Gate.{slot_count, gate_of, kind_count, least_count, most_count, inverted, gate_value}
use Rattle.records.specs.Netlist.{value_of}
use Rattle.records.specs.Job.{Job, job_whole, job_of}
use Rattle.records.specs.Refusal.{Test, first_failing, counts_good, netlists_good, outputs_good, candidates_good, job_refusal, longest_job}
use Rattle.records.specs.Sheet.{sheet_tags, notes_tag, patch_of, sheet_whole, patch_good}
use Rattle.records.specs.Service.{SidePlaces, Places, roomy, no_counts, read_number, read_reply, read_places, held, candidates_from, job_from, write_number, write_reply, written_bytes, sheet_roomy, sheet_number, sheet_reply}
use Rattle.records.specs.Columns.{SideColumns, Columns, columns_roomy, columns_number, columns_reply, columns_after, columns_job, columns_held, columns_write_number, columns_write_reply, columns_written}
use Rattle.records.specs.declared.job.SideCounts.{SideCounts}
use Rattle.records.specs.declared.job.Counts.{Counts}

abbrev pub Below : ℕ → List ℕ → Type 0
Below n xs = (i : ℕ) → get_or xs i 0 < n

pub record PartsGood (j : Job) : Type 0 where
  pub counts : counts_good j ≡ true
  pub gates : netlists_good j ≡ true
  pub outputs : outputs_good j ≡ true
  pub candidates : candidates_good j ≡ true

-- ---- demand 1

-- Document 01: "The first number that applies is returned, each tested over the whole job or sheet before the next."
abbrev pub First : Type 0
First =
    (ts us : List Test) (t : Test) → all (λ (x : Test). x.passes) ts ≡ true → t.passes ≡ false
    → first_failing (ts ++ t ∷ us) ≡ t.number

-- "Everything else is accepted": read, given places with room, accepts the bytes that are a whole job with good parts.
abbrev pub ReadAccepts : Type 0
ReadAccepts =
    (p : Places) (s : List ℕ)
    → (read_number p s ≡ 0) ↔ ((roomy p ≡ true) × (job_whole s ≡ true) × PartsGood (job_of s))

-- Write, given a buffer for the longest job, accepts good parts that the places hold.
abbrev pub WriteAccepts : Type 0
WriteAccepts =
    (c : Counts) (p : Places) (d : List ℕ)
    → (write_number c p d ≡ 0) ↔ ((longest_job ≤ length d) × (held c p ≡ true) × PartsGood (job_from c p))

-- Read_sheet accepts the bytes that are a whole patch sheet, good for m targets and the first k candidates of the places.
abbrev pub SheetAccepts : Type 0
SheetAccepts =
    (m k : ℕ) (nets weights s : List ℕ)
    → (sheet_number m k nets weights s ≡ 0)
    ↔ ((sheet_roomy m k nets weights ≡ true)
    × (sheet_whole s ≡ true)
    × (patch_good m (candidates_from k nets weights) (patch_of s) ≡ true))

-- "Each with the number that document 01 names, length 0 and no lent byte altered."
abbrev pub ReadRefuses : Type 0
ReadRefuses =
    (p : Places) (s : List ℕ) → (read_number p s ≡ 0 → ⊥) → ((read_reply p s).counts ≡ no_counts) × (read_places p s ≡ p)

abbrev pub WriteRefuses : Type 0
WriteRefuses =
    (c : Counts) (p : Places) (d : List ℕ) → (write_number c p d ≡ 0 → ⊥)
    → ((write_reply c p d).len ≡ 0) × (written_bytes c p d ≡ d)

abbrev pub SheetRefuses : Type 0
SheetRefuses =
    (m k : ℕ) (nets weights s : List ℕ) → (sheet_number m k nets weights s ≡ 0 → ⊥)
    → ((sheet_reply m k nets weights s).number ≡ sheet_number m k nets weights s)
    × ((sheet_reply m k nets weights s).support.len ≡ 0)

-- "Each with the number that document 01 names": a call's number stands in its reply, accepted or not.
abbrev pub NumberGiven : Type 0
NumberGiven =
    ((p : Places) (s : List ℕ) → (read_reply p s).number ≡ read_number p s)
    × ((c : Counts) (p : Places) (d : List ℕ) → (write_reply c p d).number ≡ write_number c p d)
    × ((m k : ℕ) (nets weights s : List ℕ) → (sheet_reply m k nets weights s).number ≡ sheet_number m k nets weights s)
    × ((p : Columns) (s : List ℕ) → (columns_reply p s).number ≡ columns_number p s)
    × ((c : Counts) (p : Columns) (d : List ℕ) → (columns_write_reply c p d).number ≡ columns_write_number c p d)

unfoldable pub side_behind : SideCounts → SidePlaces → SidePlaces
side_behind c p = record { gates = drop c.gates p.gates; outputs = drop c.outputs p.outputs }

unfoldable pub behind : Counts → Places → Places
behind c p =
    record {
      old = side_behind c.old p.old;
      golden = side_behind c.golden p.golden;
      nets = drop c.candidates p.nets;
      weights = drop c.candidates p.weights;
    }

-- Document 01: "An accepted call returns 0 and its reply fills the buffer's start; bytes or places behind its length are untouched."
abbrev pub ReadKeeps : Type 0
ReadKeeps = (p : Places) (s : List ℕ) → let c = (read_reply p s).counts in behind c (read_places p s) ≡ behind c p

abbrev pub WriteKeeps : Type 0
WriteKeeps =
    (c : Counts) (p : Places) (d : List ℕ)
    → let n = (write_reply c p d).len in
    (n ≤ length d) × (drop n (written_bytes c p d) ≡ drop n d)

-- Lent places of the same lengths.
pub record SideAlike (p q : SidePlaces) : Type 0 where
  pub gates : length p.gates ≡ length q.gates
  pub outputs : length p.outputs ≡ length q.outputs

pub record Alike (p q : Places) : Type 0 where
  pub old : SideAlike p.old q.old
  pub golden : SideAlike p.golden q.golden
  pub nets : length p.nets ≡ length q.nets
  pub weights : length p.weights ≡ length q.weights

unfoldable pub side_up_to : SideCounts → SidePlaces → SidePlaces
side_up_to c p = record { gates = take c.gates p.gates; outputs = take c.outputs p.outputs }

unfoldable pub up_to : Counts → Places → Places
up_to c p =
    record {
      old = side_up_to c.old p.old;
      golden = side_up_to c.golden p.golden;
      nets = take c.candidates p.nets;
      weights = take c.candidates p.weights;
    }

-- "No earlier job plays any part in its reply": lent places of the same lengths, whatever they held before, get the same reply,
-- and the same parts as far as its counts say.
abbrev pub ReadIndependent : Type 0
ReadIndependent =
    (p q : Places) (s : List ℕ) → Alike p q
    → let c = (read_reply p s).counts in
    (read_reply p s ≡ read_reply q s) × (up_to c (read_places p s) ≡ up_to c (read_places q s))

-- The same for write, from places that hold the counts or not alike: neither what the buffer held before plays a part, nor what stands
-- in the places behind the counts.
abbrev pub WriteIndependent : Type 0
WriteIndependent =
    (c : Counts) (p q : Places) (d e : List ℕ) → held c p ≡ held c q → up_to c p ≡ up_to c q → length d ≡ length e
    → let n = (write_reply c p d).len in
    (write_reply c p d ≡ write_reply c q e) × (take n (written_bytes c p d) ≡ take n (written_bytes c q e))

-- The same for read_sheet, which alters nothing lent: what stands in the places behind the first k candidates plays no part.
abbrev pub SheetIndependent : Type 0
SheetIndependent =
    (m k : ℕ) (nets weights nets' weights' s : List ℕ) → length nets ≡ length nets' → length weights ≡ length weights'
    → take k nets ≡ take k nets' → take k weights ≡ take k weights'
    → sheet_reply m k nets weights s ≡ sheet_reply m k nets' weights' s

-- ---- demand 2

unfoldable pub permitted_counts : ℕ → List ℕ
permitted_counts k = up_from (least_count k) (suc (most_count k - least_count k))

unfoldable pub assignments : ℕ → List (List ℕ)
assignments zero = [] ∷ []
assignments (suc k) =
    map (λ (vs : List ℕ). 0 ∷ vs) (assignments k) ++ map (λ (vs : List ℕ). 1 ∷ vs) (assignments k)

-- "Gates behave as IEEE 1364 defines its primitives on 0 and 1": for each kind a row for each count of operands that it permits, the
-- values of a gate over nets 0, 1, 2, 3 where its operands count up from all 0 to all 1.
abbrev pub TruthTable : Type 0
TruthTable =
    tabulate kind_count
    (λ k. map (λ n. map (λ (vs : List ℕ). value_of vs (gate_of k n 0 1 2 3)) (assignments n)) (permitted_counts k))
    -- constant zero, constant one
    ≡ ((0 ∷ []) ∷ [])
    ∷ ((1 ∷ []) ∷ [])
    -- buf, not
    ∷ ((0 ∷ 1 ∷ []) ∷ [])
    ∷ ((1 ∷ 0 ∷ []) ∷ [])
    -- and, nand
    ∷ ((0 ∷ 0 ∷ 0 ∷ 1 ∷ []) ∷ (replicate 7 0 ++ 1 ∷ []) ∷ (replicate 15 0 ++ 1 ∷ []) ∷ [])
    ∷ ((1 ∷ 1 ∷ 1 ∷ 0 ∷ []) ∷ (replicate 7 1 ++ 0 ∷ []) ∷ (replicate 15 1 ++ 0 ∷ []) ∷ [])
    -- or, nor
    ∷ ((0 ∷ 1 ∷ 1 ∷ 1 ∷ []) ∷ (0 ∷ replicate 7 1) ∷ (0 ∷ replicate 15 1) ∷ [])
    ∷ ((1 ∷ 0 ∷ 0 ∷ 0 ∷ []) ∷ (1 ∷ replicate 7 0) ∷ (1 ∷ replicate 15 0) ∷ [])
    -- xor, xnor
    ∷ ((0 ∷ 1 ∷ 1 ∷ 0 ∷ [])
    ∷ (0 ∷ 1 ∷ 1 ∷ 0 ∷ 1 ∷ 0 ∷ 0 ∷ 1 ∷ [])
    ∷ (0 ∷ 1 ∷ 1 ∷ 0 ∷ 1 ∷ 0 ∷ 0 ∷ 1 ∷ 1 ∷ 0 ∷ 0 ∷ 1 ∷ 0 ∷ 1 ∷ 1 ∷ 0 ∷ [])
    ∷ [])
    ∷ ((1 ∷ 0 ∷ 0 ∷ 1 ∷ [])
    ∷ (1 ∷ 0 ∷ 0 ∷ 1 ∷ 0 ∷ 1 ∷ 1 ∷ 0 ∷ [])
    ∷ (1 ∷ 0 ∷ 0 ∷ 1 ∷ 0 ∷ 1 ∷ 1 ∷ 0 ∷ 0 ∷ 1 ∷ 1 ∷ 0 ∷ 1 ∷ 0 ∷ 0 ∷ 1 ∷ [])
    ∷ [])
    ∷ []

-- Card 6, "operand meaning shown once for any count": a plain kind on some operands is that kind on the first one and on what it gives for
-- the rest.
abbrev pub OperandsFold : Type 0
OperandsFold =
    (k v : ℕ) (vs : List ℕ) → k % 2 ≡ 0 → gate_value k (v ∷ vs) ≡ gate_value k (v ∷ gate_value k vs ∷ [])

-- "Nand, nor and xnor invert the whole and, or, parity", and in the same way constant one and not.
abbrev pub OddInverts : Type 0
OddInverts = (k : ℕ) (vs : List ℕ) → k % 2 ≡ 0 → k < kind_count → gate_value (suc k) vs ≡ inverted (gate_value k vs)

-- The places of an accepted job hold it, as many parts as its counts say.
abbrev pub PlacesGiven : Type 0
PlacesGiven =
    (p : Places) (s : List ℕ) → read_number p s ≡ 0
    → let c = (read_reply p s).counts in
    (held c (read_places p s) ≡ true) × (job_from c (read_places p s) ≡ job_of s)

-- "A job written from its parts reads back as those parts": the bytes that write leaves at the start of its buffer are read
-- into any places with room, with the same counts and the same parts.
abbrev pub ReadWrite : Type 0
ReadWrite =
    (c : Counts) (p : Places) (d : List ℕ) → write_number c p d ≡ 0 → (q : Places) → roomy q ≡ true
    → let s = take (write_reply c p d).len (written_bytes c p d) in
    (read_number q s ≡ 0) × ((read_reply q s).counts ≡ c) × (job_from c (read_places q s) ≡ job_from c p)

-- "An accepted job written again gives its bytes": what read leaves in the places and replies as counts is written, to any
-- buffer that is long enough, as the same bytes.
abbrev pub WriteRead : Type 0
WriteRead =
    (p : Places) (s : List ℕ) → Below 256 s → read_number p s ≡ 0 → (d : List ℕ) → longest_job ≤ length d
    → let c = (read_reply p s).counts in
    let q = read_places p s in
    (write_number c q d ≡ 0) × ((write_reply c q d).len ≡ length s) × (written_bytes c q d ≡ placed d 0 s)

-- ---- document 01, "Bytes"

-- Card 6: "The longest job is 8,188 bytes."
abbrev pub LongestJob : Type 0
LongestJob = (s : List ℕ) → job_refusal s ≡ 0 → length s ≤ longest_job

abbrev pub LongestJobMet : Type 0
LongestJobMet = (s : List ℕ) × Below 256 s × (job_refusal s ≡ 0) × (length s ≡ longest_job)

-- ---- document 01, "Fitting and comparing": a patch sheet

-- What read_sheet replies of an accepted sheet is what the sheet says: the support's nets, where in the bytes the table stands, one
-- entry a reading, and the cost.
pub record SheetIn (m k : ℕ) (nets weights s : List ℕ) : Type 0 where
  pub support : take (sheet_reply m k nets weights s).support.len (sheet_reply m k nets weights s).support.nets ≡ (patch_of s).support
  pub table : take (2 ^ (sheet_reply m k nets weights s).support.len) (drop (sheet_reply m k nets weights s).table s) ≡ (patch_of s).table
  pub cost : (sheet_reply m k nets weights s).cost ≡ (patch_of s).cost

abbrev pub SheetGiven : Type 0
SheetGiven = (m k : ℕ) (nets weights s : List ℕ) → sheet_number m k nets weights s ≡ 0 → SheetIn m k nets weights s

-- Card 1: "Fit and compare take sheets with or without it." Notes ns, one for each entry of the table and none above 2, put behind the
-- three fields of a sheet, whatever these say, leave the reply as it is.
abbrev pub SheetNotes : Type 0
SheetNotes =
    (m k : ℕ) (nets weights s ns : List ℕ) → whole sheet_tags s ≡ true → length ns ≡ length (patch_of s).table → Below 3 ns
    → sheet_reply m k nets weights (s ++ field notes_tag ns) ≡ sheet_reply m k nets weights s

-- .. "another length or a byte above 2 is 7", whatever the three fields say.
abbrev pub NotesSeven : Type 0
NotesSeven =
    (m k : ℕ) (nets weights s ns : List ℕ) → sheet_roomy m k nets weights ≡ true → whole sheet_tags s ≡ true
    → ((length ns ≡ length (patch_of s).table) × Below 3 ns → ⊥)
    → sheet_number m k nets weights (s ++ field notes_tag ns) ≡ 7

-- .. and so are bytes r left over behind the three fields, if there are any and they are no whole field 22 with one byte for each entry
-- of the table and none above 2.
abbrev pub LeftOverSeven : Type 0
LeftOverSeven =
    (m k : ℕ) (nets weights s r : List ℕ) → sheet_roomy m k nets weights ≡ true → whole sheet_tags s ≡ true
    → (length r ≡ 0 → ⊥)
    → ((whole (notes_tag ∷ []) r ≡ true) × (length (nth 0 r) ≡ length (patch_of s).table) × Below 3 (nth 0 r) → ⊥)
    → sheet_number m k nets weights (s ++ r) ≡ 7

-- Card 7: "a field 19 is 7", wherever it stands: behind any whole fields, and whatever stands behind it.
abbrev pub VectorsSeven : Type 0
VectorsSeven =
    (m k : ℕ) (nets weights ts a b : List ℕ) → sheet_roomy m k nets weights ≡ true → whole ts a ≡ true → fits 19 b ≡ true
    → sheet_number m k nets weights (a ++ b) ≡ 7

-- Where the counts have room, 7 is given exactly to what is no whole sheet.
abbrev pub SevenExactly : Type 0
SevenExactly =
    (m k : ℕ) (nets weights s : List ℕ) → sheet_roomy m k nets weights ≡ true
    → (sheet_number m k nets weights s ≡ 7) ↔ (sheet_whole s ≡ false)

-- ---- the services over columns

-- Where there is room for the one as for the other, read_columns replies what read replies.
abbrev pub ColumnsRead : Type 0
ColumnsRead = (p : Columns) (q : Places) (s : List ℕ) → columns_roomy p ≡ roomy q → columns_reply p s ≡ read_reply q s

abbrev pub ColumnsAccepts : Type 0
ColumnsAccepts =
    (p : Columns) (s : List ℕ)
    → (columns_number p s ≡ 0) ↔ ((columns_roomy p ≡ true) × (job_whole s ≡ true) × PartsGood (job_of s))

-- A refusal alters no column.
abbrev pub ColumnsRefuses : Type 0
ColumnsRefuses =
    (p : Columns) (s : List ℕ) → (columns_number p s ≡ 0 → ⊥)
    → ((columns_reply p s).counts ≡ no_counts) × (columns_after p s ≡ p)

-- The columns of an accepted job hold it.
abbrev pub ColumnsGiven : Type 0
ColumnsGiven =
    (p : Columns) (s : List ℕ) → columns_number p s ≡ 0 → columns_job (columns_reply p s).counts (columns_after p s) ≡ job_of s

-- .. and the columns are as long as its counts say.
abbrev pub ColumnsWithin : Type 0
ColumnsWithin =
    (p : Columns) (s : List ℕ) → columns_number p s ≡ 0 → columns_held (columns_reply p s).counts (columns_after p s) ≡ true

-- Columns and places that hold the same job are written alike.
abbrev pub ColumnsWrite : Type 0
ColumnsWrite =
    (c : Counts) (p : Columns) (q : Places) (d : List ℕ) → columns_job c p ≡ job_from c q → columns_held c p ≡ held c q
    → (columns_write_reply c p d ≡ write_reply c q d) × (columns_written c p d ≡ written_bytes c q d)

abbrev pub ColumnsWriteAccepts : Type 0
ColumnsWriteAccepts =
    (c : Counts) (p : Columns) (d : List ℕ)
    → (columns_write_number c p d ≡ 0) ↔ ((longest_job ≤ length d) × (columns_held c p ≡ true) × PartsGood (columns_job c p))

abbrev pub ColumnsWriteRefuses : Type 0
ColumnsWriteRefuses =
    (c : Counts) (p : Columns) (d : List ℕ) → (columns_write_number c p d ≡ 0 → ⊥)
    → ((columns_write_reply c p d).len ≡ 0) × (columns_written c p d ≡ d)

-- The round trip.
abbrev pub ColumnsReadWrite : Type 0
ColumnsReadWrite =
    (c : Counts) (p : Columns) (d : List ℕ) → columns_write_number c p d ≡ 0 → (q : Columns) → columns_roomy q ≡ true
    → let s = take (columns_write_reply c p d).len (columns_written c p d) in
    (columns_number q s ≡ 0) × ((columns_reply q s).counts ≡ c) × (columns_job c (columns_after q s) ≡ columns_job c p)

abbrev pub ColumnsWriteRead : Type 0
ColumnsWriteRead =
    (p : Columns) (s : List ℕ) → Below 256 s → columns_number p s ≡ 0 → (d : List ℕ) → longest_job ≤ length d
    → let c = (columns_reply p s).counts in
    let q = columns_after p s in
    (columns_write_number c q d ≡ 0) × ((columns_write_reply c q d).len ≡ length s) × (columns_written c q d ≡ placed d 0 s)

unfoldable pub side_columns_behind : SideCounts → SideColumns → SideColumns
side_columns_behind c p =
    record {
      kinds = drop c.gates p.kinds;
      counts = drop c.gates p.counts;
      slots = drop (slot_count * c.gates) p.slots;
      outputs = drop c.outputs p.outputs;
    }

unfoldable pub columns_behind : Counts → Columns → Columns
columns_behind c p =
    record {
      old = side_columns_behind c.old p.old;
      golden = side_columns_behind c.golden p.golden;
      nets = drop c.candidates p.nets;
      weights = drop c.candidates p.weights;
    }

-- Columns and bytes behind a reply are untouched.
abbrev pub ColumnsKeeps : Type 0
ColumnsKeeps =
    (p : Columns) (s : List ℕ) → let c = (columns_reply p s).counts in columns_behind c (columns_after p s) ≡ columns_behind c p

abbrev pub ColumnsWriteKeeps : Type 0
ColumnsWriteKeeps =
    (c : Counts) (p : Columns) (d : List ℕ)
    → let n = (columns_write_reply c p d).len in
    (n ≤ length d) × (drop n (columns_written c p d) ≡ drop n d)

-- Columns of the same lengths.
pub record SideColumnsAlike (p q : SideColumns) : Type 0 where
  pub kinds : length p.kinds ≡ length q.kinds
  pub counts : length p.counts ≡ length q.counts
  pub slots : length p.slots ≡ length q.slots
  pub outputs : length p.outputs ≡ length q.outputs

pub record ColumnsAlike (p q : Columns) : Type 0 where
  pub old : SideColumnsAlike p.old q.old
  pub golden : SideColumnsAlike p.golden q.golden
  pub nets : length p.nets ≡ length q.nets
  pub weights : length p.weights ≡ length q.weights

unfoldable pub side_columns_up_to : SideCounts → SideColumns → SideColumns
side_columns_up_to c p =
    record {
      kinds = take c.gates p.kinds;
      counts = take c.gates p.counts;
      slots = take (slot_count * c.gates) p.slots;
      outputs = take c.outputs p.outputs;
    }

unfoldable pub columns_up_to : Counts → Columns → Columns
columns_up_to c p =
    record {
      old = side_columns_up_to c.old p.old;
      golden = side_columns_up_to c.golden p.golden;
      nets = take c.candidates p.nets;
      weights = take c.candidates p.weights;
    }

-- No earlier job plays any part, and neither does what stands behind the counts.
abbrev pub ColumnsIndependent : Type 0
ColumnsIndependent =
    (p q : Columns) (s : List ℕ) → ColumnsAlike p q
    → let c = (columns_reply p s).counts in
    (columns_reply p s ≡ columns_reply q s) × (columns_up_to c (columns_after p s) ≡ columns_up_to c (columns_after q s))

abbrev pub ColumnsWriteIndependent : Type 0
ColumnsWriteIndependent =
    (c : Counts) (p q : Columns) (d e : List ℕ) → columns_held c p ≡ columns_held c q → columns_up_to c p ≡ columns_up_to c q
    → length d ≡ length e
    → let n = (columns_write_reply c p d).len in
    (columns_write_reply c p d ≡ columns_write_reply c q e) × (take n (columns_written c p d) ≡ take n (columns_written c q e))
