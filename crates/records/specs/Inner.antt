-- What the library's private functions give: where fields stand, and the enums' cases from the tests of the other files.
-- No public contract cites this file. Assumes nothing.
use Rattle.std.specs.Prelude.{ℕ, zero, suc, ◌+◌, ◌-◌, ◌*◌, ◌/◌, ◌%◌, ◌^◌, ◌≤◌, ◌<◌, ◌≡◌, List, [], ◌∷◌, ◌++◌, map, Bool, true, false, cond, ◌&&◌, ◌||◌, length, get_or, take, drop, replicate, leb, ltb, eqb, Option, Some, None, Result}
use Rattle.records.specs.Bytes.{up_from, tabulate, all, flat, byte_pair, word, placed, head_size, field, body_length, rest, fits, whole, nth}
use Rattle.records.specs.Gate.{slot_count}
use Rattle.records.specs.Netlist.{net_at}
use Rattle.records.specs.Job.{Candidate, Job, gate_size, net_size, candidate_size, gate_bytes, job_whole, job_of, job_bytes}
use Rattle.records.specs.Refusal.{max_inputs, max_targets, max_gates, max_outputs, max_candidates, longest_job, first_failing, ascending, job_tests, job_refusal}
use Rattle.records.specs.Sheet.{sheet_tags, notes_tag, is_candidate, cost_of}
use Rattle.records.specs.Service.{Places, gates_in, counts_of, no_counts, ReadReply, held, job_from, write_told, write_reply, written_bytes}
unfoldable pub use Rattle.records.specs.Service.{check_of, struct_slots, no_gate, no_gates}
use Rattle.records.specs.declared.gate.Gate.{Gate as GateStruct}
use Rattle.records.specs.declared.field.Span.{Span}
use Rattle.records.specs.declared.refusal.Refusal.{Refusal}
use Rattle.records.specs.declared.job.SideCounts.{SideCounts}
use Rattle.records.specs.declared.job.Counts.{Counts}
use Rattle.records.specs.declared.job.Starts.{Starts}
use Rattle.records.specs.declared.sheet.Support.{Support}
use Rattle.records.specs.declared.sheet.SheetSpans.{SheetSpans}

-- ---- fields

-- the field with tag t at position at of s: where its bytes start, and how many they are
unfoldable pub field_at : List ℕ → ℕ → ℕ → Option Span
field_at s at t =
    cond (fits t (drop at s)) (Some (record { start = at + head_size; len = body_length (drop at s) })) None

unfoldable pub starts_in : List Span → List ℕ
starts_in spans = map (λ (x : Span). x.start) spans

unfoldable pub lens_in : List Span → List ℕ
lens_in spans = map (λ (x : Span). x.len) spans

-- where the bytes of the field that stands after k others start
unfoldable pub start_of : ℕ → List ℕ → ℕ
start_of zero s = head_size
start_of (suc k) s = head_size + body_length s + start_of k (rest s)

-- the first count fields of s have these spans
pub record Spanned (s : List ℕ) (count : ℕ) (spans : List Span) : Type 0 where
  pub starts : (k : ℕ) → k < count → get_or (starts_in spans) k 0 ≡ start_of k s
  pub lens : (k : ℕ) → k < count → get_or (lens_in spans) k 0 ≡ length (nth k s)

-- whether the fields are whole; if they are, their spans
abbrev pub Walked : List ℕ → ℕ → ℕ → Option (List Span) → Type 0
Walked s first count (Some spans) = (whole (up_from first count) s ≡ true) × Spanned s count spans
Walked s first count None = whole (up_from first count) s ≡ false

-- ---- a job's counts and where its fields stand

-- the six fields' lengths are those of two counts and of whole gates, nets and candidates
unfoldable pub lengths_good : List ℕ → Bool
lengths_good ns =
    eqb (get_or ns 0 0) 2
    && eqb (get_or ns 1 0 % gate_size) 0
    && eqb (get_or ns 2 0 % net_size) 0
    && eqb (get_or ns 3 0 % gate_size) 0
    && eqb (get_or ns 4 0 % net_size) 0
    && eqb (get_or ns 5 0 % candidate_size) 0

-- the counts of fields of these lengths, of which the first holds the numbers n and m
unfoldable pub counted_from : List ℕ → ℕ → ℕ → Option Counts
counted_from ns n m =
    cond (lengths_good ns)
    (Some
    (record {
      inputs = n;
      targets = m;
      old = record { gates = get_or ns 1 0 / gate_size; outputs = get_or ns 2 0 / net_size };
      golden = record { gates = get_or ns 3 0 / gate_size; outputs = get_or ns 4 0 / net_size };
      candidates = get_or ns 5 0 / candidate_size;
    }))
    None

unfoldable pub side_within : SideCounts → Bool
side_within c = leb c.gates max_gates && leb 1 c.outputs && leb c.outputs max_outputs

unfoldable pub counts_within : Counts → Bool
counts_within c =
    leb c.inputs max_inputs
    && leb c.targets max_targets
    && side_within c.old
    && side_within c.golden
    && leb c.candidates max_candidates

-- the same as inequalities
pub record SideWithin (c : SideCounts) : Type 0 where
  pub gates : c.gates ≤ max_gates
  pub some : 1 ≤ c.outputs
  pub outputs : c.outputs ≤ max_outputs

pub record Within (c : Counts) : Type 0 where
  pub inputs : c.inputs ≤ max_inputs
  pub targets : c.targets ≤ max_targets
  pub old : SideWithin c.old
  pub golden : SideWithin c.golden
  pub candidates : c.candidates ≤ max_candidates

unfoldable pub shape_of : List ℕ → Option Counts
shape_of s = cond (job_whole s) (Some (counts_of (job_of s))) None

-- fields 2 to 6 start after a head of three bytes each
unfoldable pub starts_of : Counts → Starts
starts_of c =
    let outputs = 8 + gate_size * c.old.gates + 3 in
    let golden = outputs + 2 * c.old.outputs + 3 in
    let goldens = golden + gate_size * c.golden.gates + 3 in
    let candidates = goldens + 2 * c.golden.outputs + 3 in
    record {
      old = 8;
      outputs = outputs;
      golden = golden;
      goldens = goldens;
      candidates = candidates;
      end = candidates + 4 * c.candidates;
    }

-- s is a whole job with the counts c, all within their ranges
pub record Laid (s : List ℕ) (c : Counts) : Type 0 where
  pub whole : job_whole s ≡ true
  pub counts : c ≡ counts_of (job_of s)
  pub within : Within c

unfoldable pub checked_of : List ℕ → ReadReply
checked_of s =
    record { number = job_refusal s; counts = cond (eqb (job_refusal s) 0) (counts_of (job_of s)) no_counts }

-- ---- marks and candidates

unfoldable pub leaf_marks : ℕ → ℕ → List ℕ
leaf_marks n m = replicate n 0 ++ replicate m 1

unfoldable pub unmarked_ascending : ℕ → List ℕ → List Candidate → Bool
unmarked_ascending nets marks cs =
    ascending (map (λ (c : Candidate). c.net) cs)
    && all (λ (c : Candidate). ltb c.net nets && eqb (net_at marks c.net) 0) cs

-- ---- columns of records: count records of size bytes

unfoldable pub word_column : List ℕ → ℕ → ℕ → ℕ → List ℕ
word_column s size offset count = tabulate count (λ i. word s (size * i + offset))

-- ---- gate structs

-- the gate struct at position at of the bytes s; count of them, from there on
unfoldable pub struct_at : List ℕ → ℕ → GateStruct
struct_at s at =
    record {
      kind = get_or s at 0;
      count = get_or s (at + 1) 0;
      first = word s (at + 2);
      second = word s (at + 4);
      third = word s (at + 6);
      fourth = word s (at + 8);
    }

unfoldable pub structs_at : List ℕ → ℕ → ℕ → List GateStruct
structs_at s at count = tabulate count (λ i. struct_at s (at + gate_size * i))

-- the bytes of the first count gates
unfoldable pub gates_bytes : ℕ → List GateStruct → List ℕ
gates_bytes count gs = flat gate_bytes (gates_in count gs)

-- ---- reading: how many places there are for old gates a, old outputs b, golden gates c, golden outputs d, candidates e and f

unfoldable pub room : ℕ → ℕ → ℕ → ℕ → ℕ → ℕ → Bool
room a b c d e f =
    (leb max_gates a && leb max_outputs b) && (leb max_gates c && leb max_outputs d) && leb max_candidates e && leb max_candidates f

-- the reply of read, given whether there is room
unfoldable pub reply_in : Bool → List ℕ → ReadReply
reply_in roomy s =
    let n = first_failing (record { number = 1; passes = roomy } ∷ job_tests s) in
    record { number = n; counts = cond (eqb n 0) (counts_of (job_of s)) no_counts }

-- what fill_rest asks of the counts and of how many places there are, and what it leaves in them
pub record RestFits (c : Counts) (s : List ℕ) (b d e f : ℕ) : Type 0 where
  pub laid : Laid s c
  pub old : max_outputs ≤ b
  pub golden : max_outputs ≤ d
  pub nets : max_candidates ≤ e
  pub weights : max_candidates ≤ f

pub record RestFilled (j : Job) (b d e f b' d' e' f' : List ℕ) : Type 0 where
  pub old : b' ≡ placed b 0 j.old.outputs
  pub golden : d' ≡ placed d 0 j.golden.outputs
  pub nets : e' ≡ placed e 0 (map (λ (c : Candidate). c.net) j.candidates)
  pub weights : f' ≡ placed f 0 (map (λ (c : Candidate). c.weight) j.candidates)

-- ---- writing

-- the counts fit the places, of which there are so many: number 3 for write
unfoldable pub holds : Counts → ℕ → ℕ → ℕ → ℕ → ℕ → ℕ → Bool
holds n a b c d e f =
    (leb n.old.gates a && leb n.old.outputs b)
    && (leb n.golden.gates c && leb n.golden.outputs d)
    && leb n.candidates e
    && leb n.candidates f

-- the number that write gives before a byte is put, size being the buffer's
unfoldable pub write_tests_number : Counts → ℕ → Bool → ℕ
write_tests_number c size held =
    first_failing
    (record { number = 1; passes = leb longest_job size }
    ∷ record { number = 3; passes = counts_within c && held }
    ∷ [])

-- the bytes d with the numbers f 0, f 1, .. f (n - 1) from position at on, two bytes each, size bytes apart
unfoldable pub spread : List ℕ → ℕ → ℕ → ℕ → (ℕ → ℕ) → List ℕ
spread d at size zero f = d
spread d at size (suc n) f = placed (spread d at size n f) (at + size * n) (byte_pair (f n))

-- a buffer of n bytes has room from position at on for a netlist's fields, and k places hold the outputs
pub record SidePut (n at t : ℕ) (c : SideCounts) (k : ℕ) : Type 0 where
  pub tag : t < 255
  pub within : SideWithin c
  pub held : c.outputs ≤ k
  pub room : at + 6 + gate_size * c.gates + 2 * c.outputs ≤ n

-- d is left as d': a head for the gates, and behind the gates' bytes the field of the outputs
pub record SideDone (d : List ℕ) (at t : ℕ) (c : SideCounts) (os : List ℕ) (r : ℕ) (d' : List ℕ) : Type 0 where
  pub end : r ≡ at + 6 + gate_size * c.gates + 2 * c.outputs
  pub bytes : d'
      ≡ placed (placed d at (t ∷ byte_pair (gate_size * c.gates)))
      (at + 3 + gate_size * c.gates)
      (field (suc t) (flat byte_pair (take c.outputs os)))

-- a buffer of n bytes has room for a job, and the places for outputs and candidates hold the counts
pub record JobPut (n : ℕ) (c : Counts) (b d e f : ℕ) : Type 0 where
  pub within : Within c
  pub old : c.old.outputs ≤ b
  pub golden : c.golden.outputs ≤ d
  pub nets : c.candidates ≤ e
  pub weights : c.candidates ≤ f
  pub room : longest_job ≤ n

-- the first r bytes of d' are those of the job
pub record JobDone (c : Counts) (p : Places) (r : ℕ) (d' : List ℕ) : Type 0 where
  pub len : r ≡ length (job_bytes (job_from c p))
  pub bytes : take r d' ≡ job_bytes (job_from c p)

-- the bytes z hold the gates gs and hs of a job with the counts c where the job has them
pub record GatesPut (c : Counts) (gs hs : List GateStruct) (z : List ℕ) : Type 0 where
  pub old : take (gate_size * c.old.gates) (drop (starts_of c).old z) ≡ gates_bytes c.old.gates gs
  pub golden : take (gate_size * c.golden.gates) (drop (starts_of c).golden z) ≡ gates_bytes c.golden.gates hs
  pub held : (c.old.gates ≤ length gs) × (c.golden.gates ≤ length hs)

-- what write_rest asks
pub record RestHeld (c : Counts) (b d e f z n : ℕ) : Type 0 where
  pub scratch : z ≡ longest_job
  pub put : JobPut z c b d e f
  pub size : longest_job ≤ n

-- what write_rest answers and leaves in the buffer
pub record RestWritten (c : Counts) (p : Places) (d : List ℕ) (r : Result ℕ Refusal) (d' : List ℕ) : Type 0 where
  pub reply : write_told r ≡ write_reply c p d
  pub lent : d' ≡ written_bytes c p d

-- ---- columns

-- so many places hold count gates
unfoldable pub columns_hold : ℕ → ℕ → ℕ → ℕ → Bool
columns_hold count k n s = leb count k && leb count n && leb (slot_count * count) s

-- the same as inequalities, where there are at most so many gates
pub record ColumnsHold (most count k n s : ℕ) : Type 0 where
  pub gates : count ≤ most
  pub kinds : count ≤ k
  pub counts : count ≤ n
  pub slots : slot_count * count ≤ s

-- the columns with the first count gates at their starts
pub record Split (gs : List GateStruct) (count : ℕ) (ks ns ss ks' ns' ss' : List ℕ) : Type 0 where
  pub kinds : ks' ≡ placed ks 0 (map (λ (g : GateStruct). g.kind) (take count gs))
  pub counts : ns' ≡ placed ns 0 (map (λ (g : GateStruct). g.count) (take count gs))
  pub slots : ss' ≡ placed ss 0 (flat struct_slots (take count gs))

-- the first count gates of columns
unfoldable pub structs_from : ℕ → List ℕ → List ℕ → List ℕ → List GateStruct
structs_from count ks ns ss =
    tabulate count
    (λ i. record {
      kind = get_or ks i 0;
      count = get_or ns i 0;
      first = get_or ss (slot_count * i) 0;
      second = get_or ss (slot_count * i + 1) 0;
      third = get_or ss (slot_count * i + 2) 0;
      fourth = get_or ss (slot_count * i + 3) 0;
    })

-- ---- sheets

-- the tests of number 3 for read_sheet, on how many places there are
unfoldable pub sheet_room : ℕ → ℕ → ℕ → ℕ → Bool
sheet_room m k n w = leb m max_targets && leb k max_candidates && leb k n && leb k w

unfoldable pub spans_of : List ℕ → SheetSpans
spans_of s =
    record { nets = length (nth 0 s) / 2; table = start_of 1 s; cost = start_of 2 s }

-- a whole sheet without notes
unfoldable pub bare_whole : List ℕ → Bool
bare_whole s =
    whole sheet_tags s
    && eqb (length (nth 0 s) % 2) 0
    && eqb (length (nth 1 s)) (2 ^ (length (nth 0 s) / 2))
    && eqb (length (nth 2 s)) 4

unfoldable pub sheet_shape_of : List ℕ → Option SheetSpans
sheet_shape_of s = cond (bare_whole s) (Some (spans_of s)) None

-- no bytes, or the field of the notes of n readings
unfoldable pub notes_at : ℕ → List ℕ → Bool
notes_at n t =
    eqb (length t) 0 || (whole (notes_tag ∷ []) t && eqb (length (nth 0 t)) n && all (λ v. ltb v 3) (nth 0 t))

-- the fields' lengths are those of nets, of a table and a cost that fit each other; a table is shorter than 65,536 bytes, so the nets
-- are at most fifteen
unfoldable pub sheet_lengths : List ℕ → Bool
sheet_lengths ns =
    leb (get_or ns 0 0) 31
    && (eqb (get_or ns 0 0 % net_size) 0 && eqb (get_or ns 1 0) (2 ^ (get_or ns 0 0 / net_size)) && eqb (get_or ns 2 0) 4)

-- the fields of these starts and lengths
unfoldable pub spanned_from : List ℕ → List ℕ → Option SheetSpans
spanned_from ss ns =
    cond (sheet_lengths ns)
    (Some (record { nets = get_or ns 0 0 / net_size; table = get_or ss 1 0; cost = get_or ss 2 0 }))
    None

-- the place of i in the list, from place k on
unfoldable pub found_from : ℕ → List ℕ → ℕ → Option ℕ
found_from k [] i = None
found_from k (x ∷ xs) i = cond (eqb x i) (Some k) (found_from (suc k) xs i)

unfoldable pub found_in : List ℕ → ℕ → Option ℕ
found_in xs i = found_from 0 xs i

unfoldable pub support_of : List Candidate → List ℕ → Option ℕ
support_of cs is = cond (ascending is && all (is_candidate cs) is) (Some (cost_of cs is)) None

unfoldable pub ten_places : List ℕ → Support
ten_places is = record { nets = is ++ replicate (max_candidates - length is) 0; len = length is }
