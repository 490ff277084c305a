-- What the services reply and what the lent places hold afterwards (document 01, "Numbers given when a call is
-- declined"; docs/DECISIONS.md). Assumes nothing.
--
--   GateStruct            the struct Gate of src/gate.rt: kind, operand count, four operand slots
--   slot_of i g           what stands in operand slot i of a gate
--   struct_slots g        the operand slots of a gate struct
--   gate_from g, struct_of g                 the gate that a gate struct holds, and back
--   no_gate, no_gates     the gate struct of zeros, and a netlist's places of it
--   check_of b            a check's answer for a test
--   number_of e           the number of a refusal
--   refusal_text e        what it prints as: `refused ` and its number, a digit
--   told_number r         .. of an answer: 0 where it is accepted
--   SidePlaces, Places    the lent places of a netlist, of a job
--   side_places, places   the same from the lists of their places
--   side_counts_of l, counts_of j, no_counts   the counts of a netlist, of a job, and of a refused one
--   side_roomy, roomy p   number 1 for read: places for the longest job
--   filled_side, filled p j                 the places p with the parts of j at their starts
--   ReadReply, read_told r                    number and counts of a reply, and what an answer of read says of them: counts of 0 where it refuses
--   read_number, read_reply, read_places      what read replies, and the places afterwards
--   empty_places          places for the longest job that hold zeros
--   Loaded, parts_in c p, load_told r         number and parts, and what an answer of load says of them: empty places where it refuses
--   loaded s              what load gives: the reply of read into empty places, and what they hold afterwards
--   side_held, held c p   number 3 for write: no count of c exceeds its places
--   gates_in, netlist_from, candidates_from, job_from c p     the job whose parts stand at the starts of the places p, as many as the counts c say
--   WriteReply, write_told r                  number and length of a reply, and what an answer of write says of them
--   write_number, write_reply, written_bytes  what write replies, and the reply buffer afterwards
--   sheet_roomy           number 3 for read_sheet: target and candidate counts within their ranges and places
--   SheetReply, sheet_told r                 what an answer of read_sheet says: number, support, where the table starts, cost
--   sheet_number, sheet_reply                what read_sheet replies
--   field_fits d at xs    a field of the bytes xs fits into the buffer d from position at on, and its length into two bytes
use Rattle.std.specs.Prelude.{◌≡◌, ℕ, ◌+◌, ◌-◌, List, [], ◌∷◌, ◌++◌, map, Bool, cond, ◌&&◌, length, get_or, take, replicate, leb, ltb, eqb, Result, Ok, Err, codes}
use Rattle.records.specs.Bytes.{tabulate, placed, head_size, nth}
use Rattle.records.specs.Gate.{Gate, gate_of}
use Rattle.records.specs.Netlist.{Netlist}
use Rattle.records.specs.Job.{Candidate, Job, job_of, job_bytes}
use Rattle.records.specs.Refusal.{max_targets, max_gates, max_outputs, max_candidates, longest_job, first_failing, part_tests, job_tests}
use Rattle.records.specs.Sheet.{patch_of, sheet_tests}
use Rattle.records.specs.declared.gate.Gate.{Gate as GateStruct}
use Rattle.records.specs.declared.field.Check.{Check}
use Rattle.records.specs.declared.field.Check.TheVariants.{Passed, Failed}
use Rattle.records.specs.declared.job.SideCounts.{SideCounts}
use Rattle.records.specs.declared.job.Counts.{Counts}
use Rattle.records.specs.declared.loading.JobParts.{JobParts}
use Rattle.records.specs.declared.refusal.Refusal.{Refusal}
use Rattle.records.specs.declared.sheet.Support.{Support}
use Rattle.records.specs.declared.sheet.PatchSheet.{PatchSheet}

unfoldable pub slot_of : ℕ → Gate → ℕ
slot_of i g = get_or g.slots i 0

unfoldable pub struct_slots : GateStruct → List ℕ
struct_slots g = g.first ∷ g.second ∷ g.third ∷ g.fourth ∷ []

unfoldable pub gate_from : GateStruct → Gate
gate_from g = gate_of g.kind g.count g.first g.second g.third g.fourth

unfoldable pub struct_of : Gate → GateStruct
struct_of g =
    record {
      kind = g.kind;
      count = g.count;
      first = slot_of 0 g;
      second = slot_of 1 g;
      third = slot_of 2 g;
      fourth = slot_of 3 g;
    }

unfoldable pub no_gate : GateStruct
no_gate = record { kind = 0; count = 0; first = 0; second = 0; third = 0; fourth = 0 }

unfoldable pub no_gates : List GateStruct
no_gates = replicate max_gates no_gate

unfoldable pub check_of : Bool → Check
check_of b = cond b Passed Failed

pub record SidePlaces : Type 0 where
  pub gates : List GateStruct
  pub outputs : List ℕ

pub record Places : Type 0 where
  pub old : SidePlaces
  pub golden : SidePlaces
  pub nets : List ℕ
  pub weights : List ℕ

abbrev pub side_places : List GateStruct → List ℕ → SidePlaces
side_places gs os = record { gates = gs; outputs = os }

abbrev pub places : SidePlaces → SidePlaces → List ℕ → List ℕ → Places
places old golden nets weights = record { old = old; golden = golden; nets = nets; weights = weights }

-- ---- refusals

unfoldable pub number_of : Refusal → ℕ
number_of Refusal.Room = 1
number_of Refusal.Fields = 2
number_of Refusal.Counts = 3
number_of Refusal.Gates = 4
number_of Refusal.Outputs = 5
number_of Refusal.Candidates = 6
number_of Refusal.Sheet = 7
number_of Refusal.Patch = 8
number_of Refusal.Size = 9

abbrev pub Numbers : Refusal → ℕ → Type 0
Numbers e n = n ≡ number_of e

unfoldable pub refusal_text : Refusal → List ℕ
refusal_text e = codes "refused " ++ ((48 + number_of e) ∷ [])

abbrev pub told_number : {A : Type 0} → Result A Refusal → ℕ
told_number (Ok _) = 0
told_number (Err e) = number_of e

-- ---- read

pub record ReadReply : Type 0 where
  pub number : ℕ
  pub counts : Counts

unfoldable pub side_counts_of : Netlist → SideCounts
side_counts_of l = record { gates = length l.gates; outputs = length l.outputs }

unfoldable pub counts_of : Job → Counts
counts_of j =
    record {
      inputs = j.inputs;
      targets = j.targets;
      old = side_counts_of j.old;
      golden = side_counts_of j.golden;
      candidates = length j.candidates;
    }

unfoldable pub side_roomy : SidePlaces → Bool
side_roomy p = leb max_gates (length p.gates) && leb max_outputs (length p.outputs)

unfoldable pub roomy : Places → Bool
roomy p =
    side_roomy p.old
    && side_roomy p.golden
    && leb max_candidates (length p.nets)
    && leb max_candidates (length p.weights)

unfoldable pub filled_side : SidePlaces → Netlist → SidePlaces
filled_side p l =
    record { gates = placed p.gates 0 (map struct_of l.gates); outputs = placed p.outputs 0 l.outputs }

unfoldable pub filled : Places → Job → Places
filled p j =
    record {
      old = filled_side p.old j.old;
      golden = filled_side p.golden j.golden;
      nets = placed p.nets 0 (map (λ (c : Candidate). c.net) j.candidates);
      weights = placed p.weights 0 (map (λ (c : Candidate). c.weight) j.candidates);
    }

unfoldable pub read_number : Places → List ℕ → ℕ
read_number p s = first_failing (record { number = 1; passes = roomy p } ∷ job_tests s)

unfoldable pub no_counts : Counts
no_counts =
    record {
      inputs = 0;
      targets = 0;
      old = record { gates = 0; outputs = 0 };
      golden = record { gates = 0; outputs = 0 };
      candidates = 0;
    }

abbrev pub read_told : Result Counts Refusal → ReadReply
read_told (Ok counts) = record { number = 0; counts = counts }
read_told (Err e) = record { number = number_of e; counts = no_counts }

unfoldable pub read_reply : Places → List ℕ → ReadReply
read_reply p s =
    record { number = read_number p s; counts = cond (eqb (read_number p s) 0) (counts_of (job_of s)) no_counts }

unfoldable pub read_places : Places → List ℕ → Places
read_places p s = cond (eqb (read_number p s) 0) (filled p (job_of s)) p

-- ---- load

unfoldable pub empty_places : Places
empty_places =
    places
    (side_places no_gates (replicate max_outputs 0))
    (side_places no_gates (replicate max_outputs 0))
    (replicate max_candidates 0)
    (replicate max_candidates 0)

pub record Loaded : Type 0 where
  pub number : ℕ
  pub parts : JobParts

unfoldable pub parts_in : Counts → Places → JobParts
parts_in c p =
    record {
      counts = c;
      old = p.old.gates;
      outputs = p.old.outputs;
      golden = p.golden.gates;
      goldens = p.golden.outputs;
      nets = p.nets;
      weights = p.weights;
    }

abbrev pub load_told : Result JobParts Refusal → Loaded
load_told (Ok parts) = record { number = 0; parts = parts }
load_told (Err e) = record { number = number_of e; parts = parts_in no_counts empty_places }

unfoldable pub loaded : List ℕ → Loaded
loaded s =
    let reply = read_reply empty_places s in
    record { number = reply.number; parts = parts_in reply.counts (read_places empty_places s) }

-- ---- write

unfoldable pub gates_in : ℕ → List GateStruct → List Gate
gates_in k gs = map gate_from (take k gs)

unfoldable pub netlist_from : SideCounts → SidePlaces → Netlist
netlist_from c p = record { gates = gates_in c.gates p.gates; outputs = take c.outputs p.outputs }

unfoldable pub candidates_from : ℕ → List ℕ → List ℕ → List Candidate
candidates_from k nets weights = tabulate k (λ i. record { net = get_or nets i 0; weight = get_or weights i 0 })

unfoldable pub job_from : Counts → Places → Job
job_from c p =
    record {
      inputs = c.inputs;
      targets = c.targets;
      old = netlist_from c.old p.old;
      golden = netlist_from c.golden p.golden;
      candidates = candidates_from c.candidates p.nets p.weights;
    }

unfoldable pub side_held : SideCounts → SidePlaces → Bool
side_held c p = leb c.gates (length p.gates) && leb c.outputs (length p.outputs)

unfoldable pub held : Counts → Places → Bool
held c p =
    side_held c.old p.old
    && side_held c.golden p.golden
    && leb c.candidates (length p.nets)
    && leb c.candidates (length p.weights)

unfoldable pub write_number : Counts → Places → List ℕ → ℕ
write_number c p d =
    first_failing
    (record { number = 1; passes = leb longest_job (length d) }
    ∷ record { number = 3; passes = held c p }
    ∷ part_tests (job_from c p))

pub record WriteReply : Type 0 where
  pub number : ℕ
  pub len : ℕ

abbrev pub write_told : Result ℕ Refusal → WriteReply
write_told (Ok len) = record { number = 0; len = len }
write_told (Err e) = record { number = number_of e; len = 0 }

unfoldable pub write_reply : Counts → Places → List ℕ → WriteReply
write_reply c p d =
    record { number = write_number c p d; len = cond (eqb (write_number c p d) 0) (length (job_bytes (job_from c p))) 0 }

unfoldable pub written_bytes : Counts → Places → List ℕ → List ℕ
written_bytes c p d = cond (eqb (write_number c p d) 0) (placed d 0 (job_bytes (job_from c p))) d

-- ---- read_sheet: targets m, the first k of the places nets and weights, a sheet's bytes s

unfoldable pub sheet_roomy : ℕ → ℕ → List ℕ → List ℕ → Bool
sheet_roomy m k nets weights = leb m max_targets && leb k max_candidates && leb k (length nets) && leb k (length weights)

unfoldable pub sheet_number : ℕ → ℕ → List ℕ → List ℕ → List ℕ → ℕ
sheet_number m k nets weights s =
    first_failing
    (record { number = 3; passes = sheet_roomy m k nets weights } ∷ sheet_tests m (candidates_from k nets weights) s)

pub record SheetReply : Type 0 where
  pub number : ℕ
  pub support : Support
  pub table : ℕ
  pub cost : ℕ

abbrev pub sheet_told : Result PatchSheet Refusal → SheetReply
sheet_told (Ok p) = record { number = 0; support = p.support; table = p.table; cost = p.cost }
sheet_told (Err e) =
    record { number = number_of e; support = record { nets = replicate max_candidates 0; len = 0 }; table = 0; cost = 0 }

-- an accepted sheet's support in ten places, where its table starts, and its cost
unfoldable pub sheet_reply : ℕ → ℕ → List ℕ → List ℕ → List ℕ → SheetReply
sheet_reply m k nets weights s =
    let number = sheet_number m k nets weights s in
    let is = (patch_of s).support in
    cond (eqb number 0)
    (record {
      number = 0;
      support = record { nets = is ++ replicate (max_candidates - length is) 0; len = length is };
      table = head_size + length (nth 0 s) + head_size;
      cost = (patch_of s).cost;
    })
    (record { number = number; support = record { nets = replicate max_candidates 0; len = 0 }; table = 0; cost = 0 })

-- ---- put_field

unfoldable pub field_fits : List ℕ → ℕ → List ℕ → Bool
field_fits d at xs = leb (at + head_size + length xs) (length d) && ltb (length xs) 65536
