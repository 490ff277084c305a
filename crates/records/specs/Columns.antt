-- The services over columns: read and write for callers that keep a netlist's gates in three lists, the kinds, the operand counts and
-- the operand slots, four a gate (docs/DECISIONS.md). That they give what read and write give is claimed in Claims.antt. Assumes nothing.
--
--   SideColumns, Columns       the lent columns of a netlist, of a job
--   side_columns, columns       the same from their lists
--   side_columns_roomy, columns_roomy p           number 1 for read_columns: places for the longest job
--   side_columns_filled, columns_filled p j       the columns p with the parts of j at their starts
--   columns_number, columns_reply, columns_after  what read_columns replies, and the columns afterwards
--   side_columns_held, columns_held c p           number 3 for write_columns: no count of c exceeds its places
--   gates_from, columns_netlist, columns_job c p  the job whose parts stand at the starts of the columns p, as many as the counts c say
--   columns_write_number, columns_write_reply, columns_written               what write_columns replies, and the reply buffer afterwards
use Rattle.std.specs.Prelude.{ℕ, ◌+◌, ◌*◌, List, ◌∷◌, map, Bool, cond, ◌&&◌, length, get_or, take, leb, eqb}
use Rattle.records.specs.Bytes.{tabulate, flat, placed}
use Rattle.records.specs.Gate.{Gate, slot_count, gate_of}
use Rattle.records.specs.Netlist.{Netlist}
use Rattle.records.specs.Job.{Candidate, Job, job_of, job_bytes}
use Rattle.records.specs.Refusal.{max_gates, max_outputs, max_candidates, longest_job, first_failing, part_tests, job_tests}
use Rattle.records.specs.Service.{ReadReply, WriteReply, counts_of, no_counts, candidates_from}
use Rattle.records.specs.declared.job.SideCounts.{SideCounts}
use Rattle.records.specs.declared.job.Counts.{Counts}

pub record SideColumns : Type 0 where
  pub kinds : List ℕ
  pub counts : List ℕ
  pub slots : List ℕ
  pub outputs : List ℕ

pub record Columns : Type 0 where
  pub old : SideColumns
  pub golden : SideColumns
  pub nets : List ℕ
  pub weights : List ℕ

abbrev pub side_columns : List ℕ → List ℕ → List ℕ → List ℕ → SideColumns
side_columns ks ns ss os = record { kinds = ks; counts = ns; slots = ss; outputs = os }

abbrev pub columns : SideColumns → SideColumns → List ℕ → List ℕ → Columns
columns old golden nets weights = record { old = old; golden = golden; nets = nets; weights = weights }

-- ---- read_columns

unfoldable pub side_columns_roomy : SideColumns → Bool
side_columns_roomy p =
    leb max_gates (length p.kinds)
    && leb max_gates (length p.counts)
    && leb (slot_count * max_gates) (length p.slots)
    && leb max_outputs (length p.outputs)

unfoldable pub columns_roomy : Columns → Bool
columns_roomy p =
    side_columns_roomy p.old
    && side_columns_roomy p.golden
    && leb max_candidates (length p.nets)
    && leb max_candidates (length p.weights)

unfoldable pub side_columns_filled : SideColumns → Netlist → SideColumns
side_columns_filled p l =
    record {
      kinds = placed p.kinds 0 (map (λ (g : Gate). g.kind) l.gates);
      counts = placed p.counts 0 (map (λ (g : Gate). g.count) l.gates);
      slots = placed p.slots 0 (flat (λ (g : Gate). g.slots) l.gates);
      outputs = placed p.outputs 0 l.outputs;
    }

unfoldable pub columns_filled : Columns → Job → Columns
columns_filled p j =
    record {
      old = side_columns_filled p.old j.old;
      golden = side_columns_filled p.golden j.golden;
      nets = placed p.nets 0 (map (λ (c : Candidate). c.net) j.candidates);
      weights = placed p.weights 0 (map (λ (c : Candidate). c.weight) j.candidates);
    }

unfoldable pub columns_number : Columns → List ℕ → ℕ
columns_number p s = first_failing (record { number = 1; passes = columns_roomy p } ∷ job_tests s)

unfoldable pub columns_reply : Columns → List ℕ → ReadReply
columns_reply p s =
    record { number = columns_number p s; counts = cond (eqb (columns_number p s) 0) (counts_of (job_of s)) no_counts }

unfoldable pub columns_after : Columns → List ℕ → Columns
columns_after p s = cond (eqb (columns_number p s) 0) (columns_filled p (job_of s)) p

-- ---- write_columns

unfoldable pub gates_from : ℕ → List ℕ → List ℕ → List ℕ → List Gate
gates_from k kinds counts slots =
    tabulate k
    (λ i. let at = slot_count * i in
    gate_of
    (get_or kinds i 0)
    (get_or counts i 0)
    (get_or slots at 0)
    (get_or slots (at + 1) 0)
    (get_or slots (at + 2) 0)
    (get_or slots (at + 3) 0))

unfoldable pub columns_netlist : SideCounts → SideColumns → Netlist
columns_netlist c p =
    record {
      gates = gates_from c.gates p.kinds p.counts p.slots;
      outputs = take c.outputs p.outputs;
    }

unfoldable pub columns_job : Counts → Columns → Job
columns_job c p =
    record {
      inputs = c.inputs;
      targets = c.targets;
      old = columns_netlist c.old p.old;
      golden = columns_netlist c.golden p.golden;
      candidates = candidates_from c.candidates p.nets p.weights;
    }

unfoldable pub side_columns_held : SideCounts → SideColumns → Bool
side_columns_held c p =
    leb c.gates (length p.kinds)
    && leb c.gates (length p.counts)
    && leb (slot_count * c.gates) (length p.slots)
    && leb c.outputs (length p.outputs)

unfoldable pub columns_held : Counts → Columns → Bool
columns_held c p =
    side_columns_held c.old p.old
    && side_columns_held c.golden p.golden
    && leb c.candidates (length p.nets)
    && leb c.candidates (length p.weights)

unfoldable pub columns_write_number : Counts → Columns → List ℕ → ℕ
columns_write_number c p d =
    first_failing
    (record { number = 1; passes = leb longest_job (length d) }
    ∷ record { number = 3; passes = columns_held c p }
    ∷ part_tests (columns_job c p))

unfoldable pub columns_write_reply : Counts → Columns → List ℕ → WriteReply
columns_write_reply c p d =
    record { number = columns_write_number c p d; len = cond (eqb (columns_write_number c p d) 0) (length (job_bytes (columns_job c p))) 0 }

unfoldable pub columns_written : Counts → Columns → List ℕ → List ℕ
columns_written c p d = cond (eqb (columns_write_number c p d) 0) (placed d 0 (job_bytes (columns_job c p))) d
