-- The parts of a job, and its bytes (document 01, "Nets and gates" and "Bytes"; card 6 of document 02: a gate has ten bytes). Assumes
-- nothing.
--
--   Candidate         a candidate (01: priced net) and its weight, a number of two bytes
--   Job               input and target counts, the old and the golden netlist, the candidates
--   gate_size, net_size, candidate_size        how many bytes a gate, a net and a candidate take
--   gate_at s i, candidate_at s i     gate i, candidate i of the bytes s
--   gates_of s, nets_of s, candidates_of s     the gates, nets and candidates that the bytes s hold
--   netlist_of gs os  the netlist whose gates have the bytes gs and whose outputs have the bytes os
--   job_tags          the six fields' tags, in order
--   job_whole s       s is the six fields and nothing after, each of a length that its records allow
--   job_of s          the job that the bytes s hold
--   gate_bytes g, candidate_bytes c     the bytes of a gate, of a candidate
--   job_bytes j       the bytes of the job j
use Rattle.std.specs.Prelude.{ℕ, ◌+◌, ◌*◌, ◌/◌, ◌%◌, List, [], ◌∷◌, ◌++◌, Bool, ◌&&◌, length, get_or, eqb}
use Rattle.records.specs.Bytes.{tabulate, flat, byte_pair, word, field, whole, nth}
use Rattle.records.specs.Gate.{Gate, gate_of}
use Rattle.records.specs.Netlist.{Netlist}

pub record Candidate : Type 0 where
  pub net : ℕ
  pub weight : ℕ

pub record Job : Type 0 where
  pub inputs : ℕ
  pub targets : ℕ
  pub old : Netlist
  pub golden : Netlist
  pub candidates : List Candidate

-- ---- from bytes

abbrev pub gate_size : ℕ
gate_size = 10

abbrev pub net_size : ℕ
net_size = 2

abbrev pub candidate_size : ℕ
candidate_size = 4

unfoldable pub gate_at : List ℕ → ℕ → Gate
gate_at s i =
    gate_of
    (get_or s (gate_size * i) 0)
    (get_or s (gate_size * i + 1) 0)
    (word s (gate_size * i + 2))
    (word s (gate_size * i + 4))
    (word s (gate_size * i + 6))
    (word s (gate_size * i + 8))

unfoldable pub gates_of : List ℕ → List Gate
gates_of s = tabulate (length s / gate_size) (gate_at s)

unfoldable pub nets_of : List ℕ → List ℕ
nets_of s = tabulate (length s / net_size) (λ i. word s (net_size * i))

unfoldable pub netlist_of : List ℕ → List ℕ → Netlist
netlist_of gs os = record { gates = gates_of gs; outputs = nets_of os }

unfoldable pub candidate_at : List ℕ → ℕ → Candidate
candidate_at s i = record { net = word s (candidate_size * i); weight = word s (candidate_size * i + 2) }

unfoldable pub candidates_of : List ℕ → List Candidate
candidates_of s = tabulate (length s / candidate_size) (candidate_at s)

abbrev pub job_tags : List ℕ
job_tags = 1 ∷ 2 ∷ 3 ∷ 4 ∷ 5 ∷ 6 ∷ []

unfoldable pub job_whole : List ℕ → Bool
job_whole s =
    whole job_tags s
    && eqb (length (nth 0 s)) 2
    && eqb (length (nth 1 s) % gate_size) 0
    && eqb (length (nth 2 s) % net_size) 0
    && eqb (length (nth 3 s) % gate_size) 0
    && eqb (length (nth 4 s) % net_size) 0
    && eqb (length (nth 5 s) % candidate_size) 0

unfoldable pub job_of : List ℕ → Job
job_of s =
    record {
      inputs = get_or (nth 0 s) 0 0;
      targets = get_or (nth 0 s) 1 0;
      old = netlist_of (nth 1 s) (nth 2 s);
      golden = netlist_of (nth 3 s) (nth 4 s);
      candidates = candidates_of (nth 5 s);
    }

-- ---- to bytes

unfoldable pub gate_bytes : Gate → List ℕ
gate_bytes g = g.kind ∷ g.count ∷ flat byte_pair g.slots

unfoldable pub candidate_bytes : Candidate → List ℕ
candidate_bytes c = byte_pair c.net ++ byte_pair c.weight

unfoldable pub job_bytes : Job → List ℕ
job_bytes j =
    field 1 (j.inputs ∷ j.targets ∷ [])
    ++ field 2 (flat gate_bytes j.old.gates)
    ++ field 3 (flat byte_pair j.old.outputs)
    ++ field 4 (flat gate_bytes j.golden.gates)
    ++ field 5 (flat byte_pair j.golden.outputs)
    ++ field 6 (flat candidate_bytes j.candidates)
