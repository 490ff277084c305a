-- Laws of read: the gates and words of a job's fields, what read's calls ask, and its reply and places from what they leave.
-- Assumes nothing.
use Prim.Native.Nat.{ℕ, ◌+◌, ◌-◌, ◌*◌, ◌/◌, ◌≤◌, ◌<◌}
use mathlib.Core.Path.{◌≡◌, refl, sym, ◌∙◌, ap, subst}
use mathlib.Core.List.{List, map}
use mathlib.Core.Bool.{Bool}
use native.Mathlib.Omega.{arith}
use borrow.Author.Tests.{ne_eqb}
use lib.ListN.{length, get_or, drop, length-take, length-drop}
use lib.Seq.{get_or-take, get_or-drop}
use Rattle.records.specs.Bytes.{word, placed, nth}
use Rattle.records.specs.Gate.{gate_of}
use Rattle.records.specs.Job.{Candidate, gate_at, gates_of, nets_of, candidate_at, candidates_of, netlist_of, job_of}
use Rattle.records.specs.Service.{Places, side_places, places, slot_of, struct_of, number_of, ReadReply, read_told, filled_side, filled, read_number, read_reply, read_places}
use Rattle.records.specs.Inner.{Within, Laid, starts_of, word_column, struct_at, structs_at, room, reply_in, RestFits, RestFilled}
use Rattle.records.specs.declared.gate.Gate.{Gate as GateStruct}
use Rattle.records.specs.declared.job.Counts.{Counts}
use Rattle.records.specs.declared.job.Starts.{Starts}
use Rattle.records.specs.declared.refusal.Refusal.{Refusal}
use Rattle.std.specs.Prelude.{Ok, Err}
use Rattle.records.proofs.Laws.Bytes.{tabulate-ext, map-tabulate}
use Rattle.records.proofs.Laws.Counts.{room-facts}
use Rattle.records.proofs.Laws.Shape.{laid-counts, stands, IsPart, Parts, parts}
use Rattle.records.proofs.Laws.Reply.{refusal-number, ok-number, ok-counts, err-number, roomy-room, read_reply-reply_in, reply-laid}

-- ---- the gates of field n

module _ {s : List ℕ} {n at to : ℕ} (p : IsPart s n at to) where
  byte-in : (i j : ℕ) → j ≡ at + i → i < length (nth n s) → get_or s j 0 ≡ get_or (nth n s) i 0
  byte-in i j e h =
      let l : i < to - at = omega (arith, length-take (to - at) (drop at s), ap length p.is) in
      ap (λ (k : ℕ). get_or s k 0) e
      ∙ sym (get_or-drop at s i 0)
      ∙ sym (get_or-take (to - at) (drop at s) i 0 l)
      ∙ ap (λ (l : List ℕ). get_or l i 0) p.is

  word_in : (i j : ℕ) → j ≡ at + i → i + 1 < length (nth n s) → word s j ≡ word (nth n s) i
  unfolding word
  word_in i j e h = rw (byte-in i j e (omega arith), byte-in (i + 1) (j + 1) (omega arith) h)

  struct-in : (i : ℕ) → i < length (nth n s) / 10 → struct_at s (at + 10 * i) ≡ struct_of (gate_at (nth n s) i)
  unfolding struct_at struct_of gate_at gate_of slot_of
  struct-in i h =
      rw (
        byte-in (10 * i) (at + 10 * i) refl (omega arith),
        byte-in (10 * i + 1) (at + 10 * i + 1) (omega arith) (omega arith),
        word_in (10 * i + 2) (at + 10 * i + 2) (omega arith) (omega arith),
        word_in (10 * i + 4) (at + 10 * i + 4) (omega arith) (omega arith),
        word_in (10 * i + 6) (at + 10 * i + 6) (omega arith) (omega arith),
        word_in (10 * i + 8) (at + 10 * i + 8) (omega arith) (omega arith),
      )

  structs-in : (count : ℕ) → count ≡ length (nth n s) / 10 → structs_at s at count ≡ map struct_of (gates_of (nth n s))
  unfolding structs_at gates_of
  structs-in count e =
      rw e (tabulate-ext (length (nth n s) / 10) (λ i. struct_at s (at + 10 * i)) (λ i. struct_of (gate_at (nth n s) i)) struct-in)
      ∙ sym (map-tabulate (length (nth n s) / 10) (gate_at (nth n s)) struct_of)

-- the gates of a whole job, r being where its fields start
module _ (s : List ℕ) (c : Counts) (l : Laid s c) (r : Starts) (e : r ≡ starts_of c) where
  pub gates-end : (r.old + 10 * c.old.gates ≤ length s) × (r.golden + 10 * c.golden.gates ≤ length s)
  unfolding starts_of
  gates-end = let t = (stands s c l (starts_of c) refl).room in rw e (omega arith, omega arith)

  gates-there : (structs_at s r.old c.old.gates ≡ map struct_of (job_of s).old.gates)
      × (structs_at s r.golden c.golden.gates ≡ map struct_of (job_of s).golden.gates)
  unfolding job_of netlist_of
  gates-there =
      let t = parts s c l r e in
      let n = laid-counts s c l in (
        structs-in t.old c.old.gates (ap (λ (x : Counts). x.old.gates) n),
        structs-in t.golden c.golden.gates (ap (λ (x : Counts). x.golden.gates) n),
      )

-- ---- the words of field n

module _ {s : List ℕ} {n at to : ℕ} (p : IsPart s n at to) where
  pub nets-in : (count : ℕ) → count ≡ length (nth n s) / 2 → word_column s 2 at count ≡ nets_of (nth n s)
  unfolding word_column nets_of
  nets-in count e =
      rw e
      (tabulate-ext (length (nth n s) / 2) (λ i. word s (2 * i + at)) (λ i. word (nth n s) (2 * i))
      (λ i h. word_in p (2 * i) (2 * i + at) (omega arith) (omega arith)))

  candidate-nets-in : (count : ℕ) → count ≡ length (nth n s) / 4
      → word_column s 4 at count ≡ map (λ (c : Candidate). c.net) (candidates_of (nth n s))
  unfolding word_column candidates_of candidate_at
  candidate-nets-in count e =
      rw e
      (tabulate-ext (length (nth n s) / 4) (λ i. word s (4 * i + at)) (λ i. word (nth n s) (4 * i))
      (λ i h. word_in p (4 * i) (4 * i + at) (omega arith) (omega arith)))
      ∙ sym (map-tabulate (length (nth n s) / 4) (candidate_at (nth n s)) (λ (c : Candidate). c.net))

  weights-in : (count : ℕ) → count ≡ length (nth n s) / 4
      → word_column s 4 (at + 2) count ≡ map (λ (c : Candidate). c.weight) (candidates_of (nth n s))
  unfolding word_column candidates_of candidate_at
  weights-in count e =
      rw e
      (tabulate-ext (length (nth n s) / 4) (λ i. word s (4 * i + (at + 2))) (λ i. word (nth n s) (4 * i + 2))
      (λ i h. word_in p (4 * i + 2) (4 * i + (at + 2)) (omega arith) (omega arith)))
      ∙ sym (map-tabulate (length (nth n s) / 4) (candidate_at (nth n s)) (λ (c : Candidate). c.weight))

  pub part_room : at + length (nth n s) ≤ length s
  part_room = omega (arith, p, length-take (to - at) (drop at s), length-drop at s, ap length p.is)

-- ---- the outputs and candidates of an accepted job, a being where its fields start: what fill_words asks

module _ (c : Counts) (s : List ℕ) {b d e f : ℕ} (h : RestFits c s b d e f) (a : Starts) (t : Parts s a) where
  counted : c
      ≡ record {
        inputs = get_or s 3 0;
        targets = get_or s 4 0;
        old = record { gates = length (nth 1 s) / 10; outputs = length (nth 2 s) / 2 };
        golden = record { gates = length (nth 3 s) / 10; outputs = length (nth 4 s) / 2 };
        candidates = length (nth 5 s) / 4;
      }
  counted = laid-counts s c h.laid

  pub outputs-fit : (2 ≤ 4) × (a.outputs + 2 * c.old.outputs + 2 ≤ length s + 2) × (c.old.outputs ≤ b)
  outputs-fit =
      let n = ap (λ (y : Counts). y.old.outputs) counted in
      let w = h.laid.within.old.outputs in
      (omega arith, omega (arith, part_room t.outputs), omega (arith, h.old))

  pub goldens-fit : (2 ≤ 4) × (a.goldens + 2 * c.golden.outputs + 2 ≤ length s + 2) × (c.golden.outputs ≤ d)
  goldens-fit =
      let n = ap (λ (y : Counts). y.golden.outputs) counted in
      let w = h.laid.within.golden.outputs in
      (omega arith, omega (arith, part_room t.goldens), omega (arith, h.golden))

  pub nets-fit : (4 ≤ 4) × (a.candidates + 4 * c.candidates + 2 ≤ length s + 4) × (c.candidates ≤ e)
  nets-fit =
      let n = ap (λ (y : Counts). y.candidates) counted in
      let w = h.laid.within.candidates in
      (omega arith, omega (arith, part_room t.candidates), omega (arith, h.nets))

  pub weights-fit : (4 ≤ 4) × (a.candidates + 2 + 4 * c.candidates + 2 ≤ length s + 4) × (c.candidates ≤ f)
  weights-fit =
      let n = ap (λ (y : Counts). y.candidates) counted in
      let w = h.laid.within.candidates in
      (omega arith, omega (arith, part_room t.candidates), omega (arith, h.weights))

-- .. and what it leaves
pub rest-filled : (c : Counts) (s b d e f : List ℕ) → Laid s c → (a : Starts) → Parts s a → {b' d' e' f' : List ℕ}
    → b' ≡ placed b 0 (word_column s 2 a.outputs c.old.outputs)
    → d' ≡ placed d 0 (word_column s 2 a.goldens c.golden.outputs)
    → e' ≡ placed e 0 (word_column s 4 a.candidates c.candidates)
    → f' ≡ placed f 0 (word_column s 4 (a.candidates + 2) c.candidates)
    → RestFilled (job_of s) b d e f b' d' e' f'
unfolding job_of netlist_of
rest-filled c s b d e f l a t p q u w =
    let n = laid-counts s c l in
    record {
      old = p ∙ rw (nets-in t.outputs _ (ap (λ (y : Counts). y.old.outputs) n));
      golden = q ∙ rw (nets-in t.goldens _ (ap (λ (y : Counts). y.golden.outputs) n));
      nets = u ∙ rw (candidate-nets-in t.candidates _ (ap (λ (y : Counts). y.candidates) n));
      weights = w ∙ rw (weights-in t.candidates _ (ap (λ (y : Counts). y.candidates) n));
    }

-- ---- read

module _ (p : Places) (s : List ℕ) where
  -- the reply of read's check
  abbrev pub checked : ReadReply
  checked =
      reply_in
      (room (length p.old.gates) (length p.old.outputs) (length p.golden.gates) (length p.golden.outputs) (length p.nets) (length p.weights))
      s

  checked-reply : checked ≡ read_reply p s
  checked-reply = sym (read_reply-reply_in p s ∙ ap (λ (t : Bool). reply_in t s) (roomy-room p))

  -- refused, the places stay
  pub read-refused : (x : Refusal) → read_told (Err x) ≡ checked → (read_told (Err x) ≡ read_reply p s) × (p ≡ read_places p s)
  unfolding read_reply read_places
  read-refused x e =
      let n : read_number p s ≡ number_of x = err-number _ x (e ∙ checked-reply) in
      (e ∙ checked-reply, rw (n, ne_eqb (number_of x) 0 (refusal-number x)))

  module _ (c : Counts) (e : read_told (Ok c) ≡ checked) where
    accepted : Laid s c
        × ((400 ≤ length p.old.gates)
        × (32 ≤ length p.old.outputs)
        × (400 ≤ length p.golden.gates)
        × (32 ≤ length p.golden.outputs)
        × (10 ≤ length p.nets)
        × (10 ≤ length p.weights))
    accepted =
        let a = reply-laid _ s (ok-number _ c e) in
        (subst (Laid s) (sym (ok-counts _ c e)) a.1, room-facts _ _ _ _ _ _ a.0)

    pub read-within : Within c
    read-within = accepted.0.within

    pub read-gates : (r : Starts) → r ≡ starts_of c
        → (r.old + 10 * c.old.gates ≤ length s)
        × (c.old.gates ≤ length p.old.gates)
        × (r.golden + 10 * c.golden.gates ≤ length s)
        × (c.golden.gates ≤ length p.golden.gates)
    read-gates r f =
        let a = accepted in
        let w = a.0.within in
        let t = gates-end s c a.0 r f in
        (t.0, omega (arith, w.old.gates, a.1.0), t.1, omega (arith, w.golden.gates, a.1.2))

    pub rest-fits : RestFits c s (length p.old.outputs) (length p.golden.outputs) (length p.nets) (length p.weights)
    rest-fits =
        let a = accepted in
        record { laid = a.0; old = a.1.1; golden = a.1.3; nets = a.1.4; weights = a.1.5 }

    pub read-ends : (r : Starts) (gs hs : List GateStruct) (b d n w : List ℕ) → r ≡ starts_of c
        → gs ≡ placed p.old.gates 0 (structs_at s r.old c.old.gates)
        → hs ≡ placed p.golden.gates 0 (structs_at s r.golden c.golden.gates)
        → RestFilled (job_of s) p.old.outputs p.golden.outputs p.nets p.weights b d n w
        → (read_told (Ok c) ≡ read_reply p s) × (places (side_places gs b) (side_places hs d) n w ≡ read_places p s)
    unfolding read_reply read_places filled filled_side
    read-ends r gs hs b d n w g x y f =
        let z : read_number p s ≡ 0 = ok-number _ c (e ∙ checked-reply) in
        let t = gates-there s c accepted.0 r g in
        (e ∙ checked-reply, rw (x, y, f.old, f.golden, f.nets, f.weights, t.0, t.1, z))
