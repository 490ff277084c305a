-- Laws of write: its plan, what its calls ask, and its reply and buffer from what they leave. Assumes nothing.
use Prim.Native.Nat.{ℕ, ◌+◌, ◌*◌, ◌≤◌}
use mathlib.Core.Path.{◌≡◌, refl, sym, ◌∙◌, ap}
use mathlib.Core.Logic.{◌⊎◌, inl, inr, ⊎_elim}
use mathlib.Core.List.{List}
use mathlib.Core.Bool.{Bool, true, false}
use native.Mathlib.Omega.{arith}
use borrow.Author.Tests.{leb-true, leb-false}
use lib.Dec.{leb}
use lib.ListN.{length, take, drop}
use Rattle.records.specs.Bytes.{placed}
use Rattle.records.specs.Job.{job_bytes}
use Rattle.records.specs.Refusal.{first_failing}
use Rattle.records.specs.Service.{number_of, Places, read_told, held, job_from, write_number, WriteReply, write_reply}
use Rattle.records.specs.Inner.{counts_within, Within, starts_of, checked_of, gates_bytes, holds, write_tests_number, JobDone, GatesPut, RestHeld, RestWritten}
use Rattle.records.specs.declared.job.Counts.{Counts}
use Rattle.records.specs.declared.job.Starts.{Starts}
use Rattle.records.specs.declared.refusal.Refusal.{Refusal}
use Rattle.std.specs.Prelude.{Ok, Err}
use Rattle.records.proofs.Laws.Bytes.{length-placed, part-placed-same, part-placed-before}
use Rattle.records.proofs.Laws.Counts.{counts_within-facts}
use Rattle.records.proofs.Laws.Job.{JobBounds, held-holds, held-bounds, held-true, length-gates_bytes}
use Rattle.records.proofs.Laws.Put.{job-bounds}
use Rattle.records.proofs.Laws.Reply.{refusal-number, Written, write-other, write-short, write-counts, unheld, write-refused, write-accepted}

-- a list placed in z stands there
placed-stands : (z : List ℕ) {z' : List ℕ} (at n : ℕ) (xs : List ℕ) → length xs ≡ n → at + n ≤ length z → z' ≡ placed z at xs
    → take n (drop at z') ≡ xs
placed-stands z at n xs m h e = rw (e, ← m) (part-placed-same z at xs (omega arith))

-- ---- the checks before a byte is put

-- what is known where they pass
pub record Passed (c : Counts) (p : Places) (d : List ℕ) : Type 0 where
  pub size : 8188 ≤ length d
  pub within : Within c
  pub bounds : JobBounds c p

module _ (c : Counts) (p : Places) (d : List ℕ) where
  -- the number that they give
  abbrev pub tested : ℕ
  tested =
      write_tests_number c (length d)
      (holds c (length p.old.gates) (length p.old.outputs) (length p.golden.gates) (length p.golden.outputs) (length p.nets) (length p.weights))

  written-number : (e : Refusal) {d' : List ℕ} → Written c p d (Err e) d' → write_number c p d ≡ number_of e
  unfolding write_reply
  written-number e w = sym (ap (λ (r : WriteReply). r.number) w.0)

  abbrev Cases : ℕ → Type 0
  Cases n = ((n ≡ 0) × Passed c p d) ⊎ ((n ≡ 0 → ⊥) × (write_number c p d ≡ n))

  refuses : (e : Refusal) {d' : List ℕ} → Written c p d (Err e) d' → (n : ℕ) → number_of e ≡ n → Cases n
  refuses e w n m = inr (λ z. refusal-number e (m ∙ z), written-number e w ∙ m)

  by-tests : (n : ℕ) → tested ≡ n → (s t u : Bool) → leb 8188 (length d) ≡ s → counts_within c ≡ t → held c p ≡ u → Cases n
  unfolding write_tests_number first_failing number_of
  by-tests n e false t u f g h = refuses Refusal.Room (write-short c p d (leb-false _ _ f)) n (rw f at e)
  by-tests n e true false u f g h = refuses Refusal.Counts (write-counts c p d (leb-true _ _ f) g) n (rw (f, g) at e)
  by-tests n e true true false f g h =
      refuses Refusal.Counts (unheld c p d (leb-true _ _ f) h) n (rw (f, g, sym (held-holds c p) ∙ h) at e)
  by-tests n e true true true f g h =
      inl (
        sym (rw (f, g, sym (held-holds c p) ∙ h) at e),
        record { size = leb-true _ _ f; within = counts_within-facts c g; bounds = held-bounds c p h },
      )

  cases : (n : ℕ) → tested ≡ n → Cases n
  cases n e = by-tests n e (leb 8188 (length d)) (counts_within c) (held c p) refl refl refl

  pub tests-refuse : (e : Refusal) → number_of e ≡ tested → Written c p d (Err e) d
  tests-refuse e t =
      write-other c p d e (⊎_elim (λ q. absurd (refusal-number e q.0)) (λ q. q.1) (cases (number_of e) (sym t)))

  pub tests-pass : 0 ≡ tested → Passed c p d
  tests-pass t = ⊎_elim (λ q. q.1) (λ q. absurd (q.0 refl)) (cases 0 (sym t))

-- ---- what the calls of write ask, and what they leave, r being where the job's fields start

module _ (c : Counts) (p : Places) (d : List ℕ) (q : Passed c p d) (r : Starts) (f : r ≡ starts_of c) where
  pub gates-held : (r.old + 10 * c.old.gates ≤ 8188)
      × (c.old.gates ≤ length p.old.gates)
      × (r.golden + 10 * c.golden.gates ≤ 8188)
      × (c.golden.gates ≤ length p.golden.gates)
  unfolding starts_of
  gates-held =
      let w = q.within in
      let b = q.bounds in
      rw f (omega arith, b.old.gates, omega arith, b.golden.gates)

  pub rest-held : (n : ℕ) → n ≡ 8188
      → RestHeld c (length p.old.outputs) (length p.golden.outputs) (length p.nets) (length p.weights) n (length d)
  rest-held n z =
      let b = q.bounds in
      record {
        scratch = z;
        put =
            record {
              within = q.within;
              old = b.old.outputs;
              golden = b.golden.outputs;
              nets = b.nets;
              weights = b.weights;
              room = omega arith;
            };
        size = q.size;
      }

  pub gates-put : (z z' z'' : List ℕ) → length z ≡ 8188
      → z' ≡ placed z r.old (gates_bytes c.old.gates p.old.gates)
      → z'' ≡ placed z' r.golden (gates_bytes c.golden.gates p.golden.gates)
      → GatesPut c p.old.gates p.golden.gates z''
  unfolding starts_of
  gates-put z z' z'' n x y =
      let b = q.bounds in
      let gs : List ℕ = gates_bytes c.old.gates p.old.gates in
      let hs : List ℕ = gates_bytes c.golden.gates p.golden.gates in
      let ng : length gs ≡ 10 * c.old.gates = length-gates_bytes _ _ b.old.gates in
      let nh : length hs ≡ 10 * c.golden.gates = length-gates_bytes _ _ b.golden.gates in
      let w = q.within in
      let x' : z' ≡ placed z 8 gs = rw f at x in
      let y' : z'' ≡ placed z' (starts_of c).golden hs = rw f at y in
      let m : length z' ≡ length z = ap length x' ∙ length-placed z 8 gs (omega arith) in
      record {
        old =
            ap (λ (l : List ℕ). take (10 * c.old.gates) (drop 8 l)) y'
            ∙ part-placed-before z' (starts_of c).golden hs (omega arith) 8 (10 * c.old.gates) (omega arith)
            ∙ placed-stands z 8 (10 * c.old.gates) gs ng (omega arith) x';
        golden = placed-stands z' (starts_of c).golden (10 * c.golden.gates) hs nh (omega arith) y';
        held = (b.old.gates, b.golden.gates);
      }

-- ---- write_rest: the job stands at the start of z', x is its check's answer

module _ (c : Counts) (p : Places) (d z : List ℕ) {z' : List ℕ} {r : ℕ}
    (h : RestHeld c (length p.old.outputs) (length p.golden.outputs) (length p.nets) (length p.weights) (length z) (length d))
    (g : GatesPut c p.old.gates p.golden.gates z) (j : JobDone c p r z') where
  rest-holds : held c p ≡ true
  rest-holds = held-true c p (job-bounds p h.put g)

  rest-checked : checked_of (take r z') ≡ checked_of (job_bytes (job_from c p))
  rest-checked = ap checked_of j.bytes

  pub rest-refused : (e : Refusal) → read_told (Err e) ≡ checked_of (take r z') → RestWritten c p d (Err e) d
  rest-refused e f =
      let w = write-refused c p d h.size rest-holds e (f ∙ rest-checked) in
      record { reply = w.0; lent = w.1 }

  pub rest-accepted : (x : Counts) {d' : List ℕ} → read_told (Ok x) ≡ checked_of (take r z') → d' ≡ placed d 0 (take r z')
      → RestWritten c p d (Ok r) d'
  rest-accepted x f q =
      let w = write-accepted c p d h.size rest-holds x (f ∙ rest-checked) r j.len in
      record { reply = w.0; lent = q ∙ ap (placed d 0) j.bytes ∙ w.1 }
