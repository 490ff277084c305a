-- Laws of the replies of read and write: each from the checks that led to it. Assumes nothing.
use Prim.Native.Nat.{ℕ, ◌≤◌, ◌<◌}
use mathlib.Core.Path.{◌≡◌, refl, sym, ◌∙◌, ap}
use mathlib.Core.List.{List}
use mathlib.Core.Bool.{Bool, true, false}
use native.Mathlib.Omega.{arith}
use borrow.Author.Tests.{ne_eqb, lt-leb, le-leb}
use lib.Dec.{lit<}
use lib.ListN.{length}
use Rattle.records.specs.Bytes.{placed}
use Rattle.records.specs.Job.{job_whole, job_of, job_bytes}
use Rattle.records.specs.Refusal.{first_failing, counts_good, part_tests, job_tests, job_refusal}
use Rattle.records.specs.Service.{Places, counts_of, side_roomy, roomy, read_number, read_reply, number_of, ReadReply, read_told, held, job_from, write_number, write_told, write_reply, written_bytes}
use Rattle.records.specs.Inner.{counts_within, Laid, checked_of, room, reply_in}
use Rattle.records.specs.declared.job.Counts.{Counts}
use Rattle.records.specs.declared.refusal.Refusal.{Refusal}
use Rattle.std.specs.Prelude.{Result, Ok, Err}
use Rattle.records.proofs.Laws.Counts.{counts_within-facts, counts_within-counts_of}
use Rattle.records.proofs.Laws.Job.{held-bounds, counts_of-job_from}
use Rattle.records.proofs.Laws.RoundTrip.{written-refusal}
use Rattle.records.proofs.Laws.Accepted.{pick-zero}

-- ---- the number of a refusal, and what an answer tells

pub refusal-number : (e : Refusal) → number_of e ≡ 0 → ⊥
unfolding number_of
refusal-number Refusal.Room z = omega (arith, z)
refusal-number Refusal.Fields z = omega (arith, z)
refusal-number Refusal.Counts z = omega (arith, z)
refusal-number Refusal.Gates z = omega (arith, z)
refusal-number Refusal.Outputs z = omega (arith, z)
refusal-number Refusal.Candidates z = omega (arith, z)
refusal-number Refusal.Sheet z = omega (arith, z)
refusal-number Refusal.Patch z = omega (arith, z)
refusal-number Refusal.Size z = omega (arith, z)

pub refusal-digit : (e : Refusal) → number_of e < 10
unfolding number_of
refusal-digit Refusal.Room = lit< tt
refusal-digit Refusal.Fields = lit< tt
refusal-digit Refusal.Counts = lit< tt
refusal-digit Refusal.Gates = lit< tt
refusal-digit Refusal.Outputs = lit< tt
refusal-digit Refusal.Candidates = lit< tt
refusal-digit Refusal.Sheet = lit< tt
refusal-digit Refusal.Patch = lit< tt
refusal-digit Refusal.Size = lit< tt

module _ (r : ReadReply) where
  pub ok-number : (c : Counts) → read_told (Ok c) ≡ r → r.number ≡ 0
  ok-number c e = sym (ap (λ (x : ReadReply). x.number) e)

  pub ok-counts : (c : Counts) → read_told (Ok c) ≡ r → c ≡ r.counts
  ok-counts c e = ap (λ (x : ReadReply). x.counts) e

  pub err-number : (x : Refusal) → read_told (Err x) ≡ r → r.number ≡ number_of x
  err-number x e = sym (ap (λ (y : ReadReply). y.number) e)

module _ (s : List ℕ) where
  refusal-laid : job_refusal s ≡ 0 → Laid s (counts_of (job_of s))
  unfolding job_refusal job_tests part_tests first_failing
  refusal-laid e =
      let a = pick-zero (job_whole s) _ 2 (lit< tt) e in
      let b = pick-zero (counts_good (job_of s)) _ 3 (lit< tt) a.1 in
      record {
        whole = a.0;
        counts = refl;
        within = counts_within-facts (counts_of (job_of s)) (counts_within-counts_of (job_of s) ∙ b.0);
      }

-- ---- read: its reply by whether there is room

pub roomy-room : (p : Places)
    → roomy p
    ≡ room (length p.old.gates) (length p.old.outputs) (length p.golden.gates) (length p.golden.outputs)
    (length p.nets) (length p.weights)
unfolding roomy side_roomy room
roomy-room p = refl

pub read_reply-reply_in : (p : Places) (s : List ℕ) → read_reply p s ≡ reply_in (roomy p) s
unfolding read_reply read_number reply_in
read_reply-reply_in p s = refl

module _ (b : Bool) (s : List ℕ) where
  pub reply-small : b ≡ false → read_told (Err Refusal.Room) ≡ reply_in b s
  unfolding number_of reply_in first_failing
  reply-small e = rw e

  pub reply-checked : b ≡ true → checked_of s ≡ reply_in b s
  unfolding checked_of reply_in first_failing job_refusal
  reply-checked e = rw e

  -- where read accepts, there is room, and its counts are those of a whole job
  pub reply-laid : (reply_in b s).number ≡ 0 → (b ≡ true) × Laid s (reply_in b s).counts
  unfolding reply_in first_failing job_refusal
  reply-laid z =
      let a = pick-zero b (job_refusal s) 1 (lit< tt) z in
      (a.0, rw z (refusal-laid s a.1))

-- ---- write

-- what write answers, and that it alters nothing, or puts the job
abbrev pub Written : Counts → Places → List ℕ → Result ℕ Refusal → List ℕ → Type 0
Written c p d r d' = (write_told r ≡ write_reply c p d) × (d' ≡ written_bytes c p d)

module _ (c : Counts) (p : Places) (d : List ℕ) where
  pub write-other : (e : Refusal) → write_number c p d ≡ number_of e → Written c p d (Err e) d
  unfolding write_reply written_bytes
  write-other e h = (rw (h, ne_eqb (number_of e) 0 (refusal-number e)), rw (h, ne_eqb (number_of e) 0 (refusal-number e)))

  pub write-short : length d < 8188 → Written c p d (Err Refusal.Room) d
  unfolding write_number first_failing number_of
  write-short h = write-other Refusal.Room (rw (lt-leb 8188 (length d) h))

  module _ (h : 8188 ≤ length d) where
    pub unheld : held c p ≡ false → Written c p d (Err Refusal.Counts) d
    unfolding write_number first_failing number_of
    unheld e = write-other Refusal.Counts (rw (le-leb 8188 (length d) h, e))

    -- a count outside its range is 3, whether or not the places hold the counts
    pub write-counts : counts_within c ≡ false → Written c p d (Err Refusal.Counts) d
    unfolding write_number part_tests first_failing number_of
    write-counts e = pick (held c p) refl
      where
        pick : (b : Bool) → held c p ≡ b → Written c p d (Err Refusal.Counts) d
        pick false k = unheld k
        pick true k =
            let g : counts_good (job_from c p) ≡ false =
            sym (counts_within-counts_of (job_from c p)) ∙ ap counts_within (counts_of-job_from (held-bounds c p k)) ∙ e in
            write-other Refusal.Counts (rw (le-leb 8188 (length d) h, k, g))

    module _ (k : held c p ≡ true) where
      write-tested : write_number c p d ≡ first_failing (part_tests (job_from c p))
      unfolding write_number first_failing
      write-tested = rw (le-leb 8188 (length d) h, k)

      -- the job's bytes are checked
      pub write-refused : (e : Refusal) → read_told (Err e) ≡ checked_of (job_bytes (job_from c p)) → Written c p d (Err e) d
      unfolding checked_of
      write-refused e q = write-other e (write-tested ∙ sym (written-refusal c p) ∙ err-number _ e q)

      pub write-accepted : (x : Counts) → read_told (Ok x) ≡ checked_of (job_bytes (job_from c p))
          → (r : ℕ) → r ≡ length (job_bytes (job_from c p))
          → Written c p d (Ok r) (placed d 0 (job_bytes (job_from c p)))
      unfolding checked_of write_reply written_bytes
      write-accepted x q r l =
          let n : write_number c p d ≡ 0 = write-tested ∙ sym (written-refusal c p) ∙ ok-number _ x q in
          (rw (l, n), rw n)

-- ---- what a service claims, from its reply's equation and that of what it was lent

pub replied : {A B : Type 0} → A × B → record { reply : A; lent : B }
replied t = record { reply = t.0; lent = t.1 }
