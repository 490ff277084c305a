-- What specs/Claims.antt promises of what fit replies, and of the sheets that compare and fit refuse with 7. Assumes nothing.
use Prim.Native.Nat.{ℕ, ◌+◌, ◌*◌, ◌≤◌, ◌<◌}
use mathlib.Core.Path.{◌≡◌, refl, sym, ◌∙◌, ap, subst}
use mathlib.Core.List.{List, [], ◌∷◌, ◌++◌, append_assoc, append-nil}
use mathlib.Core.Bool.{true, cond}
use native.Mathlib.Omega.{arith}
use borrow.Author.Tests.{leb-true, le-leb, eqb-true, eq-eqb, ne_eqb}
use lib.Dec.{eqb}
use lib.ListN.{length, get_or, take, length-append, length-map}
use Rattle.records.specs.Bytes.{up_from, all, flat, byte_pair, field, whole, nth}
use Rattle.records.specs.Gate.{Gate}
use Rattle.records.specs.Job.{Job, job_of, gates_of, nets_of, netlist_of, gate_bytes}
use Rattle.records.specs.Refusal.{first_failing, job_tests, part_tests}
use Rattle.records.specs.Sheet.{notes_tag, patch_of, sheet_tests}
use Rattle.records.specs.Claims.{PartsGood}
use Rattle.records.proofs.Laws.Bytes.{all_cons}
use Rattle.records.proofs.Laws.Job.{length-field, length-flat, length-byte_pair}
use Rattle.records.proofs.Laws.Notes.{notes-support, notes-table, notes-tests, vectors-seven as vectors-number, notes-seven as notes-number, left-over-seven as left-over-number}
use Rattle.records.proofs.Laws.RoundTrip.{All, Four, gate_format, read-flat, length-records, joined, whole-joined, nth-joined, nets_of-flat}
use Rattle.records.proofs.Laws.Accepted.{passes-of-none, none-of-passes, four-job_of}
use Rattle.records.proofs.Laws.Counts.{counts_within-facts, counts_within-counts_of}
use Rattle.records.specs.Service.{counts_of, side_counts_of, sheet_roomy}
use Rattle.engine.specs.Compare.{pair_tests}
use Rattle.engine.specs.Inner.Packed.{formed}
use Rattle.engine.specs.Fit.{fitted, fitted_bytes, fits, longest_fit}
use Rattle.engine.specs.Reply.{fit_tests, fit_number, fit_reply, fitted_buffer}
use Rattle.engine.specs.Claims.{FitAccepts, FitRefuses, FitKeeps, FitIndependent, LongestFit, FittedIn, FittedGiven, FitIgnoresNotes, VectorsSeven, NotesSeven, LeftOverSeven, SevenExactly}
use Rattle.engine.proofs.Laws.Compare.{both-seven, seven-exactly as exactly-seven}
use Rattle.engine.proofs.Laws.Fitted.{sheet-entries, fitted-driven, fitted-netlist}
use Rattle.engine.proofs.Laws.Unpacked.{fitted-formed}
use Rattle.engine.proofs.Replies.{front-placed, kept-behind, compare-accepts}

-- ---- every gate of a fitted netlist has four slots

formed-of-four : (gs : List Gate) → All Four gs → all formed gs ≡ true
unfolding all formed
formed-of-four [] a = refl
formed-of-four (g ∷ gs) a = rw (eq-eqb (length g.slots) 4 a.0, formed-of-four gs a.1)

four-of-formed : (gs : List Gate) → all formed gs ≡ true → All Four gs
unfolding formed
four-of-formed [] e = tt
four-of-formed (g ∷ gs) e =
    let t = all_cons formed g gs e in
    (eqb-true (length g.slots) 4 t.0, four-of-formed gs t.1)

four-fitted : (j : Job) → All Four j.old.gates → (is t : List ℕ) → All Four (fitted j is t).gates
four-fitted j h is t = four-of-formed (fitted j is t).gates (fitted-formed j is t (formed-of-four j.old.gates h))

-- ---- the bytes of a fitted netlist

module _ (j : Job) (is t : List ℕ) where
  bodies : List (List ℕ)
  bodies = (j.inputs ∷ 0 ∷ []) ∷ flat gate_bytes (fitted j is t).gates ∷ flat byte_pair (fitted j is t).outputs ∷ []

  fitted-joined : fitted_bytes j is t ≡ joined 1 bodies
  unfolding fitted_bytes joined bodies
  fitted-joined = simp (append_assoc, append-nil)

  -- three whole fields and nothing after
  whole-fitted : whole (1 ∷ 2 ∷ 3 ∷ []) (fitted_bytes j is t) ≡ true
  unfolding bodies up_from
  whole-fitted = rw fitted-joined (whole-joined 1 bodies)

  nth-fitted : (k : ℕ) → k < 3 → nth k (fitted_bytes j is t) ≡ get_or bodies k []
  unfolding bodies
  nth-fitted k h = ap (nth k) fitted-joined ∙ nth-joined 1 bodies k h

  nth-counts : nth 0 (fitted_bytes j is t) ≡ j.inputs ∷ 0 ∷ []
  unfolding bodies
  nth-counts = nth-fitted 0 (omega arith)

  nth-outputs : nets_of (nth 2 (fitted_bytes j is t)) ≡ (fitted j is t).outputs
  unfolding bodies
  nth-outputs = ap nets_of (nth-fitted 2 (omega arith)) ∙ nets_of-flat (fitted j is t).outputs

  nth-gates : All Four j.old.gates → gates_of (nth 1 (fitted_bytes j is t)) ≡ (fitted j is t).gates
  unfolding bodies gates_of
  nth-gates h =
      ap gates_of (nth-fitted 1 (omega arith)) ∙ read-flat gate_format (omega arith) (fitted j is t).gates (four-fitted j h is t)

  netlist-read : All Four j.old.gates → netlist_of (nth 1 (fitted_bytes j is t)) (nth 2 (fitted_bytes j is t)) ≡ fitted j is t
  unfolding netlist_of
  netlist-read h = rw (nth-gates h, nth-outputs)

  pub length-fitted_bytes : All Four j.old.gates
      → length (fitted_bytes j is t) ≡ 11 + 10 * length (fitted j is t).gates + 2 * length (fitted j is t).outputs
  unfolding fitted_bytes
  length-fitted_bytes h =
      simp (
        length-append,
        length-field,
        length-records gate_format (fitted j is t).gates (four-fitted j h is t),
        length-flat byte_pair 2 length-byte_pair (fitted j is t).outputs,
      ) (omega arith)

  pub length-outputs : length (fitted j is t).outputs ≡ length j.old.outputs
  unfolding fitted
  length-outputs = length-map j.old.outputs _

  gates-few : fits j is t ≡ true → length (fitted j is t).gates ≤ 400
  unfolding fits
  gates-few e = leb-true (length (fitted j is t).gates) 400 e

outputs-few : (j : Job) → PartsGood j → length j.old.outputs ≤ 32
unfolding counts_of side_counts_of
outputs-few j g = (counts_within-facts (counts_of j) (counts_within-counts_of j ∙ g.counts)).old.outputs

pub longest-fit : LongestFit
longest-fit s g is t e =
    let j = job_of s in
    omega (
      arith,
      length-fitted_bytes j is t (four-job_of s).old,
      length-outputs j is t,
      outputs-few j g,
      gates-few j is t e,
    )

-- ---- what fit accepts

pub fit-accepts : FitAccepts
unfolding fit_number fit_tests pair_tests job_tests part_tests sheet_tests
fit-accepts d s p = (
  λ e.
      let u =
      passes-of-none _
      (omega arith, (omega arith, (omega arith, (omega arith, (omega arith, (omega arith, (omega arith, (omega arith, (omega arith, tt)))))))))
      e in
      let v = u.1.1.1.1.1 in (
        leb-true longest_fit (length d) u.0,
        (compare-accepts s p).1 (
          u.1.0,
          record { counts = u.1.1.0; gates = u.1.1.1.0; outputs = u.1.1.1.1.0; candidates = v.0 },
          v.1.0,
          v.1.1.0,
        ),
        v.1.1.1.0,
      ),
  λ h.
      let c = (compare-accepts s p).0 h.1 in
      let g = c.1 in
      none-of-passes _ (
        le-leb longest_fit (length d) h.0,
        (c.0, (g.counts, (g.gates, (g.outputs, (g.candidates, (c.2, (c.3, (h.2, tt)))))))),
      ),
)

pub fit-refuses : FitRefuses
unfolding fit_reply fitted_buffer
fit-refuses d s p h = let e = ne_eqb (fit_number d s p) 0 h in (rw e refl, rw e refl)

-- ---- the reply in the buffer

module _ (d s p : List ℕ) where
  abbrev bytes : List ℕ
  bytes = fitted_bytes (job_of s) (patch_of p).support (patch_of p).table

  -- the fitted netlist, or nothing
  fit-front : take (fit_reply d s p).len (fitted_buffer d s p) ≡ cond (eqb (fit_number d s p) 0) bytes []
  unfolding fit_reply fitted_buffer
  fit-front = front-placed (eqb (fit_number d s p) 0) d bytes

  pub fit_length : fit_number d s p ≡ 0 → (fit_reply d s p).len ≡ length bytes
  unfolding fit_reply
  fit_length e = rw (eq-eqb (fit_number d s p) 0 e)

pub fit-keeps : FitKeeps
unfolding fit_reply fitted_buffer
fit-keeps d s p =
    let patch = patch_of p in
    let xs = fitted_bytes (job_of s) patch.support patch.table in
    kept-behind (eqb (fit_number d s p) 0) d xs (λ t.
    let u = (fit-accepts d s p).0 (eqb-true (fit_number d s p) 0 t) in
    let g = ((compare-accepts s p).0 u.1).1 in
    omega (arith, u.0, longest-fit s g patch.support patch.table u.2))

pub fitted-given : FittedGiven
unfolding fitted_bytes
fitted-given d s p e =
    let j = job_of s in
    let is = (patch_of p).support in
    let t = (patch_of p).table in
    let u = (fit-accepts d s p).0 e in
    let c = (compare-accepts s p).0 u.1 in
    let entries = sheet-entries p c.2 in
    let good = fitted-netlist j c.1 (patch_of p) c.3 entries in
    let gates = nth-gates j is t (four-job_of s).old in
    let outputs = nth-outputs j is t in
    subst (FittedIn j (patch_of p)) (sym (fit-front d s p ∙ rw (eq-eqb (fit_number d s p) 0 e) refl))
    (record {
      fields = whole-fitted j is t;
      bytes = rw (gates, outputs) refl;
      netlist = netlist-read j is t (four-job_of s).old;
      counts = nth-counts j is t;
      gates = rw gates good.0;
      few = rw gates (gates-few j is t u.2);
      nets = rw (gates, outputs) good.1;
      outputs = λ x. rw (gates, outputs) (fitted-driven j c.1 (patch_of p) c.3 entries x);
    })

number-of-length : (d e s p : List ℕ) → length d ≡ length e → fit_number d s p ≡ fit_number e s p
unfolding fit_number fit_tests first_failing
number-of-length d e s p h = rw h refl

fit-alike : (d e s p : List ℕ) → length d ≡ length e → fit_reply d s p ≡ fit_reply e s p
unfolding fit_reply
fit-alike d e s p h = rw (number-of-length d e s p h)

pub fit-independent : FitIndependent
fit-independent d e s p h = (
  fit-alike d e s p h,
  fit-front d s p ∙ rw (number-of-length d e s p h) (sym (fit-front e s p)),
)

pub fit-ignores-notes : FitIgnoresNotes
unfolding fit_reply fitted_buffer fit_number fit_tests pair_tests
fit-ignores-notes d s p ns w n l =
    let t = notes-tests p ns w n l (job_of s).targets (job_of s).candidates in
    let i = notes-support p ns w n l in
    let k = notes-table p ns w n l in
    (rw (t, i, k), rw (t, i, k))

-- ---- sheets that both refuse with 7

pub vectors-seven : VectorsSeven
unfolding sheet_roomy
vectors-seven s ts a b n w f = both-seven s (a ++ b) n (vectors-number 0 0 [] [] ts a b refl w f)

pub notes-seven : NotesSeven
unfolding sheet_roomy
notes-seven s p ns n w h = both-seven s (p ++ field notes_tag ns) n (notes-number 0 0 [] [] p ns refl w h)

pub left-over-seven : LeftOverSeven
unfolding sheet_roomy
left-over-seven s p r n w some bad = both-seven s (p ++ r) n (left-over-number 0 0 [] [] p r refl w some bad)

pub seven-exactly : SevenExactly
seven-exactly = exactly-seven
