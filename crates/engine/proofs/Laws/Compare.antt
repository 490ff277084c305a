-- Laws of compare: where the driven old outputs differ from the golden ones, and the sheets that it and fit refuse with 7. Assumes nothing.
use Prim.Native.Nat.{ℕ, ◌+◌, ◌-◌, ◌*◌, ◌%◌, ◌^◌, min, ◌≤◌, ◌<◌}
use mathlib.Core.Path.{◌≡◌, refl, sym, ◌∙◌, ap, subst}
use mathlib.Core.Logic.{◌↔◌, inr, ⊎_elim}
use mathlib.Core.List.{List, [], ◌∷◌, ◌++◌, append_assoc, append-nil}
use mathlib.Core.Bool.{Bool, true, false, cond, not}
use native.Mathlib.Nat.{one-mul, mod-eq_of_lt}
use native.Mathlib.Omega.{arith}
use borrow.Author.Tests.{le-leb, ltb-true, ltb-false, eq-eqb, ne_eqb}
use lib.Dec.{ltb, lit<}
use lib.ListN.{length, get_or, take, drop, replicate, get_or-eq_default, length-take}
use lib.Pow.{pow_mono, shl_exact}
use lib.Seq.{get_or-take, get_or-drop}
use Rattle.records.specs.Job.{Job, job_of}
use Rattle.records.specs.Refusal.{Test, first_failing, part_tests, job_tests, job_refusal}
use Rattle.records.specs.Sheet.{patch_of, sheet_whole, sheet_tests}
use Rattle.records.specs.Service.{load_told, loaded, sheet_roomy, sheet_number, sheet_reply}
use Rattle.records.specs.declared.refusal.Refusal.{Refusal}
use Rattle.std.specs.Prelude.{Err}
use mathlib.Core.Option.{Option, none, some}
use Rattle.engine.specs.Reply.{compare_told}
use Rattle.records.specs.Parts.{PartsOf}
use Rattle.records.specs.declared.loading.JobParts.{JobParts}
use Rattle.records.specs.Service.{SheetReply}
use Rattle.records.proofs.Laws.Accepted.{job-accepts}
use Rattle.engine.proofs.Laws.Loaded.{refused-number, refused-job}
use Rattle.records.proofs.Laws.Notes.{tests-seven, seven-exactly as sheet-seven}
use Rattle.engine.specs.Choice.{first}
use Rattle.engine.specs.Eval.{all_inputs}
use Rattle.engine.specs.Rectify.{rectifies}
use Rattle.engine.specs.Support.{reading, driven_by}
use Rattle.engine.specs.Compare.{difference, pair_tests}
use Rattle.engine.specs.Fit.{fits, longest_fit}
use Rattle.engine.specs.Reply.{comparison_of, compare_number, compare_reply, fit_tests, fit_number}
use Rattle.engine.specs.Claims.{SevenExactly}
use Rattle.engine.specs.Inner.Kernel.{Filled, row_value, FirstZero}
use Rattle.engine.specs.Inner.Note.{gathered}
use Rattle.engine.specs.Inner.Search.{BlockRead, DrivenRow}
use Rattle.engine.specs.Inner.Comparing.{differing, PlanReads, TableCopied, declined_comparison, sheet_comparison}
use Rattle.engine.specs.declared.comparing.Comparison.{Comparison}
use Rattle.engine.specs.declared.plan.Plan.{Plan}
use Rattle.engine.proofs.Laws.Choice.{true-or-false, Least}
use Rattle.engine.proofs.Laws.Fill.{fill-at}
use Rattle.engine.proofs.Laws.Leaves.{get_or-zeros}
use Rattle.engine.proofs.Laws.Choice.{first-of-least, first-of-none}
use Rattle.engine.proofs.Laws.PartsSheet.{parts-number, parts-sheet}
use Rattle.engine.proofs.Laws.Plan.{reads_of}
use Rattle.engine.proofs.Laws.Support.{reading-lt}

-- ---- a block driven by a table

-- the rows vectors have a table's vectors at the readings
abbrev pub LookedUp : List ℕ → List ℕ → List ℕ → Type 0
LookedUp readings table vectors = (y : ℕ) → y < 1024 → gathered vectors y ≡ get_or table (gathered readings y % 1024) 0

pub one-true : (b : Bool) → ◌≡◌ {A = ℕ} (cond b 1 0) 1 → b ≡ true
one-true true e = refl
one-true false e = let f : ⊥ = omega arith in absurd f

zero-differs : (b : Bool) → ◌≡◌ {A = ℕ} (cond b 1 0) 0 → not b ≡ true
zero-differs true e = let f : ⊥ = omega arith in absurd f
zero-differs false e = refl

not-of-true : (b : Bool) → b ≡ true → not b ≡ false
not-of-true b e = rw e

-- the row says of each input of block b whether the table rectifies it
abbrev pub RowCompared : Plan → List ℕ → ℕ → List ℕ → Type 0
RowCompared p table b row =
    (j : Job) (is : List ℕ) → PlanReads j is p → (y : ℕ) → y < 1024
    → row_value row y ≡ cond (rectifies j (1024 * b + y) (driven_by j is table (1024 * b + y))) 1 0

module _ {p : Plan} (table vectors : List ℕ) {b : ℕ} {words readings row after : List ℕ}
    (read : BlockRead p b words readings) (looked : LookedUp readings table vectors) (driven : DrivenRow p (gathered vectors) words row after) where
  -- the vector of scenario y
  vector-driven : (j : Job) (is : List ℕ) → PlanReads j is p → (y : ℕ) → y < 1024
      → gathered vectors y ≡ driven_by j is table (1024 * b + y)
  unfolding driven_by
  vector-driven j is q y h =
      let n : length is ≤ 10 = omega (arith, ap length q.planned.nets, length-take p.reads.len p.reads.nets, p.reads_bound) in
      let few : 2 ^ length is ≤ 1024 = pow_mono {j = 10} n in
      let small : reading j is (1024 * b + y) < 1024 = omega (arith, reading-lt j is (1024 * b + y)) in
      looked y h
      ∙ ap (λ (k : ℕ). get_or table (k % 1024) 0) (read.readings j is (reads_of q.planned) q.free y h)
      ∙ ap (λ (k : ℕ). get_or table k 0) (mod-eq_of_lt small)

  pub row-compared : RowCompared p table b row
  row-compared j is q y h =
      rw (← vector-driven j is q y h) (driven.values j is q.planned b (read.free j is (reads_of q.planned)) y h)

-- ---- block after block

-- how far the scan over a plan's blocks has come, before block b: no input of those passed differs
pub record Scanning (p : Plan) (table : List ℕ) (size b : ℕ) : Type 0 where
  pub all : size ≡ 2 ^ p.inputs
  pub few : size ≤ 1048576
  pub reached : 1024 * b < size + 1024
  pub passed : (j : Job) (is : List ℕ) → PlanReads j is p → (y : ℕ) → y < 1024 * b → y < size
      → rectifies j y (driven_by j is table y) ≡ true

pub scanning-none : (p : Plan) (table : List ℕ) → p.inputs ≤ 20
    → Scanning p table (1 * 2 ^ p.inputs % 2 ^ 64) 0
scanning-none p table h =
    let k = p.inputs in
    let e : 1 * 2 ^ k % 2 ^ 64 ≡ 2 ^ k = shl_exact 1 k 64 (lit< tt) (omega arith) ∙ one-mul (2 ^ k) in
    let l : 2 ^ k ≤ 1048576 = pow_mono {j = 20} h in
    record {
      all = e;
      few = omega arith;
      reached = omega arith;
      passed = λ j is q y l m. let f : ⊥ = omega arith in absurd f;
    }

module _ {p : Plan} {table row : List ℕ} {size b count r : ℕ} (s : Scanning p table size b)
    (w : RowCompared p table b row) (f : FirstZero row r) (h : 1024 * b < size) (e : count ≡ min (size - 1024 * b) 1024) where
  -- no input before the block's first of which the row says 0 differs
  passed-block : (j : Job) (is : List ℕ) → PlanReads j is p → (y : ℕ) → y < 1024 * b + r → y < size
      → rectifies j y (driven_by j is table y) ≡ true
  passed-block j is q y i m =
      ⊎_elim
      (λ (t : ltb y (1024 * b) ≡ true). s.passed j is q y (ltb-true y (1024 * b) t) m)
      (λ (t : ltb y (1024 * b) ≡ false).
      let a : 1024 * b ≤ y = ltb-false y (1024 * b) t in
      let k : ℕ = y - 1024 * b in
      let g : 1024 * b + k ≡ y = omega arith in
      let o = f.most in
      subst (λ (x : ℕ). rectifies j x (driven_by j is table x) ≡ true) g
      (one-true (rectifies j (1024 * b + k) (driven_by j is table (1024 * b + k)))
      (sym (w j is q k (omega arith)) ∙ f.ones k (omega arith))))
      (true-or-false (ltb y (1024 * b)))

  pub scanning-next : count ≤ r → Scanning p table size (b + 1)
  scanning-next a =
      record {
        all = s.all;
        few = s.few;
        reached = omega arith;
        passed = λ j is q y i m. passed-block j is q y (omega arith) m;
      }

  scanned-least : r < count → (j : Job) (is : List ℕ) → PlanReads j is p → Least (differing j is table) size (1024 * b + r)
  scanned-least a j is q =
      record {
        below = omega arith;
        holds =
            zero-differs (rectifies j (1024 * b + r) (driven_by j is table (1024 * b + r)))
            (sym (w j is q r (omega arith)) ∙ f.zero (omega arith));
        smaller = λ y i. not-of-true (rectifies j y (driven_by j is table y)) (passed-block j is q y i (omega arith));
      }

  -- the first difference
  pub scanned-differs : r < count → (j : Job) (is : List ℕ) → PlanReads j is p
      → some (Comparison.Differs (record { input = 1024 * b + r })) ≡ comparison_of (difference j is table)
  unfolding comparison_of difference all_inputs
  scanned-differs a j is q =
      let n : size ≡ 2 ^ j.inputs = s.all ∙ ap (λ (k : ℕ). 2 ^ k) q.planned.inputs in
      rw (first-of-least (differing j is table) (2 ^ j.inputs) (1024 * b + r) (rw n at (scanned-least a j is q)))

-- .. none
pub scanned-equal : {p : Plan} {table : List ℕ} {size b : ℕ} → Scanning p table size b → size ≤ 1024 * b
    → (j : Job) (is : List ℕ) → PlanReads j is p → some Comparison.Equal ≡ comparison_of (difference j is table)
unfolding comparison_of difference all_inputs
scanned-equal {p} {table} {size} {b} s h j is q =
    let n : size ≡ 2 ^ j.inputs = s.all ∙ ap (λ (k : ℕ). 2 ^ k) q.planned.inputs in
    rw (first-of-none (differing j is table) (2 ^ j.inputs)
    (λ y l. not-of-true (rectifies j y (driven_by j is table y)) (s.passed j is q y (omega arith) (omega arith))))

-- ---- the table

pub table-copied : (sheet table : List ℕ) (start count : ℕ) → count ≤ 1024
    → Filled (λ k. get_or sheet (start + k) 0) 0 count (replicate 1024 0) table → TableCopied sheet start count table
table-copied sheet table start count h f =
    record {
      long = f.long;
      entries =
          λ i.
          ⊎_elim
          (λ (t : ltb i count ≡ true).
          let l = ltb-true i count t in
          fill-at f i l ∙ sym (get_or-take count (drop start sheet) i 0 l ∙ get_or-drop start sheet i 0))
          (λ (t : ltb i count ≡ false).
          let l = ltb-false i count t in
          let n : length (take count (drop start sheet)) ≤ i = omega (arith, length-take count (drop start sheet)) in
          f.kept i (inr (omega arith)) ∙ get_or-zeros 1024 i ∙ sym (get_or-eq_default (take count (drop start sheet)) 0 n))
          (true-or-false (ltb i count));
    }

-- entries alike drive alike
pub difference-alike : (j : Job) (is t u : List ℕ) → ((i : ℕ) → get_or t i 0 ≡ get_or u i 0) → difference j is t ≡ difference j is u
unfolding difference driven_by
difference-alike j is t u e = λ k. first (λ x. not (rectifies j x (e (reading j is x) k))) (all_inputs j)

-- ---- a sheet beside a loaded job

module _ {j : Job} {parts : JobParts} (q : PartsOf j parts) (p : List ℕ) {s : SheetReply}
    (e : s ≡ sheet_reply parts.counts.targets parts.counts.candidates parts.nets parts.weights p) where
  pub declined-sheet : (s.number ≡ 0 → ⊥) → record { number = s.number; result = none } ≡ sheet_comparison j p
  unfolding sheet_comparison declined_comparison
  declined-sheet z = rw (parts-number q p e, ne_eqb s.number 0 z)

  sheet-accepted : s.number ≡ 0 → (o : Option Comparison) → o ≡ comparison_of (difference j (patch_of p).support (patch_of p).table)
      → record { number = 0; result = o } ≡ sheet_comparison j p
  unfolding sheet_comparison
  sheet-accepted z o r = rw (parts-number q p e, eq-eqb s.number 0 z, r)

  pub compared-sheet : s.number ≡ 0 → (k : ℕ) → k ≡ 2 ^ s.support.len → {table : List ℕ} → TableCopied p s.table k table
      → {o : Option Comparison} → o ≡ comparison_of (difference j (patch_of p).support table)
      → record { number = 0; result = o } ≡ sheet_comparison j p
  compared-sheet z k n {table} t {o} r =
      let is = (patch_of p).support in
      let u : take k (drop s.table p) ≡ (patch_of p).table =
      ap (λ (i : ℕ). take i (drop s.table p)) n ∙ (parts-sheet q p e z).table in
      sheet-accepted z o
      (r
      ∙ ap comparison_of
      (difference-alike j is table (patch_of p).table
      (λ i. t.entries i ∙ ap (λ (l : List ℕ). get_or l i 0) u)))

-- ---- a job's bytes and a sheet's

-- where a test fails, later ones play no part
pub failing-append : (ts us : List Test) → (first_failing ts ≡ 0 → ⊥) → first_failing (ts ++ us) ≡ first_failing ts
unfolding first_failing
failing-append [] us z = absurd (z refl)
failing-append (t ∷ ts) us z = go t.number t.passes (failing-append ts us) z
  where
    go : {m n : ℕ} (k : ℕ) (b : Bool) → ((n ≡ 0 → ⊥) → m ≡ n) → (cond b n k ≡ 0 → ⊥) → cond b m k ≡ cond b n k
    go k true f y = f y
    go k false f y = refl

-- .. and where a job's tests pass, the later ones alone do
passing-append : (s : List ℕ) (us : List Test) → job_refusal s ≡ 0 → first_failing (job_tests s ++ us) ≡ first_failing us
unfolding job_tests part_tests first_failing job_refusal
passing-append s us n =
    let a = (job-accepts true s).0 n in
    rw (a.1, a.2.counts, a.2.gates, a.2.outputs, a.2.candidates)

module _ (s : List ℕ) (q : List ℕ) where
  pub declined-job : (x : Refusal) → load_told (Err x) ≡ loaded s → compare_told (Err x) ≡ compare_reply s q
  unfolding compare_reply compare_number pair_tests job_refusal
  declined-job x e =
      let n = refused-number s x e in
      let z = refused-job s x e in
      rw (← n, failing-append (job_tests s) (sheet_tests (job_of s).targets (job_of s).candidates q) z, ne_eqb (job_refusal s) 0 z)

  pub compared-job : job_refusal s ≡ 0 → sheet_comparison (job_of s) q ≡ compare_reply s q
  unfolding compare_reply compare_number pair_tests sheet_comparison declined_comparison
  compared-job z = rw (passing-append s (sheet_tests (job_of s).targets (job_of s).candidates q) z)

-- ---- sheets that get 7

-- beside an accepted job 7 is given exactly to what is no whole sheet, whatever tests follow, if none of them gives it
seven-behind : (s p : List ℕ) (us : List Test) → job_refusal s ≡ 0 → (first_failing us ≡ 7 → ⊥)
    → (first_failing (pair_tests s p ++ us) ≡ 7) ↔ (sheet_whole p ≡ false)
unfolding pair_tests
seven-behind s p us n h =
    let m = (job_of s).targets in
    let cs = (job_of s).candidates in
    rw (append_assoc (job_tests s) (sheet_tests m cs p) us, passing-append s (sheet_tests m cs p ++ us) n) (tests-seven m cs p us h)

pub seven-exactly : SevenExactly
unfolding compare_number fit_number fit_tests first_failing
seven-exactly s p n = (
  rw append-nil at (seven-behind s p [] n (λ e. let f : ⊥ = omega arith in f)),
  λ d l. rw (le-leb longest_fit (length d) l) (seven-behind s p _ n (nine (fits (job_of s) (patch_of p).support (patch_of p).table))),
)
  where
    nine : (b : Bool) → ◌≡◌ {A = ℕ} (cond b 0 9) 7 → ⊥
    nine true e = omega arith
    nine false e = omega arith

-- a sheet that gets 7 from read_sheet, beside no targets and no candidates, gets it from both
pub both-seven : (s p : List ℕ) → job_refusal s ≡ 0 → sheet_number 0 0 [] [] p ≡ 7
    → (compare_number s p ≡ 7) × ((d : List ℕ) → longest_fit ≤ length d → fit_number d s p ≡ 7)
unfolding sheet_roomy
both-seven s p n e =
    let w = (sheet-seven 0 0 [] [] p refl).0 e in
    let b = seven-exactly s p n in
    (b.0.1 w, λ d l. (b.1 d l).1 w)
