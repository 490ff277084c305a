-- What judge, choose, compare and fit reply, and what the lent buffer holds afterwards (document 01, "Verdicts", "Fitting and
-- comparing" and "Numbers given when a call is declined"; card 7 of document 02). Assumes nothing.
--
--   JudgeReply, judge_told r                     number, length and judgement of a reply, and what an answer of judge says of them
--   judgement_of j         whether every input of job j is fixable, or the smallest that is not, as judge replies it
--   judgement_fields v     the paper's tag and value of each case: 19 alone, as the sheet has no other field, or 20 and the input; none
--                          where the call is declined
--   declined_judge n       what judge replies when it declines with number n
--   judge_reply d s        what judge replies to job bytes s and a reply buffer d
--   choice_of j            the cost of the patch on job j, or its blind reading, as choose replies it
--   choice_fields v        18 and the cost, or 21 and the reading
--   ChooseReply, choose_told, declined_choose, choose_reply     .. for choose
--   comparison_of o        the result of a comparison, by the smallest differing input if there is one
--   CompareReply, compare_told r                 number and result of a comparison, and what an answer of compare says of them
--   compare_number s p     the number for job bytes s and sheet bytes p
--   compare_reply s p      what compare replies
--   FitReply, fit_told r                         number and length of a fit's reply, and what an answer of fit says of them
--   fit_tests d s p        the tests of a reply buffer d, a job's bytes s and a sheet's bytes p, numbers 1 to 9
--   fit_number, fit_reply, fitted_buffer d s p     the number, what fit replies, and the reply buffer afterwards
use Rattle.std.specs.Prelude.{ℕ, List, [], ◌∷◌, ◌++◌, true, false, cond, length, leb, eqb, Result, Ok, Err}
use Rattle.std.proofs.Math.Option.{Option, none, some}
use Rattle.records.specs.Bytes.{placed}
use Rattle.records.specs.Job.{Job, job_of}
use Rattle.records.specs.Refusal.{Test, first_failing}
use Rattle.records.specs.Service.{number_of}
use Rattle.records.specs.Sheet.{patch_of}
use Rattle.records.specs.declared.refusal.Refusal.{Refusal}
use Rattle.engine.specs.Rectify.{vector_loop}
use Rattle.engine.specs.Support.{sound, candidate_nets, cost, chosen}
use Rattle.engine.specs.Verdict.{blind_reading, judge_sheet, choose_sheet, judge_number, choose_number}
use Rattle.engine.specs.Compare.{difference, pair_tests}
use Rattle.engine.specs.Fit.{fitted_bytes, fits, longest_fit}
use Rattle.engine.specs.declared.judging.Judgement.{Judgement}
use Rattle.engine.specs.declared.judging.JudgedSheet.{JudgedSheet}
use Rattle.engine.specs.declared.choosing.Choice.{Choice}
use Rattle.engine.specs.declared.choosing.ChosenSheet.{ChosenSheet}
use Rattle.engine.specs.declared.comparing.Comparison.{Comparison}

unfoldable pub judgement_of : Job → Option Judgement
judgement_of j =
    elim (vector_loop j).stuck [ some x ↦ some (Judgement.Unfixable (record { input = x })) | none ↦ some Judgement.Fixable ]

unfoldable pub judgement_fields : Option Judgement → List ℕ
judgement_fields (some Judgement.Fixable) = 19 ∷ []
judgement_fields (some (Judgement.Unfixable u)) = 20 ∷ u.input ∷ []
judgement_fields none = []

-- number, length of the sheet and judgement; of a call that is declined there is none
pub record JudgeReply : Type 0 where
  pub number : ℕ
  pub len : ℕ
  pub verdict : Option Judgement

unfoldable pub declined_judge : ℕ → JudgeReply
declined_judge n = record { number = n; len = 0; verdict = none }

abbrev pub judge_told : Result JudgedSheet Refusal → JudgeReply
judge_told (Ok s) = record { number = 0; len = s.len; verdict = some s.verdict }
judge_told (Err e) = declined_judge (number_of e)

unfoldable pub judge_reply : List ℕ → List ℕ → JudgeReply
judge_reply d s =
    let number = judge_number d s in
    let j = job_of s in
    cond (eqb number 0)
    (record { number = 0; len = length (judge_sheet j); verdict = judgement_of j })
    (declined_judge number)

-- ---- choose

unfoldable pub choice_of : Job → Option Choice
choice_of j =
    elim (sound j (candidate_nets j)) [
      | true ↦ some (Choice.Patch (record { cost = cost j (chosen j) }))
      | false ↦ some (Choice.Blind (record { reading = blind_reading j }))
    ]

unfoldable pub choice_fields : Option Choice → List ℕ
choice_fields (some (Choice.Patch p)) = 18 ∷ p.cost ∷ []
choice_fields (some (Choice.Blind b)) = 21 ∷ b.reading ∷ []
choice_fields none = []

pub record ChooseReply : Type 0 where
  pub number : ℕ
  pub len : ℕ
  pub verdict : Option Choice

unfoldable pub declined_choose : ℕ → ChooseReply
declined_choose n = record { number = n; len = 0; verdict = none }

abbrev pub choose_told : Result ChosenSheet Refusal → ChooseReply
choose_told (Ok s) = record { number = 0; len = s.len; verdict = some s.verdict }
choose_told (Err e) = declined_choose (number_of e)

unfoldable pub choose_reply : List ℕ → List ℕ → ChooseReply
choose_reply d s =
    let number = choose_number d s in
    let j = job_of s in
    cond (eqb number 0)
    (record { number = 0; len = length (choose_sheet j); verdict = choice_of j })
    (declined_choose number)

-- ---- compare

unfoldable pub comparison_of : Option ℕ → Option Comparison
comparison_of none = some Comparison.Equal
comparison_of (some x) = some (Comparison.Differs (record { input = x }))

pub record CompareReply : Type 0 where
  pub number : ℕ
  pub result : Option Comparison

abbrev pub compare_told : Result Comparison Refusal → CompareReply
compare_told (Ok c) = record { number = 0; result = some c }
compare_told (Err e) = record { number = number_of e; result = none }

unfoldable pub compare_number : List ℕ → List ℕ → ℕ
compare_number s p = first_failing (pair_tests s p)

unfoldable pub compare_reply : List ℕ → List ℕ → CompareReply
compare_reply s p =
    let number = compare_number s p in
    let patch = patch_of p in
    cond (eqb number 0)
    (record { number = 0; result = comparison_of (difference (job_of s) patch.support patch.table) })
    (record { number = number; result = none })

-- ---- fit

unfoldable pub fit_tests : List ℕ → List ℕ → List ℕ → List Test
fit_tests d s p =
    let patch = patch_of p in
    record { number = 1; passes = leb longest_fit (length d) }
    ∷ pair_tests s p
    ++ (record { number = 9; passes = fits (job_of s) patch.support patch.table } ∷ [])

unfoldable pub fit_number : List ℕ → List ℕ → List ℕ → ℕ
fit_number d s p = first_failing (fit_tests d s p)

pub record FitReply : Type 0 where
  pub number : ℕ
  pub len : ℕ

abbrev pub fit_told : Result ℕ Refusal → FitReply
fit_told (Ok len) = record { number = 0; len = len }
fit_told (Err e) = record { number = number_of e; len = 0 }

unfoldable pub fit_reply : List ℕ → List ℕ → List ℕ → FitReply
fit_reply d s p =
    let patch = patch_of p in
    record {
      number = fit_number d s p;
      len = cond (eqb (fit_number d s p) 0) (length (fitted_bytes (job_of s) patch.support patch.table)) 0;
    }

unfoldable pub fitted_buffer : List ℕ → List ℕ → List ℕ → List ℕ
fitted_buffer d s p =
    let patch = patch_of p in
    cond (eqb (fit_number d s p) 0) (placed d 0 (fitted_bytes (job_of s) patch.support patch.table)) d
