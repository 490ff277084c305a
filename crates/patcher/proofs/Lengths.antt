-- The replies of judge and choose are no longer than the buffer, and those of fit than the longest. Assumes nothing.
use Rattle.std.proofs.Common.{◌≡◌, ℕ, ◌≤◌, Bool, true, false, cond, eqb, List, length, refl, ap, arith, eqb-true}
use Rattle.records.specs.Job.{job_of}
use Rattle.records.specs.Sheet.{patch_of}
use Rattle.engine.specs.Fit.{fitted_bytes, longest_fit}
use Rattle.engine.specs.Reply.{JudgeReply, judge_reply, ChooseReply, choose_reply, fit_number, FitReply, fit_reply}
use Rattle.engine.proofs.Replies.{reply-keeps, judge-replies, choose-replies, longest-judged, longest-chosen, compare-accepts}
use Rattle.engine.proofs.FitReplies.{fit-accepts, longest-fit}

module _ (d s : List ℕ) where
  pub judge-short : {r : JudgeReply} → r ≡ judge_reply d s → r.len ≤ length d
  judge-short e = (reply-keeps longest-judged (judge-replies d s e)).0

  pub choose-short : {r : ChooseReply} → r ≡ choose_reply d s → r.len ≤ length d
  choose-short e = (reply-keeps longest-chosen (choose-replies d s e)).0

-- a length that is given where a test holds, and else 0
cond-le : (t : Bool) (k m : ℕ) → (t ≡ true → k ≤ m) → cond t k 0 ≤ m
cond-le true k m h = h refl
cond-le false k m h = omega arith

module _ (d s p : List ℕ) where
  abbrev fitted_length : ℕ
  fitted_length = length (fitted_bytes (job_of s) (patch_of p).support (patch_of p).table)

  accepted-fit : eqb (fit_number d s p) 0 ≡ true → fitted_length ≤ longest_fit
  accepted-fit e =
      let u = (fit-accepts d s p).0 (eqb-true (fit_number d s p) 0 e) in
      longest-fit s ((compare-accepts s p).0 u.1).1 (patch_of p).support (patch_of p).table u.2

  pub fit-short : {r : FitReply} → r ≡ fit_reply d s p → r.len ≤ longest_fit
  unfolding fit_reply
  fit-short q = omega (arith, ap (λ (x : FitReply). x.len) q, cond-le _ _ longest_fit accepted-fit)
