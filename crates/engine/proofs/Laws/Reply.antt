-- Laws of the replies of judge and choose: which number is given, and what the buffer holds; one for both, over how many bytes the buffer
-- has to hold and the sheet of a job. Assumes nothing.
use Prim.Native.Nat.{ℕ, ◌≤◌, ◌<◌}
use mathlib.Core.Path.{◌≡◌, refl, sym, ◌∙◌, ap}
use mathlib.Core.Logic.{◌↔◌}
use mathlib.Core.List.{List}
use mathlib.Core.Bool.{true, false, cond}
use borrow.Author.Tests.{leb-true, le-leb, lt-leb, eq-eqb, ne_eqb}
use native.Mathlib.Omega.{arith}
use lib.Dec.{leb, eqb}
use lib.ListN.{length}
use Rattle.records.specs.Bytes.{placed}
use Rattle.records.specs.Claims.{PartsGood}
use Rattle.records.specs.Job.{Job, job_whole, job_of}
use Rattle.records.specs.Refusal.{first_failing, job_refusal}
use Rattle.records.proofs.Laws.Accepted.{job-accepts}
use Rattle.engine.specs.Verdict.{judge_sheet, longest_judge, choose_sheet, longest_choose, reply_number, reply_bytes, judged_bytes, chosen_bytes}
use Rattle.engine.specs.Reply.{judgement_of, declined_judge, judge_reply, choice_of, declined_choose, choose_reply}
use Rattle.engine.specs.Inner.Judging.{JudgedJob}
use Rattle.engine.specs.Inner.Choosing.{ChosenJob}
use Rattle.engine.specs.Reply.{JudgeReply}
use Rattle.engine.specs.Reply.{ChooseReply}

-- ---- numbers

module _ (k : ℕ) (d s : List ℕ) where
  pub number_short : length d < k → reply_number k d s ≡ 1
  unfolding reply_number first_failing
  number_short h = rw (lt-leb k (length d) h)

  pub number-long : k ≤ length d → reply_number k d s ≡ job_refusal s
  unfolding reply_number first_failing job_refusal
  number-long h = rw (le-leb k (length d) h)

  -- what is accepted
  pub number-accepts : (reply_number k d s ≡ 0) ↔ ((k ≤ length d) × (job_whole s ≡ true) × PartsGood (job_of s))
  unfolding reply_number
  number-accepts =
      let a = job-accepts (leb k (length d)) s in (
        λ e. let u = a.0 e in (leb-true k (length d) u.0, u.1, u.2),
        λ h. a.1 (le-leb k (length d) h.0, h.1, h.2),
      )

-- ---- replies: that of a job where the number is 0, and else a refusal with it

module _ {R : Type 0} (k : ℕ) (f : Job → List ℕ) (of : Job → R) (declined : ℕ → R) (d s : List ℕ) where
  -- r and the buffer e are the reply to job bytes s
  abbrev pub Replied : R → List ℕ → Type 0
  Replied r e =
      (r ≡ cond (eqb (reply_number k d s) 0) (of (job_of s)) (declined (reply_number k d s))) × (e ≡ reply_bytes k f d s)

  pub reply-declined : (n : ℕ) → reply_number k d s ≡ n → (n ≡ 0 → ⊥) → Replied (declined n) d
  unfolding reply_bytes
  reply-declined n e h =
      let z : eqb (reply_number k d s) 0 ≡ false = ne_eqb (reply_number k d s) 0 (λ q. h (sym e ∙ q)) in
      (rw z (ap declined (sym e)), rw z refl)

  pub reply-short : length d < k → Replied (declined 1) d
  reply-short h = reply-declined 1 (number_short k d s h) (λ e. let q : ⊥ = omega arith in q)

  pub reply-refused : (n : ℕ) → k ≤ length d → job_refusal s ≡ n → (n ≡ 0 → ⊥) → Replied (declined n) d
  reply-refused n l e h = reply-declined n (number-long k d s l ∙ e) h

  pub reply-accepted : {r : R} {e : List ℕ} → k ≤ length d → job_refusal s ≡ 0 → r ≡ of (job_of s) → e ≡ placed d 0 (f (job_of s))
      → Replied r e
  unfolding reply_bytes
  reply-accepted l n a b =
      let z : eqb (reply_number k d s) 0 ≡ true = eq-eqb (reply_number k d s) 0 (number-long k d s l ∙ n) in
      (rw z a, rw z b)

-- ---- judge

abbrev pub judge_given : Job → JudgeReply
judge_given j = record { number = 0; len = length (judge_sheet j); verdict = judgement_of j }

module _ (d s : List ℕ) where
  abbrev Judged : JudgeReply → List ℕ → Type 0
  Judged r e = (r ≡ judge_reply d s) × (e ≡ judged_bytes d s)

  pub judge-short : length d < longest_judge → Judged (declined_judge 1) d
  unfolding judge_reply
  judge-short = reply-short longest_judge judge_sheet judge_given declined_judge d s

  pub judge-refused : (n : ℕ) → longest_judge ≤ length d → job_refusal s ≡ n → (n ≡ 0 → ⊥) → Judged (declined_judge n) d
  unfolding judge_reply
  judge-refused = reply-refused longest_judge judge_sheet judge_given declined_judge d s

  pub judge-accepted : {r : JudgeReply} {e : List ℕ} → longest_judge ≤ length d → job_refusal s ≡ 0 → JudgedJob (job_of s) d r e → Judged r e
  unfolding judge_reply
  judge-accepted l n w = reply-accepted longest_judge judge_sheet judge_given declined_judge d s l n w.reply w.bytes

-- ---- choose

abbrev pub choose_given : Job → ChooseReply
choose_given j = record { number = 0; len = length (choose_sheet j); verdict = choice_of j }

module _ (d s : List ℕ) where
  abbrev Chose : ChooseReply → List ℕ → Type 0
  Chose r e = (r ≡ choose_reply d s) × (e ≡ chosen_bytes d s)

  pub choose-short : length d < longest_choose → Chose (declined_choose 1) d
  unfolding choose_reply
  choose-short = reply-short longest_choose choose_sheet choose_given declined_choose d s

  pub choose-refused : (n : ℕ) → longest_choose ≤ length d → job_refusal s ≡ n → (n ≡ 0 → ⊥) → Chose (declined_choose n) d
  unfolding choose_reply
  choose-refused = reply-refused longest_choose choose_sheet choose_given declined_choose d s

  pub choose-accepted : {r : ChooseReply} {e : List ℕ} → longest_choose ≤ length d → job_refusal s ≡ 0 → ChosenJob (job_of s) d r e → Chose r e
  unfolding choose_reply
  choose-accepted l n w = reply-accepted longest_choose choose_sheet choose_given declined_choose d s l n w.reply w.bytes
