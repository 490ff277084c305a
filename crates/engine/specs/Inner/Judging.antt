-- What judge's private functions give (src/judging.rt). No public contract cites this file. Assumes nothing.
--
--   JudgedJob j d r e      the reply r and the buffer e, before d, are the judgement on job j and its sheet
use Rattle.std.specs.Prelude.{ℕ, ◌≡◌, List, length}
use Rattle.records.specs.Bytes.{placed}
use Rattle.records.specs.Job.{Job}
use Rattle.engine.specs.Verdict.{judge_sheet}
use Rattle.engine.specs.Reply.{judgement_of, JudgeReply}

pub record JudgedJob (j : Job) (before : List ℕ) (r : JudgeReply) (after : List ℕ) : Type 0 where
  pub reply : r ≡ record { number = 0; len = length (judge_sheet j); verdict = judgement_of j }
  pub bytes : after ≡ placed before 0 (judge_sheet j)
