-- What choose's private functions give (src/choosing.rt). No public contract cites this file. Assumes nothing.
--
--   ChosenJob j d r e      the reply r and the buffer e, before d, are the choice on job j and its sheet
use Rattle.std.specs.Prelude.{ℕ, ◌≡◌, List, length}
use Rattle.records.specs.Bytes.{placed}
use Rattle.records.specs.Job.{Job}
use Rattle.engine.specs.Verdict.{choose_sheet}
use Rattle.engine.specs.Reply.{choice_of, ChooseReply}

pub record ChosenJob (j : Job) (before : List ℕ) (r : ChooseReply) (after : List ℕ) : Type 0 where
  pub reply : r ≡ record { number = 0; len = length (choose_sheet j); verdict = choice_of j }
  pub bytes : after ≡ placed before 0 (choose_sheet j)
