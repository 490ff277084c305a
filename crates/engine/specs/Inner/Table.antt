-- The table of a support and its notes (src/table.rt). No public contract cites this file. Assumes nothing.
--
--   TableFilled ss n t     the first 2 ^ n places of t are the table of n nets that have the sets ss
--   note_from s            the note of a reading with the set s, whose bit 16 is 1 where no input gives it
--   NotesFilled ss n t     .. are its notes
use Rattle.std.specs.Prelude.{ℕ, ◌%◌, ◌^◌, ◌≡◌, List, cond, eqb, length, take}
use Rattle.records.specs.Job.{Job}
use Rattle.engine.specs.Support.{table_of, notes_of}
use Rattle.engine.specs.Inner.Best.{SetsOf}
use Rattle.engine.specs.Inner.Given.{Unseen}
use Rattle.engine.specs.Inner.List.{max_vectors, lowest}
use Rattle.engine.specs.Eval.{bit}
use Rattle.engine.specs.Choice.{or_zero}

pub record TableFilled (ss : List ℕ) (n : ℕ) (t : List ℕ) : Type 0 where
  pub table : (j : Job) (is : List ℕ) → SetsOf j is ss → length is ≡ n → take (2 ^ n) t ≡ table_of j is

-- exactly one vector is in a set that is the power of two of its smallest
unfoldable pub note_from : ℕ → ℕ
note_from s = cond (eqb (bit max_vectors s) 0) (cond (eqb (s % 65536) (2 ^ or_zero (lowest s))) 1 2) 0

pub record NotesFilled (ss : List ℕ) (n : ℕ) (t : List ℕ) : Type 0 where
  pub notes : (j : Job) (is : List ℕ) → SetsOf j is ss → Unseen j is ss → length is ≡ n → take (2 ^ n) t ≡ notes_of j is
