-- The twelve numbered cases (document 01, "Jobs on file", in card 6's ten-byte gates), as one table about the definitions. Assumes nothing.
--
--   job_a              job A's bytes, with ten-byte gates (card 6 of document 02)
--   judged_a, sheet_a  its sheets from judge, 5 bytes, and from choose, 28 (cards 1 and 7)
--   job_with ..        a job's bytes: n, m, and the bytes of its fields 2 to 6
--   judged, chose k s  what judge and choose give on job bytes s and a reply buffer of k bytes: the number, then the sheet if it is 0
--   fitted_size s p    how many gates the job s fitted with the sheet p has, then its output nets
--   Case, cases        what is given, and what must be
--   cases_hold         each case gives what it must
use Rattle.std.specs.Prelude.{ℕ, List, [], ◌∷◌, ◌++◌, Bool, true, false, eqb, length, replicate}
use Rattle.records.specs.Bytes.{all, field}
use Rattle.records.specs.Job.{job_of}
use Rattle.records.specs.Sheet.{patch_of}
use Rattle.engine.specs.Choice.{same}
use Rattle.engine.specs.Verdict.{judge_sheet, choose_sheet, longest_judge, longest_choose, judge_number, choose_number}
use Rattle.engine.specs.Fit.{fitted}

abbrev pub job_a : List ℕ
job_a =
    0x01 ∷ 0x00 ∷ 0x02 ∷ 0x02 ∷ 0x01
    ∷ 0x02 ∷ 0x00 ∷ 0x00
    ∷ 0x03 ∷ 0x00 ∷ 0x02 ∷ 0x00 ∷ 0x02
    ∷ 0x04 ∷ 0x00 ∷ 0x0a ∷ 0x04 ∷ 0x02 ∷ 0x00 ∷ 0x00 ∷ 0x00 ∷ 0x01 ∷ 0x00 ∷ 0x00 ∷ 0x00 ∷ 0x00
    ∷ 0x05 ∷ 0x00 ∷ 0x02 ∷ 0x00 ∷ 0x02
    ∷ 0x06 ∷ 0x00 ∷ 0x08 ∷ 0x00 ∷ 0x00 ∷ 0x00 ∷ 0x03 ∷ 0x00 ∷ 0x01 ∷ 0x00 ∷ 0x04
    ∷ []

abbrev pub judged_a : List ℕ
judged_a = 0x13 ∷ 0x00 ∷ 0x02 ∷ 0x00 ∷ 0x01 ∷ []

abbrev pub sheet_a : List ℕ
sheet_a =
    0x10 ∷ 0x00 ∷ 0x04 ∷ 0x00 ∷ 0x00 ∷ 0x00 ∷ 0x01
    ∷ 0x11 ∷ 0x00 ∷ 0x04 ∷ 0x00 ∷ 0x00 ∷ 0x00 ∷ 0x01
    ∷ 0x12 ∷ 0x00 ∷ 0x04 ∷ 0x00 ∷ 0x00 ∷ 0x00 ∷ 0x07
    ∷ 0x16 ∷ 0x00 ∷ 0x04 ∷ 0x01 ∷ 0x01 ∷ 0x01 ∷ 0x01
    ∷ []

unfoldable pub job_with : ℕ → ℕ → List ℕ → List ℕ → List ℕ → List ℕ → List ℕ → List ℕ
job_with n m gs os gs' os' cs =
    field 1 (n ∷ m ∷ []) ++ field 2 gs ++ field 3 os ++ field 4 gs' ++ field 5 os' ++ field 6 cs

unfoldable pub judged : ℕ → List ℕ → List ℕ
judged k s =
    let n = judge_number (replicate k 0) s in
    elim (eqb n 0) [ true ↦ 0 ∷ judge_sheet (job_of s) | false ↦ n ∷ [] ]

unfoldable pub chose : ℕ → List ℕ → List ℕ
chose k s =
    let n = choose_number (replicate k 0) s in
    elim (eqb n 0) [ true ↦ 0 ∷ choose_sheet (job_of s) | false ↦ n ∷ [] ]

unfoldable pub fitted_size : List ℕ → List ℕ → List ℕ
fitted_size s p =
    let l = fitted (job_of s) (patch_of p).support (patch_of p).table in
    length l.gates ∷ l.outputs

-- the parts of job A: the and gate, and net 2
abbrev and_gate : List ℕ
and_gate = 4 ∷ 2 ∷ 0 ∷ 0 ∷ 0 ∷ 1 ∷ 0 ∷ 0 ∷ 0 ∷ 0 ∷ []

abbrev net_two : List ℕ
net_two = 0 ∷ 2 ∷ []

abbrev both_nets : List ℕ
both_nets = 0 ∷ 0 ∷ 0 ∷ 3 ∷ 0 ∷ 1 ∷ 0 ∷ 4 ∷ []

-- a job of one input and one target: the old gate not 0 on net 2, old output 1, golden output 0, and two candidates
abbrev inverted : List ℕ → List ℕ
inverted cs = job_with 1 1 (3 ∷ 1 ∷ replicate 8 0) (0 ∷ 1 ∷ []) [] (0 ∷ 0 ∷ []) cs

-- the sheet of an empty support with table 0, cost 0 and note 1
abbrev empty_support : List ℕ
empty_support = field 16 [] ++ field 17 (0 ∷ []) ++ field 18 (0 ∷ 0 ∷ 0 ∷ 0 ∷ []) ++ field 22 (1 ∷ [])

-- what judge and choose must give, one after the other
abbrev both : List ℕ → List ℕ
both s = judged longest_judge s ++ chose longest_choose s

pub record Case : Type 0 where
  pub given : List ℕ
  pub expected : List ℕ

abbrev is : List ℕ → List ℕ → Case
is xs ys = record { given = xs; expected = ys }

unfoldable pub cases : List Case
cases =
    -- 1: A's verdict
    is (both job_a) (0 ∷ judged_a ++ 0 ∷ sheet_a)
    -- 2: A fitted has two gates and output net 3 (card 2 of document 02)
    ∷ is (fitted_size job_a sheet_a) (2 ∷ 3 ∷ [])
    -- 3: A without priced net 1: blind 1
    ∷ is (both (job_with 2 1 [] net_two and_gate net_two (0 ∷ 0 ∷ 0 ∷ 3 ∷ []))) (0 ∷ field 19 (0 ∷ 1 ∷ []) ++ 0 ∷ field 21 (0 ∷ 1 ∷ []))
    -- 4: A with none: blind 0
    ∷ is (both (job_with 2 1 [] net_two and_gate net_two [])) (0 ∷ field 19 (0 ∷ 1 ∷ []) ++ 0 ∷ field 21 (0 ∷ 0 ∷ []))
    -- 5: A with old output 0: unfixable 1, vectors 0; to choose it is blind, at the reading of input 1
    ∷ is (both (job_with 2 1 [] (0 ∷ 0 ∷ []) and_gate net_two both_nets))
    (0 ∷ field 20 (0 ∷ 0 ∷ 0 ∷ 1 ∷ []) ++ field 19 (0 ∷ []) ++ 0 ∷ field 21 (0 ∷ 1 ∷ []))
    -- 6: A with a golden constant zero: empty support, table 0, cost 0
    ∷ is (both (job_with 2 1 [] net_two (replicate 10 0) net_two both_nets)) (0 ∷ field 19 (0 ∷ []) ++ 0 ∷ empty_support)
    -- 7: no targets, equal circuits: the same, vectors 0
    ∷ is (both (job_with 2 0 and_gate net_two and_gate net_two both_nets)) (0 ∷ field 19 (0 ∷ []) ++ 0 ∷ empty_support)
    -- 8: prices 0 at 5 and 2 at 1: support 2, table 1 0
    ∷ is (both (inverted (0 ∷ 0 ∷ 0 ∷ 5 ∷ 0 ∷ 2 ∷ 0 ∷ 1 ∷ [])))
    (0 ∷ field 19 (0 ∷ 1 ∷ [])
    ++ 0 ∷ field 16 (0 ∷ 2 ∷ []) ++ field 17 (1 ∷ 0 ∷ []) ++ field 18 (0 ∷ 0 ∷ 0 ∷ 1 ∷ []) ++ field 22 (1 ∷ 1 ∷ []))
    -- 9: both prices 0: support 0, table 0 1
    ∷ is (both (inverted (0 ∷ 0 ∷ 0 ∷ 0 ∷ 0 ∷ 2 ∷ 0 ∷ 0 ∷ [])))
    (0 ∷ field 19 (0 ∷ 1 ∷ [])
    ++ 0 ∷ field 16 (0 ∷ 0 ∷ []) ++ field 17 (0 ∷ 1 ∷ []) ++ field 18 (0 ∷ 0 ∷ 0 ∷ 0 ∷ []) ++ field 22 (1 ∷ 1 ∷ []))
    -- 10: A with n 21: 3
    ∷ is (both (job_with 21 1 [] net_two and_gate net_two both_nets)) (3 ∷ 3 ∷ [])
    -- 11: A with m 5: 3
    ∷ is (both (job_with 2 5 [] net_two and_gate net_two both_nets)) (3 ∷ 3 ∷ [])
    -- 12, choose's: a reply buffer of 1,075: 1, and of one byte less than it wants; the same for judge
    ∷ is (chose 1075 job_a ++ chose 2083 job_a ++ judged 25 job_a) (1 ∷ 1 ∷ 1 ∷ [])
    ∷ []

-- each case gives what it must
unfoldable pub cases_hold : Bool
cases_hold = all (λ (c : Case). same c.given c.expected) cases
