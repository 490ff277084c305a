-- Verdicts, and the sheets of judge and choose (document 01, "Verdicts"; cards 1 and 7 of document 02). Assumes nothing.
--
--   Ruling               a patch, an unfixable input or a blind reading (01: verdict)
--   blind_reading j      the smallest reading of all candidates whose inputs share no vector, 0 if there is none
--   ruling j             the verdict on job j, which `rectify` prints: unfixable comes first, blind where every input is fixable and
--                        all candidates together are not a sound support
--   four_bytes x         x as four bytes, the high byte first
--   judge_sheet j        the bytes of judge's sheet: the unfixable input, if there is one, and the vector list
--   patch_sheet j is     the bytes of a patch over the nets is: support, table, cost and notes
--   choose_sheet j       the bytes of choose's sheet: the patch over the chosen support, or the blind reading where all candidates
--                        together are not sound, whether or not every input is fixable
--   longest_judge, longest_choose     the longest sheets have 26 and 2,084 bytes
--   reply_number k d s   the number for job bytes s and a reply buffer d that has to hold k bytes
--   reply_bytes k f d s  the reply buffer afterwards, where f is the sheet of a job
--   judge_number, judged_bytes, choose_number, chosen_bytes d s     .. for judge and for choose
use Rattle.std.specs.Prelude.{ℕ, ◌/◌, ◌%◌, ◌^◌, List, [], ◌∷◌, ◌++◌, true, false, cond, not, length, leb, eqb}
use Rattle.std.proofs.Math.Option.{none, some}
use Rattle.records.specs.Bytes.{up_from, flat, byte_pair, placed, field}
use Rattle.records.specs.Job.{Job, job_of}
use Rattle.records.specs.Refusal.{first_failing, job_tests}
use Rattle.records.specs.Sheet.{notes_tag}
use Rattle.engine.specs.Choice.{first, found, or_zero}
use Rattle.engine.specs.Rectify.{vector_loop}
use Rattle.engine.specs.Support.{shared, sound, table_of, notes_of, candidate_nets, cost, chosen}

pub data Ruling : Type 0 where
  patch : List ℕ → Ruling
  unfixable : ℕ → Ruling
  blind : ℕ → Ruling

unfoldable pub blind_reading : Job → ℕ
blind_reading j =
    let is = candidate_nets j in
    or_zero (first (λ r. not (found (shared j is r))) (up_from 0 (2 ^ length is)))

unfoldable pub ruling : Job → Ruling
ruling j =
    elim (vector_loop j).stuck [
      | some x ↦ unfixable x
      | none ↦ elim (sound j (candidate_nets j)) [ true ↦ patch (chosen j) | false ↦ blind (blind_reading j) ]
    ]

unfoldable pub four_bytes : ℕ → List ℕ
four_bytes x = byte_pair (x / 65536) ++ byte_pair (x % 65536)

-- ---- judge

unfoldable pub judge_sheet : Job → List ℕ
judge_sheet j =
    elim (vector_loop j).stuck [ some x ↦ field 20 (four_bytes x) | none ↦ [] ] ++ field 19 (vector_loop j).vectors

abbrev pub longest_judge : ℕ
longest_judge = 26

-- ---- choose

unfoldable pub patch_sheet : Job → List ℕ → List ℕ
patch_sheet j is =
    field 16 (flat byte_pair is)
    ++ field 17 (table_of j is)
    ++ field 18 (four_bytes (cost j is))
    ++ field notes_tag (notes_of j is)

unfoldable pub choose_sheet : Job → List ℕ
choose_sheet j =
    elim (sound j (candidate_nets j)) [ true ↦ patch_sheet j (chosen j) | false ↦ field 21 (byte_pair (blind_reading j)) ]

abbrev pub longest_choose : ℕ
longest_choose = 2084

-- ---- numbers, and the reply buffer

unfoldable pub reply_number : ℕ → List ℕ → List ℕ → ℕ
reply_number k d s = first_failing (record { number = 1; passes = leb k (length d) } ∷ job_tests s)

unfoldable pub reply_bytes : ℕ → (Job → List ℕ) → List ℕ → List ℕ → List ℕ
reply_bytes k f d s = cond (eqb (reply_number k d s) 0) (placed d 0 (f (job_of s))) d

abbrev pub judge_number : List ℕ → List ℕ → ℕ
judge_number d s = reply_number longest_judge d s

abbrev pub judged_bytes : List ℕ → List ℕ → List ℕ
judged_bytes d s = reply_bytes longest_judge judge_sheet d s

abbrev pub choose_number : List ℕ → List ℕ → ℕ
choose_number d s = reply_number longest_choose d s

abbrev pub chosen_bytes : List ℕ → List ℕ → List ℕ
chosen_bytes d s = reply_bytes longest_choose choose_sheet d s
