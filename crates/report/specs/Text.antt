-- What the program `rectify` prints (document 01, "Jobs on file"; card 1 of document 02), as ASCII bytes. Assumes nothing.
--
--   digits x               the decimal digits of x, the highest first
--   patch_word .. refused_word    the words that lines start with
--   number x, numbers xs   a space and the digits of x; the same for each number of xs
--   line w xs              the word w, the numbers xs and a line feed
--   patch_text c is es vs ns     the five lines of a patch: cost, support nets, table, vector list, notes
--   value_text w x vs      the two lines of an unfixable input or a blind reading x
--   ruling_text j v        the lines of the verdict v on job j
--   refused_text n         the line of a refusal with number n
--   input_limit            more bytes than these are refused with 2
--   rectify_text s         what is printed for the job bytes s
--   longest_text           no sheet of a verdict and no refusal has a longer text
--   printed_length, printed_bytes d s     the length of the text and the lent buffer d afterwards
--   text_a                 the lines that document 01 and card 1 give for job A
--   job_noted              a job whose patch has notes of every kind
--   text_cases, text_cases_hold    texts, job A's first, and that each is what it must be
use Rattle.std.specs.Prelude.{ℕ, zero, suc, ◌+◌, ◌/◌, ◌%◌, List, [], ◌∷◌, ◌++◌, Bool, true, false, cond, length, replicate, ltb, eqb}
use Rattle.records.specs.Bytes.{all, flat, placed}
use Rattle.records.specs.Job.{Job, job_of}
use Rattle.records.specs.Refusal.{job_refusal}
use Rattle.engine.specs.Choice.{same}
use Rattle.engine.specs.Rectify.{vector_loop}
use Rattle.engine.specs.Support.{table_of, notes_of, cost}
use Rattle.engine.specs.Verdict.{Ruling, patch, unfixable, blind, ruling}
use Rattle.engine.specs.Cases.{job_a, job_with, Case}

-- ---- numbers

-- the digits of x, at most k + 1 of them, which is enough where x ≤ k; 48 is `0`
unfoldable pub digits_within : ℕ → ℕ → List ℕ
digits_within zero x = 48 ∷ []
digits_within (suc k) x =
    elim (ltb x 10) [ true ↦ (48 + x) ∷ [] | false ↦ digits_within k (x / 10) ++ ((48 + x % 10) ∷ []) ]

unfoldable pub digits : ℕ → List ℕ
digits x = digits_within x x

-- ---- lines

-- `patch cost`
abbrev pub patch_word : List ℕ
patch_word = 112 ∷ 97 ∷ 116 ∷ 99 ∷ 104 ∷ 32 ∷ 99 ∷ 111 ∷ 115 ∷ 116 ∷ []

-- `support`
abbrev pub support_word : List ℕ
support_word = 115 ∷ 117 ∷ 112 ∷ 112 ∷ 111 ∷ 114 ∷ 116 ∷ []

-- `table`
abbrev pub table_word : List ℕ
table_word = 116 ∷ 97 ∷ 98 ∷ 108 ∷ 101 ∷ []

-- `vectors`
abbrev pub vectors_word : List ℕ
vectors_word = 118 ∷ 101 ∷ 99 ∷ 116 ∷ 111 ∷ 114 ∷ 115 ∷ []

-- `notes`
abbrev pub notes_word : List ℕ
notes_word = 110 ∷ 111 ∷ 116 ∷ 101 ∷ 115 ∷ []

-- `unfixable`
abbrev pub unfixable_word : List ℕ
unfixable_word = 117 ∷ 110 ∷ 102 ∷ 105 ∷ 120 ∷ 97 ∷ 98 ∷ 108 ∷ 101 ∷ []

-- `blind`
abbrev pub blind_word : List ℕ
blind_word = 98 ∷ 108 ∷ 105 ∷ 110 ∷ 100 ∷ []

-- `refused`
abbrev pub refused_word : List ℕ
refused_word = 114 ∷ 101 ∷ 102 ∷ 117 ∷ 115 ∷ 101 ∷ 100 ∷ []

-- 32 is a space
unfoldable pub number : ℕ → List ℕ
number x = 32 ∷ digits x

unfoldable pub numbers : List ℕ → List ℕ
numbers xs = flat number xs

-- 10 is a line feed
unfoldable pub line : List ℕ → List ℕ → List ℕ
line w xs = w ++ numbers xs ++ (10 ∷ [])

-- ---- texts

unfoldable pub patch_text : ℕ → List ℕ → List ℕ → List ℕ → List ℕ → List ℕ
patch_text c is es vs ns =
    line patch_word (c ∷ []) ++ line support_word is ++ line table_word es ++ line vectors_word vs ++ line notes_word ns

unfoldable pub value_text : List ℕ → ℕ → List ℕ → List ℕ
value_text w x vs = line w (x ∷ []) ++ line vectors_word vs

unfoldable pub ruling_text : Job → Ruling → List ℕ
ruling_text j (patch is) = patch_text (cost j is) is (table_of j is) (vector_loop j).vectors (notes_of j is)
ruling_text j (unfixable x) = value_text unfixable_word x (vector_loop j).vectors
ruling_text j (blind r) = value_text blind_word r (vector_loop j).vectors

unfoldable pub refused_text : ℕ → List ℕ
refused_text n = line refused_word (n ∷ [])

abbrev pub input_limit : ℕ
input_limit = 65535

unfoldable pub rectify_text : List ℕ → List ℕ
rectify_text s =
    let n = job_refusal s in
    let j = job_of s in
    cond (ltb input_limit (length s)) (refused_text 2) (cond (eqb n 0) (ruling_text j (ruling j)) (refused_text n))

-- ---- in a lent buffer

-- A cost has at most ten digits, a net five, a byte three: 22 + 68 + 4102 + 72 + 4102.
abbrev pub longest_text : ℕ
longest_text = 8366

-- what rectify_text gives where the buffer d is long enough for every text, else nothing
unfoldable pub printed_length : List ℕ → List ℕ → ℕ
printed_length d s = cond (ltb (length d) longest_text) 0 (length (rectify_text s))

unfoldable pub printed_bytes : List ℕ → List ℕ → List ℕ
printed_bytes d s = cond (ltb (length d) longest_text) d (placed d 0 (rectify_text s))

-- ---- examples

-- document 01's four lines for job A, `patch cost 7`, `support 0 1`, `table 0 0 0 1`, `vectors 0 1`, and card 1's `notes 1 1 1 1`
abbrev pub text_a : List ℕ
text_a =
    patch_word
    ++ (32 ∷ 55 ∷ 10 ∷ [])
    ++ support_word
    ++ (32 ∷ 48 ∷ 32 ∷ 49 ∷ 10 ∷ [])
    ++ table_word
    ++ (32 ∷ 48 ∷ 32 ∷ 48 ∷ 32 ∷ 48 ∷ 32 ∷ 49 ∷ 10 ∷ [])
    ++ vectors_word
    ++ (32 ∷ 48 ∷ 32 ∷ 49 ∷ 10 ∷ [])
    ++ notes_word
    ++ (32 ∷ 49 ∷ 32 ∷ 49 ∷ 32 ∷ 49 ∷ 32 ∷ 49 ∷ 10 ∷ [])

abbrev is : List ℕ → List ℕ → Case
is xs ys = record { given = xs; expected = ys }

-- two inputs, whose and (net 4) and or (net 5) cost 3 and 4; the old outputs are target 1 and the and of both targets, the golden ones
-- the or and the and of the inputs
abbrev pub job_noted : List ℕ
job_noted =
    let both : ℕ → List ℕ = λ k. k ∷ 2 ∷ 0 ∷ 0 ∷ 0 ∷ 1 ∷ replicate 4 0 in
    job_with 2 2 (both 4 ++ both 6 ++ (4 ∷ 2 ∷ 0 ∷ 2 ∷ 0 ∷ 3 ∷ replicate 4 0)) (0 ∷ 3 ∷ 0 ∷ 6 ∷ []) (both 4 ++ both 6) (0 ∷ 3 ∷ 0 ∷ 2 ∷ [])
    (0 ∷ 4 ∷ 0 ∷ 3 ∷ 0 ∷ 5 ∷ 0 ∷ 4 ∷ [])

unfoldable pub text_cases : List Case
text_cases =
    -- job A
    is (rectify_text job_a) text_a
    -- `patch cost 7`, `support 4 5`, `table 0 0 2 3`, `vectors 0 2 3`, `notes 2 0 1 1`
    ∷ is (rectify_text job_noted)
    (patch_word
    ++ (32 ∷ 55 ∷ 10 ∷ [])
    ++ support_word
    ++ (32 ∷ 52 ∷ 32 ∷ 53 ∷ 10 ∷ [])
    ++ table_word
    ++ (32 ∷ 48 ∷ 32 ∷ 48 ∷ 32 ∷ 50 ∷ 32 ∷ 51 ∷ 10 ∷ [])
    ++ vectors_word
    ++ (32 ∷ 48 ∷ 32 ∷ 50 ∷ 32 ∷ 51 ∷ 10 ∷ [])
    ++ notes_word
    ++ (32 ∷ 50 ∷ 32 ∷ 48 ∷ 32 ∷ 49 ∷ 32 ∷ 49 ∷ 10 ∷ []))
    -- case 3: `blind 1`, `vectors 0 1`
    ∷ is (value_text blind_word 1 (0 ∷ 1 ∷ []))
    (blind_word ++ (32 ∷ 49 ∷ 10 ∷ []) ++ vectors_word ++ (32 ∷ 48 ∷ 32 ∷ 49 ∷ 10 ∷ []))
    -- input 1,048,575, the highest: `unfixable 1048575`, `vectors 0`
    ∷ is (value_text unfixable_word 1048575 (0 ∷ []))
    (unfixable_word ++ (32 ∷ 49 ∷ 48 ∷ 52 ∷ 56 ∷ 53 ∷ 55 ∷ 53 ∷ 10 ∷ []) ++ vectors_word ++ (32 ∷ 48 ∷ 10 ∷ []))
    -- case 6: `patch cost 0`, `support`, `table 0`, `vectors 0`, `notes 1`
    ∷ is (patch_text 0 [] (0 ∷ []) (0 ∷ []) (1 ∷ []))
    (patch_word
    ++ (32 ∷ 48 ∷ 10 ∷ [])
    ++ support_word
    ++ (10 ∷ [])
    ++ table_word
    ++ (32 ∷ 48 ∷ 10 ∷ [])
    ++ vectors_word
    ++ (32 ∷ 48 ∷ 10 ∷ [])
    ++ notes_word
    ++ (32 ∷ 49 ∷ 10 ∷ []))
    -- `refused 3`
    ∷ is (refused_text 3) (refused_word ++ (32 ∷ 51 ∷ 10 ∷ []))
    ∷ []

unfoldable pub text_cases_hold : Bool
text_cases_hold = all (λ (c : Case). same c.given c.expected) text_cases
