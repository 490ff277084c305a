-- Patch sheets and their numbers 7 and 8 (document 01, "Verdicts", "Fitting and comparing" and "Numbers .."; cards 1 and 7 of document 02).
-- Assumes nothing.
--
--   Patch                 what a patch sheet says: support nets, table, cost, and the notes, none where it has no such field
--   quad s                the four-byte number at the front of s
--   sheet_tags            the three fields' tags, in order
--   notes_tag             the tag of the notes, which may stand behind them
--   patch_of s            the patch that the bytes s hold
--   notes_whole s         the fourth field of s has a byte for each entry of the table, and none above 2
--   sheet_whole s         number 7: three fields, or these and the notes, and nothing after, of lengths that fit each other
--   weight_of cs i        the weight of net i, the first candidate of cs with that net
--   is_candidate cs i     net i is one of the candidates cs
--   cost_of cs is         the sum of the weights of the nets is
--   patch_good m cs p     number 8: the support ascends and is of candidates, the entries are below 2 ^ m, the cost is the sum
--   sheet_tests m cs s    the tests of the bytes s, numbers 7 and 8
use Rattle.std.specs.Prelude.{ℕ, ◌+◌, ◌*◌, ◌/◌, ◌%◌, ◌^◌, List, [], ◌∷◌, ◌++◌, Bool, false, cond, ◌&&◌, ◌||◌, length, ltb, eqb}
use Rattle.records.specs.Bytes.{all, word, whole, nth}
use Rattle.records.specs.Job.{Candidate, nets_of}
use Rattle.records.specs.Refusal.{Test, ascending}

pub record Patch : Type 0 where
  pub support : List ℕ
  pub table : List ℕ
  pub cost : ℕ
  pub notes : List ℕ

unfoldable pub quad : List ℕ → ℕ
quad s = 65536 * word s 0 + word s 2

abbrev pub sheet_tags : List ℕ
sheet_tags = 16 ∷ 17 ∷ 18 ∷ []

abbrev pub notes_tag : ℕ
notes_tag = 22

unfoldable pub patch_of : List ℕ → Patch
patch_of s =
    record { support = nets_of (nth 0 s); table = nth 1 s; cost = quad (nth 2 s); notes = nth 3 s }

-- ---- number 7

unfoldable pub notes_whole : List ℕ → Bool
notes_whole s = eqb (length (nth 3 s)) (length (nth 1 s)) && all (λ v. ltb v 3) (nth 3 s)

unfoldable pub sheet_whole : List ℕ → Bool
sheet_whole s =
    (whole sheet_tags s || (whole (sheet_tags ++ (notes_tag ∷ [])) s && notes_whole s))
    && eqb (length (nth 0 s) % 2) 0
    && eqb (length (nth 1 s)) (2 ^ (length (nth 0 s) / 2))
    && eqb (length (nth 2 s)) 4

-- ---- number 8

unfoldable pub weight_of : List Candidate → ℕ → ℕ
weight_of [] i = 0
weight_of (c ∷ cs) i = cond (eqb c.net i) c.weight (weight_of cs i)

unfoldable pub cost_of : List Candidate → List ℕ → ℕ
cost_of cs [] = 0
cost_of cs (i ∷ is) = weight_of cs i + cost_of cs is

unfoldable pub is_candidate : List Candidate → ℕ → Bool
is_candidate [] i = false
is_candidate (c ∷ cs) i = eqb c.net i || is_candidate cs i

unfoldable pub patch_good : ℕ → List Candidate → Patch → Bool
patch_good m cs p =
    ascending p.support
    && all (is_candidate cs) p.support
    && all (λ v. ltb v (2 ^ m)) p.table
    && eqb p.cost (cost_of cs p.support)

unfoldable pub sheet_tests : ℕ → List Candidate → List ℕ → List Test
sheet_tests m cs s =
    record { number = 7; passes = sheet_whole s } ∷ record { number = 8; passes = patch_good m cs (patch_of s) } ∷ []
