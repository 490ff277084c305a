-- Supports, readings, tables and notes (document 01, "Verdicts"; cards 1 and 5 of document 02). A support is an ascending list of candidate nets. Assumes nothing.
--
--   reading j is x        the reading that input x gives of the nets is: their values in the old circuit, the first in bit 0.
--                         No target leads to them, so the vector has no say; it is 0 here
--   giving j is r         the inputs that give reading r
--   driven_by j is t x    the vector that the table t over the nets is gives at input x: its entry at the reading of x
--   equals_golden j is t         the old circuit driven by t has the golden outputs on every input
--   Carries j is          the nets carry a table (01): some table over them, with entries below 2 ^ m, makes the driven old
--                         outputs equal the golden ones on every input
--   shared j is r         the smallest vector that rectifies every input giving reading r, if there is one
--   sound j is            that vector exists at every reading (where no input gives the reading, it is 0)
--   table_of j is         the table of those vectors, from reading 0 up
--   sharing j is r        all vectors that rectify every input giving reading r
--   note_of j is r        the note beside row r of the table of a sound support: 0 where no input gives the reading, 1 where exactly one
--                         vector rectifies every input giving it, 2 where several do
--   notes_of j is         the notes, from reading 0 up
--   candidate_nets j      the nets of all candidates
--   subsets is            all sets of nets of the list is, each ascending as is
--   cost j is             the sum of the weights of the nets is
--   patch_gates j is      how many gates the trees of all targets have over the table of the nets is: those that fit puts in
--   earlier is ks         is comes before ks at the first place where the lists differ
--   better j is ks        the support is is chosen before ks: lower cost, then fewer patch gates, then fewer nets, then the smaller
--                         net number at the first place where the lists differ
--   best_of j is kss      of is and the lists kss, the one that is chosen before the others
--   chosen j              the chosen support: the best sound one. It starts from all candidates together, which are sound
--                         where any set of them is
use Rattle.std.specs.Prelude.{ℕ, ◌^◌, ◌<◌, ◌≡◌, List, [], ◌∷◌, ◌++◌, map, Bool, true, false, cond, ◌&&◌, ◌||◌, length, get_or, ltb, eqb}
use Rattle.records.specs.Bytes.{up_from, tabulate, all}
use Rattle.records.specs.Netlist.{net_at}
use Rattle.records.specs.Job.{Candidate, Job}
use Rattle.records.specs.Sheet.{cost_of}
use Rattle.std.proofs.Math.Option.{Option}
use Rattle.engine.specs.Choice.{keep, first, found, or_zero}
use Rattle.engine.specs.Eval.{number_of, all_inputs, all_vectors, old_values}
use Rattle.engine.specs.Fit.{trees}
use Rattle.engine.specs.Rectify.{rectifies}

unfoldable pub reading : Job → List ℕ → ℕ → ℕ
reading j is x = number_of (map (net_at (old_values j x 0)) is)

unfoldable pub giving : Job → List ℕ → ℕ → List ℕ
giving j is r = keep (λ x. eqb (reading j is x) r) (all_inputs j)

unfoldable pub driven_by : Job → List ℕ → List ℕ → ℕ → ℕ
driven_by j is t x = get_or t (reading j is x) 0

unfoldable pub equals_golden : Job → List ℕ → List ℕ → Bool
equals_golden j is t = all (λ x. rectifies j x (driven_by j is t x)) (all_inputs j)

pub record Carries (j : Job) (is : List ℕ) : Type 0 where
  pub table : List ℕ
  pub entries : length table ≡ 2 ^ length is
  pub below : (r : ℕ) → r < length table → get_or table r 0 < 2 ^ j.targets
  pub equal : equals_golden j is table ≡ true

-- ---- sound supports and their tables

unfoldable pub shared : Job → List ℕ → ℕ → Option ℕ
shared j is r =
    let xs = giving j is r in
    first (λ v. all (λ x. rectifies j x v) xs) (all_vectors j)

unfoldable pub sound : Job → List ℕ → Bool
sound j is = all (λ r. found (shared j is r)) (up_from 0 (2 ^ length is))

unfoldable pub table_of : Job → List ℕ → List ℕ
table_of j is = tabulate (2 ^ length is) (λ r. or_zero (shared j is r))

unfoldable pub sharing : Job → List ℕ → ℕ → List ℕ
sharing j is r =
    let xs = giving j is r in
    keep (λ v. all (λ x. rectifies j x v) xs) (all_vectors j)

unfoldable pub note_of : Job → List ℕ → ℕ → ℕ
note_of j is r = cond (eqb (length (giving j is r)) 0) 0 (cond (eqb (length (sharing j is r)) 1) 1 2)

unfoldable pub notes_of : Job → List ℕ → List ℕ
notes_of j is = tabulate (2 ^ length is) (note_of j is)

-- ---- the choice

unfoldable pub candidate_nets : Job → List ℕ
candidate_nets j = map (λ (c : Candidate). c.net) j.candidates

unfoldable pub subsets : List ℕ → List (List ℕ)
subsets [] = [] ∷ []
subsets (i ∷ is) = map (λ (ks : List ℕ). i ∷ ks) (subsets is) ++ subsets is

unfoldable pub cost : Job → List ℕ → ℕ
cost j is = cost_of j.candidates is

unfoldable pub patch_gates : Job → List ℕ → ℕ
patch_gates j is = length (trees j is (table_of j is)).gates

unfoldable pub earlier : List ℕ → List ℕ → Bool
earlier [] ks = false
earlier (i ∷ is) [] = false
earlier (i ∷ is) (k ∷ ks) = ltb i k || (eqb i k && earlier is ks)

unfoldable pub better : Job → List ℕ → List ℕ → Bool
better j is ks =
    ltb (cost j is) (cost j ks)
    || (eqb (cost j is) (cost j ks)
    && (ltb (patch_gates j is) (patch_gates j ks)
    || (eqb (patch_gates j is) (patch_gates j ks)
    && (ltb (length is) (length ks) || (eqb (length is) (length ks) && earlier is ks)))))

unfoldable pub best_of : Job → List ℕ → List (List ℕ) → List ℕ
best_of j is [] = is
best_of j is (ks ∷ kss) = best_of j (cond (better j ks is) ks is) kss

unfoldable pub chosen : Job → List ℕ
chosen j = best_of j (candidate_nets j) (keep (sound j) (subsets (candidate_nets j)))
