-- What is promised of the engine beyond the contracts of its functions: the request's demands 1 to 3, of the definitions and of
-- what judge, choose, compare and fit reply. What is claimed of the definitions is proved in proofs/Theorems.antt (of the fitted netlist
-- in proofs/Laws/Fitted.antt), of a reply's number, of judge, choose and compare in proofs/Replies.antt, of fit, and of sheets that both
-- refuse, in proofs/FitReplies.antt, of choose, then compare or fit, in proofs/InARow.antt, that the longest replies are attained in
-- proofs/Attained.antt, and card 8's in proofs/Waste.antt. Assumes nothing.
--
--   In x xs                 x is an element of xs
--   Rectifiable             an input is fixable exactly when some vector makes the old outputs the golden ones
--   TernaryKnown, TernaryUnknown            when an entry of a three by three table is known, and when not
--   TernaryListKnown, TernaryListUnknown    the same of a gate's value on any number of operands
--   TernaryFold, TernaryInverts             that value from the tables
--   LoopEnds                where the vector loop ends
--   EveryTable              when a table does, for every table over any nets
--   Readings                a reading does not depend on the vector, so it is the one that the driven circuit has
--   PatchExactly, PatchTable, LeastCost     a patch is given exactly when there is a table; it is one; none costs less
--   SoundExactly            a support is sound exactly when it carries a table
--   FewestGates, WinsTies   of the sound supports that cost as much none has fewer patch gates; the one given comes before every other (card 5)
--   UnfixableExactly, BlindExactly          the two other verdicts
--   HalvesEqual             when the test of a column's halves says equal
--   FittedOutputs, FittedGood               the outputs of the netlist that fit gives, for any accepted sheet, and that it is one
--   NumberGiven             the number in a reply is the papers'
--   JudgeAccepts, JudgeRefuses, JudgeKeeps, JudgeIndependent          what judge accepts; a refusal alters nothing, a reply nothing
--                           behind its length; what the buffer held before plays no part
--   ChooseAccepts, ChooseRefuses, ChooseKeeps, ChooseIndependent      .. for choose
--   RefuseAlike             a buffer too short is 1; else both refuse 2 to 6 alike
--   LongestJudge, LongestJudgeMet, LongestChoose, LongestChooseMet    no sheet is longer than 26 and 2,084 bytes, and one is as long
--   OneJudgement, GivesFixable, GivesUnfixable              judge says fixable or unfixable, and when
--   VectorsGiven            the bytes in judge's buffer, of which the last field is the vector list
--   OneChoice               choose says patch or blind
--   GivesPatch, PatchIn, PatchGiven         when choose replies a patch, and what the patch in the buffer is
--   SomeGives, RectifyAll, NoteIn           what the note beside a row of its table says (card 1)
--   PatchFields, SharesNone                 the fields of a patch's sheet; when inputs share no vector
--   GivesBlind, GivesBlindExactly, UnfixableBlind, BlindGiven         when it replies blind, on unfixable jobs too, and its sheet
--   CompareAccepts, CompareRefuses, ComparesEqual, ComparesDiffers    what compare accepts and replies
--   CompareIgnoresNotes, FitIgnoresNotes    a sheet with notes gets the replies that it gets without (card 1)
--   VectorsSeven, NotesSeven, LeftOverSeven a sheet with a vector list, with wrong notes, or with other bytes left over, gets 7 from both
--   SevenExactly            beside an accepted job what is no whole sheet gets 7 from both, and nothing else does
--   FitAccepts, FitRefuses, FitKeeps, FitIndependent        as for choose
--   LongestFit, LongestFitMet               no result has more than 4,075 bytes, and one has as many
--   FittedIn, FittedGiven                   what the netlist in the buffer is
--   ChosenEqual, ChosenFits, ChosenFitted                   choose, then compare or fit
--   list_in, WithoutWaste, NoWaste          judge's list: no vector twice, at most 2 ^ m, each after the first needed (card 8)
--   Rearranges, in_order, reordered, AnyOrder                both output lists in one new order: the same replies and bytes (card 8)
use Rattle.std.specs.Prelude.{ℕ, suc, ◌+◌, ◌%◌, ◌^◌, ◌≤◌, ◌<◌, ◌≡◌, ◌↔◌, ◌⊎◌, true, false, cond, leb, ltb, eqb, length, get_or, take, drop}
use mathlib.Core.List.{List, [], ◌∷◌, ◌++◌, Memᴰ, map}
use Rattle.std.proofs.Math.Option.{none, some}
use Rattle.records.specs.Bytes.{all, flat, byte_pair, field, fits as field_fits, whole, nth}
use Rattle.records.specs.Gate.{kind_count, gate_value}
use Rattle.records.specs.Netlist.{net_at, values}
use Rattle.records.specs.Job.{Job, job_whole, job_of, gates_of, nets_of, netlist_of, gate_bytes}
use Rattle.records.specs.Refusal.{max_gates, gates_good, candidates_good, job_refusal}
use Rattle.records.specs.Sheet.{Patch, sheet_tags, notes_tag, patch_of, sheet_whole, patch_good}
use Rattle.records.specs.Claims.{Below, PartsGood}
use Rattle.engine.specs.Choice.{any, same}
use Rattle.engine.specs.Eval.{bit, bits, number_of, old_values, old_outputs, golden_outputs}
use Rattle.engine.specs.Ternary.{unknown, ternary_value, ternary_table, entry, Completes, CompletesAll, Possible, PossibleOf}
use Rattle.engine.specs.Rectify.{rectifies, rectifiable, vector_loop}
use Rattle.engine.specs.Support.{reading, driven_by, Carries, shared, sound, table_of, candidate_nets, subsets, cost, patch_gates, better}
use Rattle.engine.specs.Verdict.{patch, unfixable, blind, ruling, four_bytes, judge_sheet, choose_sheet, longest_judge, longest_choose, judge_number, judged_bytes, choose_number, chosen_bytes}
use Rattle.engine.specs.Reply.{judgement_fields, declined_judge, judge_reply, choice_fields, declined_choose, choose_reply, comparison_of, compare_number, compare_reply, fit_number, fit_reply, fitted_buffer}
use Rattle.engine.specs.Tree.{column}
use Rattle.engine.specs.Fit.{trees, fitted, fitted_bytes, fits, longest_fit}

abbrev pub In : {A : Type 0} → A → List A → Type 0
In x xs = Memᴰ x xs

-- ---- demand 2

-- "An input is called fixable exactly when some setting of the cut nets makes all old outputs equal the golden ones."
abbrev pub Rectifiable : Type 0
Rectifiable =
    (j : Job) (x : ℕ)
    → (rectifiable j x ≡ true) ↔ ((v : ℕ) × (v < 2 ^ j.targets) × (old_outputs j x v ≡ golden_outputs j x))

-- Document 01, the three by three tables: "Its entry is known exactly when every completion of the operands, each taken on its own,
-- gives the same value." Values are 0, 1 and 2 for not yet known. It is known, and v, exactly when every completion gives v; and it
-- is not yet known exactly when some two completions give different values.
abbrev pub TernaryKnown : Type 0
TernaryKnown =
    (k x y v : ℕ) → x ≤ unknown → y ≤ unknown → v < unknown
    → (entry (ternary_table k) x y ≡ v)
    ↔ ((a b : ℕ) → Completes a x → Completes b y → gate_value k (a ∷ b ∷ []) ≡ v)

abbrev pub TernaryUnknown : Type 0
TernaryUnknown =
    (k x y : ℕ) → x ≤ unknown → y ≤ unknown
    → (entry (ternary_table k) x y ≡ unknown)
    ↔ ((v : ℕ) × (w : ℕ) × Possible k x y v × Possible k x y w × (v ≡ w → ⊥))

-- Card 6: the same of any number of operands.
abbrev pub TernaryListKnown : Type 0
TernaryListKnown =
    (k v : ℕ) (xs : List ℕ) → all (λ x. leb x unknown) xs ≡ true → v < unknown
    → (ternary_value k xs ≡ v) ↔ ((vs : List ℕ) → CompletesAll vs xs → gate_value k vs ≡ v)

abbrev pub TernaryListUnknown : Type 0
TernaryListUnknown =
    (k : ℕ) (xs : List ℕ) → all (λ x. leb x unknown) xs ≡ true
    → (ternary_value k xs ≡ unknown) ↔ ((v : ℕ) × (w : ℕ) × PossibleOf k xs v × PossibleOf k xs w × (v ≡ w → ⊥))

-- .. and it is had from the three by three tables: that of an even (plain) kind goes from operand to operand, and the odd kind above it inverts
-- the whole, by the table of not, whose second operand plays no part.
abbrev pub TernaryFold : Type 0
TernaryFold =
    (k x : ℕ) (xs : List ℕ) → k % 2 ≡ 0 → all (λ x. leb x unknown) (x ∷ xs) ≡ true
    → ternary_value k (x ∷ xs) ≡ entry (ternary_table k) x (ternary_value k xs)

abbrev pub TernaryInverts : Type 0
TernaryInverts =
    (k : ℕ) (xs : List ℕ) → k % 2 ≡ 0 → k < kind_count → all (λ x. leb x unknown) xs ≡ true
    → ternary_value (suc k) xs ≡ entry (ternary_table 3) (ternary_value k xs) 0

-- Document 01: "repeat until there is no such input, or no such vector. In the second case that input is unfixable." The loop ends
-- only where every input is rectified by some listed vector, or at the smallest input that no listed vector rectifies, and no
-- vector at all rectifies that one.
abbrev pub LoopEnds : Type 0
LoopEnds =
    (j : Job)
    → let vs = (vector_loop j).vectors in
    (((vector_loop j).stuck ≡ none) × ((x : ℕ) → x < 2 ^ j.inputs → any (rectifies j x) vs ≡ true))
    ⊎ ((x : ℕ)
    × ((vector_loop j).stuck ≡ some x)
    × (x < 2 ^ j.inputs)
    × (any (rectifies j x) vs ≡ false)
    × (rectifiable j x ≡ false)
    × ((y : ℕ) → y < x → any (rectifies j y) vs ≡ true))

-- ---- demand 3

-- "For every accepted job, and every table over any set of its priced nets, the old circuit driven by that table has the golden
-- outputs on every input exactly when the table holds, at each reading that some input gives, a setting that fixes all inputs
-- giving it."
abbrev pub EveryTable : Type 0
EveryTable =
    (j : Job) (is t : List ℕ)
    → ((x : ℕ) → x < 2 ^ j.inputs → old_outputs j x (driven_by j is t x) ≡ golden_outputs j x)
    ↔ ((r y : ℕ) → y < 2 ^ j.inputs → reading j is y ≡ r
    → (x : ℕ) → x < 2 ^ j.inputs → reading j is x ≡ r → rectifies j x (get_or t r 0) ≡ true)

-- Document 01: "No target leads to them, so the vector has no say."
abbrev pub Readings : Type 0
Readings =
    (j : Job) → candidates_good j ≡ true → (is : List ℕ) → In is (subsets (candidate_nets j))
    → (x v : ℕ) → number_of (map (net_at (old_values j x v)) is) ≡ reading j is x

-- "A patch is given exactly when the old circuit driven by some table over priced nets has the golden outputs on every input."
abbrev pub PatchExactly : Type 0
PatchExactly =
    (j : Job)
    → ((is : List ℕ) × (ruling j ≡ patch is)) ↔ ((is : List ℕ) × In is (subsets (candidate_nets j)) × Carries j is)

-- "The table given is then such a one."
abbrev pub PatchTable : Type 0
PatchTable =
    (j : Job) (is : List ℕ) → ruling j ≡ patch is
    → In is (subsets (candidate_nets j))
    × ((x : ℕ) → x < 2 ^ j.inputs → old_outputs j x (driven_by j is (table_of j is) x) ≡ golden_outputs j x)

-- "No set of priced nets that carries such a table costs less."
abbrev pub LeastCost : Type 0
LeastCost =
    (j : Job) (is : List ℕ) → ruling j ≡ patch is
    → (ks : List ℕ) → In ks (subsets (candidate_nets j)) → Carries j ks → cost j is ≤ cost j ks

-- Sound supports (01) are those that carry a table (demand 3).
abbrev pub SoundExactly : Type 0
SoundExactly = (j : Job) (is : List ℕ) → (sound j is ≡ true) ↔ Carries j is

-- Card 5: "no other sound least-cost support, with document 01's table for it, has fewer patch gates".
abbrev pub FewestGates : Type 0
FewestGates =
    (j : Job) (is : List ℕ) → ruling j ≡ patch is
    → (ks : List ℕ) → In ks (subsets (candidate_nets j)) → sound j ks ≡ true → cost j ks ≡ cost j is
    → patch_gates j is ≤ patch_gates j ks

-- .. "wins; then the old two tie rules follow": the support given comes, by the four steps, before every other sound one.
abbrev pub WinsTies : Type 0
WinsTies =
    (j : Job) (is : List ℕ) → ruling j ≡ patch is
    → (ks : List ℕ) → In ks (subsets (candidate_nets j)) → sound j ks ≡ true → (ks ≡ is) ⊎ (better j is ks ≡ true)

-- "An unfixable input is given exactly when there is one, and it is the smallest."
abbrev pub UnfixableExactly : Type 0
UnfixableExactly =
    (j : Job) (x : ℕ)
    → (ruling j ≡ unfixable x)
    ↔ ((x < 2 ^ j.inputs) × (rectifiable j x ≡ false) × ((y : ℕ) → y < x → rectifiable j y ≡ true))

-- "Where every input is fixable and no table will do, we give the smallest reading of all priced nets whose inputs share no
-- setting."
abbrev pub BlindExactly : Type 0
BlindExactly =
    (j : Job) (r : ℕ)
    → (ruling j ≡ blind r)
    ↔ (((x : ℕ) → x < 2 ^ j.inputs → rectifiable j x ≡ true)
    × (r < 2 ^ length (candidate_nets j))
    × (shared j (candidate_nets j) r ≡ none)
    × ((q : ℕ) → q < r → shared j (candidate_nets j) q ≡ none → ⊥))

-- Card 4: "The test says equal exactly when the target's bits agree at every place of the two halves, whatever stands elsewhere in the
-- table." The test is `same` of the two halves' columns, which is what the contract of `halves_equal` gives of the table.
abbrev pub HalvesEqual : Type 0
HalvesEqual =
    (tb : List ℕ) (at half t : ℕ) → at + half + half ≤ length tb
    → (same (column (take half (drop at tb)) t) (column (take half (drop (at + half) tb)) t) ≡ true)
    ↔ ((i : ℕ) → i < half → bit t (get_or tb (at + i) 0) ≡ bit t (get_or tb (at + half + i) 0))

-- "Any netlist we fit, whoever wrote the sheet, has on every input the outputs of the old circuit driven by the sheet's table."
-- The sheet is any that is accepted; its table need not be sound.
abbrev pub FittedOutputs : Type 0
FittedOutputs =
    (j : Job) → PartsGood j → (p : Patch) → patch_good j.targets j.candidates p ≡ true
    → length p.table ≡ 2 ^ length p.support
    → let l = fitted j p.support p.table in
    (x : ℕ)
    → map (net_at (values (bits j.inputs x) l.gates)) l.outputs ≡ old_outputs j x (driven_by j p.support p.table x)

-- .. and it is a netlist over the job's inputs and no targets: its gates are good, its output nets exist, and there are as many
-- as the old ones.
abbrev pub FittedGood : Type 0
FittedGood =
    (j : Job) → PartsGood j → (p : Patch) → patch_good j.targets j.candidates p ≡ true
    → length p.table ≡ 2 ^ length p.support
    → let l = fitted j p.support p.table in
    (gates_good j.inputs l.gates ≡ true)
    × (all (λ o. ltb o (j.inputs + length l.gates)) l.outputs ≡ true)
    × (length l.outputs ≡ length j.old.outputs)

-- ---- the number in a reply

-- Demand 1: "each with the number that document 01 names": a reply's number is the number of the first test that fails, or 0.
abbrev pub NumberGiven : Type 0
NumberGiven =
    ((d s : List ℕ) → (judge_reply d s).number ≡ judge_number d s)
    × ((d s : List ℕ) → (choose_reply d s).number ≡ choose_number d s)
    × ((s p : List ℕ) → (compare_reply s p).number ≡ compare_number s p)
    × ((d s p : List ℕ) → (fit_reply d s p).number ≡ fit_number d s p)

-- ---- what judge and choose accept, and what they leave

-- Demand 1: "Everything else is accepted": a buffer for the longest sheet and bytes that are a whole job with good parts.
abbrev pub JudgeAccepts : Type 0
JudgeAccepts =
    (d s : List ℕ)
    → (judge_number d s ≡ 0) ↔ ((longest_judge ≤ length d) × (job_whole s ≡ true) × PartsGood (job_of s))

abbrev pub ChooseAccepts : Type 0
ChooseAccepts =
    (d s : List ℕ)
    → (choose_number d s ≡ 0) ↔ ((longest_choose ≤ length d) × (job_whole s ≡ true) × PartsGood (job_of s))

-- Demand 1: "each with the number that document 01 names, length 0 and no lent byte altered".
abbrev pub JudgeRefuses : Type 0
JudgeRefuses =
    (d s : List ℕ) → (judge_number d s ≡ 0 → ⊥)
    → (judge_reply d s ≡ declined_judge (judge_number d s)) × (judged_bytes d s ≡ d)

abbrev pub ChooseRefuses : Type 0
ChooseRefuses =
    (d s : List ℕ) → (choose_number d s ≡ 0 → ⊥)
    → (choose_reply d s ≡ declined_choose (choose_number d s)) × (chosen_bytes d s ≡ d)

-- Card 7: judge "wants 26 bytes", choose "2,084": a shorter buffer is 1, whatever the job. Given room, both give the job's number: they refuse
-- 2 to 6 alike.
abbrev pub RefuseAlike : Type 0
RefuseAlike =
    ((d s : List ℕ) → length d < longest_judge → judge_number d s ≡ 1)
    × ((d s : List ℕ) → length d < longest_choose → choose_number d s ≡ 1)
    × ((d s : List ℕ) → longest_judge ≤ length d → judge_number d s ≡ job_refusal s)
    × ((d s : List ℕ) → longest_choose ≤ length d → choose_number d s ≡ job_refusal s)

-- Document 01: "its reply fills the buffer's start; bytes or places behind its length are untouched".
abbrev pub JudgeKeeps : Type 0
JudgeKeeps =
    (d s : List ℕ) → let n = (judge_reply d s).len in (n ≤ length d) × (drop n (judged_bytes d s) ≡ drop n d)

abbrev pub ChooseKeeps : Type 0
ChooseKeeps =
    (d s : List ℕ) → let n = (choose_reply d s).len in (n ≤ length d) × (drop n (chosen_bytes d s) ≡ drop n d)

-- Demand 1: "no earlier job plays any part in its reply": two buffers of one length, whatever they held, get one reply, and the
-- same bytes as far as its length says.
abbrev pub JudgeIndependent : Type 0
JudgeIndependent =
    (d e s : List ℕ) → length d ≡ length e
    → (judge_reply d s ≡ judge_reply e s)
    × (take (judge_reply d s).len (judged_bytes d s) ≡ take (judge_reply e s).len (judged_bytes e s))

abbrev pub ChooseIndependent : Type 0
ChooseIndependent =
    (d e s : List ℕ) → length d ≡ length e
    → (choose_reply d s ≡ choose_reply e s)
    × (take (choose_reply d s).len (chosen_bytes d s) ≡ take (choose_reply e s).len (chosen_bytes e s))

-- Card 7: judge "wants 26 bytes", choose "2,084": the longest sheets have as many.
abbrev pub LongestJudge : Type 0
LongestJudge = (j : Job) → PartsGood j → length (judge_sheet j) ≤ longest_judge

abbrev pub LongestJudgeMet : Type 0
LongestJudgeMet =
    (d s : List ℕ) × Below 256 s × (judge_number d s ≡ 0) × ((judge_reply d s).len ≡ longest_judge)

abbrev pub LongestChoose : Type 0
LongestChoose = (j : Job) → PartsGood j → length (choose_sheet j) ≤ longest_choose

abbrev pub LongestChooseMet : Type 0
LongestChooseMet =
    (d s : List ℕ) × Below 256 s × (choose_number d s ≡ 0) × ((choose_reply d s).len ≡ longest_choose)

-- ---- what judge replies

-- Card 7: "Judge answers fixable or unfixable": one of them, and, as their tags differ, only one. Every input is fixable exactly when it
-- says so.
abbrev pub OneJudgement : Type 0
OneJudgement =
    (d s : List ℕ) → judge_number d s ≡ 0
    → let fields = judgement_fields (judge_reply d s).verdict in
    let isFixable = fields ≡ 19 ∷ [] in
    let isUnfixable = (x : ℕ) × (fields ≡ 20 ∷ x ∷ []) in
    (isFixable ⊎ isUnfixable) × (isFixable → isUnfixable → ⊥)

abbrev pub GivesFixable : Type 0
GivesFixable =
    (d s : List ℕ) → judge_number d s ≡ 0
    → (judgement_fields (judge_reply d s).verdict ≡ 19 ∷ [])
    ↔ ((x : ℕ) → x < 2 ^ (job_of s).inputs → rectifiable (job_of s) x ≡ true)

-- Demand 3: "An unfixable input is given exactly when there is one, and it is the smallest."
abbrev pub GivesUnfixable : Type 0
GivesUnfixable =
    (d s : List ℕ) (x : ℕ) → judge_number d s ≡ 0
    → (judgement_fields (judge_reply d s).verdict ≡ 20 ∷ x ∷ [])
    ↔ ((x < 2 ^ (job_of s).inputs) × (rectifiable (job_of s) x ≡ false) × ((y : ℕ) → y < x → rectifiable (job_of s) y ≡ true))

-- Demand 2: "its loop, smallest choices first, gives the listed settings": judge's sheet is the loop's list, behind the unfixable input
-- if there is one.
abbrev pub VectorsGiven : Type 0
VectorsGiven =
    (d s : List ℕ) → judge_number d s ≡ 0
    → let sheet = take (judge_reply d s).len (judged_bytes d s) in
    let fields = judgement_fields (judge_reply d s).verdict in
    let list = field 19 (vector_loop (job_of s)).vectors in
    (fields ≡ 19 ∷ [] → sheet ≡ list) × ((x : ℕ) → fields ≡ 20 ∷ x ∷ [] → sheet ≡ field 20 (four_bytes x) ++ list)

-- ---- what choose replies

-- Card 7: "Choose answers patch or blind": one of them, and only one.
abbrev pub OneChoice : Type 0
OneChoice =
    (d s : List ℕ) → choose_number d s ≡ 0
    → let fields = choice_fields (choose_reply d s).verdict in
    let is_patch = (c : ℕ) × (fields ≡ 18 ∷ c ∷ []) in
    let is_blind = (r : ℕ) × (fields ≡ 21 ∷ r ∷ []) in
    (is_patch ⊎ is_blind) × (is_patch → is_blind → ⊥)

-- Demand 3: "A patch is given exactly when the old circuit driven by some table over priced nets has the golden outputs on every
-- input."
abbrev pub GivesPatch : Type 0
GivesPatch =
    (d s : List ℕ) → choose_number d s ≡ 0
    → ((c : ℕ) × (choice_fields (choose_reply d s).verdict ≡ 18 ∷ c ∷ []))
    ↔ ((is : List ℕ) × In is (subsets (candidate_nets (job_of s))) × Carries (job_of s) is)

-- Card 1: "one byte a reading: 0 for a reading that no input gives, 1 where exactly one vector fixes all its inputs, 2 where several
-- do". Vectors are counted over all 2 ^ m.
abbrev pub SomeGives : Job → List ℕ → ℕ → Type 0
SomeGives j is r = (x : ℕ) × (x < 2 ^ j.inputs) × (reading j is x ≡ r)

abbrev pub RectifyAll : Job → List ℕ → ℕ → ℕ → Type 0
RectifyAll j is r v =
    (v < 2 ^ j.targets)
    × ((x : ℕ) → x < 2 ^ j.inputs → reading j is x ≡ r → old_outputs j x v ≡ golden_outputs j x)

pub record NoteIn (j : Job) (is : List ℕ) (r n : ℕ) : Type 0 where
  pub unseen : (n ≡ 0) ↔ (SomeGives j is r → ⊥)
  pub one : (n ≡ 1) ↔ (SomeGives j is r × ((v : ℕ) × RectifyAll j is r v × ((u : ℕ) → RectifyAll j is r u → u ≡ v)))
  pub several : (n ≡ 2)
      ↔ (SomeGives j is r × ((u : ℕ) × (v : ℕ) × RectifyAll j is r u × RectifyAll j is r v × (u ≡ v → ⊥)))

-- Demand 3: "The table given is then such a one, the cost given is its nets' prices added up, and no set of priced nets that
-- carries such a table costs less." The table given is the one in the reply buffer. Document 01: it "holds an entry below 2^m for
-- each of the 2^k readings", the smallest vectors that do. Card 5: no other sound support that costs as much, "with document 01's table for it,
-- has fewer patch gates"; those of the patch given are the trees that fit puts in for its support and table.
pub record PatchIn (j : Job) (c : ℕ) (p : Patch) : Type 0 where
  pub nets : In p.support (subsets (candidate_nets j))
  pub entries : length p.table ≡ 2 ^ length p.support
  pub below : (r : ℕ) → r < length p.table → get_or p.table r 0 < 2 ^ j.targets
  pub equal : (x : ℕ) → x < 2 ^ j.inputs → old_outputs j x (driven_by j p.support p.table x) ≡ golden_outputs j x
  pub smallest : p.table ≡ table_of j p.support
  pub given : p.cost ≡ c
  pub sum : c ≡ cost j p.support
  pub least : (ks : List ℕ) → In ks (subsets (candidate_nets j)) → Carries j ks → c ≤ cost j ks
  pub fewest : (ks : List ℕ) → In ks (subsets (candidate_nets j)) → Carries j ks → cost j ks ≡ c
      → length (trees j p.support p.table).gates ≤ length (trees j ks (table_of j ks)).gates
  pub rows : length p.notes ≡ length p.table
  pub notes : (r : ℕ) → r < length p.notes → NoteIn j p.support r (get_or p.notes r 0)

abbrev pub PatchGiven : Type 0
PatchGiven =
    (d s : List ℕ) (c : ℕ) → choose_number d s ≡ 0 → choice_fields (choose_reply d s).verdict ≡ 18 ∷ c ∷ []
    → PatchIn (job_of s) c (patch_of (take (choose_reply d s).len (chosen_bytes d s)))

-- Card 7: its fields are "16, 17, 18, 22", and nothing after.
abbrev pub PatchFields : Type 0
PatchFields =
    (d s : List ℕ) (c : ℕ) → choose_number d s ≡ 0 → choice_fields (choose_reply d s).verdict ≡ 18 ∷ c ∷ []
    → whole (16 ∷ 17 ∷ 18 ∷ 22 ∷ []) (take (choose_reply d s).len (chosen_bytes d s)) ≡ true

-- Inputs "share no setting" (demand 3) where none rectifies all that give the reading.
abbrev pub SharesNone : Type 0
SharesNone = (j : Job) (is : List ℕ) (r : ℕ) → (shared j is r ≡ none) ↔ ((v : ℕ) → RectifyAll j is r v → ⊥)

-- Demand 3: ".. no table will do, we give the smallest reading of all priced nets whose inputs share no setting." With card 7 choose says
-- so whether or not every input is fixable.
abbrev pub GivesBlind : Type 0
GivesBlind =
    (d s : List ℕ) (r : ℕ) → choose_number d s ≡ 0
    → (choice_fields (choose_reply d s).verdict ≡ 21 ∷ r ∷ [])
    ↔ ((r < 2 ^ length (candidate_nets (job_of s)))
    × (shared (job_of s) (candidate_nets (job_of s)) r ≡ none)
    × ((q : ℕ) → q < r → shared (job_of s) (candidate_nets (job_of s)) q ≡ none → ⊥))

-- .. and blind is said exactly where no set of priced nets carries a table.
abbrev pub GivesBlindExactly : Type 0
GivesBlindExactly =
    (d s : List ℕ) → choose_number d s ≡ 0
    → ((r : ℕ) × (choice_fields (choose_reply d s).verdict ≡ 21 ∷ r ∷ []))
    ↔ ((is : List ℕ) → In is (subsets (candidate_nets (job_of s))) → Carries (job_of s) is → ⊥)

-- Card 7: "An unfixable job given to choose is blind, at the smallest reading whose inputs share no vector." There is one: the inputs that
-- give the reading of an unfixable input share no vector, as none rectifies that input. So the one given is at most this.
abbrev pub UnfixableBlind : Type 0
UnfixableBlind =
    (d s : List ℕ) (x : ℕ) → choose_number d s ≡ 0 → x < 2 ^ (job_of s).inputs → rectifiable (job_of s) x ≡ false
    → let j = job_of s in
    let r = reading j (candidate_nets j) x in
    (shared j (candidate_nets j) r ≡ none)
    × ((q : ℕ) × (choice_fields (choose_reply d s).verdict ≡ 21 ∷ q ∷ []) × (q ≤ r))

-- A blind sheet is field 21 alone.
abbrev pub BlindGiven : Type 0
BlindGiven =
    (d s : List ℕ) (r : ℕ) → choose_number d s ≡ 0 → choice_fields (choose_reply d s).verdict ≡ 21 ∷ r ∷ []
    → take (choose_reply d s).len (chosen_bytes d s) ≡ field 21 (byte_pair r)

-- ---- what compare replies

-- Demand 1, for compare: a whole job with good parts, and a whole patch sheet that is good for it.
abbrev pub CompareAccepts : Type 0
CompareAccepts =
    (s p : List ℕ)
    → (compare_number s p ≡ 0)
    ↔ ((job_whole s ≡ true)
    × PartsGood (job_of s)
    × (sheet_whole p ≡ true)
    × (patch_good (job_of s).targets (job_of s).candidates (patch_of p) ≡ true))

-- Demand 1: "each with the number that document 01 names", and no result.
abbrev pub CompareRefuses : Type 0
CompareRefuses =
    (s p : List ℕ) → (compare_number s p ≡ 0 → ⊥)
    → compare_reply s p ≡ record { number = compare_number s p; result = none }

-- Document 01: "Compare says equal, or gives the smallest input at which the driven old outputs differ from the golden ones."
abbrev pub ComparesEqual : Type 0
ComparesEqual =
    (s p : List ℕ) → compare_number s p ≡ 0
    → ((compare_reply s p).result ≡ comparison_of none)
    ↔ ((x : ℕ) → x < 2 ^ (job_of s).inputs
    → old_outputs (job_of s) x (driven_by (job_of s) (patch_of p).support (patch_of p).table x) ≡ golden_outputs (job_of s) x)

abbrev pub ComparesDiffers : Type 0
ComparesDiffers =
    (s p : List ℕ) (x : ℕ) → compare_number s p ≡ 0
    → ((compare_reply s p).result ≡ comparison_of (some x))
    ↔ ((x < 2 ^ (job_of s).inputs)
    × (old_outputs (job_of s) x (driven_by (job_of s) (patch_of p).support (patch_of p).table x) ≡ golden_outputs (job_of s) x → ⊥)
    × ((y : ℕ) → y < x
    → old_outputs (job_of s) y (driven_by (job_of s) (patch_of p).support (patch_of p).table y) ≡ golden_outputs (job_of s) y))

-- Card 1: "Fit and compare take sheets with or without it." Notes ns, one for each entry of the table and none above 2, put behind the
-- three fields of a sheet, whatever these say, leave compare's reply as it is.
abbrev pub CompareIgnoresNotes : Type 0
CompareIgnoresNotes =
    (s p ns : List ℕ) → whole sheet_tags p ≡ true → length ns ≡ length (patch_of p).table → Below 3 ns
    → compare_reply s (p ++ field notes_tag ns) ≡ compare_reply s p

-- ---- what fit replies

-- Demand 1, for fit: a buffer for the longest result, a whole job with good parts, a whole patch sheet that is good for it, and at
-- most 400 gates.
abbrev pub FitAccepts : Type 0
FitAccepts =
    (d s p : List ℕ)
    → (fit_number d s p ≡ 0)
    ↔ ((longest_fit ≤ length d) × (compare_number s p ≡ 0) × (fits (job_of s) (patch_of p).support (patch_of p).table ≡ true))

-- Demand 1: "and a patched netlist over 400 gates, each with the number that document 01 names, length 0 and no lent byte altered".
abbrev pub FitRefuses : Type 0
FitRefuses =
    (d s p : List ℕ) → (fit_number d s p ≡ 0 → ⊥)
    → (fit_reply d s p ≡ record { number = fit_number d s p; len = 0 }) × (fitted_buffer d s p ≡ d)

-- Document 01: "its reply fills the buffer's start; bytes or places behind its length are untouched".
abbrev pub FitKeeps : Type 0
FitKeeps =
    (d s p : List ℕ) → let n = (fit_reply d s p).len in (n ≤ length d) × (drop n (fitted_buffer d s p) ≡ drop n d)

-- Demand 1: "no earlier job plays any part in its reply".
abbrev pub FitIndependent : Type 0
FitIndependent =
    (d e s p : List ℕ) → length d ≡ length e
    → (fit_reply d s p ≡ fit_reply e s p)
    × (take (fit_reply d s p).len (fitted_buffer d s p) ≡ take (fit_reply e s p).len (fitted_buffer e s p))

-- Card 6: the longest fitted netlist is 4,075 bytes.
abbrev pub LongestFit : Type 0
LongestFit =
    (s : List ℕ) → PartsGood (job_of s) → (is t : List ℕ) → fits (job_of s) is t ≡ true
    → length (fitted_bytes (job_of s) is t) ≤ longest_fit

abbrev pub LongestFitMet : Type 0
LongestFitMet =
    (d s p : List ℕ) × Below 256 s × Below 256 p × (fit_number d s p ≡ 0) × ((fit_reply d s p).len ≡ longest_fit)

-- Demand 3: "Any netlist we fit, whoever wrote the sheet, has on every input the outputs of the old circuit driven by the sheet's
-- table." The netlist is the one that the bytes in the reply buffer hold, over the job's inputs and no targets; it is well formed.
-- Document 01: "Fit writes fields 1 (n and 0), 2 and 3 of the patched netlist": the bytes are three whole fields, those of the
-- patched netlist, and nothing after.
pub record FittedIn (j : Job) (p : Patch) (b : List ℕ) : Type 0 where
  pub fields : whole (1 ∷ 2 ∷ 3 ∷ []) b ≡ true
  pub bytes : b
      ≡ field 1 (j.inputs ∷ 0 ∷ [])
      ++ field 2 (flat gate_bytes (gates_of (nth 1 b)))
      ++ field 3 (flat byte_pair (nets_of (nth 2 b)))
  pub netlist : netlist_of (nth 1 b) (nth 2 b) ≡ fitted j p.support p.table
  pub counts : nth 0 b ≡ j.inputs ∷ 0 ∷ []
  pub gates : gates_good j.inputs (gates_of (nth 1 b)) ≡ true
  pub few : length (gates_of (nth 1 b)) ≤ max_gates
  pub nets : all (λ o. ltb o (j.inputs + length (gates_of (nth 1 b)))) (nets_of (nth 2 b)) ≡ true
  pub outputs : (x : ℕ)
      → map (net_at (values (bits j.inputs x) (gates_of (nth 1 b)))) (nets_of (nth 2 b))
      ≡ old_outputs j x (driven_by j p.support p.table x)

abbrev pub FittedGiven : Type 0
FittedGiven =
    (d s p : List ℕ) → fit_number d s p ≡ 0
    → FittedIn (job_of s) (patch_of p) (take (fit_reply d s p).len (fitted_buffer d s p))

-- Card 1, for fit.
abbrev pub FitIgnoresNotes : Type 0
FitIgnoresNotes =
    (d s p ns : List ℕ) → whole sheet_tags p ≡ true → length ns ≡ length (patch_of p).table → Below 3 ns
    → (fit_reply d s (p ++ field notes_tag ns) ≡ fit_reply d s p) × (fitted_buffer d s (p ++ field notes_tag ns) ≡ fitted_buffer d s p)

-- ---- sheets that both refuse with 7

-- Card 7: "a field 19 is 7", wherever it stands: behind any whole fields, and whatever stands behind it.
abbrev pub VectorsSeven : Type 0
VectorsSeven =
    (s ts a b : List ℕ) → job_refusal s ≡ 0 → whole ts a ≡ true → field_fits 19 b ≡ true
    → (compare_number s (a ++ b) ≡ 7) × ((d : List ℕ) → longest_fit ≤ length d → fit_number d s (a ++ b) ≡ 7)

-- Card 1: "another length or a byte above 2 is 7", whatever the three fields say.
abbrev pub NotesSeven : Type 0
NotesSeven =
    (s p ns : List ℕ) → job_refusal s ≡ 0 → whole sheet_tags p ≡ true
    → ((length ns ≡ length (patch_of p).table) × Below 3 ns → ⊥)
    → (compare_number s (p ++ field notes_tag ns) ≡ 7)
    × ((d : List ℕ) → longest_fit ≤ length d → fit_number d s (p ++ field notes_tag ns) ≡ 7)

-- .. and so are bytes r left over behind the three fields, if there are any and they are no whole field 22 with one byte for each entry
-- of the table and none above 2.
abbrev pub LeftOverSeven : Type 0
LeftOverSeven =
    (s p r : List ℕ) → job_refusal s ≡ 0 → whole sheet_tags p ≡ true → (length r ≡ 0 → ⊥)
    → ((whole (notes_tag ∷ []) r ≡ true) × (length (nth 0 r) ≡ length (patch_of p).table) × Below 3 (nth 0 r) → ⊥)
    → (compare_number s (p ++ r) ≡ 7) × ((d : List ℕ) → longest_fit ≤ length d → fit_number d s (p ++ r) ≡ 7)

-- Beside an accepted job both give 7 exactly to what is no whole sheet.
abbrev pub SevenExactly : Type 0
SevenExactly =
    (s p : List ℕ) → job_refusal s ≡ 0
    → ((compare_number s p ≡ 7) ↔ (sheet_whole p ≡ false))
    × ((d : List ℕ) → longest_fit ≤ length d → (fit_number d s p ≡ 7) ↔ (sheet_whole p ≡ false))

-- ---- choose, then compare or fit

-- What a user does with a patch. The sheet that choose leaves in its buffer d is accepted by compare, which says equal.
abbrev pub ChosenEqual : Type 0
ChosenEqual =
    (d s : List ℕ) (c : ℕ) → choose_number d s ≡ 0 → choice_fields (choose_reply d s).verdict ≡ 18 ∷ c ∷ []
    → compare_reply s (take (choose_reply d s).len (chosen_bytes d s)) ≡ record { number = 0; result = comparison_of none }

-- Fit, with a buffer e for the longest result, accepts it, or gives 9 where the patched netlist has over 400 gates.
abbrev pub ChosenFits : Type 0
ChosenFits =
    (d e s : List ℕ) (c : ℕ) → choose_number d s ≡ 0 → choice_fields (choose_reply d s).verdict ≡ 18 ∷ c ∷ []
    → longest_fit ≤ length e
    → let p = take (choose_reply d s).len (chosen_bytes d s) in
    (fit_number e s p ≡ 0)
    ⊎ ((fit_number e s p ≡ 9) × (fits (job_of s) (patch_of p).support (patch_of p).table ≡ false))

-- Where it accepts it, the netlist that the bytes in its buffer hold has the golden outputs on every input.
abbrev pub ChosenFitted : Type 0
ChosenFitted =
    (d e s : List ℕ) (c : ℕ) → choose_number d s ≡ 0 → choice_fields (choose_reply d s).verdict ≡ 18 ∷ c ∷ []
    → let p = take (choose_reply d s).len (chosen_bytes d s) in
    fit_number e s p ≡ 0
    → let b = take (fit_reply e s p).len (fitted_buffer e s p) in
    (x : ℕ) → x < 2 ^ (job_of s).inputs
    → map (net_at (values (bits (job_of s).inputs x) (gates_of (nth 1 b)))) (nets_of (nth 2 b)) ≡ golden_outputs (job_of s) x

-- ---- card 8: a vector list without waste

-- The vector list in a sheet of judge: its last field.
unfoldable pub list_in : List ℕ → List ℕ
list_in b = cond (eqb (get_or b 0 0) 20) (nth 1 b) (nth 0 b)

-- "No vector is listed twice, .. there are at most 2^m, .. each after the first fixes an input that none before it fixes."
pub record WithoutWaste (j : Job) (vs : List ℕ) : Type 0 where
  pub once : (a b : ℕ) → a < length vs → b < length vs → get_or vs a 0 ≡ get_or vs b 0 → a ≡ b
  pub most : length vs ≤ 2 ^ j.targets
  pub needed : (a : ℕ) → 0 < a → a < length vs
      → (x : ℕ)
      × (x < 2 ^ j.inputs)
      × (old_outputs j x (get_or vs a 0) ≡ golden_outputs j x)
      × ((b : ℕ) → b < a → old_outputs j x (get_or vs b 0) ≡ golden_outputs j x → ⊥)

abbrev pub NoWaste : Type 0
NoWaste =
    (d s : List ℕ) → judge_number d s ≡ 0
    → WithoutWaste (job_of s) (list_in (take (judge_reply d s).len (judged_bytes d s)))

-- "Putting both output lists in the same new order leaves judge's and choose's sheets byte for byte equal." The order is a list of
-- places, each of the n once: as many as there are, and none left out. Output nets may repeat. Bytes t that hold the job so changed are
-- accepted where s is.
pub record Rearranges (n : ℕ) (ps : List ℕ) : Type 0 where
  pub many : length ps ≡ n
  pub below : (i : ℕ) → i < n → get_or ps i 0 < n
  pub each : (p : ℕ) → p < n → In p ps

unfoldable pub in_order : List ℕ → List ℕ → List ℕ
in_order ps xs = map (λ p. get_or xs p 0) ps

unfoldable pub reordered : List ℕ → Job → Job
reordered ps j =
    record {
      inputs = j.inputs;
      targets = j.targets;
      old = record { gates = j.old.gates; outputs = in_order ps j.old.outputs };
      golden = record { gates = j.golden.gates; outputs = in_order ps j.golden.outputs };
      candidates = j.candidates;
    }

abbrev pub AnyOrder : Type 0
AnyOrder =
    (s t ps : List ℕ) → Rearranges (length (job_of s).old.outputs) ps → job_whole t ≡ true → job_of t ≡ reordered ps (job_of s)
    → ((d : List ℕ) → judge_number d s ≡ 0 → (judge_reply d s ≡ judge_reply d t) × (judged_bytes d s ≡ judged_bytes d t))
    × ((d : List ℕ) → choose_number d s ≡ 0 → (choose_reply d s ≡ choose_reply d t) × (chosen_bytes d s ≡ chosen_bytes d t))
