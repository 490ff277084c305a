-- The gates of a miter in the lists that a walk evaluates: those that outputs or readings need, in two lists, for no target leads to the
-- first ones, and, for each target, those that it leads to (src/plan.rt, src/planning.rt). No public contract cites this file. Assumes nothing.
--
--   code_mark vs c            the mark of the packed gate c where the nets have the marks vs: 1 if an operand has one, else 0
--   marks_of base from k gs   1 for each net that a path of gates leads to from one of the k leaves from .. on, else 0
--   marked ms i               net i has a mark
--   Closed live base gs       a gate of gs that is live has live operands
--   Agrees j live x v vs      on the live nets the values vs are those of the miter at input x and vector v
--   BlockAt j live b v words  .. in each of the 1,024 scenarios of block b: at input 1,024 b + y and vector v y
--   fanned j, led_by j t      net i of the miter is a target or led to by one; .. target t or led to by it
--   BlockFree j live b words  on the live nets that are not, the values are those of the miter in each scenario of block b, whatever the vector
--   marked_all ms is          the marks ms, and a mark for each net of is
--   live_from ms cs           the marks ms, and from the last gate of cs to the first one for each operand of a gate with a mark
--   live_marks os gs is cs    .. from the outputs os and gs and the nets is on
--   leaves_from from k        the marks of 1,024 nets where the k from from on have one
--   marks_from cs from k      .. and the gates cs, in turn, give theirs
--   picked live ms led cs     the gates of cs that have a mark in live, and one in ms (where led says so) or none there
--   list_at, lists_to         list s of a plan: the live gates that no target leads to, the others, those that target s - 2 leads to; the lists
--                             up to it, one behind the other
--   ListPut list at ..        the places with one list more, from place at on, as far as there is room
--   ListsUpTo n ..            the ends and the places of the first n lists, as far as there is room
--   NetsRead s                the nets of the support s may be read
--   PlanLists j hs live ends gates  the first two lists, of the gates hs in place of the miter's
--   ReadsOf j is p            before the first end, p has the gates of the good job j that lead to the nets is, which it reads, and that no
--                             target leads to
--   PlannedOf j is p          p is a plan of the good job j where the nets is are read
--   TurnsOf j is p            .. with the lists of all targets
use Rattle.std.specs.Prelude.{ℕ, zero, suc, ◌+◌, ◌*◌, ◌≤◌, ◌<◌, ◌≡◌, List, [], ◌∷◌, ◌++◌, map, Bool, true, false, cond, not, ◌&&◌, eqb, leb, ltb, length, get_or, take, set, replicate}
use Rattle.std.proofs.Math.Seq.{slice}
use Rattle.records.specs.Bytes.{all, tabulate}
use Rattle.records.specs.Gate.{Gate, gate_of, operands, disj}
use Rattle.records.specs.Netlist.{net_at, extended, mark_of}
use Rattle.records.specs.Job.{Job}
use Rattle.records.specs.Claims.{PartsGood, Below}
use Rattle.engine.specs.Choice.{keep}
use Rattle.engine.specs.Inner.Packed.{own, packed_from, operands_of, evaluated}
use Rattle.engine.specs.Inner.Kernel.{column}
use Rattle.engine.specs.Inner.Miter.{miter_gates, miter_nets, miter_values, SameGates, PairsOf}
use Rattle.records.specs.declared.sheet.Support.{Support}
use Rattle.engine.specs.declared.plan.Plan.{Plan}

unfoldable pub code_mark : List ℕ → ℕ → ℕ
code_mark vs c = disj (map (net_at vs) (operands_of c))

unfoldable pub marks_of : ℕ → ℕ → ℕ → List Gate → List ℕ
marks_of base from k gs = extended mark_of (tabulate base (λ i. cond (leb from i && ltb i (from + k)) 1 0)) gs

abbrev pub marked : List ℕ → ℕ → Bool
marked ms i = not (eqb (net_at ms i) 0)

abbrev pub Closed : (ℕ → Bool) → ℕ → List Gate → Type 0
Closed live base gs =
    (i : ℕ) → i < length gs → live (base + i) ≡ true → all live (operands (get_or gs i (gate_of 0 0 0 0 0 0))) ≡ true

abbrev pub Agrees : Job → (ℕ → Bool) → ℕ → ℕ → List ℕ → Type 0
Agrees j live x v vs = (i : ℕ) → i < miter_nets j → live i ≡ true → net_at vs i ≡ net_at (miter_values j x v) i

pub record BlockAt (j : Job) (live : ℕ → Bool) (b : ℕ) (v : ℕ → ℕ) (words : List ℕ) : Type 0 where
  pub agrees : (y : ℕ) → y < 1024 → Agrees j live (1024 * b + y) (v y) (column words y)

abbrev pub fanned : Job → ℕ → Bool
fanned j = marked (marks_of (j.inputs + j.targets) j.inputs j.targets (miter_gates j))

abbrev pub led_by : Job → ℕ → ℕ → Bool
led_by j t = marked (marks_of (j.inputs + j.targets) (j.inputs + t) 1 (miter_gates j))

pub record BlockFree (j : Job) (live : ℕ → Bool) (b : ℕ) (words : List ℕ) : Type 0 where
  pub agrees : (y v : ℕ) → y < 1024 → Agrees j (λ i. live i && not (fanned j i)) (1024 * b + y) v (column words y)

-- ---- marks and lists as the code makes them

unfoldable pub marked_all : List ℕ → List ℕ → List ℕ
marked_all ms [] = ms
marked_all ms (i ∷ is) = marked_all (set ms i 1) is

unfoldable pub live_from : List ℕ → List ℕ → List ℕ
live_from ms [] = ms
live_from ms (c ∷ cs) =
    cond (marked (live_from ms cs) (own c)) (marked_all (live_from ms cs) (operands_of c)) (live_from ms cs)

unfoldable pub live_marks : List ℕ → List ℕ → List ℕ → List ℕ → List ℕ
live_marks os gs is cs = live_from (marked_all (marked_all (marked_all (replicate 1024 0) os) gs) is) cs

unfoldable pub leaves_from : ℕ → ℕ → List ℕ
leaves_from from k = tabulate 1024 (λ i. cond (leb from i && ltb i (from + k)) 1 0)

unfoldable pub marks_from : List ℕ → ℕ → ℕ → List ℕ
marks_from cs from k = evaluated code_mark (leaves_from from k) cs

unfoldable pub picked : List ℕ → List ℕ → Bool → List ℕ → List ℕ
picked live ms led cs = keep (λ c. marked live (own c) && cond led (marked ms (own c)) (not (marked ms (own c)))) cs

module _ (inputs targets : ℕ) (live cs : List ℕ) where
  unfoldable pub list_at : ℕ → List ℕ
  list_at zero = picked live (marks_from cs inputs targets) false cs
  list_at (suc zero) = picked live (marks_from cs inputs targets) true cs
  list_at (suc (suc t)) = picked live (marks_from cs (inputs + t) 1) true cs

  unfoldable pub lists_to : ℕ → List ℕ
  lists_to zero = list_at zero
  lists_to (suc s) = lists_to s ++ list_at (suc s)

-- a list put from place at on, as far as there is room; end is behind it
pub record ListPut (list : List ℕ) (at : ℕ) (before : List ℕ) (end : ℕ) (after : List ℕ) : Type 0 where
  pub long : length after ≡ 2400
  pub within : end ≤ 2400
  pub front : take end after ≡ take 2400 (take at before ++ list)

-- the first n lists, and the end of each
pub record ListsUpTo (n inputs targets : ℕ) (live cs ends gates : List ℕ) : Type 0 where
  pub long : length gates ≡ 2400
  pub six : length ends ≡ 6
  pub within : (s : ℕ) → get_or ends s 0 ≤ 2400
  pub fronts : (s : ℕ) → s < n → take (get_or ends s 0) gates ≡ take 2400 (lists_to inputs targets live cs s)

-- ---- a plan

pub record NetsRead (s : Support) : Type 0 where
  pub below : Below 1024 s.nets
  pub few : s.len ≤ 10

pub record PlanLists (j : Job) (hs : List Gate) (live : ℕ → Bool) (ends gates : List ℕ) : Type 0 where
  pub order : get_or ends 0 0 ≤ get_or ends 1 0
  pub free : slice 0 (get_or ends 0 0) gates
      ≡ keep (λ c. live (own c) && not (fanned j (own c))) (packed_from (j.inputs + j.targets) hs)
  pub fan : slice (get_or ends 0 0) (get_or ends 1 0) gates
      ≡ keep (λ c. live (own c) && fanned j (own c)) (packed_from (j.inputs + j.targets) hs)

pub record ReadsOf (j : Job) (is : List ℕ) (p : Plan) : Type 0 where
  pub good : PartsGood j
  pub inputs : p.inputs ≡ j.inputs
  pub targets : p.targets ≡ j.targets
  pub nets : take p.reads.len p.reads.nets ≡ is
  pub merged : List Gate
  pub same : SameGates (j.inputs + j.targets) (miter_gates j) merged
  pub live : ℕ → Bool
  pub closed : Closed live (j.inputs + j.targets) merged
  pub live-nets : all live is ≡ true
  pub free : slice 0 (get_or p.ends 0 0) p.gates
      ≡ keep (λ c. live (own c) && not (fanned j (own c))) (packed_from (j.inputs + j.targets) merged)

pub record PlannedOf (j : Job) (is : List ℕ) (p : Plan) : Type 0 where
  pub good : PartsGood j
  pub inputs : p.inputs ≡ j.inputs
  pub targets : p.targets ≡ j.targets
  pub pairs : PairsOf j (take p.outs p.outputs) (take p.outs p.goldens)
  pub nets : take p.reads.len p.reads.nets ≡ is
  pub merged : List Gate
  pub same : SameGates (j.inputs + j.targets) (miter_gates j) merged
  pub live : ℕ → Bool
  pub closed : Closed live (j.inputs + j.targets) merged
  pub live-outputs : all live (take p.outs p.outputs) ≡ true
  pub live-goldens : all live (take p.outs p.goldens) ≡ true
  pub live-nets : all live is ≡ true
  pub lists : PlanLists j merged live p.ends p.gates

pub record TurnsOf (j : Job) (is : List ℕ) (p : Plan) : Type 0 where
  pub planned : PlannedOf j is p
  pub lists : (t : ℕ) → t < j.targets
      → slice (get_or p.ends (t + 1) 0) (get_or p.ends (t + 2) 0) p.gates
      ≡ keep (λ c. planned.live (own c) && led_by j t (own c)) (packed_from (j.inputs + j.targets) planned.merged)
