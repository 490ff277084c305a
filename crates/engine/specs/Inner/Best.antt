-- Supports as sets of candidates, and what the sets of vectors of all readings say of them (src/best.rt, src/pick.rt). A set of candidates is a
-- number whose bit i says whether candidate i is in it. No public contract cites this file. Assumes nothing.
--
--   picked xs s            the elements of xs whose places are in the set s, in their order
--   RectifiesAll j is r v  vector v rectifies every input that gives reading r of the nets is
--   ReadingSets j ss       the set of reading r of all candidates holds the vectors that rectify every input giving r
--   SetsOf j is ss         .. of reading r of the nets is, for a job whose vectors all fit a set
--   NotEmpty t             the set of vectors t has one
--   GivenBits j is ss k    bit 16 of a set of the nets is is 0 only where some input gives the reading; where it is 1, none does but in ranges of
--                          2 ^ 15 inputs that were skipped, bit i of k for range i
--   FilledTo ss n          none of the first n sets is empty
--   first_empty ss         the first place whose set is empty, if there is one
--   spread i q             the reading q with a bit 0 put in at place i: of one net more, at place i, whose value is 0
--   joined_at ss i q       the vectors in the sets of both readings that are q without net i
--   LeftOut ss n i b ps    ps are the sets of n nets, made by leaving out net i of those of ss, up to the first that is empty, and b says whether
--                          none is
--   PickedNets is s r      the support r has the nets of is whose places are in s
--   low_first n a b        of the sets a and b of n candidates, a has the lowest in which they differ
--   before p q             pick p is chosen before pick q: lower cost, then fewer gates, then fewer nets, then the smaller net
--   open_at is i s         the nets is up to place i, and of those from there on the ones that are in the set s
--   candidate_weights j    the weights of all candidates
--   OpenPick i p           pick p has room for i candidates more
--   PricedOf j p           the struct p has the priced nets of job j, which ascend, and the sets of all of them
--   PickOf j p             pick p is a sound support of job j; its gates are counted, if they are there
--   CountedOf j p          .. are counted
--   OpenOf j i p ss        pick p says which candidates from place i on are in a support; with all those before it is sound
--   BestFrom j i s b r     of pick b and the sound sets that are s from place i on, r is the one that is chosen
--   HeldSupport r          the nets of the support r stand in its ten places
--   Choosable j p          the job whose candidates, and sets of vectors, the struct p has, has a sound support
--   ChosenOf j s c ss      the support s is the chosen one of job j, c its cost, and ss are its sets
use Rattle.std.specs.Prelude.{ℕ, zero, suc, ◌+◌, ◌-◌, ◌*◌, ◌/◌, ◌%◌, ◌^◌, ◌≤◌, ◌<◌, ◌≡◌, ◌↔◌, ◌⊎◌, List, [], ◌∷◌, ◌++◌, map, Bool, true, false, cond, ◌&&◌, ◌||◌, eqb, length, get_or, take, drop, sum, Option, Some, None, position, ◌==◌}
use Rattle.std.specs.Ordering.{is_lt, is_eq, nat_cmp, ordering_then}
use Rattle.std.specs.Option.{option_cmp}
use Rattle.std.specs.Int.Bits.{bit_and}
use Rattle.records.specs.Job.{Job, Candidate}
use Rattle.records.specs.Refusal.{max_targets, max_candidates, ascending}
use Rattle.records.specs.Service.{candidates_from}
use Rattle.records.specs.declared.sheet.Support.{Support}
use Rattle.engine.specs.Eval.{bit}
use Rattle.engine.specs.Claims.{SomeGives}
use Rattle.engine.specs.Rectify.{rectifies}
use Rattle.engine.specs.Support.{reading, sound, candidate_nets, cost, patch_gates, better, chosen}
use Rattle.engine.specs.Inner.List.{max_vectors}
use Rattle.engine.specs.Inner.Note.{max_readings}
use Rattle.engine.specs.declared.pick.Pick.{Pick}
use Rattle.engine.specs.declared.pick.Priced.{Priced}

unfoldable pub picked : {A : Type 0} → List A → ℕ → List A
picked [] s = []
picked (x ∷ xs) s = cond (eqb (bit 0 s) 1) (x ∷ picked xs (s / 2)) (picked xs (s / 2))

-- ---- the sets of a support's readings

abbrev pub RectifiesAll : Job → List ℕ → ℕ → ℕ → Type 0
RectifiesAll j is r v = (x : ℕ) → x < 2 ^ j.inputs → reading j is x ≡ r → rectifies j x v ≡ true

pub record ReadingSets (j : Job) (ss : List ℕ) : Type 0 where
  pub long : length ss ≡ max_readings
  pub sets : (r v : ℕ) → r < 2 ^ length (candidate_nets j) → v < max_vectors
      → (bit v (get_or ss r 0) ≡ 1) ↔ ((v < 2 ^ j.targets) × RectifiesAll j (candidate_nets j) r v)

pub record SetsOf (j : Job) (is ss : List ℕ) : Type 0 where
  pub targets : j.targets ≤ max_targets
  pub sets : (r v : ℕ) → r < 2 ^ length is → v < max_vectors
      → (bit v (get_or ss r 0) ≡ 1) ↔ ((v < 2 ^ j.targets) × RectifiesAll j is r v)

abbrev pub NotEmpty : ℕ → Type 0
NotEmpty t = (v : ℕ) × (v < max_vectors) × (bit v t ≡ 1)

pub record GivenBits (j : Job) (is ss : List ℕ) (k : ℕ) : Type 0 where
  pub given : (r : ℕ) → r < 2 ^ length is → bit max_vectors (get_or ss r 0) ≡ 0 → SomeGives j is r
  pub unmet : (r : ℕ) → r < 2 ^ length is → bit max_vectors (get_or ss r 0) ≡ 1
      → (x : ℕ) → x < 2 ^ j.inputs → bit (x / 32768) k ≡ 0 → reading j is x ≡ r → ⊥

abbrev pub FilledTo : List ℕ → ℕ → Type 0
FilledTo ss n = (q : ℕ) → q < n → NotEmpty (get_or ss q 0)

abbrev pub first_empty : List ℕ → Option ℕ
first_empty ss = position (λ t. t % 65536 == 0) ss

-- ---- a net left out

unfoldable pub spread : ℕ → ℕ → ℕ
spread zero q = 2 * q
spread (suc i) q = q % 2 + 2 * spread i (q / 2)

unfoldable pub joined_at : List ℕ → ℕ → ℕ → ℕ
joined_at ss i q = bit_and (get_or ss (spread i q) 0) (get_or ss (spread i q + 2 ^ i) 0)

pub record LeftOut (ss : List ℕ) (n i : ℕ) (sound : Bool) (ps : List ℕ) : Type 0 where
  pub filled : sound ≡ true → (q : ℕ) → q < 2 ^ n → (get_or ps q 0 ≡ joined_at ss i q) × NotEmpty (joined_at ss i q)
  pub empty : sound ≡ false → (q : ℕ) × (q < 2 ^ n) × (joined_at ss i q % 65536 ≡ 0)

-- ---- picks

pub record PickedNets (is : List ℕ) (s : ℕ) (r : Support) : Type 0 where
  pub len : r.len ≡ length (picked is s)
  pub nets : take r.len r.nets ≡ picked is s

unfoldable pub low_first : ℕ → ℕ → ℕ → Bool
low_first zero a b = false
low_first (suc n) a b = cond (eqb (a % 2) (b % 2)) (low_first n (a / 2) (b / 2)) (eqb (a % 2) 1)

unfoldable pub before : Pick → Pick → Bool
before p q =
    let o = ordering_then (ordering_then (nat_cmp p.cost q.cost) (option_cmp nat_cmp p.gates q.gates)) (nat_cmp p.len q.len) in
    is_lt o || (is_eq o && low_first max_candidates p.set q.set)

unfoldable pub open_at : List ℕ → ℕ → ℕ → List ℕ
open_at is i s = take i is ++ picked (drop i is) s

unfoldable pub candidate_weights : Job → List ℕ
candidate_weights j = map (λ (c : Candidate). c.weight) j.candidates

pub record OpenPick (i : ℕ) (p : Pick) : Type 0 where
  pub places : i ≤ p.len
  pub set : p.set < 2 ^ (max_candidates - i)
  pub cost : p.cost ≤ 65535 * (max_candidates - i)

pub record PricedOf (j : Job) (p : Priced) : Type 0 where
  pub count : length p.nets.now ≡ length (candidate_nets j)
  pub ascends : ascending (candidate_nets j) ≡ true
  pub weights : (i : ℕ) → i < length (candidate_nets j) → get_or (candidate_weights j) i 0 ≡ get_or p.weights.now i 0
  pub targets : p.targets ≡ j.targets
  pub sets : SetsOf j (candidate_nets j) p.sets.now

pub record PickOf (j : Job) (p : Pick) : Type 0 where
  pub set : p.set < 2 ^ length (candidate_nets j)
  pub len : p.len ≡ length (picked (candidate_nets j) p.set)
  pub cost : p.cost ≡ cost j (picked (candidate_nets j) p.set)
  pub sound : sound j (picked (candidate_nets j) p.set) ≡ true
  pub gates : (p.gates ≡ None) ⊎ (p.gates ≡ Some (patch_gates j (picked (candidate_nets j) p.set)))

pub record CountedOf (j : Job) (p : Pick) : Type 0 where
  pub pick : PickOf j p
  pub gates : p.gates ≡ Some (patch_gates j (picked (candidate_nets j) p.set))

pub record OpenOf (j : Job) (i : ℕ) (p : Pick) (ss : List ℕ) : Type 0 where
  pub places : i ≤ length (candidate_nets j)
  pub set : p.set < 2 ^ (length (candidate_nets j) - i)
  pub len : p.len ≡ length (open_at (candidate_nets j) i p.set)
  pub cost : p.cost ≡ sum (picked (drop i (candidate_weights j)) p.set)
  pub sets : SetsOf j (open_at (candidate_nets j) i p.set) ss
  pub sound : sound j (open_at (candidate_nets j) i p.set) ≡ true
  pub gates : p.gates ≡ None

-- ---- the choice

pub record BestFrom (j : Job) (i s : ℕ) (b r : Pick) : Type 0 where
  pub pick : PickOf j r
  pub kept : better j (picked (candidate_nets j) b.set) (picked (candidate_nets j) r.set) ≡ false
  pub least : (t : ℕ) → t / 2 ^ i ≡ s → sound j (picked (candidate_nets j) t) ≡ true
      → better j (picked (candidate_nets j) t) (picked (candidate_nets j) r.set) ≡ false

pub record HeldSupport (r : Support) : Type 0 where
  pub few : r.len ≤ max_candidates
  pub held : r.len ≤ length r.nets

pub record Choosable (j : Job) (p : Priced) : Type 0 where
  pub candidates : j.candidates ≡ candidates_from (length p.nets.now) p.nets.now p.weights.now
  pub ascends : ascending (candidate_nets j) ≡ true
  pub targets : j.targets ≡ p.targets
  pub sets : ReadingSets j p.sets.now
  pub sound : sound j (candidate_nets j) ≡ true

pub record ChosenOf (j : Job) (s : Support) (c : ℕ) (ss : List ℕ) : Type 0 where
  pub len : s.len ≡ length (chosen j)
  pub support : take s.len s.nets ≡ chosen j
  pub cost : c ≡ cost j (chosen j)
  pub sets : SetsOf j (chosen j) ss
