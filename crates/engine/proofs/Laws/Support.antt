-- Laws of specs/Support: what a golden table holds, what a shared vector is, that the nets that carry a table are the sound
-- ones, and that the vector has no say on a reading of candidates. Assumes nothing.
use Prim.Native.Nat.{ℕ, suc, ◌^◌, ◌≤◌, ◌<◌}
use mathlib.Core.Path.{◌≡◌, refl, sym, ◌∙◌, ap, subst}
use mathlib.Core.Logic.{◌↔◌, ◌⊎◌, inl, inr, ⊎_elim}
use mathlib.Core.List.Memᴰ.{append_cases}
use mathlib.Core.List.Memᴰ.{append_left as mem-append_left}
use mathlib.Core.List.Memᴰ.{cases_cons}
use mathlib.Core.List.Memᴰ.{eq_of_singleton}
use mathlib.Core.List.Memᴰ.{head as here}
use mathlib.Core.List.Memᴰ.{map as mem-map}
use mathlib.Core.List.Memᴰ.{not-nil}
use mathlib.Core.List.Memᴰ.{of_map as mem-of-map}
use mathlib.Core.List.Memᴰ.{tail as there}
use mathlib.Core.List.{List, [], ◌∷◌, map, Memᴰ as Mem}
use mathlib.Core.Bool.{Bool, true, false, ◌&&◌, false≢true}
use mathlib.Core.Option.{none, some}
use native.Mathlib.Omega.{arith}
use borrow.Author.Tests.{leb-true, le-leb, eqb-true, eq-eqb}
use lib.Dec.{leb, ltb, eqb}
use lib.Pow.{pow_pos}
use lib.ListN.{length, get_or, length-map}
use Rattle.records.specs.Bytes.{up_from, all}
use Rattle.records.specs.Netlist.{net_at, fanout}
use Rattle.records.specs.Job.{Job, Candidate}
use Rattle.records.specs.Refusal.{old_nets, ascending, candidate_good, candidates_good}
use Rattle.records.specs.Sheet.{is_candidate}
use Rattle.records.proofs.Laws.Bytes.{and_left, and_right, and_both, all_cons, length-tabulate, get_d_tabulate}
use Rattle.records.proofs.Laws.Refusal.{ascending_from, ascending-from}
use Rattle.engine.specs.Choice.{found, or_zero}
use Rattle.engine.specs.Eval.{number_of, all_inputs, all_vectors, old_values, old_outputs, golden_outputs}
use Rattle.engine.specs.Rectify.{rectifies, rectifiable}
use Rattle.engine.specs.Support.{reading, giving, driven_by, equals_golden, Carries, shared, sound, table_of, subsets, candidate_nets}
use Rattle.engine.specs.Inner.Best.{RectifiesAll}
use Rattle.engine.proofs.Laws.Eval.{bits-map, net_at-lt, old_values-bits, number_of-lt, number_of-agree, old_values-agree}
use Rattle.engine.proofs.Laws.Choice.{any-of-member, all-iff-below, all_true, all-of-members, all-false, mem-keep, mem_below, first-least, first-none-below, found_some, found_none, found_first, none_or_some, same-iff-equal, map-agree, not-both, true-or-false, or_left, or_right, or_cases}

module _ (j : Job) where
  pub rectifies-iff-outputs : (x v : ℕ) → (rectifies j x v ≡ true) ↔ (old_outputs j x v ≡ golden_outputs j x)
  unfolding rectifies
  rectifies-iff-outputs x v = same-iff-equal (old_outputs j x v) (golden_outputs j x)

  -- an input is rectifiable where a vector rectifies it
  pub rectifiable-of : (x v : ℕ) → v < 2 ^ j.targets → rectifies j x v ≡ true → rectifiable j x ≡ true
  unfolding rectifiable all_vectors
  rectifiable-of x v l e = any-of-member (rectifies j x) (all_vectors j) v ((mem_below (2 ^ j.targets) v).1 l) e

  -- what holds of every input
  pub all-inputs : (p : ℕ → Bool) → (all p (all_inputs j) ≡ true) ↔ ((x : ℕ) → x < 2 ^ j.inputs → p x ≡ true)
  unfolding all_inputs
  all-inputs p = all-iff-below p (2 ^ j.inputs)

-- ---- readings

pub reading-lt : (j : Job) (is : List ℕ) (x : ℕ) → reading j is x < 2 ^ length is
unfolding reading
reading-lt j is x =
    let f : ℕ → ℕ = net_at (old_values j x 0) in
    subst (λ (k : ℕ). number_of (map f is) < 2 ^ k) (length-map is f)
    (number_of-lt (bits-map f (net_at-lt (old_values-bits j x 0)) is))

-- inputs that give the same reading of some nets give the same of the nets among them
pub reading-among : (j : Job) (is ks : List ℕ) → ((i : ℕ) → Mem i is → Mem i ks) → (x y : ℕ)
    → reading j ks x ≡ reading j ks y → reading j is x ≡ reading j is y
unfolding reading
reading-among j is ks s x y e =
    let f : ℕ → ℕ = net_at (old_values j x 0) in
    let g : ℕ → ℕ = net_at (old_values j y 0) in
    ap number_of
    (map-agree f g is
    (λ i m.
    number_of-agree f g (net_at-lt (old_values-bits j x 0)) (net_at-lt (old_values-bits j y 0)) ks e i (s i m)))

-- ---- golden tables

module _ (j : Job) (is t : List ℕ) where
  golden-rectifies : (equals_golden j is t ≡ true) ↔ ((x : ℕ) → x < 2 ^ j.inputs → rectifies j x (driven_by j is t x) ≡ true)
  unfolding equals_golden
  golden-rectifies = all-inputs j (λ x. rectifies j x (driven_by j is t x))

  -- a table is golden where the driven old outputs are the golden ones at every input
  pub golden-iff : (equals_golden j is t ≡ true)
      ↔ ((x : ℕ) → x < 2 ^ j.inputs → old_outputs j x (driven_by j is t x) ≡ golden_outputs j x)
  golden-iff = (
    λ g x h. (rectifies-iff-outputs j x (driven_by j is t x)).0 (golden-rectifies.0 g x h),
    λ f. golden-rectifies.1 (λ x h. (rectifies-iff-outputs j x (driven_by j is t x)).1 (f x h)),
  )

  -- .. where it holds, at each reading that some input gives, a vector that rectifies every input giving it
  pub golden-iff-readings : (equals_golden j is t ≡ true)
      ↔ ((r y : ℕ) → y < 2 ^ j.inputs → reading j is y ≡ r
      → (x : ℕ) → x < 2 ^ j.inputs → reading j is x ≡ r → rectifies j x (get_or t r 0) ≡ true)
  unfolding driven_by
  golden-iff-readings = (
    λ g r y l q x h e. subst (λ (k : ℕ). rectifies j x (get_or t k 0) ≡ true) e (golden-rectifies.0 g x h),
    λ f. golden-rectifies.1 (λ x h. f (reading j is x) x h refl x h refl),
  )

-- ---- shared vectors

-- some input that gives reading r is not rectified by v
abbrev pub FailsSome : Job → List ℕ → ℕ → ℕ → Type 0
FailsSome j is r v = (x : ℕ) × (x < 2 ^ j.inputs) × (reading j is x ≡ r) × (rectifies j x v ≡ false)

-- v is the least vector that rectifies every input giving reading r
pub record LeastShared (j : Job) (is : List ℕ) (r v : ℕ) : Type 0 where
  pub below : v < 2 ^ j.targets
  pub rectifies : RectifiesAll j is r v
  pub smaller : (u : ℕ) → u < v → FailsSome j is r u

module _ (j : Job) (is : List ℕ) (r : ℕ) where
  pub mem-giving : (x : ℕ) → Mem x (giving j is r) ↔ ((x < 2 ^ j.inputs) × (reading j is x ≡ r))
  unfolding giving all_inputs
  mem-giving x =
      let k = mem-keep (λ y. eqb (reading j is y) r) (up_from 0 (2 ^ j.inputs)) x in
      let b = mem_below (2 ^ j.inputs) x in (
        λ m. (b.0 (k.0 m).0, eqb-true (reading j is x) r (k.0 m).1),
        λ h. k.1 (b.1 h.0, eq-eqb (reading j is x) r h.1),
      )

  unfoldable pub rectifies_giving : ℕ → Bool
  rectifies_giving v = all (λ x. rectifies j x v) (giving j is r)

  pub rectifies-all : (v : ℕ) → rectifies_giving v ≡ true → RectifiesAll j is r v
  unfolding rectifies_giving
  rectifies-all v e x h q = all_true (λ y. rectifies j y v) (giving j is r) e x ((mem-giving x).1 (h, q))

  pub all-rectifies : (v : ℕ) → RectifiesAll j is r v → rectifies_giving v ≡ true
  unfolding rectifies_giving
  all-rectifies v f =
      all-of-members (λ y. rectifies j y v) (giving j is r)
      (λ x m. let k = (mem-giving x).0 m in f x k.0 k.1)

  fails-some : (v : ℕ) → rectifies_giving v ≡ false → FailsSome j is r v
  unfolding rectifies_giving
  fails-some v e =
      let a = all-false (λ y. rectifies j y v) (giving j is r) e in
      let k = (mem-giving a.0).0 a.1 in
      (a.0, k.0, k.1, a.2)

  pub shared-least : (v : ℕ) → shared j is r ≡ some v → LeastShared j is r v
  unfolding shared all_vectors rectifies_giving
  shared-least v e =
      let l = first-least rectifies_giving (2 ^ j.targets) v e in
      record { below = l.below; rectifies = rectifies-all v l.holds; smaller = λ u h. fails-some u (l.smaller u h) }

  pub shared-none : shared j is r ≡ none → (v : ℕ) → v < 2 ^ j.targets → FailsSome j is r v
  unfolding shared all_vectors rectifies_giving
  shared-none e v h = fails-some v (first-none-below rectifies_giving (2 ^ j.targets) e v h)

  -- there is one where some vector rectifies every input giving the reading
  pub found-shared : (v : ℕ) → v < 2 ^ j.targets → RectifiesAll j is r v → found (shared j is r) ≡ true
  unfolding shared all_vectors rectifies_giving
  found-shared v h f = found_first rectifies_giving (2 ^ j.targets) v h (all-rectifies v f)

  -- .. and none exactly where no vector does
  pub shared-none-iff : (shared j is r ≡ none) ↔ ((v : ℕ) → v < 2 ^ j.targets → RectifiesAll j is r v → ⊥)
  shared-none-iff = (
    λ e v h f. let x = shared-none e v h in not-both (f x.0 x.1 x.2) x.3,
    λ h.
        ⊎_elim
        (λ e. e)
        (λ s. let l = shared-least s.0 s.1 in absurd (h s.0 l.below l.rectifies))
        (none_or_some (shared j is r)),
  )

-- ---- sound supports

module _ (j : Job) (is : List ℕ) where
  pub sound-iff-found : (sound j is ≡ true) ↔ ((r : ℕ) → r < 2 ^ length is → found (shared j is r) ≡ true)
  unfolding sound
  sound-iff-found = all-iff-below (λ r. found (shared j is r)) (2 ^ length is)

  pub length-table_of : length (table_of j is) ≡ 2 ^ length is
  unfolding table_of
  length-table_of = length-tabulate (2 ^ length is) (λ r. or_zero (shared j is r))

  pub get_or-table_of : (r : ℕ) → r < 2 ^ length is → get_or (table_of j is) r 0 ≡ or_zero (shared j is r)
  unfolding table_of
  get_or-table_of r h = get_d_tabulate (2 ^ length is) (λ k. or_zero (shared j is k)) r 0 h

  -- the table of a sound support has at each reading the least vector that rectifies every input giving it
  pub table_of-least : sound j is ≡ true → (r : ℕ) → r < 2 ^ length is → LeastShared j is r (get_or (table_of j is) r 0)
  table_of-least s r h =
      let o = shared j is r in
      rw (get_or-table_of r h) (shared-least j is r (or_zero o) (found_some o (sound-iff-found.0 s r h)))

  -- .. so its entries are below 2 ^ m
  pub table_of-below : sound j is ≡ true → (r : ℕ) → r < length (table_of j is) → get_or (table_of j is) r 0 < 2 ^ j.targets
  table_of-below s r h = (table_of-least s r (omega (arith, length-table_of))).below

  pub golden-of-sound : sound j is ≡ true → equals_golden j is (table_of j is) ≡ true
  golden-of-sound s =
      (golden-iff-readings j is (table_of j is)).1
      (λ r y l q. (table_of-least s r (subst (λ (k : ℕ). k < 2 ^ length is) q (reading-lt j is y))).rectifies)

  pub carries-of-sound : sound j is ≡ true → Carries j is
  carries-of-sound s =
      record {
        table = table_of j is;
        entries = length-table_of;
        below = table_of-below s;
        equal = golden-of-sound s;
      }

  pub sound-of-carries : Carries j is → sound j is ≡ true
  sound-of-carries c =
      sound-iff-found.1
      (λ r h.
      found-shared j is r (get_or c.table r 0) (c.below r (omega (arith, c.entries)))
      (λ x l q. (golden-iff-readings j is c.table).0 c.equal r x l q x l q))

  -- the inputs that give the reading of one that no vector rectifies share none
  pub shared-unrectifiable : (x : ℕ) → x < 2 ^ j.inputs → rectifiable j x ≡ false → shared j is (reading j is x) ≡ none
  shared-unrectifiable x h u =
      (shared-none-iff j is (reading j is x)).1 (λ v l f. not-both (rectifiable-of j x v l (f x h refl)) u)

-- more nets are sound where some of them are
pub sound-mono : (j : Job) (is ks : List ℕ) → ((i : ℕ) → Mem i is → Mem i ks) → sound j is ≡ true → sound j ks ≡ true
sound-mono j is ks s e =
    (sound-iff-found j ks).1
    (λ r h. ⊎_elim (λ q. q) (λ q. absurd (clash r q)) (true-or-false (found (shared j ks r))))
  where
    clash : (r : ℕ) → found (shared j ks r) ≡ false → ⊥
    clash r q =
        let fails = shared-none j ks r (found_none (shared j ks r) q) in
        let a = fails 0 (pow_pos j.targets) in
        let y : ℕ = a.0 in
        let t = table_of-least j is e (reading j is y) (reading-lt j is y) in
        let b = fails (get_or (table_of j is) (reading j is y) 0) t.below in
        not-both (t.rectifies b.0 b.1 (reading-among j is ks s b.0 y (b.2 ∙ sym a.2))) b.3

-- ---- subsets

-- a set of the nets of k ∷ ks has k before a set of those of ks, or is such a set
subset-cases : (k : ℕ) (ks is : List ℕ) → Mem is (subsets (k ∷ ks))
    → ((ls : List ℕ) × Mem ls (subsets ks) × (k ∷ ls ≡ is)) ⊎ Mem is (subsets ks)
unfolding subsets
subset-cases k ks is m =
    let before : List ℕ → List ℕ = λ ls. k ∷ ls in
    ⊎_elim
    (λ (a : Mem is (map before (subsets ks))). inl (mem-of-map before (subsets ks) a))
    inr
    (append_cases (map before (subsets ks)) m)

pub subsets-among : (ks is : List ℕ) → Mem is (subsets ks) → (i : ℕ) → Mem i is → Mem i ks
unfolding subsets
subsets-among [] is m i n = subst (Mem i) (eq_of_singleton m) n
subsets-among (k ∷ ks) is m i n =
    ⊎_elim
    (λ r.
    ⊎_elim
    (λ (q : i ≡ k). here q)
    (λ (b : Mem i r.0). there (subsets-among ks r.0 r.1 i b))
    (cases_cons (subst (Mem i) (sym r.2) n)))
    (λ a. there (subsets-among ks is a i n))
    (subset-cases k ks is m)

from-lower : (lo hi : ℕ) → lo ≤ hi → (xs : List ℕ) → ascending_from hi xs ≡ true → ascending_from lo xs ≡ true
unfolding ascending_from
from-lower lo hi h [] a = refl
from-lower lo hi h (x ∷ xs) a =
    let l = leb-true hi x (and_left (leb hi x) (ascending_from (suc x) xs) a) in
    and_both (leb lo x) (ascending_from (suc x) xs) (le-leb lo x (omega arith)) (and_right (leb hi x) _ a)

subset-from : (lo : ℕ) (ks is : List ℕ) → ascending_from lo ks ≡ true → Mem is (subsets ks) → ascending_from lo is ≡ true
unfolding subsets ascending_from
subset-from lo [] is a m = rw (eq_of_singleton m)
subset-from lo (k ∷ ks) is a m =
    let b = and_left (leb lo k) (ascending_from (suc k) ks) a in
    let c = and_right (leb lo k) (ascending_from (suc k) ks) a in
    let l = leb-true lo k b in
    ⊎_elim
    (λ r. rw (← r.2) (and_both (leb lo k) (ascending_from (suc k) r.0) b (subset-from (suc k) ks r.0 c r.1)))
    (λ n. from-lower lo (suc k) (omega arith) is (subset-from (suc k) ks is c n))
    (subset-cases k ks is m)

-- a set of ascending nets ascends
pub subset-ascending : (ks is : List ℕ) → ascending ks ≡ true → Mem is (subsets ks) → ascending is ≡ true
subset-ascending ks is a m = ascending-from is ∙ subset-from 0 ks is (sym (ascending-from ks) ∙ a) m

pub length-subset-le : (ks is : List ℕ) → Mem is (subsets ks) → length is ≤ length ks
unfolding subsets
length-subset-le [] is m = rw (eq_of_singleton m) (omega arith)
length-subset-le (k ∷ ks) is m =
    ⊎_elim
    (λ r. omega (arith, ap length r.2, length-subset-le ks r.0 r.1))
    (λ a. omega (arith, length-subset-le ks is a))
    (subset-cases k ks is m)

pub subsets-self : (ks : List ℕ) → Mem ks (subsets ks)
unfolding subsets
subsets-self [] = here refl
subsets-self (k ∷ ks) = mem-append_left (subsets ks) (mem-map (λ (ls : List ℕ). k ∷ ls) (subsets-self ks))

-- nets, as all candidates together, are sound exactly where some set of them carries a table
pub sound-iff-subset-carries : (j : Job) (ks : List ℕ)
    → (sound j ks ≡ true) ↔ ((is : List ℕ) × Mem is (subsets ks) × Carries j is)
sound-iff-subset-carries j ks = (
  λ s. (ks, subsets-self ks, carries-of-sound j ks s),
  λ c. sound-mono j c.0 ks (subsets-among ks c.0 c.1) (sound-of-carries j c.0 c.2),
)

-- ---- candidates

module _ (j : Job) where
  abbrev marks : List ℕ
  marks = fanout j.inputs j.targets j.old.gates

  candidate_good-unmarked : (i : ℕ) → candidate_good j i ≡ true → net_at marks i ≡ 0
  unfolding candidate_good
  candidate_good-unmarked i e = eqb-true (net_at marks i) 0 (and_right (ltb i (old_nets j)) (eqb (net_at marks i) 0) e)

module _ (j : Job) (h : candidates_good j ≡ true) where
  -- no target leads to a candidate
  pub candidate-unmarked : (i : ℕ) → Mem i (candidate_nets j) → net_at (marks j) i ≡ 0
  unfolding candidates_good candidate_nets
  candidate-unmarked i m =
      let p : Candidate → Bool = λ c. candidate_good j c.net in
      let r = mem-of-map (λ (c : Candidate). c.net) j.candidates m in
      let g = and_right (ascending (candidate_nets j)) (all p j.candidates) h in
      subst (λ (k : ℕ). net_at (marks j) k ≡ 0) r.2
      (candidate_good-unmarked j r.0.net (all_true p j.candidates g r.0 r.1))

  -- so the vector has no say on a candidate's value
  pub candidate-value : (x v i : ℕ) → Mem i (candidate_nets j) → net_at (old_values j x v) i ≡ net_at (old_values j x 0) i
  candidate-value x v i m = old_values-agree j x v 0 i (candidate-unmarked i m)

  -- .. and none on the reading of a support
  pub reading-vector : (is : List ℕ) → Mem is (subsets (candidate_nets j)) → (x v : ℕ)
      → number_of (map (net_at (old_values j x v)) is) ≡ reading j is x
  unfolding reading
  reading-vector is s x v =
      ap number_of
      (map-agree (net_at (old_values j x v)) (net_at (old_values j x 0)) is
      (λ i m. candidate-value x v i (subsets-among (candidate_nets j) is s i m)))

pub is_candidate-of-mem : (cs : List Candidate) (i : ℕ) → Mem i (map (λ (c : Candidate). c.net) cs) → is_candidate cs i ≡ true
unfolding is_candidate
is_candidate-of-mem [] i m = absurd (not-nil m)
is_candidate-of-mem (c ∷ cs) i m =
    ⊎_elim
    (λ (e : i ≡ c.net). or_left (eqb c.net i) (is_candidate cs i) (eq-eqb c.net i (sym e)))
    (λ (n : Mem i (map (λ (d : Candidate). d.net) cs)).
    or_right (eqb c.net i) (is_candidate cs i) (is_candidate-of-mem cs i n))
    (cases_cons m)

-- a test of all candidates' nets
pub all-nets : (p : ℕ → Bool) (cs : List Candidate)
    → all (λ (c : Candidate). p c.net) cs ≡ all p (map (λ (c : Candidate). c.net) cs)
unfolding all
all-nets p [] = refl
all-nets p (c ∷ cs) = ap (λ (b : Bool). p c.net && b) (all-nets p cs)

-- .. is one of each net that is a candidate
pub candidate-passes : (p : ℕ → Bool) (cs : List Candidate) → all p (map (λ (c : Candidate). c.net) cs) ≡ true → (i : ℕ)
    → is_candidate cs i ≡ true → p i ≡ true
unfolding is_candidate
candidate-passes p [] h i e = absurd (false≢true e)
candidate-passes p (c ∷ cs) h i e =
    let a = all_cons p c.net (map (λ (d : Candidate). d.net) cs) h in
    ⊎_elim
    (λ (t : eqb c.net i ≡ true). subst (λ (k : ℕ). p k ≡ true) (eqb-true c.net i t) a.0)
    (λ (t : is_candidate cs i ≡ true). candidate-passes p cs a.1 i t)
    (or_cases (eqb c.net i) (is_candidate cs i) e)

-- where the nets carry a table, every input is rectifiable
pub rectifiable-of-carries : (j : Job) (is : List ℕ) → Carries j is → (x : ℕ) → x < 2 ^ j.inputs → rectifiable j x ≡ true
rectifiable-of-carries j is c x h =
    let t = c.table in
    let r = reading j is x in
    let e = (golden-iff-readings j is t).0 c.equal r x h refl x h refl in
    let l : r < length t = subst (λ (k : ℕ). r < k) (sym c.entries) (reading-lt j is x) in
    rectifiable-of j x (get_or t r 0) (c.below r l) e
