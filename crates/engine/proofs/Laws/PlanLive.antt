-- Laws of live nets: marked backwards from some nets on, they are closed under operands. Assumes nothing.
use Prim.Native.Nat.{ℕ, zero, suc, ◌+◌, ◌≤◌, ◌<◌}
use mathlib.Core.Path.{◌≡◌, refl, sym, ◌∙◌, ap, subst}
use mathlib.Core.Logic.{⊎_elim}
use mathlib.Core.List.Memᴰ.{cases_cons}
use mathlib.Core.List.Memᴰ.{head as here}
use mathlib.Core.List.Memᴰ.{not-nil}
use mathlib.Core.List.Memᴰ.{tail as there}
use mathlib.Core.List.{List, [], ◌∷◌, Memᴰ as Mem}
use mathlib.Core.Bool.{true, false}
use native.Mathlib.Nat.{add-zero}
use native.Mathlib.Omega.{arith}
use borrow.Author.Tests.{ltb-true, eqb-false, not-true}
use lib.Dec.{ltb, eqb}
use lib.ListN.{length, get_or, set, replicate, length-set, length-replicate}
use lib.Seq.{get_or-set_same, get_or-set_other}
use Rattle.records.specs.Bytes.{all}
use Rattle.records.specs.Gate.{Gate, gate_of, operands}
use Rattle.records.specs.Netlist.{net_at}
use Rattle.records.specs.Refusal.{gates_good}
use Rattle.records.proofs.Laws.Bytes.{all_cons}
use Rattle.records.proofs.Laws.Gate.{gate_good-parts}
use Rattle.engine.specs.Inner.Packed.{own, operands_of, packed, packed_from, formed}
use Rattle.engine.specs.Inner.Plan.{marked, Closed, marked_all, live_from, live_marks}
use Rattle.engine.proofs.Laws.Choice.{true-or-false, all_true, all-of-members}
use Rattle.engine.proofs.Laws.Packed.{packed-own, packed-operands}
use Rattle.engine.proofs.Laws.PlanCode.{marked-of, live_from-marked, live_from-unmarked, length-live_from, length-marked_all}
use Rattle.engine.proofs.Laws.Run.{good-first, good-rest}

-- ---- a mark stays

-- net k has a mark
abbrev Has : List ℕ → ℕ → Type 0
Has ms k = get_or ms k 0 ≡ 0 → ⊥

has_of : (ms : List ℕ) (k : ℕ) → marked ms k ≡ true → Has ms k
unfolding net_at
has_of ms k e = eqb-false (get_or ms k 0) 0 (not-true (eqb (get_or ms k 0) 0) e)

set-has : (ms : List ℕ) (i k : ℕ) → Has ms k → Has (set ms i 1) k
set-has [] i k h = h
set-has (m ∷ ms) zero zero h = λ e. omega arith
set-has (m ∷ ms) zero (suc k) h = h
set-has (m ∷ ms) (suc i) zero h = h
set-has (m ∷ ms) (suc i) (suc k) h = set-has ms i k h

marked_all-has : (ms is : List ℕ) (k : ℕ) → Has ms k → Has (marked_all ms is) k
unfolding marked_all
marked_all-has ms [] k h = h
marked_all-has ms (i ∷ is) k h = marked_all-has (set ms i 1) is k (set-has ms i k h)

-- each net of the list has one
marked_all-mem : (ms is : List ℕ) (k : ℕ) → Mem k is → k < length ms → Has (marked_all ms is) k
unfolding marked_all
marked_all-mem ms [] k m h = absurd (not-nil m)
marked_all-mem ms (i ∷ is) k m h =
    ⊎_elim
    (λ (e : k ≡ i).
    marked_all-has (set ms i 1) is k
    (λ z.
    let o : get_or (set ms i 1) k 0 ≡ 1 = rw e (get_or-set_same ms i 1 0 (rw e at h)) in
    omega arith))
    (λ n. marked_all-mem (set ms i 1) is k n (omega (arith, length-set ms i 1)))
    (cases_cons m)

-- .. and no other net gets one
marked_all-other : (ms is : List ℕ) (k : ℕ) → ((i : ℕ) → Mem i is → k ≡ i → ⊥) → get_or (marked_all ms is) k 0 ≡ get_or ms k 0
unfolding marked_all
marked_all-other ms [] k h = refl
marked_all-other ms (i ∷ is) k h =
    marked_all-other (set ms i 1) is k (λ n m. h n (there m)) ∙ get_or-set_other ms i k 1 0 (h i (here refl))

live_from-has : (ms cs : List ℕ) (k : ℕ) → Has ms k → Has (live_from ms cs) k
unfolding live_from
live_from-has ms [] k h = h
live_from-has ms (c ∷ cs) k h =
    let ls = live_from ms cs in
    ⊎_elim
    (λ (e : marked ls (own c) ≡ true). rw e (marked_all-has ls (operands_of c) k (live_from-has ms cs k h)))
    (λ (e : marked ls (own c) ≡ false). rw e (live_from-has ms cs k h))
    (true-or-false (marked ls (own c)))

-- nets marked first are live
module _ (ms is cs : List ℕ) where
  pub live_all : (k : ℕ) → marked ms k ≡ true → marked (live_from (marked_all ms is) cs) k ≡ true
  live_all k e =
      marked-of (live_from (marked_all ms is) cs) k
      (live_from-has (marked_all ms is) cs k (marked_all-has ms is k (has_of ms k e)))

  pub live-mem : (k : ℕ) → Mem k is → k < length ms → marked (live_from (marked_all ms is) cs) k ≡ true
  live-mem k m h =
      marked-of (live_from (marked_all ms is) cs) k (live_from-has (marked_all ms is) cs k (marked_all-mem ms is k m h))

pub marked_all-marked : (ms is : List ℕ) (k : ℕ) → marked ms k ≡ true → marked (marked_all ms is) k ≡ true
marked_all-marked ms is k e = marked-of (marked_all ms is) k (marked_all-has ms is k (has_of ms k e))

pub mem-marked : (ms is : List ℕ) (k : ℕ) → Mem k is → k < length ms → marked (marked_all ms is) k ≡ true
mem-marked ms is k m h = marked-of (marked_all ms is) k (marked_all-mem ms is k m h)

-- ---- closed under operands

module _ (ms : List ℕ) (d : ℕ) (g : Gate) (gs : List Gate) (a : gates_good d (g ∷ gs) ≡ true) (b : formed g ≡ true) (h : d < 1024)
    (l : length ms ≡ 1024) where
  abbrev after : List ℕ
  after = live_from ms (packed_from (suc d) gs)

  abbrev whole : List ℕ
  whole = live_from ms (packed_from d (g ∷ gs))

  operand_below : (i : ℕ) → Mem i (operands g) → i < d
  operand_below i m =
      ltb-true i d (all_true (λ k. ltb k d) (operands g) (gate_good-parts d g (good-first d g gs a)).0 i m)

  whole-marked : marked after d ≡ true → whole ≡ marked_all after (operands g)
  unfolding packed_from
  whole-marked e =
      let o = packed-own d g (good-first d g gs a) b h in
      live_from-marked ms (packed d g) (packed_from (suc d) gs) (rw o e)
      ∙ ap (marked_all after) (packed-operands d g (good-first d g gs a) b h)

  whole-unmarked : marked after d ≡ false → whole ≡ after
  unfolding packed_from
  whole-unmarked e =
      let o = packed-own d g (good-first d g gs a) b h in
      live_from-unmarked ms (packed d g) (packed_from (suc d) gs) (rw o e)

  -- the marks from d on are those that the gates after g give
  whole_from : (k : ℕ) → d ≤ k → marked whole k ≡ true → marked after k ≡ true
  unfolding net_at
  whole_from k n e =
      ⊎_elim
      (λ z.
      let same : get_or whole k 0 ≡ get_or after k 0 =
      ap (λ (x : List ℕ). get_or x k 0) (whole-marked z)
      ∙ marked_all-other after (operands g) k (λ i m q. let r = operand_below i m in omega arith) in
      rw same at e)
      (λ z. rw (whole-unmarked z) at e)
      (true-or-false (marked after d))

  whole_has : (k : ℕ) → marked after k ≡ true → marked whole k ≡ true
  whole_has k e =
      ⊎_elim
      (λ z. rw (whole-marked z) (marked_all-marked after (operands g) k e))
      (λ z. rw (whole-unmarked z) e)
      (true-or-false (marked after d))

  -- gate g has its operands marked
  whole-first : marked whole d ≡ true → all (marked whole) (operands g) ≡ true
  whole-first e =
      let z = whole_from d (omega arith) e in
      all-of-members (marked whole) (operands g)
      (λ i m.
      rw (whole-marked z)
      (mem-marked after (operands g) i m
      (omega (arith, operand_below i m, length-live_from ms (packed_from (suc d) gs)))))

pub live-closed : (ms : List ℕ) (d : ℕ) (gs : List Gate) → gates_good d gs ≡ true → all formed gs ≡ true → d + length gs ≤ 1024
    → length ms ≡ 1024 → Closed (marked (live_from ms (packed_from d gs))) d gs
live-closed ms d [] a b h l i n e = let f : ⊥ = omega arith in absurd f
live-closed ms d (g ∷ gs) a b h l zero n e =
    let t = all_cons formed g gs b in
    whole-first ms d g gs a t.0 (omega arith) l (rw add-zero at e)
live-closed ms d (g ∷ gs) a b h l (suc i) n e =
    let t = all_cons formed g gs b in
    let m : suc d + i ≡ d + suc i = omega arith in
    let r = live-closed ms (suc d) gs (good-rest d g gs a) t.1 (omega arith) l i (omega arith)
    (subst (λ (k : ℕ). marked (live_from ms (packed_from (suc d) gs)) k ≡ true) (sym m)
    (whole_from ms d g gs a t.0 (omega arith) l (d + suc i) (omega arith) e)) in
    let is = operands (get_or gs i (gate_of 0 0 0 0 0 0)) in
    all-of-members (marked (live_from ms (packed_from d (g ∷ gs)))) is
    (λ k q.
    whole_has ms d g gs a t.0 (omega arith) l k (all_true (marked (live_from ms (packed_from (suc d) gs))) is r k q))

-- ---- the live nets of a plan

module _ (os gs is cs : List ℕ) where
  abbrev two : List ℕ
  two = marked_all (marked_all (replicate 1024 0) os) gs

  length_two : length two ≡ 1024
  length_two =
      length-marked_all (marked_all (replicate 1024 0) os) gs
      ∙ length-marked_all (replicate 1024 0) os
      ∙ length-replicate {A = ℕ} 1024 0

  pub live-os : (i : ℕ) → Mem i os → i < 1024 → marked (live_marks os gs is cs) i ≡ true
  unfolding live_marks
  live-os i m h =
      live_all two is cs i
      (marked_all-marked (marked_all (replicate 1024 0) os) gs i
      (mem-marked (replicate 1024 0) os i m (omega (arith, length-replicate {A = ℕ} 1024 0))))

  pub live-gs : (i : ℕ) → Mem i gs → i < 1024 → marked (live_marks os gs is cs) i ≡ true
  unfolding live_marks
  live-gs i m h =
      live_all two is cs i
      (mem-marked (marked_all (replicate 1024 0) os) gs i m
      (omega (arith, length-marked_all (replicate 1024 0) os, length-replicate {A = ℕ} 1024 0)))

  pub live-is : (i : ℕ) → Mem i is → i < 1024 → marked (live_marks os gs is cs) i ≡ true
  unfolding live_marks
  live-is i m h = live-mem two is cs i m (omega (arith, length_two))

  pub live_marks-closed : (d : ℕ) (hs : List Gate) → cs ≡ packed_from d hs → gates_good d hs ≡ true → all formed hs ≡ true
      → d + length hs ≤ 1024 → Closed (marked (live_marks os gs is cs)) d hs
  unfolding live_marks
  live_marks-closed d hs e a b h =
      subst (λ (xs : List ℕ). Closed (marked (live_from (marked_all two is) xs)) d hs) (sym e)
      (live-closed (marked_all two is) d hs a b h (length-marked_all two is ∙ length_two))
