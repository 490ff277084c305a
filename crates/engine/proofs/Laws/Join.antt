-- Laws of how the halves of a column are joined (specs/Tree): for each way of joining, how many gates join, that they are good, and
-- that the last of them chooses between the halves' values. Assumes nothing.
--
--   low_value j v, high_value j v     the value of the low, the high half: v, that of its tree, where it has one, else its constant
use Prim.Native.Nat.{ℕ, zero, suc, ◌+◌, ◌-◌, min, max, ◌≤◌, ◌<◌}
use mathlib.Core.Path.{◌≡◌, refl, sym, ◌∙◌, ap}
use mathlib.Core.List.{List, [], ◌∷◌}
use mathlib.Core.Bool.{Bool, true, false, cond}
use native.Mathlib.Nat.{add-zero}
use native.Mathlib.Omega.{arith}
use borrow.Author.Tests.{eqb-true, lt-ltb}
use lib.Dec.{eqb}
use lib.ListN.{length, get_or}
use Rattle.records.specs.Bytes.{all}
use Rattle.records.specs.Gate.{gate_of, least_count, most_count, permits, operands, unused, gate_value, conj, disj, inverted}
use Rattle.records.specs.Netlist.{net_at, value_of}
use Rattle.records.specs.Refusal.{gate_good, gates_good}
use Rattle.records.proofs.Laws.Bytes.{all_cons}
use Rattle.records.proofs.Laws.Gate.{get_or-all, on_bit, on-bits}
use Rattle.engine.specs.Tree.{buf_of, not_of, and_of, or_of, join_of, builds_low, builds_high, join_gates}
use Rattle.engine.specs.Inner.Packed.{formed}
use Rattle.engine.specs.Inner.Tree.{join_size}
use Rattle.engine.specs.declared.tree.Join.{Join}
use Rattle.engine.specs.declared.tree.Join.TheVariants.{Buf, Not, AndHigh, AndLow, OrHigh, OrLow, Both}
use Rattle.engine.proofs.Laws.Eval.{Bits, net_at-lt}
use Rattle.engine.proofs.Laws.FitGates.{Consistent}

-- ---- the join by what the tests of the halves gave

module _ (low high : List ℕ) {p q : Bool} (zeros : p ≡ all (eqb 0) low) where
  pub join-zeros : (b : Bool) → q ≡ all (eqb 1) high → p ≡ true → q ≡ b → cond b Buf AndHigh ≡ join_of low high
  unfolding join_of
  join-zeros b e t u = rw (sym zeros, t, sym e, u)

  module _ (ones : q ≡ all (eqb 1) low) {r : Bool} (test : r ≡ all (eqb 0) high) (f : p ≡ false) where
    pub join-ones : (b : Bool) → q ≡ true → r ≡ b → cond b Not OrHigh ≡ join_of low high
    unfolding join_of
    join-ones b t u = rw (sym zeros, f, sym ones, t, sym test, u)

    pub join-low : q ≡ false → r ≡ true → AndLow ≡ join_of low high
    unfolding join_of
    join-low t u = rw (sym zeros, f, sym ones, t, sym test, u)

    pub join-both : {s : Bool} (b : Bool) → s ≡ all (eqb 1) high → q ≡ false → r ≡ false → s ≡ b → cond b OrLow Both ≡ join_of low high
    unfolding join_of
    join-both b e t u v = rw (sym zeros, f, sym ones, t, sym test, u, sym e, v)

-- ---- how many gates

pub length-join : (j : Join) (s low n : ℕ) → length (join_gates j s low n) ≡ join_size j
unfolding join_gates join_size
length-join Buf s low n = refl
length-join Not s low n = refl
length-join AndHigh s low n = refl
length-join AndLow s low n = refl
length-join OrHigh s low n = refl
length-join OrLow s low n = refl
length-join Both s low n = refl

-- one to four
pub join_size-bounds : (j : Join) → (0 < join_size j) × (join_size j ≤ 4)
unfolding join_gates join_size
join_size-bounds Buf = (omega arith, omega arith)
join_size-bounds Not = (omega arith, omega arith)
join_size-bounds AndHigh = (omega arith, omega arith)
join_size-bounds AndLow = (omega arith, omega arith)
join_size-bounds OrHigh = (omega arith, omega arith)
join_size-bounds OrLow = (omega arith, omega arith)
join_size-bounds Both = (omega arith, omega arith)

-- ---- good gates

single-good : (net k a : ℕ) → permits k 1 ≡ true → a < net → gate_good net (gate_of k 1 a 0 0 0) ≡ true
unfolding gate_good gate_of operands unused all
single-good net k a e p = rw (e, lt-ltb a net p)

pair-good : (net k a b : ℕ) → permits k 2 ≡ true → a < net → b < net → gate_good net (gate_of k 2 a b 0 0) ≡ true
unfolding gate_good gate_of operands unused all
pair-good net k a b e p q = rw (e, lt-ltb a net p, lt-ltb b net q)

pub join-good : (j : Join) (s low n : ℕ) → s < n → low < n → gates_good n (join_gates j s low n) ≡ true
unfolding gates_good join_gates buf_of not_of and_of or_of permits least_count most_count
join-good Buf s low n p q = rw (single-good n 2 s refl p)
join-good Not s low n p q = rw (single-good n 3 s refl p)
join-good AndHigh s low n p q = rw (pair-good n 4 s (n - 1) refl p (omega arith))
join-good AndLow s low n p q = rw (single-good n 3 s refl p, pair-good (suc n) 4 n (n - 1) refl (omega arith) (omega arith))
join-good OrHigh s low n p q = rw (single-good n 3 s refl p, pair-good (suc n) 6 n (n - 1) refl (omega arith) (omega arith))
join-good OrLow s low n p q = rw (pair-good n 6 s (n - 1) refl p (omega arith))
join-good Both s low n p q =
    rw (
      single-good n 3 s refl p,
      pair-good (suc n) 4 n low refl (omega arith) (omega arith),
      pair-good (suc (suc n)) 4 s (n - 1) refl (omega arith) (omega arith),
      pair-good (suc (suc (suc n))) 6 (n + 1) (n + 2) refl (omega arith) (omega arith),
    )

-- .. and have four slots
pub join-formed : (j : Join) (s low n : ℕ) → all formed (join_gates j s low n) ≡ true
unfolding join_gates all formed buf_of not_of and_of or_of gate_of
join-formed Buf s low n = refl
join-formed Not s low n = refl
join-formed AndHigh s low n = refl
join-formed AndLow s low n = refl
join-formed OrHigh s low n = refl
join-formed OrLow s low n = refl
join-formed Both s low n = refl

-- ---- the halves' values

unfoldable pub low_value : Join → ℕ → ℕ
low_value Buf v = 0
low_value Not v = 1
low_value AndHigh v = 0
low_value AndLow v = v
low_value OrHigh v = 1
low_value OrLow v = v
low_value Both v = v

unfoldable pub high_value : Join → ℕ → ℕ
high_value Buf v = 1
high_value Not v = 0
high_value AndHigh v = v
high_value AndLow v = 0
high_value OrHigh v = v
high_value OrLow v = 1
high_value Both v = v

-- only the value of a half that has a tree matters
pub low_value-built : (j : Join) {v w : ℕ} → (builds_low j ≡ true → v ≡ w) → low_value j v ≡ low_value j w
unfolding low_value builds_low
low_value-built Buf h = refl
low_value-built Not h = refl
low_value-built AndHigh h = refl
low_value-built AndLow h = h refl
low_value-built OrHigh h = refl
low_value-built OrLow h = h refl
low_value-built Both h = h refl

pub high_value-built : (j : Join) {v w : ℕ} → (builds_high j ≡ true → v ≡ w) → high_value j v ≡ high_value j w
unfolding high_value builds_high
high_value-built Buf h = refl
high_value-built Not h = refl
high_value-built AndHigh h = h refl
high_value-built AndLow h = refl
high_value-built OrHigh h = h refl
high_value-built OrLow h = refl
high_value-built Both h = h refl

-- the join by four tests: the low half is all 0, all 1, the high half is all 0, all 1
abbrev join_by : Bool → Bool → Bool → Bool → Join
join_by a b c d =
    cond a (cond d Buf AndHigh) (cond b (cond c Not OrHigh) (cond c AndLow (cond d OrLow Both)))

values-by : (a b c d : Bool) (v w : ℕ) → (a ≡ true → v ≡ 0) → (b ≡ true → v ≡ 1) → (c ≡ true → w ≡ 0) → (d ≡ true → w ≡ 1)
    → (low_value (join_by a b c d) v ≡ v) × (high_value (join_by a b c d) w ≡ w)
unfolding low_value high_value
values-by true b c true v w p q r s = (sym (p refl), sym (s refl))
values-by true b c false v w p q r s = (sym (p refl), refl)
values-by false true true d v w p q r s = (sym (q refl), sym (r refl))
values-by false true false d v w p q r s = (sym (q refl), refl)
values-by false false true d v w p q r s = (refl, sym (r refl))
values-by false false false true v w p q r s = (refl, sym (s refl))
values-by false false false false v w p q r s = (refl, refl)

-- an entry of a column that is all 0, all 1
pub entry-zeros : (col : List ℕ) → all (eqb 0) col ≡ true → (r : ℕ) → get_or col r 0 ≡ 0
entry-zeros col z r = sym (eqb-true 0 (get_or col r 0) (get_or-all (eqb 0) col z refl r))

pub entry-ones : (col : List ℕ) → all (eqb 1) col ≡ true → (r : ℕ) → r < length col → get_or col r 0 ≡ 1
entry-ones [] o r h = let f : ⊥ = omega arith in absurd f
entry-ones (c ∷ col) o zero h = sym (eqb-true 1 c (all_cons (eqb 1) c col o).0)
entry-ones (c ∷ col) o (suc r) h = entry-ones col (all_cons (eqb 1) c col o).1 r (omega arith)

-- the values of the halves at place q are their entries
pub join-entries : (low high : List ℕ) (q : ℕ) → q < length low → q < length high
    → (low_value (join_of low high) (get_or low q 0) ≡ get_or low q 0) × (high_value (join_of low high) (get_or high q 0) ≡ get_or high q 0)
unfolding join_of
join-entries low high q h l =
    values-by (all (eqb 0) low) (all (eqb 1) low) (all (eqb 0) high) (all (eqb 1) high) (get_or low q 0) (get_or high q 0)
    (λ e. entry-zeros low e q)
    (λ e. entry-ones low e q h)
    (λ e. entry-zeros high e q)
    (λ e. entry-ones high e q l)

-- ---- what the last gate gives

-- what the four gates of a multiplexer give
choice-of-bits : (s l h : ℕ) → s < 2 → l < 2 → h < 2
    → max (min (1 - s) (min l 1)) (max (min s (min h 1)) 0) ≡ get_or (l ∷ h ∷ []) s 0
choice-of-bits s l h p q r =
    let v : ℕ → ℕ → ℕ → Type 0 = λ x y z. max (min (1 - x) (min y 1)) (max (min x (min z 1)) 0) ≡ get_or (y ∷ z ∷ []) x 0 in
    on_bit (λ x. v x l h) (on-bits (v 0) refl refl refl refl l h q r) (on-bits (v 1) refl refl refl refl l h q r) s p

module _ (ws : List ℕ) (b : Bits ws) where
  -- n - 1 is the net of the tree just before, and l that of the low half's tree
  pub join-value : (j : Join) (s l n : ℕ) → Consistent value_of ws n (join_gates j s l n) → (builds_high j ≡ false → l ≡ n - 1)
      → net_at ws (n + join_size j - 1)
      ≡ get_or (low_value j (net_at ws l) ∷ high_value j (net_at ws (n - 1)) ∷ []) (net_at ws s) 0
  unfolding join_gates join_size builds_high low_value high_value value_of operands buf_of not_of and_of or_of gate_of gate_value inverted conj disj
  join-value Buf s l n t e =
      let i : n + 1 - 1 ≡ n + 0 = omega arith in
      ap (net_at ws) i
      ∙ t.at 0 (omega arith)
      ∙ on_bit (λ x. x ≡ get_or (0 ∷ 1 ∷ []) x 0) refl refl (net_at ws s) (net_at-lt b s)
  join-value Not s l n t e =
      let i : n + 1 - 1 ≡ n + 0 = omega arith in
      ap (net_at ws) i
      ∙ t.at 0 (omega arith)
      ∙ on_bit (λ x. 1 - x ≡ get_or (1 ∷ 0 ∷ []) x 0) refl refl (net_at ws s) (net_at-lt b s)
  join-value AndHigh s l n t e =
      let i : n + 1 - 1 ≡ n + 0 = omega arith in
      ap (net_at ws) i
      ∙ t.at 0 (omega arith)
      ∙ on-bits (λ x y. min x (min y 1) ≡ get_or (0 ∷ y ∷ []) x 0) refl refl refl refl (net_at ws s) (net_at ws (n - 1)) (net_at-lt b s)
      (net_at-lt b (n - 1))
  join-value AndLow s l n t e =
      let i : n + 2 - 1 ≡ n + 1 = omega arith in
      let p : net_at ws n ≡ 1 - net_at ws s = ap (net_at ws) (sym (add-zero n)) ∙ t.at 0 (omega arith) in
      ap (net_at ws) i
      ∙ t.at 1 (omega arith)
      ∙ ap (λ (x : ℕ). min x (min (net_at ws (n - 1)) 1)) p
      ∙ on-bits (λ x y. min (1 - x) (min y 1) ≡ get_or (y ∷ 0 ∷ []) x 0) refl refl refl refl (net_at ws s) (net_at ws (n - 1))
      (net_at-lt b s)
      (net_at-lt b (n - 1))
      ∙ ap (λ (k : ℕ). get_or (net_at ws k ∷ 0 ∷ []) (net_at ws s) 0) (sym (e refl))
  join-value OrHigh s l n t e =
      let i : n + 2 - 1 ≡ n + 1 = omega arith in
      let p : net_at ws n ≡ 1 - net_at ws s = ap (net_at ws) (sym (add-zero n)) ∙ t.at 0 (omega arith) in
      ap (net_at ws) i
      ∙ t.at 1 (omega arith)
      ∙ ap (λ (x : ℕ). max x (max (net_at ws (n - 1)) 0)) p
      ∙ on-bits (λ x y. max (1 - x) (max y 0) ≡ get_or (1 ∷ y ∷ []) x 0) refl refl refl refl (net_at ws s) (net_at ws (n - 1))
      (net_at-lt b s)
      (net_at-lt b (n - 1))
  join-value OrLow s l n t e =
      let i : n + 1 - 1 ≡ n + 0 = omega arith in
      ap (net_at ws) i
      ∙ t.at 0 (omega arith)
      ∙ on-bits (λ x y. max x (max y 0) ≡ get_or (y ∷ 1 ∷ []) x 0) refl refl refl refl (net_at ws s) (net_at ws (n - 1)) (net_at-lt b s)
      (net_at-lt b (n - 1))
      ∙ ap (λ (k : ℕ). get_or (net_at ws k ∷ 1 ∷ []) (net_at ws s) 0) (sym (e refl))
  join-value Both s l n t e =
      let i : n + 4 - 1 ≡ n + 3 = omega arith in
      let p : net_at ws n ≡ 1 - net_at ws s = ap (net_at ws) (sym (add-zero n)) ∙ t.at 0 (omega arith) in
      let q : net_at ws (n + 1) ≡ min (net_at ws n) (min (net_at ws l) 1) = t.at 1 (omega arith) in
      let r : net_at ws (n + 2) ≡ min (net_at ws s) (min (net_at ws (n - 1)) 1) = t.at 2 (omega arith) in
      let u : net_at ws (n + 3) ≡ max (net_at ws (n + 1)) (max (net_at ws (n + 2)) 0) = t.at 3 (omega arith) in
      ap (net_at ws) i
      ∙ (cc)
      ∙ choice-of-bits (net_at ws s) (net_at ws l) (net_at ws (n - 1)) (net_at-lt b s) (net_at-lt b l) (net_at-lt b (n - 1))
