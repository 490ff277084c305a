-- Laws of words of 64 scenarios, 16 a net: operations bit by bit, a gate's operands joined one after the other, the values of a net
-- that is stored, and those of all nets once a gate is evaluated. Assumes nothing.
use Prim.Native.Nat.{ℕ, zero, suc, ◌+◌, ◌-◌, ◌*◌, ◌/◌, ◌%◌, ◌≤◌, ◌<◌}
use mathlib.Core.Path.{◌≡◌, refl, ◌∙◌, ap}
use mathlib.Core.List.{List, [], ◌∷◌, map}
use mathlib.Core.Logic.{◌⊎◌, inl, inr, ⊎_elim}
use mathlib.Core.Bool.{Bool, true, false, cond}
use native.Mathlib.Nat.{zero-max}
use native.Mathlib.Numerals.{add-one}
use native.Mathlib.Omega.{arith}
use borrow.Author.Tests.{ne_eqb}
use lib.Bits.{bit_xor, differ}
use lib.Dec.{eqb}
use lib.ListN.{length, get_or, set, take, length-take, drop_of_length-le, replicate, get_or-replicate}
use lib.Seq.{slice, slice-cons}
use Rattle.records.specs.Bytes.{up_from, tabulate}
use Rattle.records.specs.Netlist.{net_at}
use Rattle.records.proofs.Laws.Bytes.{get_d_tabulate}
use Rattle.engine.specs.Eval.{bit}
use Rattle.engine.specs.Inner.Packed.{fields, own, operands_of, operation, inverts, joined, folded_from, folded, code_value, evaluated}
use Rattle.engine.specs.Inner.Kernel.{applied, Filled, row_value, value_in, column, NetSet}
use Rattle.engine.proofs.Laws.Eval.{bit-lt}
use Rattle.engine.proofs.Laws.Fill.{fill-at}
use Rattle.engine.proofs.Laws.Word.{bit-and, bit-or, bit-xor}

-- ---- operations on words

differ-sum : (x y : ℕ) → x < 2 → y < 2 → differ x y ≡ (x + y) % 2
differ-sum zero y h k = omega arith
differ-sum (suc zero) zero h k = omega arith
differ-sum (suc zero) (suc zero) h k = omega arith
differ-sum (suc zero) (suc (suc y)) h k = let f : ⊥ = omega arith in absurd f
differ-sum (suc (suc x)) y h k = let f : ⊥ = omega arith in absurd f

pub bit-sum : (j a b : ℕ) → bit j (bit_xor a b) ≡ (bit j a + bit j b) % 2
bit-sum j a b = bit-xor j a b ∙ differ-sum (bit j a) (bit j b) (bit-lt j a) (bit-lt j b)

of-choice : (f : ℕ → ℕ) (p q : Bool) {x y z u v w : ℕ} → f x ≡ u → f y ≡ v → f z ≡ w
    → f (cond p x (cond q y z)) ≡ cond p u (cond q v w)
of-choice f true q d e g = d
of-choice f false true d e g = e
of-choice f false false d e g = g

pub bit-applied : (op j a b : ℕ) → bit j (applied op a b) ≡ joined op (bit j a) (bit j b)
unfolding applied joined
bit-applied op j a b = of-choice (bit j) (eqb op 2) (eqb op 3) (bit-and j a b) (bit-or j a b) (bit-sum j a b)

pub applied-last : (op a b : ℕ) → (op ≡ 2 → ⊥) → (op ≡ 3 → ⊥) → bit_xor a b ≡ applied op a b
unfolding applied
applied-last op a b h k = rw (ne_eqb op 2 h, ne_eqb op 3 k)

-- what 16 equal words say of a scenario
pub row-replicate : (v y : ℕ) → y < 1024 → row_value (replicate 16 v) y ≡ bit (y % 64) v
unfolding row_value
row-replicate v y h = ap (bit (y % 64)) (get_or-replicate {A = ℕ} 16 (y / 64) v 0 (omega arith))

-- ---- a gate's operands, one after the other

-- x and the values vs, the first by operation first and the others by op
unfoldable pub left : ℕ → ℕ → ℕ → List ℕ → ℕ
left first op x [] = x
left first op x (v ∷ vs) = left op op (joined first x v) vs

left-from : (op x : ℕ) (vs : List ℕ) → left op op x vs ≡ folded_from op x vs
unfolding left folded_from
left-from op x [] = refl
left-from op x (v ∷ vs) = left-from op (joined op x v) vs

pub left-all : (op : ℕ) (vs : List ℕ) → left 3 op 0 vs ≡ folded op vs
unfolding left folded joined
left-all op [] = refl
left-all op (v ∷ vs) = rw zero-max (left-from op v vs)

pub left-next : (f : ℕ → ℕ) (first op x n rest : ℕ) → 0 < n
    → left op op (joined first x (f (rest % 1024))) (map f (fields (n - 1) (rest / 1024))) ≡ left first op x (map f (fields n rest))
unfolding left fields
left-next f first op x zero rest h = let z : ⊥ = omega arith in absurd z
left-next f first op x (suc n) rest h = let e : suc n - 1 ≡ n = omega arith in rw e

-- the words of the next operand joined
pub words-next : (words r r' : List ℕ) (first op n rest : ℕ)
    → Filled (λ w. applied first (get_or r w 0) (get_or words (16 * (rest % 1024) + w) 0)) 0 16 r r' → 0 < n → (y : ℕ) → y < 1024
    → left op op (row_value r' y) (map (value_in words y) (fields (n - 1) (rest / 1024)))
    ≡ left first op (row_value r y) (map (value_in words y) (fields n rest))
unfolding row_value value_in
words-next words r r' first op n rest l h y k =
    rw (fill-at l (y / 64) (omega arith), bit-applied first (y % 64) (get_or r (y / 64) 0) (get_or words (16 * (rest % 1024) + y / 64) 0))
    (left-next (value_in words y) first op (bit (y % 64) (get_or r (y / 64) 0)) n rest h)

pub left-none : (f : ℕ → ℕ) (first op x n rest : ℕ) → n ≡ 0 → left first op x (map f (fields n rest)) ≡ x
unfolding left fields
left-none f first op x n rest h = rw h

-- ---- the values of a net whose words are stored

place-before : (i k w : ℕ) → w < 16 → k < i → 16 * k + w < 16 * i
place-before i k w h l = omega arith

place_after : (i k w : ℕ) → i < k → 16 * i + 16 ≤ 16 * k + w
place_after i k w l = omega arith

pub net-filled : (i : ℕ) (f g : ℕ → ℕ) (before after : List ℕ) → Filled f (16 * i) 16 before after
    → ((y : ℕ) → y < 1024 → bit (y % 64) (f (y / 64)) ≡ g y) → NetSet i g before after
unfolding value_in
net-filled i f g before after d e =
    record {
      long = d.long;
      put = λ y h. ap (bit (y % 64)) (d.put (y / 64) (omega arith)) ∙ e y h;
      kept =
          λ y k h o.
          let w : y / 64 < 16 = omega arith in
          ap (bit (y % 64)) (d.kept (16 * k + y / 64)
          (⊎_elim (λ l. inl (place-before i k (y / 64) w l)) (λ l. inr (place_after i k (y / 64) l)) o));
    }

-- .. of the words r, inverted where x has a 1
pub net-stored : (i x : ℕ) (r : List ℕ) (g : ℕ → ℕ) (before after : List ℕ)
    → Filled (λ w. bit_xor (get_or r w 0) x) (16 * i) 16 before after
    → ((y : ℕ) → y < 1024 → (row_value r y + bit (y % 64) x) % 2 ≡ g y) → NetSet i g before after
unfolding row_value
net-stored i x r g before after d e =
    net-filled i (λ w. bit_xor (get_or r w 0) x) g before after d (λ y h. bit-sum (y % 64) (get_or r (y / 64) 0) x ∙ e y h)

-- ---- the values of all nets in a scenario

-- one place that changes
module _ (f g : ℕ → ℕ) where
  map_same : (a n : ℕ) → ((i : ℕ) → a ≤ i → g i ≡ f i) → map g (up_from a n) ≡ map f (up_from a n)
  unfolding up_from
  map_same a zero e = refl
  map_same a (suc n) e = rw (e a (omega arith), map_same (suc a) n (λ i h. e i (omega arith)))

  map-set : (a n o p : ℕ) → p ≡ a + o → ((i : ℕ) → (i < p) ⊎ (p < i) → g i ≡ f i)
      → map g (up_from a n) ≡ set (map f (up_from a n)) o (g p)
  unfolding up_from
  map-set a zero o p s e = refl
  map-set a (suc n) zero p s e =
      let z : p ≡ a = omega arith in rw (z, map_same (suc a) n (λ i h. e i (inr (omega arith))))
  map-set a (suc n) (suc o) p s e = rw (e a (inl (omega arith)), map-set (suc a) n o p (omega arith) e)

pub column-set : (i : ℕ) (f : ℕ → ℕ) (before after : List ℕ) → NetSet i f before after → (y : ℕ) → y < 1024
    → column after y ≡ set (column before y) i (f y)
unfolding column tabulate
column-set i f before after s y h =
    rw (s.put y h) at (map-set (value_in before y) (value_in after y) 0 1024 i i (omega arith) (λ k o. s.kept y k h o))

pub net_at-column : (words : List ℕ) (y i : ℕ) → i < 1024 → net_at (column words y) i ≡ value_in words y i
unfolding net_at column
net_at-column words y i h = get_d_tabulate 1024 (value_in words y) i 0 h

-- a net of ten bits has its value in the column
map-fields : (words : List ℕ) (y n x : ℕ) → map (value_in words y) (fields n x) ≡ map (net_at (column words y)) (fields n x)
unfolding fields
map-fields words y zero x = refl
map-fields words y (suc n) x = rw (net_at-column words y (x % 1024) (omega arith), map-fields words y n (x / 1024))

-- ---- one gate more

module _ (c x : ℕ) (r before after : List ℕ) (d : Filled (λ w. bit_xor (get_or r w 0) x) (16 * own c) 16 before after)
    (e : (y : ℕ) → y < 1024 → row_value r y ≡ folded (operation c) (map (value_in before y) (operands_of c)))
    (f : (j : ℕ) → j < 64 → bit j x ≡ inverts c) where
  gate-stored : NetSet (own c) (λ y. code_value (column before y) c) before after
  unfolding code_value
  gate-stored =
      net-stored (own c) x r (λ y. code_value (column before y) c) before after d
      (λ y h. rw (e y h, f (y % 64) (omega arith), map-fields before y (c / 16 % 8) (c / 131072)))

  pub run-next : (gates : List ℕ) (i to : ℕ) → i < to → to ≤ length gates → c ≡ get_or gates i 0 → (y : ℕ) → y < 1024
      → evaluated code_value (column after y) (slice (i + 1) to gates) ≡ evaluated code_value (column before y) (slice i to gates)
  unfolding evaluated
  run-next gates i to n l g y h =
      rw (slice-cons i to gates 0 n l, ← g, add-one i, column-set (own c) (λ y. code_value (column before y) c) before after gate-stored y h)

pub evaluated-none : (vs gates : List ℕ) (i to : ℕ) → to ≤ i → evaluated code_value vs (slice i to gates) ≡ vs
unfolding evaluated
evaluated-none vs gates i to h = rw (drop_of_length-le (take to gates) {i = i} (simp length-take (omega arith)))
