-- Laws of packed gates: the parts of a packed gate are those of the gate that it packs, and so is its value. Assumes nothing.
use Prim.Native.Nat.{ℕ, zero, suc, ◌+◌, ◌*◌, ◌-◌, ◌/◌, ◌%◌, ◌≤◌, ◌<◌}
use mathlib.Core.Path.{◌≡◌, refl, sym, ◌∙◌, ap}
use mathlib.Core.List.{List, [], ◌∷◌, map}
use mathlib.Core.Bool.{true}
use native.Mathlib.Omega.{arith}
use borrow.Author.Tests.{eqb-true}
use lib.ListN.{length, get_or, take}
use lib.Seq.{length-take-le, take-length}
use Rattle.records.specs.Gate.{Gate, operands, permits, gate_value, conj, disj, parity, inverted}
use Rattle.records.specs.Netlist.{net_at, value_of}
use Rattle.records.specs.Refusal.{gate_good}
use Rattle.records.specs.Claims.{Below}
use Rattle.records.proofs.Laws.Gate.{count_none, count-one, count-many, permits-parts, gate_good-permits, gate_good-kind, gate_good-count, slots-le, on_bit, on-plain, odd-inverts}
use Rattle.engine.specs.Inner.Packed.{fields, kind_of, count_of, own, operands_of, slots_number, gate_with, packed, formed, joined, folded, folded_from, code_value}
use Rattle.engine.proofs.Laws.Eval.{bits-map, gate_value-lt}

-- ---- parts

-- the parts of a number made of a kind, a count, a net and slots
record Parts (c k n d z : ℕ) : Type 0 where
  kind : c % 16 ≡ k
  count : c / 16 % 8 ≡ n
  net : c / 128 % 1024 ≡ d
  slots : c / 131072 ≡ z

parts : (k n d z : ℕ) → k < 16 → n < 8 → d < 1024 → Parts (k + 16 * n + 128 * d + 131072 * z) k n d z
parts k n d z h i j = record { kind = omega arith; count = omega arith; net = omega arith; slots = omega arith }

-- the first operand, and those behind it
pub fields-next : (n x : ℕ) → 0 < n → fields n x ≡ x % 1024 ∷ fields (n - 1) (x / 1024)
unfolding fields
fields-next zero x h = let f : ⊥ = omega arith in absurd f
fields-next (suc n) x h = let e : suc n - 1 ≡ n = omega arith in rw e

pub fields-none : (n x : ℕ) → n ≡ 0 → fields n x ≡ []
unfolding fields
fields-none n x e = rw e

pub field-below : (n x : ℕ) {y : ℕ} {ys : List ℕ} → fields n x ≡ y ∷ ys → y < 1024
unfolding fields
field-below zero x {ys = ys} e = let f : ⊥ = omega (arith, ap length e) in absurd f
field-below (suc n) x e = omega (arith, ap (λ (l : List ℕ). get_or l 0 0) e)

-- the first n slots, which fit into ten bits each
pub fields-slots : (n : ℕ) (ss : List ℕ) → n ≤ length ss → Below 1024 ss → fields n (slots_number ss) ≡ take n ss
unfolding fields slots_number
fields-slots zero ss h b = refl
fields-slots (suc n) [] h b = let f : ⊥ = omega arith in absurd f
fields-slots (suc n) (s ∷ ss) h b =
    let l : s < 1024 = b 0 in
    let m : (s + 1024 * slots_number ss) % 1024 ≡ s = omega arith in
    let q : (s + 1024 * slots_number ss) / 1024 ≡ slots_number ss = omega arith in
    rw (m, q, fields-slots n ss (omega arith) (λ i. b (suc i)))

-- ---- values

-- a fold from the first operand on is R where R takes the first two as one
module _ (op : ℕ) (R : List ℕ → ℕ) (f : ℕ → ℕ) (b : (i : ℕ) → f i < 2)
    (one : (x : ℕ) → x < 2 → x ≡ R (x ∷ []))
    (two : (x v : ℕ) (vs : List ℕ) → R (joined op x v ∷ vs) ≡ R (x ∷ v ∷ vs))
    (bit : (x v : ℕ) → x < 2 → v < 2 → joined op x v < 2) where
  folded-right : (x : ℕ) (is : List ℕ) → x < 2 → folded_from op x (map f is) ≡ R (x ∷ map f is)
  unfolding folded_from
  folded-right x [] h = one x h
  folded-right x (i ∷ is) h =
      folded-right (joined op x (f i)) is (bit x (f i) h (b i)) ∙ two x (f i) (map f is)

-- how many operands n kind k has, as far as its value asks
record Shaped (k n : ℕ) : Type 0 where
  none : k < 2 → n ≡ 0
  one : 2 ≤ k → k < 4 → n ≡ 1
  some : 4 ≤ k → 0 < n

shaped : (k n : ℕ) → permits k n ≡ true → Shaped k n
shaped k n e =
    let p = permits-parts k n e in
    record {
      none = λ h. let c = count_none k h in omega arith;
      one = λ l h. let c = count-one k l h in omega arith;
      some = λ l. let c = count-many k l p.0 in omega arith;
    }

module _ (f : ℕ → ℕ) (b : (i : ℕ) → f i < 2) where
  no_operand : (is : List ℕ) → Shaped 0 (length is) → folded 0 (map f is) ≡ gate_value 0 (map f is)
  unfolding folded gate_value
  no_operand [] s = refl
  no_operand (i ∷ is) s = let z : ⊥ = omega (arith, s.none (omega arith)) in absurd z

  one-operand : (is : List ℕ) → Shaped 2 (length is) → folded 1 (map f is) ≡ gate_value 2 (map f is)
  unfolding folded folded_from gate_value
  one-operand [] s = refl
  one-operand (i ∷ []) s = refl
  one-operand (i ∷ k ∷ is) s = let z : ⊥ = omega (arith, s.one (omega arith) (omega arith)) in absurd z

  folded-conj : (is : List ℕ) → Shaped 4 (length is) → folded 2 (map f is) ≡ gate_value 4 (map f is)
  unfolding folded joined gate_value conj
  folded-conj [] s = let z : ⊥ = omega (arith, s.some (omega arith)) in absurd z
  folded-conj (i ∷ is) s =
      folded-right 2 conj f b (λ x h. omega arith) (λ x v vs. omega arith) (λ x v h l. omega arith) (f i) is (b i)

  folded-disj : (is : List ℕ) → folded 3 (map f is) ≡ gate_value 6 (map f is)
  unfolding folded joined gate_value disj
  folded-disj [] = refl
  folded-disj (i ∷ is) =
      folded-right 3 disj f b (λ x h. omega arith) (λ x v vs. omega arith) (λ x v h l. omega arith) (f i) is (b i)

  folded-parity : (is : List ℕ) → folded 4 (map f is) ≡ gate_value 8 (map f is)
  unfolding folded joined gate_value parity
  folded-parity [] = refl
  folded-parity (i ∷ is) =
      folded-right 4 parity f b (λ x h. omega arith) (λ x v vs. omega arith) (λ x v h l. omega arith) (f i) is (b i)

  -- the plain kinds
  plain_value : (is : List ℕ) (k : ℕ) → k % 2 ≡ 0 → k < 10 → Shaped k (length is)
      → folded (k / 2) (map f is) ≡ gate_value k (map f is)
  plain_value is =
      on-plain (λ k. k < 10 → Shaped k (length is) → folded (k / 2) (map f is) ≡ gate_value k (map f is))
      (λ h. no_operand is) (λ h. one-operand is) (λ h. folded-conj is) (λ h s. folded-disj is) (λ h s. folded-parity is)
      (λ k l h. let z : ⊥ = omega arith in absurd z)

  -- each kind, on as many operands as it may have
  kind-value : (k : ℕ) (is : List ℕ) → permits k (length is) ≡ true
      → (folded (k / 2) (map f is) + k % 2) % 2 ≡ gate_value k (map f is)
  unfolding inverted
  kind-value k is e = on_bit (λ r. k % 2 ≡ r → goal) even odd (k % 2) (omega arith) refl
    where
      goal : Type 0
      goal = (folded (k / 2) (map f is) + k % 2) % 2 ≡ gate_value k (map f is)

      s : Shaped k (length is)
      s = shaped k (length is) e

      k_lt : k < 10
      k_lt = (permits-parts k (length is) e).0

      even : k % 2 ≡ 0 → goal
      even m =
          let v = plain_value is k m k_lt s in
          let l = gate_value-lt k (bits-map f b is) in
          omega arith

      odd : k % 2 ≡ 1 → goal
      odd m =
          let p : ℕ = k - 1 in
          let q : suc p ≡ k = omega arith in
          let t : p % 2 ≡ 0 = omega arith in
          let d : k / 2 ≡ p / 2 = omega arith in
          let h : p < 10 = omega (arith, k_lt) in
          let v = plain_value is p t h
          (record {
            none = λ l. s.none (omega arith);
            one = λ a l. s.one (omega arith) (omega arith);
            some = λ a. s.some (omega arith);
          }) in
          let l = gate_value-lt p (bits-map f b is) in
          let i = odd-inverts p (map f is) t h in
          let j : gate_value (suc p) (map f is) ≡ gate_value k (map f is) = ap (λ (n : ℕ). gate_value n (map f is)) q in
          rw (m, d, v, sym j, i) (omega arith)

-- the lowest four bits of a packed gate say what it does
low-op : (c : ℕ) → c / 2 % 8 ≡ c % 16 / 2
low-op c = omega arith

low-inverts : (c : ℕ) → c % 2 ≡ c % 16 % 2
low-inverts c = omega arith

-- ---- a good gate, packed

module _ (d : ℕ) (g : Gate) (e : gate_good d g ≡ true) (f : formed g ≡ true) (h : d < 1024) where
  packed-parts : Parts (packed d g) g.kind g.count d (slots_number g.slots)
  unfolding packed
  packed-parts =
      let k = gate_good-kind d g e in
      let n = gate_good-count d g e in
      parts g.kind g.count d (slots_number g.slots) (omega arith) (omega arith) h

  pub packed-own : own (packed d g) ≡ d
  packed-own = packed-parts.net

  pub packed-kind : kind_of (packed d g) ≡ g.kind
  packed-kind = packed-parts.kind

  pub packed-count : count_of (packed d g) ≡ g.count
  packed-count = packed-parts.count

  slots-four : length g.slots ≡ 4
  unfolding formed
  slots-four = eqb-true (length g.slots) 4 f

  slots-below : Below 1024 g.slots
  slots-below i = omega (arith, slots-le d g e i)

  pub packed-slots : fields 4 (packed d g / 131072) ≡ g.slots
  packed-slots =
      rw packed-parts.slots
      (fields-slots 4 g.slots (omega (arith, slots-four)) slots-below
      ∙ ap (λ (n : ℕ). take n g.slots) (sym slots-four)
      ∙ take-length g.slots)

  pub packed-operands : operands_of (packed d g) ≡ operands g
  unfolding operands
  packed-operands =
      rw (packed-parts.count, packed-parts.slots)
      (fields-slots g.count g.slots (omega (arith, slots-four, gate_good-count d g e)) slots-below)

  pub length-operands : length (operands g) ≡ g.count
  unfolding operands
  length-operands = length-take-le g.count g.slots (omega (arith, slots-four, gate_good-count d g e))

  pub packed-value : (vs : List ℕ) → ((i : ℕ) → get_or vs i 0 < 2) → code_value vs (packed d g) ≡ value_of vs g
  unfolding code_value value_of net_at
  packed-value vs b =
      let c = packed d g in
      let o : c / 2 % 8 ≡ g.kind / 2 = low-op c ∙ ap (λ (k : ℕ). k / 2) packed-kind in
      let i : c % 2 ≡ g.kind % 2 = low-inverts c ∙ ap (λ (k : ℕ). k % 2) packed-kind in
      rw (o, i, packed-operands)
      (kind-value (λ i. get_or vs i 0) b g.kind (operands g)
      (ap (permits g.kind) length-operands ∙ gate_good-permits d g e))

-- the number of a gate of four slots
pub packed-of : (d k n : ℕ) (ss : List ℕ) → length ss ≡ 4
    → packed d (gate_with k n ss)
    ≡ k + 16 * n + 128 * d + (131072 * get_or ss 0 0 + 134217728 * get_or ss 1 0) + 137438953472 * get_or ss 2 0 + 140737488355328 * get_or ss 3 0
unfolding packed slots_number
packed-of d k n [] h = let f : ⊥ = omega arith in absurd f
packed-of d k n (a ∷ []) h = let f : ⊥ = omega arith in absurd f
packed-of d k n (a ∷ b ∷ []) h = let f : ⊥ = omega arith in absurd f
packed-of d k n (a ∷ b ∷ c ∷ []) h = let f : ⊥ = omega arith in absurd f
packed-of d k n (a ∷ b ∷ c ∷ z ∷ []) h = omega arith
packed-of d k n (a ∷ b ∷ c ∷ z ∷ y ∷ ss) h = let f : ⊥ = omega arith in absurd f

pub code_value-lt : (vs : List ℕ) (c : ℕ) → code_value vs c < 2
unfolding code_value
code_value-lt vs c = omega arith
