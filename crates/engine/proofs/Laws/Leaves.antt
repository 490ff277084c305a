-- Laws of single nets and rows of a block: nets set one after the other, rows as numbers, where two rows of outputs are equal, and the
-- first scenario of which a row says 0. Assumes nothing.
use Prim.Native.Nat.{ℕ, zero, suc, ◌+◌, ◌-◌, ◌*◌, ◌/◌, ◌%◌, ◌^◌, min, ◌≤◌, ◌<◌}
use mathlib.Core.Path.{◌≡◌, refl, sym, ◌∙◌, ap}
use mathlib.Core.List.{List, [], ◌∷◌, map}
use mathlib.Core.Logic.{inl, inr, ⊎_elim}
use mathlib.Core.Bool.{Bool, true, false, cond, ◌&&◌}
use native.Mathlib.Nat.{eq-zero-or-pos}
use native.Mathlib.Omega.{arith}
use lib.Bits.{bit_and, bit_xor}
use lib.Dec.{eqb}
use lib.ListN.{length, get_or, take, set, replicate}
use lib.Seq.{get_or-take, get_or-set_same, get_or-set_other, length-take-le}
use Rattle.records.specs.Bytes.{up_from, tabulate}
use Rattle.engine.specs.Choice.{same}
use Rattle.engine.specs.Eval.{bit, number_of}
use Rattle.engine.specs.Inner.Kernel.{Filled, row_value, value_in, NetSet, NetsSet, FirstZero}
use Rattle.engine.specs.Inner.Note.{gathered}
use Rattle.engine.proofs.Laws.Eval.{bit-lt}
use Rattle.engine.proofs.Laws.Fill.{fill-at}
use Rattle.engine.proofs.Laws.Kernel.{net-filled, bit-sum}
use Rattle.engine.proofs.Laws.Outputs.{same_next}
use Rattle.engine.proofs.Laws.Word.{bit-and, bit-zero, bit-ones, ones_below, zero_after}
use Rattle.std.specs.Int.{trailing_ones}
use Rattle.std.proofs.Common.{w64}

-- ---- rows

-- one word more of a row whose values are to be g
pub row_next : (g : ℕ → ℕ) (r : List ℕ) (w v : ℕ) → w < length r → ((y : ℕ) → y < 64 * w → row_value r y ≡ g y)
    → ((y : ℕ) → y / 64 ≡ w → bit (y % 64) v ≡ g y) → (y : ℕ) → y < 64 * (w + 1) → row_value (set r w v) y ≡ g y
unfolding row_value
row_next g r w v h e f y k =
    ⊎_elim
    (λ (l : 64 * w - y ≡ 0). let q : y / 64 ≡ w = omega arith in
    ap (λ (p : ℕ). bit (y % 64) (get_or (set r w v) p 0)) q ∙ ap (bit (y % 64)) (get_or-set_same r w v 0 h) ∙ f y q)
    (λ (l : 0 < 64 * w - y). let q : y / 64 < w = omega arith in
    ap (bit (y % 64)) (get_or-set_other r w (y / 64) v 0 (λ x. omega arith)) ∙ e y (omega arith))
    (eq-zero-or-pos (64 * w - y))

-- an input's place in its block of 1,024, and in one of 64
pub input-place : (b y : ℕ) → 64 * (16 * b + y / 64) + y % 64 ≡ 1024 * b + y
input-place b y = omega arith

-- ---- nets set

pub row-stored : (i : ℕ) (r before after : List ℕ) → Filled (λ w. get_or r w 0) (16 * i) 16 before after
    → NetSet i (row_value r) before after
unfolding row_value
row-stored i r before after d = net-filled i (λ w. get_or r w 0) (row_value r) before after d (λ y h. refl)

pub net-alike : (i : ℕ) (f g : ℕ → ℕ) (before after : List ℕ) → NetSet i f before after → ((y : ℕ) → y < 1024 → f y ≡ g y)
    → NetSet i g before after
net-alike i f g before after s e = record { long = s.long; put = λ y h. s.put y h ∙ e y h; kept = s.kept }

pub nets-none : (at : ℕ) (f : ℕ → ℕ → ℕ) (d : List ℕ) → NetsSet at 0 f d d
nets-none at f d =
    record { long = refl; put = λ y k h l. let z : ⊥ = omega arith in absurd z; kept = λ y k h o. refl }

-- one net more
pub nets-next : (at n q : ℕ) (f : ℕ → ℕ → ℕ) (before mid after : List ℕ) → NetsSet at n f before mid → q ≡ at + n
    → NetSet q (λ y. f y n) mid after → NetsSet at (n + 1) f before after
unfolding value_in
nets-next at n q f before mid after s e t =
    record {
      long = t.long ∙ s.long;
      put =
          λ y k h l.
          ⊎_elim
          (λ (m : n - k ≡ 0). let i : at + k ≡ q = omega arith in let j : n ≡ k = omega arith in
          ap (value_in after y) i ∙ t.put y h ∙ ap (f y) j)
          (λ (m : 0 < n - k). t.kept y (at + k) h (inl (omega arith)) ∙ s.put y k h (omega arith))
          (eq-zero-or-pos (n - k));
      kept =
          λ y k h o.
          ⊎_elim
          (λ (l : k < at). t.kept y k h (inl (omega arith)) ∙ s.kept y k h (inl l))
          (λ (l : at + (n + 1) ≤ k). t.kept y k h (inr (omega arith)) ∙ s.kept y k h (inr (omega arith)))
          o;
    }

-- ---- rows as numbers

-- the number of a list's values, with zeros up to n of them
number_of-padded : (f g : ℕ → ℕ) (a n : ℕ) (is : List ℕ) → length is ≤ n
    → ((k : ℕ) → k < length is → f (a + k) ≡ g (get_or is k 0)) → ((k : ℕ) → length is ≤ k → f (a + k) ≡ 0)
    → number_of (map f (up_from a n)) ≡ number_of (map g is)
unfolding number_of up_from
number_of-padded f g a zero [] h e z = refl
number_of-padded f g a zero (i ∷ is) h e z = let q : ⊥ = omega arith in absurd q
number_of-padded f g a (suc n) [] h e z =
    let v : f a ≡ 0 = ap f (let q : a ≡ a + 0 = omega arith in q) ∙ z 0 (omega arith) in
    let r = number_of-padded f g (suc a) n [] (omega arith) (λ k l. let q : ⊥ = omega arith in absurd q)
    (λ k l. let q : suc a + k ≡ a + suc k = omega arith in ap f q ∙ z (suc k) (omega arith)) in
    omega arith
number_of-padded f g a (suc n) (i ∷ is) h e z =
    let v : f a ≡ g i = ap f (let q : a ≡ a + 0 = omega arith in q) ∙ e 0 (omega arith) in
    let r = number_of-padded f g (suc a) n is (omega arith)
    (λ k l. let q : suc a + k ≡ a + suc k = omega arith in ap f q ∙ e (suc k) (omega arith))
    (λ k l. let q : suc a + k ≡ a + suc k = omega arith in ap f q ∙ z (suc k) (omega arith)) in
    omega arith

pub get_or-zeros : (n k : ℕ) → get_or {A = ℕ} (replicate n 0) k 0 ≡ 0
get_or-zeros zero k = refl
get_or-zeros (suc n) zero = refl
get_or-zeros (suc n) (suc k) = get_or-zeros n k

pub value_in-zero : (n y i : ℕ) → value_in (replicate n 0) y i ≡ 0
unfolding value_in
value_in-zero n y i = ap (bit (y % 64)) (get_or-zeros n (16 * i + y / 64)) ∙ bit-zero (y % 64)

-- f says the value of a net in a scenario
pub gathered-nets : (f : ℕ → ℕ → ℕ) (nets rows : List ℕ) (count : ℕ) → count ≤ length nets → count ≤ 16
    → NetsSet 0 count (λ y k. f y (get_or nets k 0)) (replicate 256 0) rows → (y : ℕ) → y < 1024
    → gathered rows y ≡ number_of (map (f y) (take count nets))
unfolding gathered tabulate
gathered-nets f nets rows count h l s y k =
    let n = length-take-le count nets h in
    number_of-padded (value_in rows y) (f y) 0 16 (take count nets) (omega arith)
    (λ i o. let p : i < count = omega arith in s.put y i k p ∙ ap (f y) (sym (get_or-take count nets i 0 p)))
    (λ i o. s.kept y (0 + i) k (inr (omega arith)) ∙ value_in-zero 256 y (0 + i))

-- ---- equal outputs

equal-bits : (p q : ℕ) → p < 2 → q < 2 → ((p + q) % 2 + 1) % 2 ≡ cond (eqb p q) 1 0
equal-bits zero zero i j = refl
equal-bits zero (suc zero) i j = refl
equal-bits (suc zero) zero i j = refl
equal-bits (suc zero) (suc zero) i j = refl
equal-bits zero (suc (suc q)) i j = let z : ⊥ = omega arith in absurd z
equal-bits (suc zero) (suc (suc q)) i j = let z : ⊥ = omega arith in absurd z
equal-bits (suc (suc p)) q i j = let z : ⊥ = omega arith in absurd z

kept-bit : (x : ℕ) (b : Bool) → x < 2 → min x (cond b 1 0) ≡ cond b x 0
kept-bit x true h = omega arith
kept-bit x false h = omega arith

-- a word, with 0 where two words differ
pub bit_kept : (j x p q : ℕ) → j < 64
    → bit j (bit_and x (bit_xor (bit_xor p q) (2 ^ 64 - 1))) ≡ cond (eqb (bit j p) (bit j q)) (bit j x) 0
bit_kept j x p q h =
    bit-and j x (bit_xor (bit_xor p q) (2 ^ 64 - 1))
    ∙ rw (bit-sum j (bit_xor p q) (2 ^ 64 - 1), bit-sum j p q, bit-ones j h, equal-bits (bit j p) (bit j q) (bit-lt j p) (bit-lt j q))
    (kept-bit (bit j x) (eqb (bit j p) (bit j q)) (bit-lt j x))

-- .. of 16 words
pub row_kept : (a b : ℕ) (words r r' : List ℕ)
    → Filled (λ w. bit_and (get_or r w 0) (bit_xor (bit_xor (get_or words (16 * a + w) 0) (get_or words (16 * b + w) 0)) (2 ^ 64 - 1))) 0 16 r r'
    → (y : ℕ) → y < 1024 → row_value r' y ≡ cond (eqb (value_in words y a) (value_in words y b)) (row_value r y) 0
unfolding row_value value_in
row_kept a b words r r' l y h =
    ap (bit (y % 64)) (fill-at l (y / 64) (omega arith))
    ∙ bit_kept (y % 64) (get_or r (y / 64) 0) (get_or words (16 * a + y / 64) 0) (get_or words (16 * b + y / 64) 0) (omega arith)

both_equal : (a b : Bool) → ◌≡◌ {A = ℕ} (cond b (cond a 1 0) 0) (cond (a && b) 1 0)
both_equal true true = refl
both_equal true false = refl
both_equal false true = refl
both_equal false false = refl

-- one output more
pub equal_next : (f : ℕ → ℕ) (os ps : List ℕ) (k v v' : ℕ) → k < length os → k < length ps
    → v ≡ cond (same (map f (take k os)) (map f (take k ps))) 1 0
    → v' ≡ cond (eqb (f (get_or os k 0)) (f (get_or ps k 0))) v 0
    → v' ≡ cond (same (map f (take (k + 1) os)) (map f (take (k + 1) ps))) 1 0
equal_next f os ps k v v' h l e d =
    let x = map f (take k os) in
    let y = map f (take k ps) in
    let t = eqb (f (get_or os k 0)) (f (get_or ps k 0)) in
    d ∙ ap (λ (u : ℕ). cond t u 0) e ∙ both_equal (same x y) t ∙ ap (λ (c : Bool). cond c 1 0) (sym (same_next f os ps k h l))

-- ---- a row of zeros

-- one word more that is 0
pub zeros-more : (row : List ℕ) (w : ℕ) → ((y : ℕ) → y < 64 * w → row_value row y ≡ 0) → get_or row w 0 ≡ 0
    → (y : ℕ) → y < 64 * (w + 1) → row_value row y ≡ 0
unfolding row_value
zeros-more row w e z y h =
    ⊎_elim
    (λ (l : 64 * w - y ≡ 0). let q : y / 64 ≡ w = omega arith in rw (q, z) (bit-zero (y % 64)))
    (λ (l : 0 < 64 * w - y). e y (omega arith))
    (eq-zero-or-pos (64 * w - y))

-- a 0 in a word inverted is a 1
pub bit-set : (i x v : ℕ) → i < 64 → bit i (bit_xor x (2 ^ 64 - 1)) ≡ v → v < 2 → bit i x ≡ 1 - v
bit-set i x v h e l =
    let s : (bit i x + 1) % 2 ≡ v = ap (λ (k : ℕ). (bit i x + k) % 2) (sym (bit-ones i h)) ∙ sym (bit-sum i x (2 ^ 64 - 1)) ∙ e in
    omega (arith, bit-lt i x)

-- ---- the first scenario of which a row says 0

module _ (row : List ℕ) (w r : ℕ) (e : (y : ℕ) → y < 64 * w → row_value row y ≡ 1) (o : r ≡ trailing_ones w64 (get_or row w 0))
    (fits : get_or row w 0 < 2 ^ 64) where
  row_word : (y : ℕ) → y / 64 ≡ w → row_value row y ≡ bit (y % 64) (get_or row w 0)
  unfolding row_value
  row_word y q = ap (λ (k : ℕ). bit (y % 64) (get_or row k 0)) q

  -- the word begins with so many ones
  pub ones-more : (y : ℕ) → y < 64 * w + r → y < 64 * (w + 1) → row_value row y ≡ 1
  ones-more y h k =
      ⊎_elim
      (λ (a : 64 * w - y ≡ 0). row_word y (omega arith) ∙ ones_below (get_or row w 0) fits (y % 64) (omega (arith, o)))
      (λ (a : 0 < 64 * w - y). e y (omega arith))
      (eq-zero-or-pos (64 * w - y))

  pub zero-found : w < 16 → r < 64 → FirstZero row (64 * w + r)
  zero-found h a =
      let p : (64 * w + r) % 64 ≡ r = omega arith in
      record {
        most = omega arith;
        ones = λ y k. ones-more y k (omega arith);
        zero =
            λ k.
            row_word (64 * w + r) (omega arith)
            ∙ ap (λ (i : ℕ). bit i (get_or row w 0)) p
            ∙ ap (λ (i : ℕ). bit i (get_or row w 0)) o
            ∙ zero_after (get_or row w 0) fits (rw o at a);
      }
