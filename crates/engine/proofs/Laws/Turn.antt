-- Laws of the transposition (specs/Inner/Turn): the word that the code makes is a swapped row, four swaps turn 16 words, and the
-- columns of a block are turned one after the other. Assumes nothing.
use Prim.Native.Nat.{ℕ, zero, suc, ◌+◌, ◌-◌, ◌*◌, ◌/◌, ◌%◌, ◌^◌, min, max, ◌≤◌, ◌<◌}
use mathlib.Core.Path.{◌≡◌, refl, sym, ◌∙◌, ap}
use mathlib.Core.Logic.{◌⊎◌, inl, inr, ⊎_elim}
use mathlib.Core.List.{List, []}
use mathlib.Core.Bool.{Bool, true, ◌&&◌}
use native.Mathlib.Nat.{eq-or-lt_of_le, mul-le-mul_right, mod-eq_of_lt}
use native.Mathlib.Omega.{arith}
use borrow.Author.Count.{below_more}
use borrow.Author.Tests.{eqb-true, ltb-true, leb-true}
use lib.Bits.{bit_and, bit_or}
use lib.Dec.{eqb, ltb, leb}
use lib.ListN.{length, get_or, set, length-set}
use lib.Seq.{get_or-set_same, get_or-set_other}
use Rattle.records.specs.Bytes.{up_from, all}
use Rattle.records.proofs.Laws.Bytes.{and_left, and_right}
use Rattle.engine.specs.Eval.{bit}
use Rattle.engine.specs.Inner.Turn.{put, Moved, HalfMask, SwappedRow, Swapped, Turned, Column, Placed, TurnedAt}
use Rattle.engine.proofs.Laws.Choice.{all-iff-below}
use Rattle.engine.proofs.Laws.Eval.{bit-lt}
use Rattle.engine.proofs.Laws.Word.{bit-and, bit-or, bit_not}
use Rattle.engine.proofs.Laws.Shift.{bit-shr, bit-shl, bit_le}

-- ---- one word

-- a number below 2
two : (t : ℕ) → t < 2 → (t ≡ 0) ⊎ (t ≡ 1)
two zero h = inl refl
two (suc zero) h = inr refl
two (suc (suc t)) h = let f : ⊥ = omega arith in absurd f

-- what holds of the places below i and of v holds of one more once v is stored
pub stored_more : (P : ℕ → ℕ → Type 0) (y : List ℕ) (i v : ℕ) → i < length y → ((k : ℕ) → k < i → P k (get_or y k 0))
    → P i v → (k : ℕ) → k < i + 1 → P k (get_or (set y i v) k 0)
stored_more P y i v h f p =
    below_more (λ (k : ℕ). P k (get_or (set y i v) k 0)) i
    (λ k l. rw (get_or-set_other y i k v 0 (λ e. let z : ⊥ = omega arith in z)) (f k l))
    (rw (get_or-set_same y i v 0 h) p)

module _ (e : ℕ) (x : List ℕ) (i low : ℕ) where
  abbrev right : ℕ
  right = bit e i * 2 ^ e

  abbrev word : ℕ
  word =
      bit_or (bit_and (get_or x (i - right) 0 / 2 ^ right) low)
      (bit_and (get_or x (i - right + 2 ^ e) 0 * 2 ^ (2 ^ e - right) % 2 ^ 64) ((2 ^ 64 - 1) - low))

  right_le : right ≤ 2 ^ e
  right_le =
      let le : bit e i ≤ 1 = omega (arith, bit-lt e i) in
      omega (arith, mul-le-mul_right (2 ^ e) le)

  word-swapped : HalfMask e low → low < 2 ^ 64 → SwappedRow e x i word
  unfolding put
  word-swapped m l j h =
      let a = get_or x (i - right) 0 in
      let b = get_or x (i - right + 2 ^ e) 0 in
      let u = bit_le e j in
      let v = right_le in
      let n = m j h in
      let c : bit j word ≡ max (min (bit j (a / 2 ^ right)) (bit j low)) (min (bit j (b * 2 ^ (2 ^ e - right) % 2 ^ 64)) (1 - bit j low)) =
      bit-or j (bit_and (a / 2 ^ right) low) (bit_and (b * 2 ^ (2 ^ e - right) % 2 ^ 64) ((2 ^ 64 - 1) - low))
      ∙ rw (bit-and j (a / 2 ^ right) low, bit-and j (b * 2 ^ (2 ^ e - right) % 2 ^ 64) ((2 ^ 64 - 1) - low), bit_not j low h l) in
      ⊎_elim
      (λ (t : bit e j ≡ 0).
      let p : right + j ≡ j - 0 * 2 ^ e + right = omega arith in
      let q : i - right ≡ i - right + 0 * 2 ^ e = omega arith in
      let r : bit j word ≡ bit j (a / 2 ^ right) =
      omega (arith, c, bit-lt j (a / 2 ^ right), bit-lt j (b * 2 ^ (2 ^ e - right) % 2 ^ 64)) in
      rw t (r ∙ bit-shr j right a ∙ rw (p, ← q)))
      (λ (t : bit e j ≡ 1).
      let w : 2 ^ e ≤ j = omega (arith, rw t at u) in
      let p : j - (2 ^ e - right) ≡ j - 1 * 2 ^ e + right = omega arith in
      let q : i - right + 2 ^ e ≡ i - right + 1 * 2 ^ e = omega arith in
      let r : bit j word ≡ bit j (b * 2 ^ (2 ^ e - right) % 2 ^ 64) =
      omega (arith, c, bit-lt j (a / 2 ^ right), bit-lt j (b * 2 ^ (2 ^ e - right) % 2 ^ 64)) in
      rw t (r ∙ bit-shl j (2 ^ e - right) b (omega arith) h ∙ rw (p, ← q)))
      (two (bit e j) (bit-lt e j))

-- ---- indices: tests over all of them, computed

abbrev below : ℕ → (ℕ → Bool) → Bool
below n p = all p (up_from 0 n)

-- numbers below n stay so where a bit below 4 is set
abbrev puts_below : ℕ → Bool
puts_below n = below 4 (λ e. below 2 (λ t. below n (λ i. ltb (put e t i) n)))

put-lt : (n : ℕ) → puts_below n ≡ true → (e t i : ℕ) → e < 4 → t < 2 → i < n → put e t i < n
put-lt n p e t i h k l =
    ltb-true (put e t i) n
    ((all-iff-below (λ i. ltb (put e t i) n) n).0
    ((all-iff-below (λ t. below n (λ i. ltb (put e t i) n)) 2).0
    ((all-iff-below (λ e. below 2 (λ t. below n (λ i. ltb (put e t i) n))) 4).0 p e h) t k) i l)

put-row : (e t i : ℕ) → e < 4 → t < 2 → i < 16 → put e t i < 16
unfolding put bit all up_from
put-row = put-lt 16 refl

put-place : (e t j : ℕ) → e < 4 → t < 2 → j < 64 → put e t j < 64
unfolding put bit all up_from
put-place = put-lt 64 refl

abbrev swap : ℕ → (ℕ → ℕ → Bool) → ℕ → ℕ → Bool
swap e k i j = k (put e (bit e j) i) (put e (bit e i) j)

abbrev turns : ℕ → ℕ → Bool
turns i j = swap 0 (swap 1 (swap 2 (swap 3 (λ r c. eqb r (j % 16) && eqb c (j / 16 * 16 + i))))) i j

turns-true : below 16 (λ i. below 64 (turns i)) ≡ true
unfolding put bit all up_from
turns-true = refl

-- the four swaps, from bit 0 up, exchange the row's number and the place in its 16 bits
turns-all : (i j : ℕ) → i < 16 → j < 64 → turns i j ≡ true
turns-all i j h l = (all-iff-below (turns i) 64).0 ((all-iff-below (λ i. below 64 (turns i)) 16).0 turns-true i h) j l

-- the bit v stands at place j of row i
record Stands (x : List ℕ) (i j v : ℕ) : Type 0 where
  value : v ≡ bit j (get_or x i 0)
  row : i < 16
  place : j < 64

back : (e : ℕ) (x y : List ℕ) {i j v : ℕ} → e < 4 → Swapped e x y → Stands y i j v
    → Stands x (put e (bit e j) i) (put e (bit e i) j) v
back e x y {i} {j} h s q =
    record {
      value = q.value ∙ s i q.row j q.place;
      row = put-row e (bit e j) i h (bit-lt e j) q.row;
      place = put-place e (bit e i) j h (bit-lt e i) q.place;
    }

found : (x : List ℕ) {i j v : ℕ} (r p : ℕ) → Stands x i j v → eqb i r && eqb j p ≡ true → v ≡ bit p (get_or x r 0)
found x {i} {j} {v} r p q t =
    rw (← eqb-true i r (and_left (eqb i r) (eqb j p) t), ← eqb-true j p (and_right (eqb i r) (eqb j p) t)) q.value

pub turned : (x a b c y : List ℕ) → Swapped 3 x a → Swapped 2 a b → Swapped 1 b c → Swapped 0 c y → Turned x y
turned x a b c y s3 s2 s1 s0 k i j hk hi hj =
    let p = 16 * k + i in
    let q : Stands y j p (bit p (get_or y j 0)) = record { value = refl; row = hj; place = omega arith } in
    let f : bit p (get_or y j 0) ≡ bit (p / 16 * 16 + j) (get_or x (p % 16) 0) =
    found x (p % 16) (p / 16 * 16 + j)
    (back 3 x a (omega arith) s3 (back 2 a b (omega arith) s2 (back 1 b c (omega arith) s1 (back 0 c y (omega arith) s0 q))))
    (turns-all j p hj (omega arith)) in
    let r : p % 16 ≡ i = omega arith in
    let t : p / 16 * 16 + j ≡ 16 * k + j = omega arith in
    rw (r, t) at f

-- ---- what the code takes a row from

power-test : (e : ℕ) → e < 4 → eqb (1 * 2 ^ e % 2 ^ 64) (2 ^ e) && leb (2 ^ e) 8 ≡ true
unfolding all up_from
power-test = (all-iff-below (λ e. eqb (1 * 2 ^ e % 2 ^ 64) (2 ^ e) && leb (2 ^ e) 8) 4).0 refl

pub power-is : (e : ℕ) → e < 4 → (1 * 2 ^ e % 2 ^ 64 ≡ 2 ^ e) × (2 ^ e ≤ 8)
power-is e h =
    let p = eqb (1 * 2 ^ e % 2 ^ 64) (2 ^ e) in
    let q = leb (2 ^ e) 8 in
    let t = power-test e h in
    (eqb-true (1 * 2 ^ e % 2 ^ 64) (2 ^ e) (and_left p q t), leb-true (2 ^ e) 8 (and_right p q t))

pub moved-is : (e i : ℕ) → e < 4 → i < 16 → Moved e i (i / 2 ^ e % 2 * 2 ^ e % 2 ^ 64)
unfolding bit put
moved-is e i h l =
    let u = bit_le e i in
    let r : i / 2 ^ e % 2 * 2 ^ e % 2 ^ 64 ≡ bit e i * 2 ^ e = mod-eq_of_lt (omega arith) in
    let p = put-row e 1 i h (omega arith) l in
    record { value = r; most = omega arith; room = omega arith; share = omega (arith, right_le e [] i 0) }

pub row-swapped : (e : ℕ) (x : List ℕ) (i low r d : ℕ) → r ≡ bit e i * 2 ^ e → d ≡ 2 ^ e → HalfMask e low → low < 2 ^ 64
    → SwappedRow e x i
    (bit_or (bit_and (get_or x (i - r) 0 / 2 ^ r) low) (bit_and (get_or x (i - r + d) 0 * 2 ^ (d - r) % 2 ^ 64) ((2 ^ 64 - 1) - low)))
row-swapped e x i low r d p q m l = rw (p, q) (word-swapped e x i low m l)

-- the masks of the four stages, each a computed test
pub half-mask : (e low : ℕ) → all (λ j. eqb (bit j low) (1 - bit e j)) (up_from 0 64) ≡ true → HalfMask e low
half-mask e low t j h =
    eqb-true (bit j low) (1 - bit e j) ((all-iff-below (λ j. eqb (bit j low) (1 - bit e j)) 64).0 t j h)

-- ---- a column put back, word by word

pub placed-none : (w : ℕ) (c x : List ℕ) → length x ≡ 256 → Placed w 0 c x x
placed-none w c x l = record { long = l; here = λ i h. let f : ⊥ = omega arith in absurd f; others = λ n d. refl }

pub placed-next : (w i : ℕ) (c x y : List ℕ) → w < 16 → i < 16 → Placed w i c x y
    → Placed w (i + 1) c x (set y (16 * i + w) (get_or c i 0))
placed-next w i c x y h l p =
    let v = get_or c i 0 in
    let long = p.long in
    record {
      long = length-set y (16 * i + w) v ∙ long;
      here =
          λ k u.
          ⊎_elim
          (λ (e : k ≡ i). rw e (sym (get_or-set_same y (16 * i + w) v 0 (omega arith))))
          (λ (b : k < i). p.here k b ∙ sym (get_or-set_other y (16 * i + w) (16 * k + w) v 0 (λ e. let f : ⊥ = omega arith in f)))
          (eq-or-lt_of_le (omega arith));
      others = λ n d. get_or-set_other y (16 * i + w) n v 0 (λ e. d (omega arith)) ∙ p.others n d;
    }

-- ---- the columns, one after the other

-- the columns below w are turned, and the others as they were
pub record TurnedTo (w : ℕ) (x y : List ℕ) : Type 0 where
  pub long : length y ≡ 256
  pub done : (v : ℕ) → v < w → TurnedAt x y v
  pub rest : (n : ℕ) → w ≤ n % 16 → get_or y n 0 ≡ get_or x n 0

pub turned_none : (x : List ℕ) → length x ≡ 256 → TurnedTo 0 x x
turned_none x l = record { long = l; done = λ v h. let f : ⊥ = omega arith in absurd f; rest = λ n h. refl }

pub turned-next : (w : ℕ) (x y z c d : List ℕ) → w < 16 → TurnedTo w x y → Column y w c → Turned c d → Placed w 16 d y z
    → TurnedTo (w + 1) x z
turned-next w x y z c d h t p q r =
    record {
      long = r.long;
      done =
          λ v l.
          ⊎_elim
          (λ (e : v ≡ w).
          rw e
          (λ k i j hk hi hj.
          ap (bit (16 * k + i)) (sym (r.here j hj)) ∙ q k i j hk hi hj
          ∙ ap (bit (16 * k + j)) (p i hi ∙ t.rest (16 * i + w) (omega arith))))
          (λ (b : v < w).
          λ k i j hk hi hj.
          ap (bit (16 * k + i)) (r.others (16 * j + v) (λ e. let f : ⊥ = omega arith in f)) ∙ t.done v b k i j hk hi hj)
          (eq-or-lt_of_le (omega arith));
      rest = λ n l. r.others n (λ e. let f : ⊥ = omega arith in f) ∙ t.rest n (omega arith);
    }
