-- Laws of the rows of a block (specs/Inner/Note): what the rows say of a scenario, also once they are transposed;
-- and the sets of vectors after a block's inputs, which may come in any order and more than once. Assumes nothing.
use Prim.Native.Nat.{ℕ, zero, suc, ◌+◌, ◌*◌, ◌/◌, ◌%◌, ◌^◌, ◌≤◌, ◌<◌}
use mathlib.Core.Path.{◌≡◌, refl, sym, ◌∙◌, ap}
use mathlib.Core.Logic.{◌↔◌}
use mathlib.Core.List.{List}
use native.Mathlib.Nat.{add-zero, zero-add, mod-lt, mod-eq_of_lt, mod-one, pow-suc}
use native.Mathlib.Numerals.{add-one}
use native.Mathlib.Omega.{arith}
use lib.Bits.{bit_and}
use lib.ListN.{length, get_or, length-set}
use lib.Pow.{mod-pow-add}
use Rattle.records.specs.Bytes.{up_from, tabulate}
use Rattle.records.proofs.Laws.Bytes.{tabulate-ext}
use Rattle.engine.specs.Eval.{bit, bits, number_of}
use Rattle.engine.specs.Inner.Note.{narrowed, sets_from, gathered, visited, Stepped}
use Rattle.engine.specs.Inner.Kernel.{value_in}
use Rattle.engine.specs.Inner.Search.{RowsSay}
use Rattle.engine.specs.Inner.Turn.{TurnedAt, ColumnsTurned}
use Rattle.engine.proofs.Laws.AnyOrder.{met, under, sets_from-met, met-along, met-order}
use Rattle.engine.proofs.Laws.Eval.{bit-lt}
use Rattle.engine.proofs.Laws.Picked.{bit-first, bit-suc, bits-suc}
use Rattle.engine.proofs.Laws.Shift.{bit-shr, bit-mod}
use Rattle.engine.proofs.Laws.VectorSets.{bit-tabulate, tabulate-lt}
use Rattle.engine.proofs.Laws.List.{narrowing}
use Rattle.engine.proofs.Laws.Word.{bit-zero}

-- ---- what the rows say of a scenario

module _ (x : List ℕ) (y : ℕ) where
  pub value_in-lt : (i : ℕ) → value_in x y i < 2
  unfolding value_in
  value_in-lt i = bit-lt (y % 64) (get_or x (16 * i + y / 64) 0)

  pub gathered-lt : gathered x y < 65536
  unfolding gathered
  gathered-lt = tabulate-lt 16 (value_in x y) value_in-lt

  pub bit-gathered : (i : ℕ) → i < 16 → bit i (gathered x y) ≡ value_in x y i
  unfolding gathered
  bit-gathered i h = bit-tabulate 16 (value_in x y) value_in-lt i h

-- ---- the transposed rows

pub turned-back : (n : ℕ) (x y : List ℕ) → ColumnsTurned n x y → ColumnsTurned n y x
turned-back n x y t w h k i j hk hi hj = sym (t w h k j i hk hj hi)

-- the number made of a number's lowest bits
pub number_of-bits : (k x : ℕ) → number_of (bits k x) ≡ x % 2 ^ k
unfolding number_of bits tabulate up_from
number_of-bits zero x = sym (mod-one x)
number_of-bits (suc k) x =
    let m : x % 2 ^ suc k ≡ x / 2 % 2 ^ k * 2 + x % 2 = rw (add-one k) at (mod-pow-add x k 1) in
    ap number_of (bits-suc k x) ∙ omega (arith, number_of-bits k (x / 2))

-- rows have the bits of what they say of a scenario: all of them, and four from row first on
pub rows_whole : (x : List ℕ) (n : ℕ) → n ≤ 16 → RowsSay x 0 n (gathered x)
rows_whole x n h y k l m = rw (zero-add k) (sym (bit-gathered x y k (omega arith)))

pub rows_four : (x : List ℕ) (first n : ℕ) → first ≤ 12 → n ≤ 4 → RowsSay x first n (λ y. gathered x y / 2 ^ first % 16)
rows_four x first n h l y k m o =
    sym
    (bit-mod 4 k (gathered x y / 2 ^ first) (omega arith)
    ∙ bit-shr k first (gathered x y)
    ∙ bit-gathered x y (first + k) (omega arith))

-- two values that are below 2, and 1 alike
bit-alike : (a b : ℕ) → a < 2 → b < 2 → (a ≡ 1) ↔ (b ≡ 1) → a ≡ b
bit-alike zero zero l m h = refl
bit-alike zero (suc b) l m h = h.1 (omega arith) ∙ omega arith
bit-alike (suc a) b l m h = let e : suc a ≡ 1 = omega arith in e ∙ sym (h.0 e)

-- numbers below 2 ^ k with the same bits
pub bit-ext : (k x y : ℕ) → x < 2 ^ k → y < 2 ^ k → ((i : ℕ) → i < k → (bit i x ≡ 1) ↔ (bit i y ≡ 1)) → x ≡ y
unfolding bits
bit-ext k x y l m h =
    sym (mod-eq_of_lt l)
    ∙ sym (number_of-bits k x)
    ∙ ap number_of
    (tabulate-ext k (λ i. bit i x) (λ i. bit i y) (λ i u. bit-alike (bit i x) (bit i y) (bit-lt i x) (bit-lt i y) (h i u)))
    ∙ number_of-bits k y
    ∙ mod-eq_of_lt m

-- the only bit of a power of two
pub bit-pow : (w i : ℕ) → (bit i (2 ^ w) ≡ 1) ↔ (i ≡ w)
bit-pow zero zero = (λ e. refl, λ e. bit-first 1)
bit-pow zero (suc i) = (
  λ e. let z = bit-suc i 1 ∙ bit-zero i in let f : ⊥ = omega arith in absurd f,
  λ e. let f : ⊥ = omega arith in absurd f,
)
bit-pow (suc w) zero = (
  λ e. let z = bit-first (2 ^ suc w) in let f : ⊥ = omega (arith, pow-suc 2 w) in absurd f,
  λ e. let f : ⊥ = omega arith in absurd f,
)
bit-pow (suc w) (suc i) =
    let h = bit-pow w i in
    let d : 2 ^ suc w / 2 ≡ 2 ^ w = omega (arith, pow-suc 2 w) in
    let e : bit (suc i) (2 ^ suc w) ≡ bit i (2 ^ w) = bit-suc i (2 ^ suc w) ∙ ap (bit i) d in
    (λ b. ap suc (h.0 (sym e ∙ b)), λ q. e ∙ h.1 (omega arith))

digits : (w b : ℕ) → b < 64 → ((64 * w + b) % 64 ≡ b) × ((64 * w + b) / 64 ≡ w)
digits w b h = (omega arith, omega arith)

-- a quarter of a transposed word is what the rows say of one scenario
quarter : (x y : List ℕ) (w : ℕ) → TurnedAt x y w → (k j : ℕ) → k < 4 → j < 16
    → get_or y (16 * j + w) 0 / 2 ^ (16 * k) % 65536 ≡ gathered x (64 * w + (16 * k + j))
unfolding gathered value_in bits
quarter x y w t k j hk hj =
    let q = get_or y (16 * j + w) 0 / 2 ^ (16 * k) in
    let d = digits w (16 * k + j) (omega arith) in
    sym (number_of-bits 16 q)
    ∙ ap number_of
    (tabulate-ext 16 (λ r. bit r q) (value_in x (64 * w + (16 * k + j)))
    (λ r u. bit-shr r (16 * k) (get_or y (16 * j + w) 0) ∙ t k r j hk u hj ∙ rw (d.0, d.1)))

-- .. and the other way
pub gathered-quarter : (x y : List ℕ) → ColumnsTurned 16 x y → (s : ℕ) → s < 1024
    → gathered x s ≡ get_or y (16 * (s % 16) + s / 64) 0 / 2 ^ (16 * (s / 16 % 4)) % 65536
gathered-quarter x y t s h =
    let e : 64 * (s / 64) + (16 * (s / 16 % 4) + s % 16) ≡ s = omega arith in
    ap (gathered x) (sym e)
    ∙ sym (quarter x y (s / 64) (t (s / 64) (omega arith)) (s / 16 % 4) (s % 16) (omega arith) (omega arith))

-- a reading is the low bits of a quarter
pub mod-small : (z : ℕ) → z % 1024 ≡ z % 65536 % 1024
mod-small z = omega arith

-- ---- the sets, quarter by quarter

pub sets_from-length : (f g : ℕ → ℕ) (ss : List ℕ) (x n : ℕ) → length (sets_from f g ss x n) ≡ length ss
unfolding sets_from narrowed
sets_from-length f g ss x zero = refl
sets_from-length f g ss x (suc n) =
    sets_from-length f g (narrowed ss (g x) (f x)) (suc x) n ∙ length-set ss (g x) (bit_and (get_or ss (g x) 0) (f x))

-- another numbering
pub sets_from-agree : (f g h k : ℕ → ℕ) (ss : List ℕ) (x y n : ℕ)
    → ((i : ℕ) → i < n → (f (x + i) ≡ h (y + i)) × (g (x + i) ≡ k (y + i))) → sets_from f g ss x n ≡ sets_from h k ss y n
unfolding sets_from
sets_from-agree f g h k ss x y zero e = refl
sets_from-agree f g h k ss x y (suc n) e =
    let d = rw (add-zero x, add-zero y) at (e 0 (omega arith)) in
    rw (d.0, d.1)
    (sets_from-agree f g h k (narrowed ss (k y) (h y)) (suc x) (suc y) n
    (λ i l.
    let p : suc x + i ≡ x + suc i = omega arith in
    let q : suc y + i ≡ y + suc i = omega arith in
    rw (p, q) (e (suc i) (omega arith))))

-- one scenario more: a quarter of a turned word
pub step-next : (R : List ℕ → ℕ → ℕ → List ℕ → Type 0) (n : ℕ) (x y ms rs : List ℕ) (w i k : ℕ) (ss ts us : List ℕ)
    → ColumnsTurned n x ms → ColumnsTurned n y rs → w < n → i < 16 → k < 4
    → Stepped R (gathered x) (gathered y) (64 * w + 4 * i + k) ss ts
    → R ts (get_or rs (16 * i + w) 0 / 2 ^ (16 * k) % 1024) (get_or ms (16 * i + w) 0 / 2 ^ (16 * k) % 65536) us
    → Stepped R (gathered x) (gathered y) (64 * w + 4 * i + (k + 1)) ss us
step-next R n x y ms rs w i k ss ts us t u h hi hk p r =
    let m : ℕ = 64 * w + 4 * i + k in
    let e : 64 * w + 4 * i + (k + 1) ≡ suc m = omega arith in
    let v : 64 * w + (16 * k + i) ≡ visited m = omega arith in
    let f = quarter x ms w (t w h) k i hk hi ∙ ap (gathered x) v in
    let g = mod-small (get_or rs (16 * i + w) 0 / 2 ^ (16 * k)) ∙ ap (λ (z : ℕ). z % 1024) (quarter y rs w (u w h) k i hk hi ∙ ap (gathered y) v) in
    rw e (ts, p, rw (f, g) at r)

-- steps that narrow, in their order
narrowed-met : (f g : ℕ → ℕ) (n : ℕ) (ss ts : List ℕ) → Stepped (λ before r s after. after ≡ narrowed before r s) f g n ss ts
    → ts ≡ met (narrowing (λ k. f (visited k)) (λ k. g (visited k) % 1024)) ss (under (λ y. y) n)
unfolding met under
narrowed-met f g zero ss ts e = e
narrowed-met f g (suc n) ss ts (us, p, e) =
    e ∙ ap (λ (vs : List ℕ). narrowed vs (g (visited n) % 1024) (f (visited n))) (narrowed-met f g n ss us p)

-- the place of a scenario in the order
abbrev turn_of : ℕ → ℕ
turn_of y = 64 * (y / 64) + (4 * (y % 16) + y % 64 / 16)

visit-lt : (c n : ℕ) → n < 64 * c → visited n < 64 * c
visit-lt c n h = omega arith

turn_of-lt : (c y : ℕ) → y < 64 * c → turn_of y < 64 * c
turn_of-lt c y h = omega arith

visit-turn_of : (y : ℕ) → visited (turn_of y) ≡ y
visit-turn_of y = omega arith

-- .. and in any
pub narrowed-sets : (f g : ℕ → ℕ) (c : ℕ) (ss ts : List ℕ) → Stepped (λ before r s after. after ≡ narrowed before r s) f g (64 * c) ss ts
    → ts ≡ sets_from f (λ y. g y % 1024) ss 0 (64 * c)
narrowed-sets f g c ss ts p =
    let h : ℕ → ℕ = λ y. g y % 1024 in
    narrowed-met f g (64 * c) ss ts p
    ∙ met-along visited f h (λ k. f (visited k)) (λ k. h (visited k)) ss (64 * c) (λ n l. (refl, refl))
    ∙ met-order f h visited (λ y. y) ss (64 * c) (64 * c) (λ n l. (visited n, visit-lt c n l, refl))
    (λ y l. (turn_of y, turn_of-lt c y l, visit-turn_of y))
    ∙ sym (sets_from-met f h ss (64 * c))

-- ---- for the callers: a block's inputs among all

-- a block of n that repeats its first c inputs
pub sets_from-repeats : (f g : ℕ → ℕ) (ss : List ℕ) (c n : ℕ) → 0 < c → c ≤ n
    → sets_from (λ y. f (y % c)) (λ y. g (y % c)) ss 0 n ≡ sets_from f g ss 0 c
sets_from-repeats f g ss c n h l =
    sets_from-met (λ y. f (y % c)) (λ y. g (y % c)) ss n
    ∙ met-along (λ y. y % c) f g (λ y. f (y % c)) (λ y. g (y % c)) ss n (λ m u. (refl, refl))
    ∙ met-order f g (λ y. y % c) (λ y. y) ss n c (λ m u. (m % c, mod-lt m h, refl))
    (λ m u. (m, omega arith, mod-eq_of_lt u))
    ∙ sym (sets_from-met f g ss c)

-- the sets after the n inputs from first on, where f and g say what a block's rows say
pub block-sets : (ms rs ss : List ℕ) (f g : ℕ → ℕ) (first n : ℕ) → ((y : ℕ) → y < n → gathered ms y ≡ f (first + y))
    → ((y : ℕ) → y < n → (gathered rs y ≡ g (first + y)) × (g (first + y) < 1024))
    → sets_from (gathered ms) (λ y. gathered rs y % 1024) ss 0 n ≡ sets_from f g ss first n
block-sets ms rs ss f g first n p q =
    sets_from-agree (gathered ms) (λ y. gathered rs y % 1024) f g ss 0 first n
    (λ i l.
    let d = q i l in
    rw (zero-add i) (p i l, ap (λ (z : ℕ). z % 1024) d.0 ∙ mod-eq_of_lt d.1))
