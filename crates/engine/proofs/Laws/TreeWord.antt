-- Laws of a tree over a column of up to 64 bits that is one number: the number's two halves are the column's, and the tests of a column are
-- comparisons of numbers. Assumes nothing.
use Prim.Native.Nat.{ℕ, zero, suc, ◌+◌, ◌-◌, ◌*◌, ◌/◌, ◌%◌, ◌^◌, ◌≤◌, ◌<◌}
use mathlib.Core.Path.{◌≡◌, refl, sym, ◌∙◌, ap}
use mathlib.Core.List.{List}
use mathlib.Core.Bool.{Bool, true, false}
use native.Mathlib.Nat.{pow-suc, mod-lt, mod-eq_of_lt, two-pow-succ}
use native.Mathlib.Numerals.{add-one}
use native.Mathlib.Nat.{zero-add}
use native.Mathlib.Omega.{arith}
use borrow.Author.Tests.{eqb-true, eq-eqb}
use lib.Bits.{bit_and, and_mask}
use lib.Dec.{eqb}
use lib.ListN.{length, get_or, take, drop, length-drop, drop_of_length-le}
use lib.Pow.{pow_pos, pow_mono, shr_lt}
use lib.Seq.{get_or-take, get_or-drop, drop-cons, length-take-le, ext_get_or}
use Rattle.records.specs.Bytes.{all, tabulate, up_from}
use Rattle.records.proofs.Laws.Bytes.{and_left, and_right, and_both, false_of, get_d_tabulate}
use Rattle.engine.specs.Choice.{same}
use Rattle.engine.specs.Eval.{bit, bits, number_of}
use Rattle.engine.specs.Tree.{column, join_of, builds_low, builds_high, join_gates, tree_size}
use Rattle.engine.specs.Inner.Tree.{TablePart, column_part, join_size}
use Rattle.engine.specs.declared.tree.Join.{Join}
use Rattle.engine.proofs.Laws.Choice.{same_true, same-iff-equal}
use Rattle.engine.proofs.Laws.Eval.{Bits, bits-map, bit-lt, number_of-lt}
use Rattle.engine.proofs.Laws.Fitted.{length-bits}
use Rattle.engine.proofs.Laws.Note.{number_of-drop-le}
use Rattle.engine.proofs.Laws.Picked.{bits-suc, bits-number_of}
use Rattle.engine.proofs.Laws.Rows.{number_of-bits}
use Rattle.engine.proofs.Laws.Shift.{bit-shr, bit-mod}
use Rattle.engine.proofs.Laws.Tree.{built_size, joined_size, size_same, size-joined, length-column, get_or-column}

-- ---- parts of a number's bits

get_d_bits : (n x i : ℕ) → i < n → get_or (bits n x) i 0 ≡ bit i x
unfolding bits
get_d_bits n x i h = get_d_tabulate n (λ i. bit i x) i 0 h

take-bits : (m n x : ℕ) → m ≤ n → take m (bits n x) ≡ bits m (x % 2 ^ m)
take-bits m n x h =
    let a : length (take m (bits n x)) ≡ m = length-take-le m (bits n x) (omega (arith, length-bits n x)) in
    ext_get_or 0 (take m (bits n x)) (bits m (x % 2 ^ m)) (a ∙ sym (length-bits m (x % 2 ^ m)))
    (λ i l.
    let b : i < m = omega arith in
    get_or-take m (bits n x) i 0 b
    ∙ get_d_bits n x i (omega arith)
    ∙ sym (get_d_bits m (x % 2 ^ m) i b ∙ bit-mod m i x b))

drop_bits : (m n x : ℕ) → drop m (bits (m + n) x) ≡ bits n (x / 2 ^ m)
drop_bits m n x =
    let a : length (drop m (bits (m + n) x)) ≡ n = length-drop m (bits (m + n) x) ∙ omega (arith, length-bits (m + n) x) in
    ext_get_or 0 (drop m (bits (m + n) x)) (bits n (x / 2 ^ m)) (a ∙ sym (length-bits n (x / 2 ^ m)))
    (λ i l.
    let b : i < n = omega arith in
    get_or-drop m (bits (m + n) x) i 0
    ∙ get_d_bits (m + n) x (m + i) (omega arith)
    ∙ sym (get_d_bits n (x / 2 ^ m) i b ∙ bit-shr i m x))

bits-same : (n x y : ℕ) → x < 2 ^ n → y < 2 ^ n → bits n x ≡ bits n y → x ≡ y
bits-same n x y h l e =
    sym (mod-eq_of_lt h) ∙ sym (number_of-bits n x) ∙ ap number_of e ∙ number_of-bits n y ∙ mod-eq_of_lt l

-- ---- all bits 0, all bits 1

same_tests : (a b : Bool) → (a ≡ true → b ≡ true) → (b ≡ true → a ≡ true) → a ≡ b
same_tests true b f g = sym (f refl)
same_tests false true f g = g refl
same_tests false false f g = refl

module _ (n x : ℕ) where
  bits-cons : (v : ℕ) → all (eqb v) (bits (suc n) x) ≡ true → (v ≡ x % 2) × (all (eqb v) (bits n (x / 2)) ≡ true)
  unfolding all
  bits-cons v e =
      let f = rw (bits-suc n x) at e in
      (eqb-true v (x % 2) (and_left (eqb v (x % 2)) _ f), and_right (eqb v (x % 2)) _ f)

  cons-bits : (v : ℕ) → v ≡ x % 2 → all (eqb v) (bits n (x / 2)) ≡ true → all (eqb v) (bits (suc n) x) ≡ true
  unfolding all
  cons-bits v e f = rw (bits-suc n x) (and_both (eqb v (x % 2)) _ (eq-eqb v (x % 2) e) f)

zeros_of : (n x : ℕ) → x ≡ 0 → all (eqb 0) (bits n x) ≡ true
unfolding all bits tabulate up_from
zeros_of zero x e = refl
zeros_of (suc n) x e = cons-bits n x 0 (omega arith) (zeros_of n (x / 2) (omega arith))

of-zeros : (n x : ℕ) → x < 2 ^ n → all (eqb 0) (bits n x) ≡ true → x ≡ 0
of-zeros zero x h e = omega arith
of-zeros (suc n) x h e =
    let c = bits-cons n x 0 e in
    let p = pow-suc 2 n in
    let i = of-zeros n (x / 2) (omega arith) c.1 in
    omega (arith, c.0)

ones-of : (n x : ℕ) → x + 1 ≡ 2 ^ n → all (eqb 1) (bits n x) ≡ true
unfolding all bits tabulate up_from
ones-of zero x e = refl
ones-of (suc n) x e =
    let p = pow-suc 2 n in
    cons-bits n x 1 (omega arith) (ones-of n (x / 2) (omega arith))

of_ones : (n x : ℕ) → x < 2 ^ n → all (eqb 1) (bits n x) ≡ true → x + 1 ≡ 2 ^ n
of_ones zero x h e = omega arith
of_ones (suc n) x h e =
    let c = bits-cons n x 1 e in
    let p = pow-suc 2 n in
    let i = of_ones n (x / 2) (omega arith) c.1 in
    omega (arith, c.0)

module _ (n x : ℕ) (h : x < 2 ^ n) where
  pub zeros-word : eqb x 0 ≡ all (eqb 0) (bits n x)
  zeros-word =
      same_tests (eqb x 0) (all (eqb 0) (bits n x)) (λ e. zeros_of n x (eqb-true x 0 e)) (λ e. eq-eqb x 0 (of-zeros n x h e))

  pub ones-word : (y : ℕ) → y ≡ 2 ^ n - 1 → eqb x y ≡ all (eqb 1) (bits n x)
  ones-word y w =
      let p = pow_pos n in
      same_tests (eqb x y) (all (eqb 1) (bits n x))
      (λ e. let q : x ≡ y = eqb-true x y e in ones-of n x (omega arith))
      (λ e. let q = of_ones n x h e in eq-eqb x y (omega arith))

-- ---- the halves of a number

-- a tree over one net or none is one gate
pub word-least : (k w : ℕ) → k < 2 → w < 2 ^ 2 ^ k → tree_size k (bits (2 ^ k) w) ≡ 1
unfolding tree_size all same join_of builds_low builds_high join_gates bit bits tabulate up_from
word-least zero w h l = refl
word-least (suc zero) zero h l = refl
word-least (suc zero) (suc zero) h l = refl
word-least (suc zero) (suc (suc zero)) h l = refl
word-least (suc zero) (suc (suc (suc zero))) h l = refl
word-least (suc zero) (suc (suc (suc (suc w)))) h l = let f : ⊥ = omega arith in absurd f
word-least (suc (suc k)) w h l = let f : ⊥ = omega arith in absurd f

module _ (k w : ℕ) (h : w < 2 ^ 2 ^ suc k) where
  abbrev low : ℕ
  low = w % 2 ^ 2 ^ k

  abbrev high : ℕ
  high = w / 2 ^ 2 ^ k

  pub low-lt : low < 2 ^ 2 ^ k
  low-lt = mod-lt w (pow_pos (2 ^ k))

  pub high_lt : high < 2 ^ 2 ^ k
  high_lt = shr_lt (2 ^ k) (2 ^ k) (rw (two-pow-succ k) at h)

  low_bits : take (2 ^ k) (bits (2 ^ suc k) w) ≡ bits (2 ^ k) low
  low_bits = take-bits (2 ^ k) (2 ^ suc k) w (omega (arith, two-pow-succ k))

  high_bits : drop (2 ^ k) (bits (2 ^ suc k) w) ≡ bits (2 ^ k) high
  high_bits = rw (two-pow-succ k) (drop_bits (2 ^ k) (2 ^ k) w)

  pub word-equal : low ≡ high → tree_size (suc k) (bits (2 ^ suc k) w) ≡ tree_size k (bits (2 ^ k) low)
  word-equal e =
      size_same k (bits (2 ^ suc k) w) ((same-iff-equal _ _).1 (low_bits ∙ ap (bits (2 ^ k)) e ∙ sym high_bits)) ∙ ap (tree_size k) low_bits

  pub word_split : (low ≡ high → ⊥) → tree_size (suc k) (bits (2 ^ suc k) w)
      ≡ joined_size (join_of (bits (2 ^ k) low) (bits (2 ^ k) high)) (tree_size k (bits (2 ^ k) low)) (tree_size k (bits (2 ^ k) high))
  word_split n =
      let col = bits (2 ^ suc k) w in
      let s : same (take (2 ^ k) col) (drop (2 ^ k) col) ≡ false =
      false_of (same (take (2 ^ k) col) (drop (2 ^ k) col))
      (λ e. n (bits-same (2 ^ k) low high low-lt high_lt (sym low_bits ∙ same_true (take (2 ^ k) col) (drop (2 ^ k) col) e ∙ high_bits))) in
      rw (low_bits, high_bits) at (size-joined k col (length-bits (2 ^ suc k) w) s)

  -- .. as the code counts
  pub split-size : (low ≡ high → ⊥) → {j : Join} {a b c : ℕ} → j ≡ join_of (bits (2 ^ k) low) (bits (2 ^ k) high)
      → a ≡ built_size (builds_low j) (tree_size k (bits (2 ^ k) low)) → b ≡ built_size (builds_high j) (tree_size k (bits (2 ^ k) high))
      → c ≡ join_size j → a + b + c ≡ tree_size (suc k) (bits (2 ^ suc k) w)
  split-size n e p q r = rw (p, q, r, e) (sym (word_split n))

-- as the code makes the halves: by a mask of h ones, and by a shift
pub record Halves (k w h : ℕ) : Type 0 where
  pub shift : h < 64
  pub mask : 1 ≤ 1 * 2 ^ h % 18446744073709551616
  pub ones : 1 * 2 ^ h % 18446744073709551616 - 1 ≡ 2 ^ 2 ^ k - 1
  pub low : bit_and w (1 * 2 ^ h % 18446744073709551616 - 1) ≡ w % 2 ^ 2 ^ k
  pub high : w / 2 ^ h ≡ w / 2 ^ 2 ^ k

pub halves-word : (k w h : ℕ) → k < 6 → h ≡ 2 ^ k → Halves k w h
halves-word k w h few e =
    let l : k ≤ 5 = omega arith in
    let m : 2 ^ k ≤ 32 = pow_mono {j = 5} l in
    let n : 2 ^ 2 ^ k ≤ 4294967296 = pow_mono {j = 32} m in
    let q : 1 * 2 ^ h ≡ 2 ^ 2 ^ k = rw e (omega arith) in
    let p : 1 * 2 ^ h % 18446744073709551616 ≡ 2 ^ 2 ^ k = mod-eq_of_lt (omega arith) ∙ q in
    record {
      shift = omega arith;
      mask = omega (arith, pow_pos (2 ^ k));
      ones = rw p;
      low = rw p (and_mask w (2 ^ k));
      high = rw e;
    }

-- ---- a column as a number

pub word_fits : (k : ℕ) → k ≤ 6 → 2 ^ 2 ^ k ≤ 18446744073709551616
word_fits k h = pow_mono {j = 64} (pow_mono {j = 6} h)

module _ {tb : List ℕ} {k t : ℕ} (p : TablePart tb k t) where
  abbrev col : List ℕ
  col = column_part tb 0 k t

  column-bits : Bits col
  unfolding column
  column-bits = bits-map (bit t) (bit-lt t) (take (2 ^ k) tb)

  long : length col ≡ 2 ^ k
  long = length-column tb 0 (2 ^ k) t (omega (arith, p.within))

  pub column-lt : number_of col < 2 ^ 2 ^ k
  column-lt = rw long at (number_of-lt column-bits)

  pub bits-column : bits (2 ^ k) (number_of col) ≡ col
  bits-column = rw long at (bits-number_of column-bits)

  -- the entries from place i on
  pub column-turn : (i : ℕ) → i < 2 ^ k → number_of (drop i col) ≡ 2 * number_of (drop (i + 1) col) + bit t (get_or tb i 0)
  unfolding number_of
  column-turn i l =
      rw (add-one i)
      (ap number_of (drop-cons col i 0 (omega (arith, long))) ∙ omega (arith, get_or-column tb 0 (2 ^ k) t (omega (arith, p.within)) i l, ap (λ (n : ℕ). bit t (get_or tb n 0)) (zero-add i)))

  pub column-end : number_of (drop (2 ^ k) col) ≡ 0
  unfolding number_of
  column-end = ap number_of (drop_of_length-le col {i = 2 ^ k} (omega (arith, long)))

  pub column-rest : (i : ℕ) → number_of (drop i col) < 2 ^ 2 ^ k
  column-rest i = omega (arith, number_of-drop-le col i, column-lt)
