-- Laws of numbers and lines: digits, pieces placed one after the other, and how long they are. Assumes nothing.
use Prim.Native.Nat.{ℕ, zero, suc, ◌+◌, ◌*◌, ◌/◌, ◌%◌, ◌^◌, ◌≤◌, ◌<◌}
use mathlib.Core.Path.{◌≡◌, refl, sym, ◌∙◌, ap}
use mathlib.Core.List.{List, [], ◌∷◌, ◌++◌, map, append_assoc, append-nil, map-id}
use mathlib.Core.Logic.{⊎_elim}
use native.Mathlib.Nat.{mul-suc, pow-suc}
use native.Mathlib.Omega.{arith}
use borrow.Author.Tests.{lt-ltb, le-ltb, ltb-true, ltb-false}
use lib.Dec.{ltb}
use lib.ListN.{length, get_or, take, drop, length-append, take-append-drop}
use Rattle.std.proofs.lemmas.Fmt.{decimal_by_steps}
use Rattle.std.proofs.lemmas.List.{map_more, take-map}
use Rattle.std.specs.Fmt.{decimal}
use Rattle.records.specs.Bytes.{flat}
use Rattle.records.specs.Claims.{Below}
use Rattle.records.proofs.Laws.Job.{flat_append, flat-snoc}
use Rattle.engine.proofs.Laws.Choice.{true-or-false}
use Rattle.report.specs.Text.{digits_within, digits, number, numbers, line}

-- ---- digits

module _ (k x : ℕ) where
  within-small : x < 10 → digits_within (suc k) x ≡ (48 + x) ∷ []
  unfolding digits_within
  within-small h = rw (lt-ltb x 10 h, digits_within)

  within_more : 10 ≤ x → digits_within (suc k) x ≡ digits_within k (x / 10) ++ ((48 + x % 10) ∷ [])
  unfolding digits_within
  within_more h = rw (le-ltb x 10 h, digits_within)

within-zero : (k x : ℕ) → x ≤ 0 → digits_within k x ≡ 48 ∷ []
unfolding digits_within
within-zero zero x h = refl
within-zero (suc k) x h = let e : x ≡ 0 = omega arith in rw e

-- as many places as the number itself are enough
within-enough : (k l x : ℕ) → x ≤ k → x ≤ l → digits_within k x ≡ digits_within l x
within-enough zero l x h i = within-zero 0 x h ∙ sym (within-zero l x h)
within-enough (suc k) zero x h i = within-zero (suc k) x i ∙ sym (within-zero 0 x i)
within-enough (suc k) (suc l) x h i =
    ⊎_elim
    (λ s. within-small k x (ltb-true x 10 s) ∙ sym (within-small l x (ltb-true x 10 s)))
    (λ m.
    let t : 10 ≤ x = ltb-false x 10 m in
    within_more k x t
    ∙ ap (λ (ds : List ℕ). ds ++ ((48 + x % 10) ∷ [])) (within-enough k l (x / 10) (omega arith) (omega arith))
    ∙ sym (within_more l x t))
    (true-or-false (ltb x 10))

pub digits-small : (x : ℕ) → x < 10 → digits x ≡ (48 + x) ∷ []
unfolding digits
digits-small x h = within-enough x (suc x) x (omega arith) (omega arith) ∙ within-small x x h

pub digits_more : (x : ℕ) → 10 ≤ x → digits x ≡ digits (x / 10) ++ ((48 + x % 10) ∷ [])
unfolding digits
digits_more x h =
    within-enough x (suc x) x (omega arith) (omega arith)
    ∙ within_more x x h
    ∙ ap (λ (ds : List ℕ). ds ++ ((48 + x % 10) ∷ [])) (within-enough x (x / 10) (x / 10) (omega arith) (omega arith))

-- they are what the library prints
pub decimal-digits : (x : ℕ) → x < 2 ^ 64 → decimal x ≡ digits x
decimal-digits =
    decimal_by_steps
    (λ n ds. ds ≡ digits n)
    (λ n l. sym (digits-small n l))
    (λ n ds m e. ap (λ (xs : List ℕ). xs ++ ((48 + n % 10) ∷ [])) e ∙ sym (digits_more n m))

-- how many digits
pub length-digits-more : (x : ℕ) → 10 ≤ x → length (digits x) ≡ length (digits (x / 10)) + 1
length-digits-more x h = ap length (digits_more x h) ∙ length-append (digits (x / 10)) ((48 + x % 10) ∷ [])

pub digits-some : (x : ℕ) → 1 ≤ length (digits x)
digits-some x =
    ⊎_elim
    (λ s. rw (digits-small x (ltb-true x 10 s)) (omega arith))
    (λ m. omega (arith, length-digits-more x (ltb-false x 10 m)))
    (true-or-false (ltb x 10))

tenth-lt : (k x : ℕ) → x < 10 ^ suc (suc k) → x / 10 < 10 ^ suc k
tenth-lt k x h = let e : 10 ^ suc (suc k) ≡ 10 ^ suc k * 10 = pow-suc 10 (suc k) in omega arith

pub length-digits-le : (k x : ℕ) → x < 10 ^ suc k → length (digits x) ≤ suc k
length-digits-le zero x h = let e : x < 10 = h in rw (digits-small x e) (omega arith)
length-digits-le (suc k) x h =
    ⊎_elim
    (λ s. rw (digits-small x (ltb-true x 10 s)) (omega arith))
    (λ m.
    let l : length (digits (x / 10)) ≤ suc k = length-digits-le k (x / 10) (tenth-lt k x h) in
    omega (arith, length-digits-more x (ltb-false x 10 m)))
    (true-or-false (ltb x 10))

-- ---- pieces, one after the other

-- b is a with xs behind, and c is b with ys behind
pub behind : (a xs ys : List ℕ) {b c : List ℕ} → b ≡ a ++ xs → c ≡ b ++ ys → c ≡ a ++ (xs ++ ys)
behind a xs ys e f = f ∙ ap (λ (zs : List ℕ). zs ++ ys) e ∙ append_assoc a xs ys

pub length-behind : (a xs : List ℕ) {b : List ℕ} → b ≡ a ++ xs → length b ≡ length a + length xs
length-behind a xs e = ap length e ∙ length-append a xs

-- ---- the numbers of a list's values, from the first on

module _ {A : Type 0} (f : A → ℕ) (xs : List A) where
  pub numbers-take : (i : ℕ) (x : A) → i < length xs → x ≡ get_or xs i x
      → numbers (map f (take (i + 1) xs)) ≡ numbers (map f (take i xs)) ++ number (f x)
  unfolding numbers
  numbers-take i x l e =
      ap (flat number) (map_more f xs i x l)
      ∙ flat-snoc number (map f (take i xs)) (f (get_or xs i x))
      ∙ ap (λ (y : A). flat number (map f (take i xs)) ++ number (f y)) (sym e)

  pub numbers-take-le : (i : ℕ) → length (numbers (map f (take i xs))) ≤ length (numbers (map f xs))
  unfolding numbers
  numbers-take-le i =
      let e : flat number (map f xs) ≡ flat number (take i (map f xs)) ++ flat number (drop i (map f xs)) =
      ap (flat number) (sym (take-append-drop i (map f xs))) ∙ flat_append number (take i (map f xs)) (drop i (map f xs)) in
      rw (← take-map f i xs)
      (omega (arith, ap length e, length-append (flat number (take i (map f xs))) (flat number (drop i (map f xs)))))

-- ---- lines

pub numbers-one : (x : ℕ) → numbers (x ∷ []) ≡ number x
unfolding numbers flat
numbers-one x = append-nil (number x)

pub length-line : (w xs : List ℕ) → length (line w xs) ≡ length w + length (numbers xs) + 1
unfolding line
length-line w xs =
    length-append (w ++ numbers xs) (10 ∷ []) ∙ ap (λ (k : ℕ). k + 1) (length-append w (numbers xs))

-- the numbers of a list are its values
line-same : (w xs : List ℕ) → line w (map (λ (x : ℕ). x) xs) ≡ line w xs
line-same w xs = ap (line w) (map-id xs)

pub bytes_room : (n m : ℕ) (w xs : List ℕ) → n + length (line w xs) ≤ m → n + length (line w (map (λ (x : ℕ). x) xs)) ≤ m
bytes_room n m w xs h = rw (line-same w xs) h

pub bytes-line : (a w xs : List ℕ) {b : List ℕ} → b ≡ a ++ line w (map (λ (x : ℕ). x) xs) → b ≡ a ++ line w xs
bytes-line a w xs e = e ∙ ap (λ (ys : List ℕ). a ++ ys) (line-same w xs)

-- the line of a list's values that are passed up to i
module _ {A : Type 0} (f : A → ℕ) (w : List ℕ) (xs : List A) (i n : ℕ) (room : n + length (line w (map f xs)) ≤ 8366) where
  pub line_room : n + length w + length (numbers (map f (take i xs))) + 1 ≤ 8366
  line_room = omega (arith, length-line w (map f xs), numbers-take-le f xs i)

  pub line_more_room : (x : A) → i < length xs → x ≡ get_or xs i x
      → n + length w + length (numbers (map f (take i xs))) + length (number (f x)) + 1 ≤ 8366
  line_more_room x l e =
      omega (
        arith,
        length-line w (map f xs),
        numbers-take-le f xs (i + 1),
        length-behind (numbers (map f (take i xs))) (number (f x)) (numbers-take f xs i x l e),
      )

-- ---- how long numbers and lines are

pub length-numbers-le : (k : ℕ) (xs : List ℕ) → Below (10 ^ suc k) xs → length (numbers xs) ≤ (k + 2) * length xs
unfolding numbers flat number
length-numbers-le k [] b = omega arith
length-numbers-le k (x ∷ xs) b =
    let n = length-digits-le k x (b 0) in
    let m = length-numbers-le k xs (λ i. b (suc i)) in
    omega (arith, length-append (number x) (numbers xs), mul-suc (k + 2) (length xs))

below_one : (n x : ℕ) → x < n → Below n (x ∷ [])
below_one n x h zero = h
below_one n x h (suc i) = omega arith

-- a line of one number with at most ten digits, of nets, of bytes
pub length-number-line : (w : List ℕ) (x : ℕ) → x < 4294967296 → length (line w (x ∷ [])) ≤ length w + 12
length-number-line w x h =
    omega (arith, length-line w (x ∷ []), length-numbers-le 9 (x ∷ []) (below_one (10 ^ 10) x (omega arith)))

pub length-nets-line : (w xs : List ℕ) → Below 65536 xs → length (line w xs) ≤ length w + 6 * length xs + 1
length-nets-line w xs b = omega (arith, length-line w xs, length-numbers-le 4 xs (λ i. omega (arith, b i)))

pub length-bytes-line : (w xs : List ℕ) → Below 256 xs → length (line w xs) ≤ length w + 4 * length xs + 1
length-bytes-line w xs b = omega (arith, length-line w xs, length-numbers-le 2 xs (λ i. omega (arith, b i)))
