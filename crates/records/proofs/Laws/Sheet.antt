-- Laws of specs/Sheet and of the sheets' part of specs/Inner: tests over what is left of a list, where a net stands
-- among the candidates, supports, and how long they are. Assumes nothing.
use Prim.Native.Nat.{ℕ, zero, suc, ◌+◌, ◌*◌, ◌-◌, ◌/◌, ◌^◌, ◌≤◌, ◌<◌}
use mathlib.Core.Path.{◌≡◌, refl, sym, ◌∙◌, ap}
use mathlib.Core.List.{List, [], ◌∷◌, ◌++◌, map}
use mathlib.Core.Bool.{Bool, true, false, cond, ◌&&◌, ◌||◌}
use native.Mathlib.Numerals.{add-one}
use native.Mathlib.Nat.{add_assoc, add-zero, zero-add}
use native.Mathlib.Omega.{arith}
use borrow.Author.Tests.{le-leb, lt-leb, leb-true, leb-false, ltb-true, eqb-true}
use lib.Dec.{leb, ltb, eqb}
use Rattle.std.proofs.Common.{IsTrue, EachIndex, ◌↔◌}
use lib.ListN.{length, get_or, take, drop, set, replicate, drop_of_length-le}
use lib.Pow.{pow_mono}
use lib.Seq.{drop-cons, length-take-le, take-suc, take-length, set_at, append_snoc}
use Rattle.records.specs.Bytes.{up_from, tabulate, all, word}
use Rattle.records.specs.Job.{Candidate, nets_of}
use Rattle.records.specs.Refusal.{ascending, max_candidates}
use Rattle.records.specs.Sheet.{weight_of, cost_of, is_candidate}
use Rattle.records.specs.Service.{candidates_from}
use Rattle.records.specs.Inner.{word_column, found_from, found_in, support_of, ten_places}
use Rattle.std.specs.Prelude.{Option, Some, None}
use Rattle.std.specs.List.{position_from}
use Rattle.records.proofs.Laws.Option.{some-none}
use Rattle.records.proofs.Laws.Bytes.{all_cons, all-below, and_left, and_right, and-false-right, length-tabulate, get_d_tabulate}
use Rattle.records.proofs.Laws.Job.{tabulate-get_or}
use Rattle.records.proofs.Laws.Refusal.{ascending_from, ascending-from}

-- what is left of a list from i on starts with its i-th element
drop-next : (xs : List ℕ) (i : ℕ) → i < length xs → drop i xs ≡ get_or xs i 0 ∷ drop (i + 1) xs
drop-next xs i h = drop-cons xs i 0 h ∙ ap (λ (k : ℕ). get_or xs i 0 ∷ drop k xs) (sym (add-one i))

-- ---- numbers

pub word_lt : (s : List ℕ) (at : ℕ) → get_or s at 0 < 256 → get_or s (at + 1) 0 < 256 → word s at < 65536
unfolding word
word_lt s at p q = omega arith

-- a power of two that takes two bytes is at most the fifteenth
pub power-short : (k : ℕ) → 2 ^ k < 65536 → k ≤ 15
power-short k h = at (leb k 15) refl
  where
    at : (b : Bool) → leb k 15 ≡ b → k ≤ 15
    at true e = leb-true k 15 e
    at false e = let p : 65536 ≤ 2 ^ k = pow_mono (leb-false k 15 e) in absurd (omega arith)

-- ---- nets in bytes

pub column-at : (s : List ℕ) (size at n i : ℕ) → i < n → get_or (word_column s size at n) i 0 ≡ word s (size * i + at)
unfolding word_column
column-at s size at n i h = get_d_tabulate n (λ j. word s (size * j + at)) i 0 h

pub length-column : (s : List ℕ) (size at n : ℕ) → length (word_column s size at n) ≡ n
unfolding word_column
length-column s size at n = length-tabulate n (λ j. word s (size * j + at))

pub net-at : (s : List ℕ) (i : ℕ) → i < length s / 2 → get_or (nets_of s) i 0 ≡ word s (2 * i)
unfolding nets_of
net-at s i h = get_d_tabulate (length s / 2) (λ j. word s (2 * j)) i 0 h

-- ---- ten places that fill from the front

unfoldable pub ten : List ℕ → ℕ → List ℕ
ten xs i = take i xs ++ replicate (max_candidates - i) 0

pub ten-next : (xs : List ℕ) (i : ℕ) → i < length xs → i < 10 → set (ten xs i) i (get_or xs i 0) ≡ ten xs (i + 1)
unfolding ten
ten-next xs i h l =
    let n : 10 - i ≡ suc (10 - (i + 1)) = omega arith in
    let more : List ℕ = replicate (10 - (i + 1)) 0 in
    ap (λ (k : ℕ). set (take i xs ++ replicate k 0) i (get_or xs i 0)) n
    ∙ set_at (take i xs) 0 more (get_or xs i 0) i (length-take-le i xs (omega arith))
    ∙ sym (append_snoc (take i xs) (get_or xs i 0) more)
    ∙ ap (λ (ys : List ℕ). ys ++ more) (sym (take-suc xs i 0 h))
    ∙ ap (λ (k : ℕ). take k xs ++ more) (sym (add-one i))

pub ten-all : (xs : List ℕ) → record { nets = ten xs (length xs); len = length xs } ≡ ten_places xs
unfolding ten ten_places
ten-all xs = rw take-length

-- ---- tests over the rest of a list

-- what is left of a part of a list from position i on
bool-of-iff : (a b : Bool) → (a ≡ true) ↔ (b ≡ true) → a ≡ b
bool-of-iff true b h = sym (h.0 refl)
bool-of-iff false true h = h.1 refl
bool-of-iff false false h = refl

below-at : (limit : ℕ) (xs : List ℕ) → all (λ v. ltb v limit) xs ≡ true → (i : ℕ) → i < length xs → get_or xs i 0 < limit
below-at limit [] e i l = let f : ⊥ = omega arith in absurd f
below-at limit (x ∷ xs) e zero l = ltb-true x limit (all_cons (λ v. ltb v limit) x xs e).0
below-at limit (x ∷ xs) e (suc i) l = below-at limit xs (all_cons (λ v. ltb v limit) x xs e).1 i (omega arith)

-- a test that tells for each element whether it is below limit
pub below-each : (limit : ℕ) (xs : List ℕ) {b : Bool} → IsTrue b ↔ EachIndex xs (λ k. get_or xs k 0 < limit) → b ≡ all (λ v. ltb v limit) xs
below-each limit xs {b} h = bool-of-iff b (all (λ v. ltb v limit) xs) (λ e. all-below limit xs (h.0 e), λ e. h.1 (below-at limit xs e))

-- ---- where a net stands among the candidates

pub position-found : (net k : ℕ) (xs : List ℕ) → position_from (λ n. eqb n net) k xs ≡ found_from k xs net
unfolding found_from
position-found net k [] = refl
position-found net k (x ∷ xs) =
    let n : k + 1 ≡ suc k = omega arith in
    ap (λ (o : Option ℕ). cond (eqb x net) (Some k) o) (ap (λ (i : ℕ). position_from (λ n. eqb n net) i xs) n ∙ position-found net (suc k) xs)

-- net is a candidate of cs, of weight v, and k is below n
pub record Stands (cs : List Candidate) (net v k n : ℕ) : Type 0 where
  pub below : k < n
  pub candidate : is_candidate cs net ≡ true
  pub weight : weight_of cs net ≡ v

module _ (nets weights : List ℕ) (net : ℕ) where
  candidates : ℕ → ℕ → List Candidate
  candidates a n = map (λ i. record { net = get_or nets i 0; weight = get_or weights i 0 }) (up_from a n)

  found : ℕ → ℕ → Option ℕ
  found a n = found_from a (map (λ i. get_or nets i 0) (up_from a n)) net

  -- the first of the candidates from place a on has the net if b; otherwise those after it tell
  stands-cons : (b : Bool) (a n k : ℕ)
      → cond b (Some a) (found (suc a) n) ≡ Some k
      → (found (suc a) n ≡ Some k → Stands (candidates (suc a) n) net (get_or weights k 0) k (suc a + n))
      → (k < a + suc n)
      × (b || is_candidate (candidates (suc a) n) net ≡ true)
      × (cond b (get_or weights a 0) (weight_of (candidates (suc a) n) net) ≡ get_or weights k 0)
  stands-cons true a n k e later = let p : a ≡ k = cc in (omega arith, refl, ap (λ (i : ℕ). get_or weights i 0) p)
  stands-cons false a n k e later = (omega (arith, (later e).below), (later e).candidate, (later e).weight)

  stands : (n a k : ℕ) → found a n ≡ Some k → Stands (candidates a n) net (get_or weights k 0) k (a + n)
  unfolding found candidates up_from found_from is_candidate weight_of
  stands zero a k e = absurd (some-none (sym e))
  stands (suc n) a k e =
      let all = stands-cons (eqb (get_or nets a 0) net) a n k e (stands n (suc a) k) in
      record { below = all.0; candidate = all.1; weight = all.2 }

  nowhere-cons : (b : Bool) (a n : ℕ)
      → cond b (Some a) (found (suc a) n) ≡ None
      → (found (suc a) n ≡ None → is_candidate (candidates (suc a) n) net ≡ false)
      → b || is_candidate (candidates (suc a) n) net ≡ false
  nowhere-cons true a n e later = absurd (some-none e)
  nowhere-cons false a n e later = later e

  nowhere : (n a : ℕ) → found a n ≡ None → is_candidate (candidates a n) net ≡ false
  unfolding found candidates up_from found_from is_candidate
  nowhere zero a e = refl
  nowhere (suc n) a e = nowhere-cons (eqb (get_or nets a 0) net) a n e (nowhere n (suc a))

  module _ (count : ℕ) (h : count ≤ length nets) where
    found_take : found_in (take count nets) net ≡ found 0 count
    unfolding found_in found tabulate
    found_take = rw (← tabulate-get_or nets count h)

    -- the net stands at place k among the first count nets
    pub found_at : (k : ℕ) → found_in (take count nets) net ≡ Some k
        → Stands (candidates_from count nets weights) net (get_or weights k 0) k count
    unfolding candidates_from candidates tabulate
    found_at k e = rw zero-add at (stands count 0 k (sym found_take ∙ e))

    -- it does not stand there
    pub found_nowhere : found_in (take count nets) net ≡ None → is_candidate (candidates_from count nets weights) net ≡ false
    unfolding candidates_from candidates tabulate
    found_nowhere e = nowhere count 0 (sym found_take ∙ e)

pub length-candidates_from : (k : ℕ) (nets weights : List ℕ) → length (candidates_from k nets weights) ≡ k
unfolding candidates_from
length-candidates_from k nets weights = length-tabulate k _

-- ---- a support's cost, net by net

-- the cost of the nets xs that are left, when those before cost sum and the next has to be at least lo
unfoldable pub support_from : List Candidate → ℕ → ℕ → List ℕ → Option ℕ
support_from cs lo sum xs = cond (ascending_from lo xs && all (is_candidate cs) xs) (Some (sum + cost_of cs xs)) None

pub support-start : (cs : List Candidate) (xs : List ℕ) → support_from cs 0 0 xs ≡ support_of cs xs
unfolding support_of support_from
support-start cs xs = rw (ascending-from, zero-add)

module _ (cs : List Candidate) (lo sum x : ℕ) (xs : List ℕ) where
  cons-low : x < lo → support_from cs lo sum (x ∷ xs) ≡ None
  unfolding support_from ascending_from
  cons-low h = rw (lt-leb lo x h)

  cons-odd : is_candidate cs x ≡ false → support_from cs lo sum (x ∷ xs) ≡ None
  unfolding support_from all
  cons-odd e = rw (e, and-false-right (ascending_from lo (x ∷ xs)) false refl)

  cons-good : (v : ℕ) → lo ≤ x → is_candidate cs x ≡ true → weight_of cs x ≡ v
      → support_from cs lo sum (x ∷ xs) ≡ support_from cs (x + 1) (sum + v) xs
  unfolding support_from ascending_from all cost_of
  cons-good v h e w = rw (le-leb lo x h, e, w, add-one, add_assoc)

-- .. of the nets xs that are left from place i on, against the first count of nets and weights
abbrev pub support_left : List ℕ → ℕ → List ℕ → List ℕ → ℕ → ℕ → ℕ → Option ℕ
support_left xs count nets weights lo sum i = support_from (candidates_from count nets weights) lo sum (drop i xs)

module _ (xs : List ℕ) (count : ℕ) (nets weights : List ℕ) (lo sum i : ℕ) where
  pub support-end : length xs ≤ i → support_left xs count nets weights lo sum i ≡ Some sum
  unfolding support_from ascending_from all cost_of
  support-end h = rw (drop_of_length-le xs {i = i} h, add-zero)

  -- a turn: x is the net at place i
  module _ (x : ℕ) (e : x ≡ get_or xs i 0) (h : i < length xs) where
    nets-next : drop i xs ≡ x ∷ drop (i + 1) xs
    nets-next = rw e (drop-next xs i h)

    pub support-low : x < lo → support_left xs count nets weights lo sum i ≡ None
    support-low l = rw nets-next (cons-low _ lo sum x _ l)

    pub support-odd : count ≤ length nets → found_in (take count nets) x ≡ None
        → support_left xs count nets weights lo sum i ≡ None
    support-odd l f = rw nets-next (cons-odd _ lo sum x _ (found_nowhere nets weights x count l f))

    pub support-next : (v k n : ℕ) → lo ≤ x → Stands (candidates_from count nets weights) x v k n
        → support_left xs count nets weights lo sum i ≡ support_left xs count nets weights (x + 1) (sum + v) (i + 1)
    support-next v k n l f = rw nets-next (cons-good _ lo sum x _ v l f.candidate f.weight)

-- ---- an ascending support of candidates is no longer than they are

-- how many candidates have a net of at least lo
one : Bool → ℕ
one b = cond b 1 0

one-le : (b : Bool) → one b ≤ 1
unfolding one
one-le true = omega arith
one-le false = omega arith

at_least : ℕ → List Candidate → ℕ
at_least lo [] = 0
at_least lo (c ∷ cs) = one (leb lo c.net) + at_least lo cs

at_least-length : (lo : ℕ) (cs : List Candidate) → at_least lo cs ≤ length cs
unfolding at_least
at_least-length lo [] = omega arith
at_least-length lo (c ∷ cs) = omega (arith, one-le (leb lo c.net), at_least-length lo cs)

-- a higher bound leaves as many or fewer
module _ (lo hi : ℕ) (h : lo ≤ hi) where
  one-higher : (x : ℕ) (b : Bool) → leb hi x ≡ b → one b ≤ one (leb lo x)
  unfolding one
  one-higher x true e = rw (le-leb lo x (omega (arith, leb-true hi x e))) (omega arith)
  one-higher x false e = omega arith

  at_least-higher : (cs : List Candidate) → at_least hi cs ≤ at_least lo cs
  unfolding at_least
  at_least-higher [] = omega arith
  at_least-higher (c ∷ cs) = omega (arith, one-higher c.net (leb hi c.net) refl, at_least-higher cs)

-- .. and fewer where a candidate lies between
module _ (lo x : ℕ) (h : lo ≤ x) where
  between_cons : (c : Candidate) (cs : List Candidate) (b : Bool) → eqb c.net x ≡ b → b || is_candidate cs x ≡ true
      → (is_candidate cs x ≡ true → at_least (suc x) cs < at_least lo cs) → at_least (suc x) (c ∷ cs) < at_least lo (c ∷ cs)
  unfolding at_least one
  between_cons c cs true e f later =
      let m : c.net ≡ x = eqb-true c.net x e in
      rw (m, le-leb lo x h, lt-leb (suc x) x (omega arith)) (omega (arith, at_least-higher lo (suc x) (omega arith) cs))
  between_cons c cs false e f later =
      omega (arith, later f, one-higher lo (suc x) (omega arith) c.net (leb (suc x) c.net) refl)

  between : (cs : List Candidate) → is_candidate cs x ≡ true → at_least (suc x) cs < at_least lo cs
  unfolding is_candidate
  between [] e = let z : ◌≡◌ {A = ℕ} 0 1 = cc in absurd (omega arith)
  between (c ∷ cs) e = between_cons c cs (eqb c.net x) refl e (between cs)

support-at_least : (cs : List Candidate) (lo : ℕ) (xs : List ℕ) → ascending_from lo xs ≡ true → all (is_candidate cs) xs ≡ true
    → length xs ≤ at_least lo cs
unfolding ascending_from all
support-at_least cs lo [] a e = omega arith
support-at_least cs lo (x ∷ xs) a e =
    let l : lo ≤ x = leb-true lo x (and_left (leb lo x) (ascending_from (suc x) xs) a) in
    let p : is_candidate cs x ≡ true = and_left (is_candidate cs x) (all (is_candidate cs) xs) e in
    let r : length xs ≤ at_least (suc x) cs =
    support-at_least cs (suc x) xs
    (and_right (leb lo x) (ascending_from (suc x) xs) a)
    (and_right (is_candidate cs x) (all (is_candidate cs) xs) e) in
    omega (arith, between lo x l cs p)

pub support-length : (cs : List Candidate) (xs : List ℕ) → ascending xs ≡ true → all (is_candidate cs) xs ≡ true
    → length xs ≤ length cs
support-length cs xs a e =
    omega (arith, support-at_least cs 0 xs (sym (ascending-from xs) ∙ a) e, at_least-length 0 cs)
