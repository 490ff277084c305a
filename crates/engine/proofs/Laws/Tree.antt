-- Laws of specs/Tree and specs/Inner/Tree: packed gates put into places, and multiplexer trees. Assumes nothing.
use Prim.Native.Nat.{ℕ, zero, suc, ◌+◌, ◌-◌, ◌*◌, ◌/◌, ◌^◌, ◌≤◌, ◌<◌}
use mathlib.Core.Path.{◌≡◌, refl, sym, ◌∙◌, ap, subst}
use mathlib.Core.List.{List, [], ◌∷◌, ◌++◌, map, append_assoc, append-nil}
use mathlib.Core.Bool.{Bool, true, false, cond, ◌&&◌, true≢false}
use mathlib.Core.Logic.{◌⊎◌, ⊎_elim, ◌↔◌}
use native.Mathlib.Nat.{add-zero, zero-add, suc-add, two-pow-succ}
use native.Mathlib.Numerals.{add-one, sub-one}
use native.Mathlib.Omega.{arith}
use borrow.Author.Tests.{eq-eqb, eqb-true}
use lib.Dec.{eqb, lit≤, lit<}
use lib.ListN.{length, get_or, take, drop, set, length-set, length-append, length-take, length-drop, length-map}
use lib.ListN.{drop_of_length-le, take-append-drop, get_or-map}
use lib.Seq.{append_snoc, drop-cons, drop-drop, drop-set-lt, take-nil, take-suc-set, take-take, length-take-le}
use lib.Seq.{get_or-take, get_or-drop, ext_get_or}
use lib.Pow.{pow_pos, pow_mono}
use Rattle.std.proofs.Common.{IsTrue, EachIndex}
use Rattle.records.specs.Bytes.{all, placed}
use Rattle.records.specs.Gate.{Gate}
use Rattle.records.specs.Job.{Job}
use Rattle.records.specs.Claims.{Below}
use Rattle.records.proofs.Laws.Bytes.{and_left, and_right, and_both}
use Rattle.engine.specs.Choice.{same}
use Rattle.engine.specs.Eval.{bit}
use Rattle.engine.specs.Tree.{constant, column, join_of, builds_low, builds_high, join_gates, tree, tree_size}
use Rattle.engine.specs.Inner.Packed.{packed, packed_from}
use Rattle.engine.specs.Fit.{Trees, trees_from, trees, new_free_net}
use Rattle.engine.specs.Inner.Tree.{GateRoom, GatesPut, TablePart, column_part, start_by, tree_start, join_size, JoinRoom, trees_size, support_trees, TreesPut}
use Rattle.engine.specs.declared.tree.Join.{Join}
use Rattle.engine.specs.declared.tree.Join.TheVariants.{Both}
use Rattle.engine.specs.declared.tree.TreeStart.{TreeStart}
use Rattle.engine.proofs.Laws.Choice.{not-both, true-or-false, same_true, same-iff-equal}
use Rattle.engine.proofs.Laws.Eval.{bit-lt}
use Rattle.engine.proofs.Laws.EvalWords.{map-take}
use Rattle.engine.proofs.Laws.MiterCode.{packed_from-append}
use Rattle.engine.proofs.Laws.FitTree.{built, joined, length-joined, length-nets}
use Rattle.engine.proofs.Laws.Join.{join_size-bounds}
use Rattle.engine.proofs.Laws.Word.{bit-zero}

-- ---- gates in places

-- a gate stored behind the first k
pub gates-put-one : (base k : ℕ) (cs : List ℕ) → GateRoom base (k + 1) cs → (g : Gate)
    → GatesPut base k cs (g ∷ []) (k + 1) (set cs k (packed (base + k) g))
unfolding packed_from
gates-put-one base k cs r g =
    record {
      end = refl;
      gates =
          ap (λ (n : ℕ). take n (set cs k (packed (base + k) g))) (add-one k)
          ∙ take-suc-set cs k (packed (base + k) g) (omega arith);
      long = length-set cs k (packed (base + k) g);
    }

-- gates put behind gates
pub gates-put-append : {base count r s : ℕ} {cs cs' cs'' : List ℕ} {gs hs : List Gate} → GatesPut base count cs gs r cs'
    → GatesPut base r cs' hs s cs'' → GatesPut base count cs (gs ++ hs) s cs''
gates-put-append {base} {count} {r} {s} {cs} {cs'} {cs''} {gs} {hs} p q =
    let e : base + r ≡ base + count + length gs = omega (arith, p.end) in
    record {
      end = omega (arith, p.end, q.end, length-append gs hs);
      gates =
          q.gates
          ∙ ap (λ (l : List ℕ). l ++ packed_from (base + r) hs) p.gates
          ∙ append_assoc (take count cs) (packed_from (base + count) gs) (packed_from (base + r) hs)
          ∙ ap (λ (n : ℕ). take count cs ++ (packed_from (base + count) gs ++ packed_from n hs)) e
          ∙ ap (λ (l : List ℕ). take count cs ++ l) (sym (packed_from-append (base + count) gs hs));
      long = q.long ∙ p.long;
    }

-- the places for gates stay
pub room-kept : {base n count r : ℕ} {cs cs' : List ℕ} {gs : List Gate} → GateRoom base n cs → GatesPut base count cs gs r cs'
    → GateRoom base n cs'
room-kept h p = record { long = p.long ∙ h.long; room = h.room; nets = h.nets }

pub room-less : {base m n : ℕ} {cs : List ℕ} → GateRoom base n cs → m ≤ n → GateRoom base m cs
room-less h l = record { long = h.long; room = omega arith; nets = omega arith }

-- room for one more gate behind those put
pub room_next : {base n count r : ℕ} {cs cs' : List ℕ} {gs : List Gate} → GateRoom base n cs → GatesPut base count cs gs r cs'
    → r + 1 ≤ n → GateRoom base (r + 1) cs'
room_next h p l = room-less (room-kept h p) l

-- the same gates
pub gates-put-same : {base count r : ℕ} {cs cs' : List ℕ} {gs hs : List Gate} → GatesPut base count cs gs r cs' → gs ≡ hs
    → GatesPut base count cs hs r cs'
gates-put-same {base} {count} {r} {cs} {cs'} p e = subst (λ (l : List Gate). GatesPut base count cs l r cs') e p

-- the slots of a gate of two operands at most
pub pair-below : (a b : ℕ) → a < 1024 → b < 1024 → Below 1024 (a ∷ b ∷ 0 ∷ 0 ∷ [])
pair-below a b p q zero = p
pair-below a b p q (suc zero) = q
pair-below a b p q (suc (suc zero)) = omega arith
pair-below a b p q (suc (suc (suc zero))) = omega arith
pair-below a b p q (suc (suc (suc (suc i)))) = omega arith

-- no gates put
pub gates-put-none : (base count : ℕ) (cs : List ℕ) → GatesPut base count cs [] count cs
unfolding packed_from
gates-put-none base count cs = record { end = sym (add-zero count); gates = sym (append-nil (take count cs)); long = refl }

-- ---- columns

module _ (tb : List ℕ) (at n t : ℕ) (h : at + n ≤ length tb) where
  pub length-column : length (column (take n (drop at tb)) t) ≡ n
  unfolding column
  length-column =
      length-map (take n (drop at tb)) (bit t) ∙ omega (arith, length-take n (drop at tb), length-drop at tb)

  pub get_or-column : (i : ℕ) → i < n → get_or (column (take n (drop at tb)) t) i 0 ≡ bit t (get_or tb (at + i) 0)
  unfolding column
  get_or-column i l =
      ap (λ (d : ℕ). get_or (map (bit t) (take n (drop at tb))) i d) (sym (bit-zero t))
      ∙ get_or-map (bit t) (take n (drop at tb)) i 0
      ∙ ap (bit t) (get_or-take n (drop at tb) i 0 l ∙ get_or-drop at tb i 0)

-- a turn of a loop that tests until a test fails: w is what the whole decides, f what is left, g what is left afterwards
pub test-stops : (b g : Bool) {w f : Bool} → f ≡ w → f ≡ (b && g) → b ≡ false → false ≡ w
test-stops b g i t e = sym (sym i ∙ t ∙ ap (λ (a : Bool). a && g) e)

pub test-goes : (b g : Bool) {w f : Bool} → f ≡ w → f ≡ (b && g) → b ≡ true → g ≡ w
test-goes b g i t e = sym (sym i ∙ t ∙ ap (λ (a : Bool). a && g) e)

module _ (tb : List ℕ) (at n t : ℕ) (h : at + n ≤ length tb) where
  -- the column's test at place i
  pub all-turn : (x i : ℕ) → i < n
      → all (eqb x) (drop i (column (take n (drop at tb)) t))
      ≡ (eqb x (bit t (get_or tb (at + i) 0)) && all (eqb x) (drop (i + 1) (column (take n (drop at tb)) t)))
  unfolding all
  all-turn x i l =
      let c : List ℕ = column (take n (drop at tb)) t in
      rw (add-one i, sym (get_or-column tb at n t h i l))
      (ap (all (eqb x)) (drop-cons c i 0 (omega (arith, length-column tb at n t h))))

  pub all_end : (x i : ℕ) → n ≤ i → all (eqb x) (drop i (column (take n (drop at tb)) t)) ≡ true
  unfolding all
  all_end x i l =
      ap (all (eqb x)) (drop_of_length-le (column (take n (drop at tb)) t) {i = i} (omega (arith, length-column tb at n t h)))

-- two columns compared
module _ (tb : List ℕ) (at bt n t : ℕ) (h : at + n ≤ length tb) (k : bt + n ≤ length tb) where
  pub same_turn : (i : ℕ) → i < n
      → same (drop i (column (take n (drop at tb)) t)) (drop i (column (take n (drop bt tb)) t))
      ≡ (eqb (bit t (get_or tb (at + i) 0)) (bit t (get_or tb (bt + i) 0))
      && same (drop (i + 1) (column (take n (drop at tb)) t)) (drop (i + 1) (column (take n (drop bt tb)) t)))
  unfolding same
  same_turn i l =
      let c : List ℕ = column (take n (drop at tb)) t in
      let d : List ℕ = column (take n (drop bt tb)) t in
      let e = drop-cons c i 0 (omega (arith, length-column tb at n t h)) in
      let f = drop-cons d i 0 (omega (arith, length-column tb bt n t k)) in
      rw (add-one i, sym (get_or-column tb at n t h i l), sym (get_or-column tb bt n t k i l))
      (ap (λ (l : List ℕ). same l (drop i d)) e ∙ ap (same (get_or c i 0 ∷ drop (suc i) c)) f)

  pub same_end : (i : ℕ) → n ≤ i
      → same (drop i (column (take n (drop at tb)) t)) (drop i (column (take n (drop bt tb)) t)) ≡ true
  unfolding same
  same_end i l =
      let c : List ℕ = column (take n (drop at tb)) t in
      let d : List ℕ = column (take n (drop bt tb)) t in
      let e = drop_of_length-le c {i = i} (omega (arith, length-column tb at n t h)) in
      let f = drop_of_length-le d {i = i} (omega (arith, length-column tb bt n t k)) in
      ap (λ (l : List ℕ). same l (drop i d)) e ∙ ap (same []) f

  -- they are the same exactly when the bits agree at every place
  pub same-iff-bits : (same (column (take n (drop at tb)) t) (column (take n (drop bt tb)) t) ≡ true)
      ↔ ((i : ℕ) → i < n → bit t (get_or tb (at + i) 0) ≡ bit t (get_or tb (bt + i) 0))
  same-iff-bits =
      let c : List ℕ = column (take n (drop at tb)) t in
      let d : List ℕ = column (take n (drop bt tb)) t in
      let m : length c ≡ n = length-column tb at n t h in (
        λ e i l.
            sym (get_or-column tb at n t h i l)
            ∙ ap (λ (xs : List ℕ). get_or xs i 0) (same_true c d e)
            ∙ get_or-column tb bt n t k i l,
        λ f.
            (same-iff-equal c d).1
            (ext_get_or 0 c d (m ∙ sym (length-column tb bt n t k))
            (λ i l.
            let b : i < n = omega arith in
            get_or-column tb at n t h i b ∙ f i b ∙ sym (get_or-column tb bt n t k i b))),
      )

-- what two tests of whole columns give, entry by entry
bool-of-iff : (a b : Bool) → (a ≡ true) ↔ (b ≡ true) → a ≡ b
bool-of-iff true b h = sym (h.0 refl)
bool-of-iff false true h = h.1 refl
bool-of-iff false false h = refl

bits-at : (xs : List ℕ) (t i : ℕ) → get_or (column xs t) i 0 ≡ bit t (get_or xs i 0)
unfolding column
bits-at xs t i = ap (get_or (map (bit t) xs) i) (sym (bit-zero t)) ∙ get_or-map (bit t) xs i 0

length-bits : (xs : List ℕ) (t : ℕ) → length (column xs t) ≡ length xs
unfolding column
length-bits xs t = length-map xs (bit t)

all-each : (x : ℕ) (cs : List ℕ) → ((i : ℕ) → i < length cs → get_or cs i 0 ≡ x) → all (eqb x) cs ≡ true
unfolding all
all-each x [] h = refl
all-each x (c ∷ cs) h = and_both (eqb x c) (all (eqb x) cs) (eq-eqb x c (sym (h 0 (omega arith)))) (all-each x cs (λ i l. h (suc i) (omega arith)))

each-all : (x : ℕ) (cs : List ℕ) → all (eqb x) cs ≡ true → (i : ℕ) → i < length cs → get_or cs i 0 ≡ x
unfolding all
each-all x [] e i l = let f : ⊥ = omega arith in absurd f
each-all x (c ∷ cs) e zero l = sym (eqb-true x c (and_left (eqb x c) (all (eqb x) cs) e))
each-all x (c ∷ cs) e (suc i) l = each-all x cs (and_right (eqb x c) (all (eqb x) cs) e) i (omega arith)

pub column-each : (xs : List ℕ) (t x : ℕ) {b : Bool} → IsTrue b ↔ EachIndex xs (λ k. bit t (get_or xs k 0) ≡ x) → b ≡ all (eqb x) (column xs t)
column-each xs t x {b} h =
    let n = length-bits xs t in
    bool-of-iff b (all (eqb x) (column xs t)) (
      λ e. all-each x (column xs t) (λ i l. bits-at xs t i ∙ h.0 e i (omega arith)),
      λ e. h.1 (λ i l. sym (bits-at xs t i) ∙ each-all x (column xs t) e i (omega arith)),
    )

pub same-each : (xs ys : List ℕ) (t : ℕ) {b : Bool} → length ys ≡ length xs
    → IsTrue b ↔ EachIndex xs (λ k. bit t (get_or xs k 0) ≡ bit t (get_or ys k 0)) → b ≡ same (column xs t) (column ys t)
same-each xs ys t {b} l h =
    let c : List ℕ = column xs t in
    let d : List ℕ = column ys t in
    let m = length-bits xs t in
    let n = length-bits ys t in
    bool-of-iff b (same c d) (
      λ e. (same-iff-equal c d).1 (ext_get_or 0 c d (omega arith) (λ i k. bits-at xs t i ∙ h.0 e i (omega arith) ∙ sym (bits-at ys t i))),
      λ e. h.1 (λ i k. sym (bits-at xs t i) ∙ ap (λ (zs : List ℕ). get_or zs i 0) (same_true c d e) ∙ bits-at ys t i),
    )

-- ---- the halves of a column

drop-map : (f : ℕ → ℕ) (n : ℕ) (xs : List ℕ) → drop n (map f xs) ≡ map f (drop n xs)
drop-map f zero xs = refl
drop-map f (suc n) [] = refl
drop-map f (suc n) (x ∷ xs) = drop-map f n xs

drop-take : (m n : ℕ) (xs : List ℕ) → drop m (take (m + n) xs) ≡ take n (drop m xs)
drop-take zero n xs = ap (λ (k : ℕ). take k xs) (zero-add n)
drop-take (suc m) n [] = ap (λ (k : ℕ). drop (suc m) (take k [])) (suc-add m n) ∙ sym (take-nil n)
drop-take (suc m) n (x ∷ xs) =
    ap (λ (k : ℕ). drop (suc m) (take k (x ∷ xs))) (suc-add m n) ∙ drop-take m n xs

module _ (tb : List ℕ) (at t k : ℕ) where
  pub column-low : take (2 ^ k) (column (take (2 ^ suc k) (drop at tb)) t) ≡ column (take (2 ^ k) (drop at tb)) t
  unfolding column
  column-low =
      sym (map-take (bit t) (2 ^ k) (take (2 ^ suc k) (drop at tb)))
      ∙ ap (map (bit t)) (take-take (2 ^ k) (2 ^ suc k) (drop at tb) (omega (arith, two-pow-succ k)))

  pub column-high : drop (2 ^ k) (column (take (2 ^ suc k) (drop at tb)) t) ≡ column (take (2 ^ k) (drop (at + 2 ^ k) tb)) t
  unfolding column
  column-high =
      drop-map (bit t) (2 ^ k) (take (2 ^ suc k) (drop at tb))
      ∙ ap (λ (n : ℕ). map (bit t) (drop (2 ^ k) (take n (drop at tb)))) (two-pow-succ k)
      ∙ ap (map (bit t)) (drop-take (2 ^ k) (2 ^ k) (drop at tb) ∙ ap (take (2 ^ k)) (drop-drop (2 ^ k) at tb))

-- ---- how a tree starts

pub start-zero : (k : ℕ) (col : List ℕ) → all (eqb 0) col ≡ true → tree_start k col ≡ TreeStart.Constant 0
unfolding tree_start start_by
start-zero zero col z = rw z
start-zero (suc k) col z = rw z

pub start-one : (k : ℕ) (col : List ℕ) → all (eqb 0) col ≡ false → all (eqb 1) col ≡ true → tree_start k col ≡ TreeStart.Constant 1
unfolding tree_start start_by
start-one zero col z o = rw z
start-one (suc k) col z o = rw (z, o)

-- a test of the first m entries that gave b, where m is n
pub column-tested : (tb : List ℕ) (t x : ℕ) {m n : ℕ} {r b : Bool} → m ≡ n
    → r ≡ all (eqb x) (column (take m tb) t) → r ≡ b → all (eqb x) (column (take n tb) t) ≡ b
column-tested tb t x e p q = ap (λ (i : ℕ). all (eqb x) (column (take i tb) t)) (sym e) ∙ sym p ∙ q

-- a bit that is not 0 is 1
pub single-bit : (tb : List ℕ) (at t : ℕ) → at + 1 ≤ length tb → all (eqb 0) (column (take 1 (drop at tb)) t) ≡ false
    → all (eqb 1) (column (take 1 (drop at tb)) t) ≡ true
single-bit tb at t h z =
    let b : ℕ = bit t (get_or tb (at + 0) 0) in
    let n : b ≡ 0 → ⊥ =
    λ e.
    let rest = all_end tb at 1 t h 0 1 (omega arith) in
    not-both (all-turn tb at 1 t h 0 0 (omega arith) ∙ and_both _ _ (eq-eqb 0 b (sym e)) rest) z in
    let e : 1 ≡ b = omega (arith, bit-lt t (get_or tb (at + 0) 0)) in
    all-turn tb at 1 t h 1 0 (omega arith) ∙ and_both _ _ (eq-eqb 1 b e) (all_end tb at 1 t h 1 1 (omega arith))

-- a column with bits of both kinds has halves
pub start-deep : (tb : List ℕ) (k t : ℕ) → 2 ^ k ≤ length tb → all (eqb 0) (column_part tb 0 k t) ≡ false
    → all (eqb 1) (column_part tb 0 k t) ≡ false → 0 < k
start-deep tb zero t h z o = absurd (not-both (single-bit tb 0 t (omega arith) z) o)
start-deep tb (suc k) t h z o = omega arith

pub start-halves : (tb : List ℕ) (k t : ℕ) {half : ℕ} {low high : List ℕ} → 2 ^ k ≤ length tb → half ≡ 2 ^ k / 2
    → low ≡ take half (take (2 ^ k) tb) → high ≡ drop half (take (2 ^ k) tb)
    → all (eqb 0) (column_part tb 0 k t) ≡ false → all (eqb 1) (column_part tb 0 k t) ≡ false
    → tree_start k (column_part tb 0 k t)
    ≡ cond (same (column low t) (column high t)) TreeStart.Equal (TreeStart.Split (join_of (column low t) (column high t)))
unfolding tree_start start_by column
start-halves tb zero t h e l r z o = absurd (not-both (single-bit tb 0 t (omega arith) z) o)
start-halves tb (suc k) t {half} h e l r z o =
    let n : half ≡ 2 ^ k = omega (arith, two-pow-succ k) in
    rw (l, r, z, o, n, map-take (bit t) (2 ^ k) (take (2 ^ suc k) tb), sym (drop-map (bit t) (2 ^ k) (take (2 ^ suc k) tb)))

-- ---- the tree by its start

-- one of four by the three tests: all 0, all 1, equal halves
unfoldable branch : {A : Type 0} → Bool → Bool → Bool → A → A → A → A → A
branch z o e p q r s = elim z [ true ↦ p | false ↦ elim o [ true ↦ q | false ↦ elim e [ true ↦ r | false ↦ s ] ] ]

tree-branch : (k next : ℕ) (is col : List ℕ) → let low = take (2 ^ k) col in
    let high = drop (2 ^ k) col in
    tree (suc k) next is col
    ≡ branch (all (eqb 0) col) (all (eqb 1) col) (same low high) (constant 0 ∷ []) (constant 1 ∷ []) (tree k next is low)
    (joined (join_of low high) k next is low high)
unfolding tree branch
tree-branch k next is col = refl

-- how many gates a half has
abbrev pub built_size : Bool → ℕ → ℕ
built_size b n = elim b [ true ↦ n | false ↦ 0 ]

length-built : (b : Bool) (gs : List Gate) → length (built b gs) ≡ built_size b (length gs)
length-built true gs = refl
length-built false gs = refl

built_size-le : (b : Bool) (n : ℕ) → built_size b n ≤ n
built_size-le true n = omega arith
built_size-le false n = omega arith

-- how many gates a tree of two halves has
abbrev pub joined_size : Join → ℕ → ℕ → ℕ
joined_size j x y = built_size (builds_low j) x + built_size (builds_high j) y + join_size j

tree_size-branch : (k : ℕ) (col : List ℕ) → let low = take (2 ^ k) col in
    let high = drop (2 ^ k) col in
    tree_size (suc k) col
    ≡ branch (all (eqb 0) col) (all (eqb 1) col) (same low high) 1 1 (tree_size k low)
    (joined_size (join_of low high) (tree_size k low) (tree_size k high))
unfolding tree_size branch join_size
tree_size-branch k col = refl

-- the four cases
tests : (z o e : Bool) {Q : Type 0} → (z ≡ true → Q) → (z ≡ false → o ≡ true → Q) → (z ≡ false → o ≡ false → e ≡ true → Q)
    → (z ≡ false → o ≡ false → e ≡ false → Q) → Q
tests true o e p q r s = p refl
tests false true e p q r s = q refl refl
tests false false true p q r s = r refl refl refl
tests false false false p q r s = s refl refl refl

-- how many gates a tree has
pub length-tree : (k next : ℕ) (is col : List ℕ) → length (tree k next is col) ≡ tree_size k col
unfolding tree tree_size branch
length-tree zero next is col = refl
length-tree (suc k) next is col =
    let low = take (2 ^ k) col in
    let high = drop (2 ^ k) col in
    let j = join_of low high in
    let ls = tree k next is low in
    let m = next + length (built (builds_low j) ls) in
    let hs = tree k m is high in
    tests (all (eqb 0) col) (all (eqb 1) col) (same low high)
    (λ z. rw (tree-branch k next is col, tree_size-branch k col, z))
    (λ z o. rw (tree-branch k next is col, tree_size-branch k col, z, o))
    (λ z o e. rw (tree-branch k next is col, tree_size-branch k col, z, o, e) (length-tree k next is low))
    (λ z o e.
    rw (tree-branch k next is col, tree_size-branch k col, z, o, e)
    (length-joined j k next is low high
    ∙ ap (λ (n : ℕ). n + length (built (builds_high j) hs) + join_size j)
    (length-built (builds_low j) ls ∙ ap (built_size (builds_low j)) (length-tree k next is low))
    ∙ ap (λ (n : ℕ). built_size (builds_low j) (tree_size k low) + n + join_size j)
    (length-built (builds_high j) hs ∙ ap (built_size (builds_high j)) (length-tree k m is high))))

-- a tree has a gate, and at most a leaf for each entry and four gates for each branch
pub tree_size-bounds : (k : ℕ) (col : List ℕ) → (0 < tree_size k col) × (tree_size k col + 4 ≤ 5 * 2 ^ k)
unfolding tree_size branch
tree_size-bounds zero col = (lit< tt, lit≤ tt)
tree_size-bounds (suc k) col =
    let x = take (2 ^ k) col in
    let y = drop (2 ^ k) col in
    let j = join_of x y in
    let low = tree_size-bounds k x in
    let high = tree_size-bounds k y in
    let n = two-pow-succ k in
    let p = pow_pos k in
    let b = join_size-bounds j in
    let l = built_size-le (builds_low j) (tree_size k x) in
    let h = built_size-le (builds_high j) (tree_size k y) in
    tests (all (eqb 0) col) (all (eqb 1) col) (same x y)
    (λ z. rw (tree_size-branch k col, z) (omega arith, omega arith))
    (λ z o. rw (tree_size-branch k col, z, o) (omega arith, omega arith))
    (λ z o e. rw (tree_size-branch k col, z, o, e) (omega arith, omega arith))
    (λ z o e. rw (tree_size-branch k col, z, o, e) (omega arith, omega arith))

-- what a start tells of the three tests
by-constant : (z o e : Bool) (i : Join) (x : ℕ) {Q : Type 0} → start_by z o e i ≡ TreeStart.Constant x → (z ≡ true → x ≡ 0 → Q)
    → (z ≡ false → o ≡ true → x ≡ 1 → Q) → Q
unfolding start_by
by-constant true o e i x q p r = p refl cc
by-constant false true e i x q p r = r refl refl cc
by-constant false false true i x q p r = let f : ◌≡◌ {A = ℕ} 0 1 = cc in let n : ⊥ = omega arith in absurd n
by-constant false false false i x q p r = let f : ◌≡◌ {A = ℕ} 0 1 = cc in let n : ⊥ = omega arith in absurd n

by_equal : (z o e : Bool) (i : Join) → start_by z o e i ≡ TreeStart.Equal → (z ≡ false) × (o ≡ false) × (e ≡ true)
unfolding start_by
by_equal true o e i q = let f : ◌≡◌ {A = ℕ} 0 1 = cc in let n : ⊥ = omega arith in absurd n
by_equal false true e i q = let f : ◌≡◌ {A = ℕ} 0 1 = cc in let n : ⊥ = omega arith in absurd n
by_equal false false true i q = (refl, refl, refl)
by_equal false false false i q = let f : ◌≡◌ {A = ℕ} 0 1 = cc in let n : ⊥ = omega arith in absurd n

by-split : (z o e : Bool) (i j : Join) → start_by z o e i ≡ TreeStart.Split j → (z ≡ false) × (o ≡ false) × (e ≡ false) × (i ≡ j)
unfolding start_by
by-split true o e i j q = let f : ◌≡◌ {A = ℕ} 0 1 = cc in let n : ⊥ = omega arith in absurd n
by-split false true e i j q = let f : ◌≡◌ {A = ℕ} 0 1 = cc in let n : ⊥ = omega arith in absurd n
by-split false false true i j q = let f : ◌≡◌ {A = ℕ} 0 1 = cc in let n : ⊥ = omega arith in absurd n
by-split false false false i j q = (refl, refl, refl, cc)

pub tree-constant : (k next : ℕ) (is col : List ℕ) (x : ℕ) → tree_start k col ≡ TreeStart.Constant x
    → tree k next is col ≡ constant x ∷ []
unfolding tree branch tree_start start_by
tree-constant zero next is col x q =
    by-constant (all (eqb 0) col) true true Both x q
    (λ z n. rw (z, n))
    (λ z o n. rw (z, n))
tree-constant (suc k) next is col x q =
    let low = take (2 ^ k) col in
    let high = drop (2 ^ k) col in
    by-constant (all (eqb 0) col) (all (eqb 1) col) (same low high) (join_of low high) x q
    (λ z n. rw (tree-branch k next is col, z, n))
    (λ z o n. rw (tree-branch k next is col, z, o, n))

pub size-constant : (k : ℕ) (col : List ℕ) (x : ℕ) → tree_start k col ≡ TreeStart.Constant x → tree_size k col ≡ 1
size-constant k col x q = sym (length-tree k 0 [] col) ∙ ap length (tree-constant k 0 [] col x q)

-- ---- the size by the halves

all_take : (p : ℕ → Bool) (m : ℕ) (xs : List ℕ) → all p xs ≡ true → all p (take m xs) ≡ true
unfolding all
all_take p zero xs e = refl
all_take p (suc m) [] e = refl
all_take p (suc m) (x ∷ xs) e = and_both (p x) _ (and_left (p x) _ e) (all_take p m xs (and_right (p x) _ e))

all_drop : (p : ℕ → Bool) (m : ℕ) (xs : List ℕ) → all p xs ≡ true → all p (drop m xs) ≡ true
unfolding all
all_drop p zero xs e = e
all_drop p (suc m) [] e = refl
all_drop p (suc m) (x ∷ xs) e = all_drop p m xs (and_right (p x) _ e)

all_same : (v : ℕ) (xs ys : List ℕ) → length xs ≡ length ys → all (eqb v) xs ≡ true → all (eqb v) ys ≡ true → xs ≡ ys
unfolding all
all_same v [] [] n e f = refl
all_same v [] (y ∷ ys) n e f = let z : ⊥ = omega arith in absurd z
all_same v (x ∷ xs) [] n e f = let z : ⊥ = omega arith in absurd z
all_same v (x ∷ xs) (y ∷ ys) n e f =
    let a : v ≡ x = eqb-true v x (and_left (eqb v x) _ e) in
    let b : v ≡ y = eqb-true v y (and_left (eqb v y) _ f) in
    let c : xs ≡ ys = all_same v xs ys (omega arith) (and_right (eqb v x) _ e) (and_right (eqb v y) _ f) in
    cc

size-zero : (k : ℕ) (col : List ℕ) → all (eqb 0) col ≡ true → tree_size k col ≡ 1
size-zero k col z = size-constant k col 0 (start-zero k col z)

size-one : (k : ℕ) (col : List ℕ) → all (eqb 1) col ≡ true → tree_size k col ≡ 1
size-one k col o =
    ⊎_elim (size-zero k col) (λ z. size-constant k col 1 (start-one k col z o)) (true-or-false (all (eqb 0) col))

module _ (k : ℕ) (col : List ℕ) where
  abbrev low_half : List ℕ
  low_half = take (2 ^ k) col

  abbrev high_half : List ℕ
  high_half = drop (2 ^ k) col

  -- equal halves have one tree, also where the column is constant
  pub size_same : same low_half high_half ≡ true → tree_size (suc k) col ≡ tree_size k low_half
  unfolding branch
  size_same s =
      tests (all (eqb 0) col) (all (eqb 1) col) (same low_half high_half)
      (λ z. rw (tree_size-branch k col, z) (sym (size-zero k low_half (all_take (eqb 0) (2 ^ k) col z))))
      (λ z o. rw (tree_size-branch k col, z, o) (sym (size-one k low_half (all_take (eqb 1) (2 ^ k) col o))))
      (λ z o e. rw (tree_size-branch k col, z, o, e))
      (λ z o e. absurd (not-both s e))

  module _ (long : length col ≡ 2 ^ suc k) (s : same low_half high_half ≡ false) where
    not-all : (v : ℕ) → all (eqb v) col ≡ true → ⊥
    not-all v e =
        let n = two-pow-succ k in
        let l : length low_half ≡ length high_half =
        length-take-le (2 ^ k) col (omega arith) ∙ sym (length-drop (2 ^ k) col ∙ omega arith) in
        not-both ((same-iff-equal low_half high_half).1 (all_same v low_half high_half l (all_take (eqb v) (2 ^ k) col e) (all_drop (eqb v) (2 ^ k) col e))) s

    -- halves that differ are joined
    pub size-joined : tree_size (suc k) col ≡ joined_size (join_of low_half high_half) (tree_size k low_half) (tree_size k high_half)
    unfolding branch
    size-joined =
        tests (all (eqb 0) col) (all (eqb 1) col) (same low_half high_half)
        (λ z. absurd (not-all 0 z))
        (λ z o. absurd (not-all 1 o))
        (λ z o e. absurd (not-both e s))
        (λ z o e. rw (tree_size-branch k col, z, o, e))

-- the tree over no nets is a constant
pub deep-equal : (k : ℕ) (col : List ℕ) → tree_start k col ≡ TreeStart.Equal → 0 < k
unfolding tree_start start_by
deep-equal zero col q = absurd (true≢false (by_equal (all (eqb 0) col) true true Both q).1)
deep-equal (suc k) col q = omega arith

pub deep-split : (k : ℕ) (col : List ℕ) (j : Join) → tree_start k col ≡ TreeStart.Split j → 0 < k
unfolding tree_start start_by
deep-split zero col j q = absurd (true≢false (by-split (all (eqb 0) col) true true Both j q).1)
deep-split (suc k) col j q = omega arith

module _ (tb : List ℕ) (at : ℕ) where
  pub tree-equal : (k t next : ℕ) (is : List ℕ) → tree_start k (column_part tb at k t) ≡ TreeStart.Equal
      → tree k next is (column_part tb at k t) ≡ tree (k - 1) next is (column_part tb at (k - 1) t)
  unfolding tree_start branch
  tree-equal zero t next is q = let f : ⊥ = omega (arith, deep-equal zero (column_part tb at zero t) q) in absurd f
  tree-equal (suc k) t next is q =
      let col = column_part tb at (suc k) t in
      let low = take (2 ^ k) col in
      let high = drop (2 ^ k) col in
      let p = by_equal (all (eqb 0) col) (all (eqb 1) col) (same low high) (join_of low high) q in
      rw (sub-one (suc k), tree-branch k next is col, p.0, p.1, p.2, column-low tb at t k)

  pub size-equal : (k t : ℕ) → tree_start k (column_part tb at k t) ≡ TreeStart.Equal
      → tree_size k (column_part tb at k t) ≡ tree_size (k - 1) (column_part tb at (k - 1) t)
  size-equal k t q =
      sym (length-tree k 0 [] (column_part tb at k t))
      ∙ ap length (tree-equal k t 0 [] q)
      ∙ length-tree (k - 1) 0 [] (column_part tb at (k - 1) t)

  pub tree-split : (k t next : ℕ) (is : List ℕ) (j : Join) → tree_start k (column_part tb at k t) ≡ TreeStart.Split j
      → tree k next is (column_part tb at k t)
      ≡ joined j (k - 1) next is (column_part tb at (k - 1) t) (column_part tb (at + 2 ^ (k - 1)) (k - 1) t)
  unfolding tree_start branch
  tree-split zero t next is j q = let f : ⊥ = omega (arith, deep-split zero (column_part tb at zero t) j q) in absurd f
  tree-split (suc k) t next is j q =
      let col = column_part tb at (suc k) t in
      let low = take (2 ^ k) col in
      let high = drop (2 ^ k) col in
      let p = by-split (all (eqb 0) col) (all (eqb 1) col) (same low high) (join_of low high) j q in
      rw (sub-one (suc k), tree-branch k next is col, p.0, p.1, p.2, p.3, column-low tb at t k, column-high tb at t k)

  -- by the sizes of both halves
  pub size-split : (k t half : ℕ) (j : Join) → tree_start k (column_part tb at k t) ≡ TreeStart.Split j → half ≡ 2 ^ (k - 1)
      → tree_size k (column_part tb at k t)
      ≡ joined_size j (tree_size (k - 1) (column_part tb at (k - 1) t)) (tree_size (k - 1) (column_part tb (at + half) (k - 1) t))
  unfolding tree_start branch
  size-split zero t half j q e = let f : ⊥ = omega (arith, deep-split zero (column_part tb at zero t) j q) in absurd f
  size-split (suc k) t half j q e =
      let col = column_part tb at (suc k) t in
      let low = take (2 ^ k) col in
      let high = drop (2 ^ k) col in
      let p = by-split (all (eqb 0) col) (all (eqb 1) col) (same low high) (join_of low high) j q in
      rw (e, sub-one (suc k), tree_size-branch k col, p.0, p.1, p.2, p.3, column-low tb at t k, column-high tb at t k)

pub tree_size-small : (k : ℕ) (col : List ℕ) → k ≤ 10 → tree_size k col < 5120
tree_size-small k col h =
    let m : 2 ^ k ≤ 2 ^ 10 = pow_mono h in
    omega (arith, tree_size-bounds k col)

-- how many gates a half has, by the test r that it has a tree
pub half-came : (b : Bool) (n : ℕ) {r : Bool} {x : ℕ} → r ≡ b → ((r ≡ true) × (x ≡ n)) ⊎ ((r ≡ false) × (x ≡ 0)) → x ≡ built_size b n
half-came b n {r} {x} e =
    ⊎_elim
    (λ (w : (r ≡ true) × (x ≡ n)). rw (sym e, w.0) w.1)
    (λ (w : (r ≡ false) × (x ≡ 0)). rw (sym e, w.0) w.1)

pub half-small : (b : Bool) (k : ℕ) (col : List ℕ) → k ≤ 10 → built_size b (tree_size k col) < 5120
half-small b k col h = omega (arith, built_size-le b (tree_size k col), tree_size-small k col h)

-- the halves of a part of the table
pub pow-halves : (k : ℕ) → 0 < k → 2 ^ k ≡ 2 ^ (k - 1) + 2 ^ (k - 1)
pow-halves zero h = let f : ⊥ = omega arith in absurd f
pow-halves (suc k) h = rw (sub-one (suc k)) (two-pow-succ k)

pub part_low : {tb : List ℕ} {k t : ℕ} → TablePart tb k t → 0 < k → TablePart tb (k - 1) t
part_low {tb} {k} {t} p h =
    let e = pow-halves k h in
    record { most = omega (arith, p.most); within = omega (arith, p.within); target = p.target }

-- the part from place half on
pub part-high : {tb : List ℕ} {k t half : ℕ} → TablePart tb k t → 0 < k → half ≡ 2 ^ (k - 1)
    → TablePart (take (length tb - half) (drop half tb)) (k - 1) t
part-high {tb} {k} {t} {half} p h e =
    let q = pow-halves k h in
    record {
      most = omega (arith, p.most);
      within = omega (arith, p.within, length-take (length tb - half) (drop half tb), length-drop half tb);
      target = p.target;
    }

pub column-rest : (tb : List ℕ) (k t half : ℕ) → half + 2 ^ k ≤ length tb
    → column_part (take (length tb - half) (drop half tb)) 0 k t ≡ column_part tb (0 + half) k t
column-rest tb k t half h =
    ap (λ (xs : List ℕ). column xs t) (take-take (2 ^ k) (length tb - half) (drop half tb) (omega arith))
    ∙ ap (λ (i : ℕ). column (take (2 ^ k) (drop i tb)) t) (sym (zero-add half))

-- ---- trees put

-- a constant is one of the first two kinds
pub kind-constant : (k : ℕ) (col : List ℕ) (x : ℕ) → tree_start k col ≡ TreeStart.Constant x → x < 2
unfolding tree_start start_by
kind-constant zero col x q = by-constant (all (eqb 0) col) true true Both x q (λ z n. omega arith) (λ z o n. omega arith)
kind-constant (suc k) col x q =
    let low = take (2 ^ k) col in
    let high = drop (2 ^ k) col in
    by-constant (all (eqb 0) col) (all (eqb 1) col) (same low high) (join_of low high) x q
    (λ z n. omega arith)
    (λ z o n. omega arith)

-- the position behind a tree
pub tree-end : {base count r : ℕ} {cs cs' : List ℕ} (k next : ℕ) (is col : List ℕ)
    → GatesPut base count cs (tree k next is col) r cs' → r ≡ count + tree_size k col
tree-end {count = count} k next is col p = p.end ∙ ap (λ (n : ℕ). count + n) (length-tree k next is col)

pub room-constant : {base : ℕ} {cs : List ℕ} (count k : ℕ) (col : List ℕ) (x : ℕ) → tree_start k col ≡ TreeStart.Constant x
    → GateRoom base (count + tree_size k col) cs → GateRoom base (count + 1) cs
room-constant count k col x q n = room-less n (omega (arith, size-constant k col x q))

pub room-equal : {base : ℕ} {cs : List ℕ} (tb : List ℕ) (at k t count : ℕ)
    → tree_start k (column_part tb at k t) ≡ TreeStart.Equal → GateRoom base (count + tree_size k (column_part tb at k t)) cs
    → GateRoom base (count + tree_size (k - 1) (column_part tb at (k - 1) t)) cs
room-equal tb at k t count q n = room-less n (omega (arith, size-equal tb at k t q))

-- a half's gates are put where it has a tree, and none where it has not
pub half-put : {b : Bool} {base count r : ℕ} {cs cs' : List ℕ} {gs : List Gate} → b ≡ true → GatesPut base count cs gs r cs'
    → GatesPut base count cs (built b gs) r cs'
half-put {b} {base} {count} {r} {cs} {cs'} {gs} e p = rw e p

pub half-none : {b : Bool} {base count : ℕ} {cs : List ℕ} (gs : List Gate) → b ≡ false
    → GatesPut base count cs (built b gs) count cs
half-none {b} {base} {count} {cs} gs e = rw e (gates-put-none base count cs)

-- the position behind a half's gates
half-end : {base count r : ℕ} {cs cs' : List ℕ} (b : Bool) (k next : ℕ) (is col : List ℕ)
    → GatesPut base count cs (built b (tree k next is col)) r cs' → r ≡ count + built_size b (tree_size k col)
half-end {count = count} b k next is col p =
    p.end
    ∙ ap (λ (n : ℕ). count + n) (length-built b (tree k next is col) ∙ ap (built_size b) (length-tree k next is col))

-- .. which is not the first place, where it has a tree
half-some : (b : Bool) (k count : ℕ) (col : List ℕ) → b ≡ true → 0 < count + built_size b (tree_size k col)
half-some b k count col e = rw e (omega (arith, tree_size-bounds k col))

-- what a tree over k nets puts of the half from place at on, where it has a tree (b)
abbrev pub HalfPut : Bool → List ℕ → ℕ → ℕ → ℕ → ℕ → List ℕ → ℕ → List ℕ → ℕ → List ℕ → Type 0
HalfPut b tb at k t base is count cs r cs' =
    GatesPut base count cs (built b (tree (k - 1) (base + count) is (column_part tb at (k - 1) t))) r cs'

-- the tree of a column whose halves are joined by j
module _ (tb : List ℕ) (at k t half base : ℕ) (is : List ℕ) (j : Join) (q : tree_start k (column_part tb at k t) ≡ TreeStart.Split j)
    (e : half ≡ 2 ^ (k - 1)) where
  -- room for the tree is room for each half's, and for the gates that join them
  pub room-low : (count : ℕ) {cs : List ℕ} → builds_low j ≡ true → GateRoom base (count + tree_size k (column_part tb at k t)) cs
      → GateRoom base (count + tree_size (k - 1) (column_part tb at (k - 1) t)) cs
  room-low count b n =
      let l = ap (λ (i : Bool). built_size i (tree_size (k - 1) (column_part tb at (k - 1) t))) b in
      room-less n (omega (arith, size-split tb at k t half j q e))

  module _ {count low : ℕ} {cs cs₁ : List ℕ} (n : GateRoom base (count + tree_size k (column_part tb at k t)) cs)
      (p : HalfPut (builds_low j) tb at k t base is count cs low cs₁) where
    low_end : low ≡ count + built_size (builds_low j) (tree_size (k - 1) (column_part tb at (k - 1) t))
    low_end = half-end (builds_low j) (k - 1) (base + count) is (column_part tb at (k - 1) t) p

    pub room-high : builds_high j ≡ true → GateRoom base (low + tree_size (k - 1) (column_part tb (at + half) (k - 1) t)) cs₁
    room-high b =
        let h = ap (λ (i : Bool). built_size i (tree_size (k - 1) (column_part tb (at + half) (k - 1) t))) b in
        room-less (room-kept n p) (omega (arith, size-split tb at k t half j q e, low_end))

    pub room-join : {high : ℕ} {cs₂ : List ℕ} (s : ℕ) → s < 1024
        → HalfPut (builds_high j) tb (at + half) k t base is low cs₁ high cs₂ → JoinRoom j s base low high cs₂
    room-join {high} s h r =
        let x = tree_size (k - 1) (column_part tb at (k - 1) t) in
        let y = tree_size (k - 1) (column_part tb (at + half) (k - 1) t) in
        let i : high ≡ low + built_size (builds_high j) y =
        half-end (builds_high j) (k - 1) (base + low) is (column_part tb (at + half) (k - 1) t) r in
        record {
          gates = room-less (room-kept (room-kept n p) r) (omega (arith, size-split tb at k t half j q e, low_end));
          chooser = h;
          order = omega arith;
          low-built = λ b. rw low_end (half-some (builds_low j) (k - 1) count (column_part tb at (k - 1) t) b);
          high-built = λ b. rw i (half-some (builds_high j) (k - 1) low (column_part tb (at + half) (k - 1) t) b);
        }

    -- the halves' trees and the gates that join them are the tree
    pub put-split : {high r : ℕ} {cs₂ cs₃ : List ℕ} → HalfPut (builds_high j) tb (at + half) k t base is low cs₁ high cs₂
        → GatesPut base high cs₂ (join_gates j (get_or is (k - 1) 0) (base + low - 1) (base + high)) r cs₃
        → GatesPut base count cs (tree k (base + count) is (column_part tb at k t)) r cs₃
    put-split {high} v m =
        let s = get_or is (k - 1) 0 in
        let ls = built (builds_low j) (tree (k - 1) (base + count) is (column_part tb at (k - 1) t)) in
        let hs : ℕ → ℕ → List Gate =
        λ i n. built (builds_high j) (tree (k - 1) n is (column_part tb (at + i) (k - 1) t)) in
        let x : base + low ≡ base + count + length ls = omega (arith, p.end) in
        let y : base + high ≡ base + low + length (hs half (base + low)) = omega (arith, v.end) in
        gates-put-same (gates-put-append (gates-put-append p v) m)
        (ap (λ (n : ℕ). ls ++ hs half (base + low) ++ join_gates j s (base + low - 1) n) y
        ∙ ap (λ (n : ℕ). ls ++ hs half n ++ join_gates j s (n - 1) (n + length (hs half n))) x
        ∙ ap
        (λ (i : ℕ).
        let n = base + count + length ls in
        ls ++ hs i n ++ join_gates j s (n - 1) (n + length (hs i n)))
        e
        ∙ sym (tree-split tb at k t (base + count) is j q))

-- ---- the trees of all targets

-- a tree over k nets reads the first k of them
pub tree-take : (k n next : ℕ) (is col : List ℕ) → k ≤ n → tree k next (take n is) col ≡ tree k next is col
unfolding tree
tree-take zero n next is col h = refl
tree-take (suc k) n next is col h =
    let low = take (2 ^ k) col in
    let high = drop (2 ^ k) col in
    let j = join_of low high in
    let l : k ≤ n = omega arith in
    let p = tree-take k n next is low l in
    let q = tree-take k n (next + length (built (builds_low j) (tree k next is low))) is high l in
    rw (tree-branch k next (take n is) col, p, q, get_or-take n is k 0 h, tree-branch k next is col)

-- how many gates all trees have
length-trees : (m j k next : ℕ) (is tb : List ℕ) → length is ≡ k
    → length (trees_from m j next is (take (2 ^ k) tb)).gates ≡ trees_size m j k tb
unfolding trees_from trees_size
length-trees zero j k next is tb e = refl
length-trees (suc m) j k next is tb e =
    let gs = tree (length is) next is (column_part tb 0 k j) in
    let n = length-tree (length is) next is (column_part tb 0 k j) ∙ ap (λ (i : ℕ). tree_size i (column_part tb 0 k j)) e in
    length-append gs (trees_from m (suc j) (next + length gs) is (take (2 ^ k) tb)).gates
    ∙ omega (arith, length-trees m (suc j) k (next + length gs) is tb e)

-- .. of a job and k nets, whose table stands at the start of tb
pub tree-front : (n next : ℕ) (is : List ℕ) (col : ℕ → List ℕ) → n ≤ length is
    → tree (length (take n is)) next (take n is) (col (length (take n is))) ≡ tree n next is (col n)
tree-front n next is col h =
    ap (λ (m : ℕ). tree m next (take n is) (col m)) (length-take-le n is h) ∙ tree-take n n next is (col n) (omega arith)

pub length-patch : (j : Job) (is tb : List ℕ) {k : ℕ} → length is ≡ k
    → length (trees j is (take (2 ^ k) tb)).gates ≡ trees_size j.targets 0 k tb
unfolding trees
length-patch j is tb {k} e =
    length-trees j.targets 0 k _ (map (new_free_net j) is) tb (length-map is (new_free_net j) ∙ e)

pub trees_size-le : (m j k : ℕ) (tb : List ℕ) → k ≤ 10 → trees_size m j k tb ≤ 5120 * m
unfolding trees_size
trees_size-le zero j k tb h = omega arith
trees_size-le (suc m) j k tb h = omega (arith, tree_size-small k (column_part tb 0 k j) h, trees_size-le m (suc j) k tb h)

-- one target fewer is left
pub trees_size-turn : (m j k : ℕ) (tb : List ℕ) → j < m
    → trees_size (m - j) j k tb ≡ tree_size k (column_part tb 0 k j) + trees_size (m - (j + 1)) (j + 1) k tb
unfolding trees_size
trees_size-turn m j k tb h =
    let e : m - j ≡ suc (m - (j + 1)) = omega arith in
    ap (λ (i : ℕ). trees_size i j k tb) e
    ∙ ap (λ (i : ℕ). tree_size k (column_part tb 0 k j) + trees_size (m - (j + 1)) i k tb) (sym (add-one j))

-- the gates gs and the trees of the targets behind
abbrev onto : ℕ → ℕ → ℕ → List ℕ → List ℕ → List Gate → Trees
onto m j next is tb gs =
    let r = trees_from m j (next + length gs) is tb in
    record { gates = gs ++ r.gates; nets = (next + length gs - 1) ∷ r.nets }

pub trees-turn : (m j k next : ℕ) (is tb : List ℕ) → j < m → k ≤ length is
    → trees_from (m - j) j next (take k is) (take (2 ^ k) tb)
    ≡ onto (m - (j + 1)) (j + 1) next (take k is) (take (2 ^ k) tb) (tree k next is (column_part tb 0 k j))
unfolding trees_from
trees-turn m j k next is tb h l =
    let js = take k is in
    let tb' = take (2 ^ k) tb in
    let e : m - j ≡ suc (m - (j + 1)) = omega arith in
    let g : tree (length js) next js (column_part tb 0 k j) ≡ tree k next is (column_part tb 0 k j) =
    ap (λ (i : ℕ). tree i next js (column_part tb 0 k j)) (length-take-le k is l)
    ∙ tree-take k k next is (column_part tb 0 k j) (omega arith) in
    ap (λ (i : ℕ). trees_from i j next js tb') e
    ∙ ap (onto (m - (j + 1)) (suc j) next js tb') g
    ∙ ap (λ (i : ℕ). onto (m - (j + 1)) i next js tb' (tree k next is (column_part tb 0 k j))) (sym (add-one j))

-- the trees of the first t targets are put, r gates stand in the places, and the net of each tree among the numbers ns, from
-- base on
pub record Growing (m k base : ℕ) (is tb : List ℕ) (count : ℕ) (ns₀ cs₀ ns cs : List ℕ) (r t : ℕ) : Type 0 where
  pub most : t ≤ m
  pub gates : take r cs ++ packed_from (base + r) (trees_from (m - t) t (base + r) (take k is) (take (2 ^ k) tb)).gates
      ≡ take count cs₀ ++ packed_from (base + count) (support_trees m k (base + count) is tb).gates
  pub nets : take (base + t) ns ++ (trees_from (m - t) t (base + r) (take k is) (take (2 ^ k) tb)).nets
      ≡ take base ns₀ ++ (support_trees m k (base + count) is tb).nets
  pub end : r + trees_size (m - t) t k tb ≡ count + trees_size m 0 k tb
  pub behind : drop (base + t) ns ≡ drop (base + t) ns₀
  pub long : length cs ≡ length cs₀
  pub numbers : length ns ≡ length ns₀

module _ {m k base : ℕ} {is tb : List ℕ} {count : ℕ} {ns₀ cs₀ ns cs : List ℕ} {r t : ℕ}
    (g : Growing m k base is tb count ns₀ cs₀ ns cs r t) where
  pub growing-room : t < m → GateRoom base (count + trees_size m 0 k tb) cs₀
      → GateRoom base (r + tree_size k (column_part tb 0 k t)) cs
  growing-room h n =
      let e = trees_size-turn m t k tb h in
      record { long = g.long ∙ n.long; room = omega arith; nets = omega arith }

  pub growing-net : {r' : ℕ} {cs' : List ℕ} → t < m → GateRoom base (count + trees_size m 0 k tb) cs₀
      → GatesPut base r cs (tree k (base + r) is (column_part tb 0 k t)) r' cs' → (0 < r') × (base + r' ≤ 1024)
  growing-net h n p =
      let e = tree-end k (base + r) is (column_part tb 0 k t) p in
      (omega (arith, tree_size-bounds k (column_part tb 0 k t)), omega (arith, (growing-room h n).nets))

  pub growing-next : {r' : ℕ} {cs' : List ℕ} → t < m → k ≤ length is → base + m ≤ length ns₀
      → GatesPut base r cs (tree k (base + r) is (column_part tb 0 k t)) r' cs'
      → Growing m k base is tb count ns₀ cs₀ (set ns (base + t) (base + r' - 1)) cs' r' (t + 1)
  growing-next {r'} {cs'} h l b p =
      let js = take k is in
      let tb' = take (2 ^ k) tb in
      let gs = tree k (base + r) is (column_part tb 0 k t) in
      let left : ℕ → Trees = λ i. trees_from (m - (t + 1)) (t + 1) i js tb' in
      let i : base + r' ≡ base + r + length gs = omega (arith, p.end) in
      let turn = trees-turn m t k (base + r) is tb h l in
      let at = base + t in
      let v = base + r' - 1 in
      let j : base + (t + 1) ≡ suc at = omega arith in
      let w : base + (t + 1) ≡ at + 1 = omega arith in
      let long : at < length ns = omega (arith, g.numbers) in
      record {
        most = omega arith;
        gates =
            ap (λ (z : ℕ). take r' cs' ++ packed_from z (left z).gates) i
            ∙ ap (λ (z : List ℕ). z ++ packed_from (base + r + length gs) (left (base + r + length gs)).gates) p.gates
            ∙ append_assoc (take r cs) (packed_from (base + r) gs)
            (packed_from (base + r + length gs) (left (base + r + length gs)).gates)
            ∙ ap (λ (z : List ℕ). take r cs ++ z) (sym (packed_from-append (base + r) gs (left (base + r + length gs)).gates))
            ∙ ap (λ (z : Trees). take r cs ++ packed_from (base + r) z.gates) (sym turn)
            ∙ g.gates;
        nets =
            ap (λ (z : ℕ). take z (set ns at v) ++ (left (base + r')).nets) j
            ∙ ap (λ (z : List ℕ). z ++ (left (base + r')).nets) (take-suc-set ns at v long)
            ∙ append_snoc (take at ns) v (left (base + r')).nets
            ∙ ap (λ (z : ℕ). take at ns ++ ((z - 1) ∷ (left z).nets)) i
            ∙ ap (λ (z : Trees). take at ns ++ z.nets) (sym turn)
            ∙ g.nets;
        end = omega (arith, g.end, trees_size-turn m t k tb h, tree-end k (base + r) is (column_part tb 0 k t) p);
        behind =
            drop-set-lt (base + (t + 1)) ns at v (omega arith)
            ∙ ap (λ (z : ℕ). drop z ns) w
            ∙ sym (drop-drop 1 at ns)
            ∙ ap (drop 1) g.behind
            ∙ drop-drop 1 at ns₀
            ∙ ap (λ (z : ℕ). drop z ns₀) (sym w);
        long = p.long ∙ g.long;
        numbers = length-set ns at v ∙ g.numbers;
      }

  pub growing-all : m ≤ t → k ≤ length is → TreesPut m k base is tb count ns₀ cs₀ r ns cs
  unfolding trees_from trees_size placed packed_from
  growing-all h l =
      let e : m - t ≡ 0 = omega (arith, g.most) in
      let f : t ≡ m = omega (arith, g.most) in
      let n = length-trees m 0 k (base + count) (take k is) tb (length-take-le k is l) in
      let ys = (support_trees m k (base + count) is tb).nets in
      let q : base + t ≡ base + length ys = omega (arith, length-nets m 0 (base + count) (take k is) (take (2 ^ k) tb)) in
      record {
        gates =
            record {
              end = omega (arith, g.end, ap (λ (i : ℕ). trees_size i t k tb) e);
              gates = sym (append-nil (take r cs)) ∙ (rw e at g.gates);
              long = g.long;
            };
        nets =
            sym (take-append-drop (base + t) ns)
            ∙ ap (λ (z : List ℕ). z ++ drop (base + t) ns) (sym (append-nil (take (base + t) ns)) ∙ (rw e at g.nets))
            ∙ ap (λ (z : List ℕ). take base ns₀ ++ ys ++ z) g.behind
            ∙ ap (λ (z : ℕ). take base ns₀ ++ ys ++ drop z ns₀) q;
      }

module _ (m k base : ℕ) (is tb : List ℕ) (count : ℕ) (ns₀ cs₀ : List ℕ) where
  pub growing-none : Growing m k base is tb count ns₀ cs₀ ns₀ cs₀ count 0
  growing-none =
      let e : m - 0 ≡ m = omega arith in
      let f : base + 0 ≡ base = omega arith in
      record {
        most = omega arith;
        gates = rw e;
        nets = rw (e, f);
        end = rw e;
        behind = refl;
        long = refl;
        numbers = refl;
      }
