-- Laws of the loops that mark nets and pick gates (src/planning.rt), a turn each. Assumes nothing.
use Prim.Native.Nat.{ℕ, zero, suc, ◌+◌, ◌≤◌, ◌<◌, min, max}
use mathlib.Core.Path.{◌≡◌, refl, sym, ◌∙◌, ap}
use mathlib.Core.Logic.{◌⊎◌, inl, inr, ⊎_elim}
use mathlib.Core.List.{List, [], ◌∷◌, ◌++◌, map, append_assoc, append-nil}
use mathlib.Core.Bool.{Bool, true, false, cond, not, ◌&&◌, beq}
use native.Mathlib.Numerals.{add-one}
use native.Mathlib.Omega.{arith}
use borrow.Author.Tests.{ltb-true, ltb-false, eqb-true, eqb-false, ne_eqb}
use lib.Dec.{ltb, eqb}
use lib.ListN.{length, get_or, take, drop, set, replicate, length-set, length-append, length-take, length-replicate, get_or-replicate, drop_of_length-le}
use lib.Seq.{take-suc, drop-cons, take_all, take-append-le, take-take, take_at, take-suc-set, get_or-take, get_or-set_same, get_or-set_other, length-take-le, ext_get_or}
use Rattle.std.specs.List.{push}
use Rattle.std.proofs.lemmas.List.{drop_more}
use Rattle.records.specs.Gate.{disj}
use Rattle.records.specs.Netlist.{net_at}
use Rattle.records.proofs.Laws.Bytes.{and_both, and-false-left, and-false-right, length-tabulate, get_d_tabulate}
use Rattle.engine.specs.Choice.{keep}
use Rattle.engine.specs.Inner.Packed.{own, operands_of, evaluated}
use Rattle.engine.specs.Inner.Plan.{code_mark, marked, marked_all, live_from, leaves_from, marks_from, picked, list_at, lists_to, ListPut, ListsUpTo}
use Rattle.engine.proofs.Laws.Choice.{true-or-false}
use Rattle.engine.proofs.Laws.FitCode.{keep_append, keep_one, keep-none}
use Rattle.engine.proofs.Laws.Marks.{leaf_mark, leaf_mark-in, leaf_mark-out, unmarked-of}

-- ---- the operands of a gate, first to last

-- the greatest mark so far, and those of the operands left
module _ (vs : List ℕ) where
  abbrev pub MarkLeft : ℕ → ℕ → List ℕ → Type 0
  MarkLeft c r is = max r (disj (map (net_at vs) is)) ≡ code_mark vs c

  pub mark-all : (c : ℕ) → MarkLeft c 0 (operands_of c)
  unfolding code_mark
  mark-all c = omega arith

  pub mark-next : (c r x w : ℕ) {is js : List ℕ} → is ≡ x ∷ js → w ≡ max r (get_or vs x 0) → MarkLeft c r is → MarkLeft c w js
  unfolding disj net_at
  mark-next c r x w {is} {js} s e m =
      let d = disj (map (net_at vs) js) in
      let n : max w d ≡ max r (max (get_or vs x 0) d) = omega arith in
      n ∙ sym (ap (λ (l : List ℕ). max r (disj (map (net_at vs) l))) s) ∙ m

  pub mark-none : (c r : ℕ) {is : List ℕ} → is ≡ [] → MarkLeft c r is → r ≡ code_mark vs c
  unfolding disj
  mark-none c r s m =
      let z : max r 0 ≡ r = omega arith in
      sym (ap (λ (l : List ℕ). max r (disj (map (net_at vs) l))) s ∙ z) ∙ m

-- ---- leaves with a mark

pub length-leaves_from : (from k : ℕ) → length (leaves_from from k) ≡ 1024
unfolding leaves_from
length-leaves_from from k = length-tabulate 1024 (leaf_mark from k)

pub get_or-leaves_from : (from k i : ℕ) → i < 1024 → get_or (leaves_from from k) i 0 ≡ leaf_mark from k i
unfolding leaves_from
get_or-leaves_from from k i h = get_d_tabulate 1024 (leaf_mark from k) i 0 h

pub leaves_none : (from : ℕ) → replicate 1024 0 ≡ leaves_from from 0
leaves_none from =
    let n = length-replicate {A = ℕ} 1024 0 in
    ext_get_or 0 (replicate 1024 0) (leaves_from from 0) (n ∙ sym (length-leaves_from from 0))
    (λ i h.
    let l : i < 1024 = omega arith in
    get_or-replicate 1024 i 0 0 l
    ∙ sym (get_or-leaves_from from 0 i l ∙ leaf_mark-out from 0 i (split i)))
  where
    split : (i : ℕ) → (i < from) ⊎ (from + 0 ≤ i)
    split i =
        ⊎_elim (λ t. inl (ltb-true i from t)) (λ t. let l = ltb-false i from t in inr (omega arith)) (true-or-false (ltb i from))

leaf_mark-more : (from k i : ℕ) → (i ≡ from + k → ⊥) → leaf_mark from (k + 1) i ≡ leaf_mark from k i
leaf_mark-more from k i h =
    ⊎_elim
    (λ t. let l = ltb-true i from t in leaf_mark-out from (k + 1) i (inl l) ∙ sym (leaf_mark-out from k i (inl l)))
    (λ t.
    let l = ltb-false i from t in
    ⊎_elim
    (λ u.
    let m = ltb-true i (from + k) u in
    leaf_mark-in from (k + 1) i l (omega arith) ∙ sym (leaf_mark-in from k i l m))
    (λ u.
    let m = ltb-false i (from + k) u in
    leaf_mark-out from (k + 1) i (inr (omega (arith, h))) ∙ sym (leaf_mark-out from k i (inr m)))
    (true-or-false (ltb i (from + k))))
    (true-or-false (ltb i from))

pub leaves-next : (from k : ℕ) → from + k < 1024 → set (leaves_from from k) (from + k) 1 ≡ leaves_from from (k + 1)
leaves-next from k h =
    let n = length-leaves_from from k in
    let m = length-set (leaves_from from k) (from + k) 1 in
    ext_get_or 0 (set (leaves_from from k) (from + k) 1) (leaves_from from (k + 1)) (m ∙ n ∙ sym (length-leaves_from from (k + 1)))
    (λ i l.
    let b : i < 1024 = omega arith in
    ⊎_elim
    (λ (t : eqb i (from + k) ≡ true).
    let e : i ≡ from + k = eqb-true i (from + k) t in
    rw e (get_or-set_same (leaves_from from k) (from + k) 1 0 (omega arith))
    ∙ sym (leaf_mark-in from (k + 1) i (omega arith) (omega arith)))
    (λ (t : eqb i (from + k) ≡ false).
    let e : i ≡ from + k → ⊥ = eqb-false i (from + k) t in
    get_or-set_other (leaves_from from k) (from + k) i 1 0 e
    ∙ get_or-leaves_from from k i b
    ∙ sym (leaf_mark-more from k i e))
    (true-or-false (eqb i (from + k)))
    ∙ sym (get_or-leaves_from from (k + 1) i b))

-- ---- the first n of a list, one after the other

module _ (n : ℕ) (cs : List ℕ) (h : n ≤ length cs) where
  -- what is left from i on starts with its i-th element
  pub left-cons : (i : ℕ) → i < n → drop i (take n cs) ≡ get_or cs i 0 ∷ drop (i + 1) (take n cs)
  left-cons i l =
      rw add-one
      (drop-cons (take n cs) i 0 (omega (arith, length-take-le n cs h))
      ∙ ap (λ (c : ℕ). c ∷ drop (suc i) (take n cs)) (get_or-take n cs i 0 l))

  pub left-none : (i : ℕ) → n ≤ i → drop i (take n cs) ≡ []
  left-none i l = drop_of_length-le (take n cs) {i = i} (omega (arith, length-take-le n cs h))

-- a turn of the loop over the gates
module _ (F : List ℕ → ℕ → ℕ) (vs cs : List ℕ) (n i : ℕ) (h : n ≤ length cs) where
  pub evaluated-next : i < n
      → evaluated F (set vs (own (get_or cs i 0)) (F vs (get_or cs i 0))) (drop (i + 1) (take n cs)) ≡ evaluated F vs (drop i (take n cs))
  unfolding evaluated
  evaluated-next l = sym (ap (evaluated F vs) (left-cons n cs h i l))

  pub evaluated-end : n ≤ i → evaluated F vs (drop i (take n cs)) ≡ vs
  unfolding evaluated
  evaluated-end l = ap (evaluated F vs) (left-none n cs h i l)

-- ---- nets marked

pub marked-of : (ms : List ℕ) (i : ℕ) → (get_or ms i 0 ≡ 0 → ⊥) → marked ms i ≡ true
unfolding net_at
marked-of ms i h = rw (ne_eqb (get_or ms i 0) 0 h)

pub length-marked_all : (ms is : List ℕ) → length (marked_all ms is) ≡ length ms
unfolding marked_all
length-marked_all ms [] = refl
length-marked_all ms (i ∷ is) = length-marked_all (set ms i 1) is ∙ length-set ms i 1

module _ (ms is : List ℕ) (i : ℕ) where
  pub marked_all-next : i < length is → marked_all (set ms (get_or is i 0) 1) (drop (i + 1) is) ≡ marked_all ms (drop i is)
  unfolding marked_all
  marked_all-next h = sym (ap (marked_all ms) (drop_more is i 0 h))

  pub marked_all-end : length is ≤ i → marked_all ms (drop i is) ≡ ms
  unfolding marked_all
  marked_all-end h = ap (marked_all ms) (drop_of_length-le is {i = i} h)

-- ---- live gates, last to first

pub length-live_from : (ms cs : List ℕ) → length (live_from ms cs) ≡ length ms
unfolding live_from
length-live_from ms [] = refl
length-live_from ms (c ∷ cs) =
    let ls = live_from ms cs in
    ⊎_elim
    (λ (e : marked ls (own c) ≡ true). rw e (length-marked_all ls (operands_of c) ∙ length-live_from ms cs))
    (λ (e : marked ls (own c) ≡ false). rw e (length-live_from ms cs))
    (true-or-false (marked ls (own c)))

module _ (ms : List ℕ) (c : ℕ) (cs : List ℕ) where
  pub live_from-marked : marked (live_from ms cs) (own c) ≡ true → live_from ms (c ∷ cs) ≡ marked_all (live_from ms cs) (operands_of c)
  unfolding live_from
  live_from-marked e = rw e

  pub live_from-unmarked : marked (live_from ms cs) (own c) ≡ false → live_from ms (c ∷ cs) ≡ live_from ms cs
  unfolding live_from
  live_from-unmarked e = rw e

-- a turn of the loop, which goes down: gate c is the last of those that are left
pub live-last : (ms : List ℕ) (c : ℕ) (cs : List ℕ) → live_from ms (push cs c) ≡ live_from (live_from ms (c ∷ [])) cs
unfolding live_from
live-last ms c [] = refl
live-last ms c (x ∷ cs) = rw (live-last ms c cs)

module _ (ms : List ℕ) (c : ℕ) (cs : List ℕ) where
  pub live-marked : (get_or ms (own c) 0 ≡ 0 → ⊥) → live_from (marked_all ms (operands_of c)) cs ≡ live_from ms (push cs c)
  unfolding live_from
  live-marked h = sym (live-last ms c cs ∙ ap (λ (x : List ℕ). live_from x cs) (live_from-marked ms c [] (marked-of ms (own c) h)))

  pub live-unmarked : get_or ms (own c) 0 ≡ 0 → live_from ms cs ≡ live_from ms (push cs c)
  unfolding live_from net_at
  live-unmarked h = sym (live-last ms c cs ∙ ap (λ (x : List ℕ). live_from x cs) (live_from-unmarked ms c [] (unmarked-of ms (own c) h)))

pub live-none : (ms cs : List ℕ) → length cs ≡ 0 → live_from ms cs ≡ ms
unfolding live_from
live-none ms [] h = refl
live-none ms (c ∷ cs) h = let f : ⊥ = omega arith in absurd f

-- ---- gates picked

beq-cond : (b led : Bool) → beq b led ≡ cond led b (not b)
beq-cond true true = refl
beq-cond true false = refl
beq-cond false true = refl
beq-cond false false = refl

module _ (live ms : List ℕ) (led : Bool) where
  abbrev pub wanted : ℕ → Bool
  wanted c = marked live (own c) && cond led (marked ms (own c)) (not (marked ms (own c)))

  -- .. as the code tests it
  module _ (c : ℕ) where
    abbrev sided : Bool
    sided = beq (not (eqb (get_or ms (own c) 0) 0)) led

    pub wanted-true : (get_or live (own c) 0 ≡ 0 → ⊥) → sided ≡ true → wanted c ≡ true
    unfolding net_at
    wanted-true a b = and_both (marked live (own c)) _ (marked-of live (own c) a) (sym (beq-cond (marked ms (own c)) led) ∙ b)

    pub wanted-false : (get_or live (own c) 0 ≡ 0) ⊎ (sided ≡ false) → wanted c ≡ false
    unfolding net_at
    wanted-false s =
        ⊎_elim
        (λ z. and-false-left (marked live (own c)) _ (unmarked-of live (own c) z))
        (λ z. and-false-right (marked live (own c)) _ (sym (beq-cond (marked ms (own c)) led) ∙ z))
        s

  module _ (cs : List ℕ) where
    abbrev picked_to : ℕ → List ℕ
    picked_to i = picked live ms led (take i cs)

    take_next : (i : ℕ) → i < length cs → picked_to (i + 1) ≡ picked_to i ++ keep wanted (get_or cs i 0 ∷ [])
    unfolding picked
    take_next i h =
        ap (keep wanted) (ap (λ (k : ℕ). take k cs) (add-one i) ∙ take-suc cs i 0 h) ∙ keep_append wanted (take i cs) (get_or cs i 0 ∷ [])

    picked-one : (i : ℕ) → i < length cs → wanted (get_or cs i 0) ≡ true → picked_to (i + 1) ≡ picked_to i ++ (get_or cs i 0 ∷ [])
    picked-one i h e = take_next i h ∙ ap (λ (l : List ℕ). picked_to i ++ l) (keep_one wanted (get_or cs i 0) e)

    picked_none : (i : ℕ) → i < length cs → wanted (get_or cs i 0) ≡ false → picked_to (i + 1) ≡ picked_to i
    picked_none i h e =
        take_next i h ∙ ap (λ (l : List ℕ). picked_to i ++ l) (keep-none wanted (get_or cs i 0) e) ∙ append-nil (picked_to i)

-- a front of a list of m places that holds the first m of a longer list, and one element more
module _ (m : ℕ) (xs out : List ℕ) (end : ℕ) (l : length out ≡ m) (h : end ≤ m) (e : take end out ≡ take m xs) where
  front_length : min m (length xs) ≡ end
  front_length = sym (length-take m xs) ∙ ap length (sym e) ∙ length-take-le end out (omega arith)

  front-more : end < m → (c : ℕ) → take (end + 1) (set out end c) ≡ take m (xs ++ (c ∷ []))
  front-more k c =
      let n = front_length in
      ap (λ (x : ℕ). take x (set out end c)) (add-one end)
      ∙ take-suc-set out end c (omega arith)
      ∙ ap (λ (r : List ℕ). r ++ (c ∷ [])) (e ∙ take_all m xs (omega arith))
      ∙ sym (take_all m (xs ++ (c ∷ [])) (omega (arith, length-append xs (c ∷ []))))

  front-full : m ≤ end → (c : ℕ) → take end out ≡ take m (xs ++ (c ∷ []))
  front-full k c = let n = front_length in e ∙ sym (take-append-le m xs (c ∷ []) (omega arith))

-- the places once those of the first i gates of cs that are wanted are put, from place at on
abbrev pub Picking : List ℕ → List ℕ → Bool → List ℕ → List ℕ → ℕ → List ℕ → ℕ → ℕ → Type 0
Picking live ms led cs before at out end i = ListPut (picked live ms led (take i cs)) at before end out

module _ (live ms : List ℕ) (led : Bool) (cs before : List ℕ) (at : ℕ) where
  pub picking-none : at ≤ 2400 → length before ≡ 2400 → Picking live ms led cs before at before at 0
  unfolding picked keep
  picking-none h l =
      record {
        within = h;
        long = l;
        front =
            sym
            (ap (take 2400) (append-nil (take at before))
            ∙ take_all 2400 (take at before) (omega (arith, length-take-le at before (omega arith))));
      }

  module _ (out : List ℕ) (end i : ℕ) (p : Picking live ms led cs before at out end i) (h : i < length cs) where
    abbrev front-now : List ℕ
    front-now = take at before ++ picked_to live ms led cs i

    module _ (e : wanted live ms led (get_or cs i 0) ≡ true) where
      front-next : take 2400 (front-now ++ (get_or cs i 0 ∷ [])) ≡ take 2400 (take at before ++ picked_to live ms led cs (i + 1))
      front-next =
          ap (take 2400)
          (append_assoc (take at before) (picked_to live ms led cs i) (get_or cs i 0 ∷ [])
          ∙ ap (λ (l : List ℕ). take at before ++ l) (sym (picked-one live ms led cs i h e)))

      pub picking-put : end < 2400 → Picking live ms led cs before at (set out end (get_or cs i 0)) (end + 1) (i + 1)
      picking-put k =
          record {
            within = omega arith;
            long = length-set out end (get_or cs i 0) ∙ p.long;
            front = front-more 2400 front-now out end p.long p.within p.front k (get_or cs i 0) ∙ front-next;
          }

      pub picking_full : 2400 ≤ end → Picking live ms led cs before at out end (i + 1)
      picking_full k =
          record {
            within = p.within;
            long = p.long;
            front = front-full 2400 front-now out end p.long p.within p.front k (get_or cs i 0) ∙ front-next;
          }

    pub picking-left : wanted live ms led (get_or cs i 0) ≡ false → Picking live ms led cs before at out end (i + 1)
    picking-left e =
        record {
          within = p.within;
          long = p.long;
          front =
              p.front
              ∙ ap (λ (l : List ℕ). take 2400 (take at before ++ l)) (sym (picked_none live ms led cs i h e));
        }

-- ---- the lists, one behind the other

module _ {A : Type 0} where
  take-take-append : (m : ℕ) (xs ys : List A) → take m (take m xs ++ ys) ≡ take m (xs ++ ys)
  take-take-append zero xs ys = refl
  take-take-append (suc m) [] ys = refl
  take-take-append (suc m) (x ∷ xs) ys = ap (λ (l : List A). x ∷ l) (take-take-append m xs ys)

-- a bound on each entry of a repeated number
pub replicate-le : (b v n : ℕ) → v ≤ b → (t : ℕ) → get_or (replicate n v) t 0 ≤ b
replicate-le b v zero h t = omega arith
replicate-le b v (suc n) h zero = h
replicate-le b v (suc n) h (suc t) = replicate-le b v n h t

-- .. and after a store
pub within-set : (b : ℕ) (xs : List ℕ) (i v : ℕ) → v ≤ b → ((t : ℕ) → get_or xs t 0 ≤ b) → (t : ℕ) → get_or (set xs i v) t 0 ≤ b
within-set b [] i v h f t = f t
within-set b (x ∷ xs) zero v h f zero = h
within-set b (x ∷ xs) zero v h f (suc t) = f (suc t)
within-set b (x ∷ xs) (suc i) v h f zero = f 0
within-set b (x ∷ xs) (suc i) v h f (suc t) = within-set b xs i v h (λ n. f (suc n)) t

-- a list put behind the first at places, which stay
module _ (list : List ℕ) (at : ℕ) (before : List ℕ) (end : ℕ) (after : List ℕ) (p : ListPut list at before end after)
    (h : at ≤ 2400) (g : length before ≡ 2400) where
  put-end : end ≡ min 2400 (at + length list)
  put-end =
      sym (length-take-le end after (omega (arith, p.within, p.long)))
      ∙ ap length p.front
      ∙ length-take 2400 (take at before ++ list)
      ∙ ap (min 2400)
      (length-append (take at before) list ∙ ap (λ (n : ℕ). n + length list) (length-take-le at before (omega arith)))

  put-kept : take at after ≡ take at before
  put-kept =
      let n = put-end in
      sym (take-take at end after (omega arith))
      ∙ ap (take at) p.front
      ∙ take-take at 2400 (take at before ++ list) h
      ∙ take_at (take at before) list at (length-take-le at before (omega arith))

module _ (inputs targets : ℕ) (live cs : List ℕ) where
  abbrev list : ℕ → List ℕ
  list = list_at inputs targets live cs

  abbrev up_to : ℕ → List ℕ
  up_to = lists_to inputs targets live cs

  up_to-suc : (s : ℕ) → length (up_to (suc s)) ≡ length (up_to s) + length (list (suc s))
  unfolding lists_to
  up_to-suc s = length-append (up_to s) (list (suc s))

  up_to-mono : (s t : ℕ) → t ≤ s → length (up_to t) ≤ length (up_to s)
  up_to-mono zero t h = let e : t ≡ 0 = omega arith in rw e (omega arith)
  up_to-mono (suc s) t h =
      ⊎_elim
      (λ (e : eqb t (suc s) ≡ true). let q : t ≡ suc s = eqb-true t (suc s) e in rw q (omega arith))
      (λ (e : eqb t (suc s) ≡ false).
      let q : t ≡ suc s → ⊥ = eqb-false t (suc s) e in
      omega (arith, up_to-mono s t (omega (arith, q)), up_to-suc s))
      (true-or-false (eqb t (suc s)))

  pub ends-length : (n : ℕ) (ends gates : List ℕ) → ListsUpTo n inputs targets live cs ends gates → (t : ℕ) → t < n
      → get_or ends t 0 ≡ min 2400 (length (up_to t))
  ends-length n ends gates u t h =
      sym (length-take-le (get_or ends t 0) gates (omega (arith, u.within t, u.long)))
      ∙ ap length (u.fronts t h)
      ∙ length-take 2400 (up_to t)

  -- the first list
  pub lists-none : (ms before : List ℕ) (end : ℕ) (after : List ℕ) → ms ≡ marks_from cs inputs targets
      → ListPut (picked live ms false cs) 0 before end after → ListsUpTo 1 inputs targets live cs (set (replicate 6 0) 0 end) after
  unfolding lists_to list_at
  lists-none ms before end after e p =
      record {
        long = p.long;
        six = refl;
        within = within-set 2400 (replicate 6 0) 0 end p.within (replicate-le 2400 0 6 (omega arith));
        fronts = λ t h. let z : t ≡ 0 = omega arith in rw z (rw e at p.front);
      }

  -- list 1, and those of the targets, from the marks that the code finds
  pub list-fan : (ms : List ℕ) → ms ≡ marks_from cs inputs targets → picked live ms true cs ≡ list 1
  unfolding list_at
  list-fan ms e = ap (λ (x : List ℕ). picked live x true cs) e

  pub list-led : (t : ℕ) (ms : List ℕ) → ms ≡ marks_from cs (inputs + t) 1 → picked live ms true cs ≡ list (t + 2)
  unfolding list_at
  list-led t ms e =
      let n : suc (suc t) ≡ t + 2 = omega arith in
      ap (λ (x : List ℕ). picked live x true cs) e ∙ ap list n

  -- one list more: k, behind list s
  module _ (s k : ℕ) (ends before : List ℕ) (end : ℕ) (after : List ℕ) (n : k ≡ s + 1) (h : k < 6)
      (u : ListsUpTo k inputs targets live cs ends before)
      (p : ListPut (list k) (get_or ends s 0) before end after) where
    earlier : (t : ℕ) → t < k → take (get_or (set ends k end) t 0) after ≡ take 2400 (up_to t)
    earlier t l =
        let at = get_or ends s 0 in
        let e = get_or ends t 0 in
        let a = ends-length k ends before u t l in
        let b = ends-length k ends before u s (omega arith) in
        let m : e ≤ at = omega (arith, up_to-mono s t (omega arith)) in
        ap (λ (x : ℕ). take x after) (get_or-set_other ends k t end 0 (λ q. omega arith))
        ∙ sym (take-take e at after m)
        ∙ ap (take e) (put-kept (list k) at before end after p (u.within s) u.long)
        ∙ take-take e at before m
        ∙ u.fronts t l

    last : take (get_or (set ends k end) k 0) after ≡ take 2400 (up_to k)
    unfolding lists_to
    last =
        let z : k ≡ suc s = omega arith in
        ap (λ (x : ℕ). take x after) (get_or-set_same ends k end 0 (omega (arith, u.six)))
        ∙ p.front
        ∙ ap (λ (xs : List ℕ). take 2400 (xs ++ list k)) (u.fronts s (omega arith))
        ∙ take-take-append 2400 (up_to s) (list k)
        ∙ ap (λ (x : ℕ). take 2400 (up_to s ++ list x)) z
        ∙ ap (λ (x : ℕ). take 2400 (up_to x)) (sym z)

    pub lists-next : ListsUpTo (k + 1) inputs targets live cs (set ends k end) after
    lists-next =
        record {
          long = p.long;
          six = length-set ends k end ∙ u.six;
          within = within-set 2400 ends k end p.within u.within;
          fronts =
              λ t l.
              ⊎_elim
              (λ (e : eqb t k ≡ true).
              let q : t ≡ k = eqb-true t k e in
              rw q last)
              (λ (e : eqb t k ≡ false).
              let q : t ≡ k → ⊥ = eqb-false t k e in
              earlier t (omega (arith, q)))
              (true-or-false (eqb t k));
        }
