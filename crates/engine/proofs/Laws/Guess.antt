-- Laws of the walk that gives the vector list (specs/Inner/Guess): sets and tables of listed vectors, that inputs which such tables
-- rectify leave the list, and the list block after block. Assumes nothing.
use Prim.Native.Nat.{ℕ, zero, suc, ◌+◌, ◌-◌, ◌*◌, ◌/◌, ◌%◌, ◌^◌, min, max, ◌≤◌, ◌<◌}
use mathlib.Core.Path.{◌≡◌, refl, sym, ◌∙◌, ap, subst}
use mathlib.Core.Logic.{◌⊎◌, inl, inr, ⊎_elim}
use mathlib.Core.List.{List, [], ◌∷◌, Memᴰ as Mem}
use mathlib.Core.Bool.{true}
use mathlib.Core.Option.{none}
use native.Mathlib.Nat.{div-one}
use native.Mathlib.Omega.{arith}
use borrow.Author.Tests.{eq-eqb, eqb-true}
use lib.Bits.{bit_and, bit_or}
use lib.Dec.{eqb}
use lib.ListN.{length, get_or, take, replicate}
use lib.Pow.{pow_pos, pow_mono}
use Rattle.records.specs.Job.{Job}
use Rattle.engine.specs.Choice.{any, or_zero}
use Rattle.engine.specs.Eval.{bit}
use Rattle.engine.specs.Rectify.{rectifies, Listed}
use Rattle.engine.specs.Support.{candidate_nets}
use Rattle.engine.specs.Inner.Guess.{ListTo, listed_pair, OfListed, BlockGuessed, BlockShown, BlockListed}
use Rattle.engine.specs.Inner.Kernel.{row_value, FirstZero}
use Rattle.engine.specs.Inner.List.{lowest, listed_from, listed_of, start_list}
use Rattle.engine.specs.Inner.Masks.{rectifiers}
use Rattle.engine.specs.Inner.Note.{gathered, ListNoted}
use Rattle.engine.specs.Inner.Plan.{BlockFree, PlannedOf, TurnsOf}
use Rattle.engine.specs.Inner.Search.{RowEqual, BlockRead, BlockVector, FreeKept, DrivenRow, BlockMasks, SettledFrom}
use Rattle.engine.specs.declared.list.Vectors.{Vectors}
use Rattle.engine.specs.declared.plan.Plan.{Plan}
use Rattle.engine.proofs.Laws.Choice.{or_left, or_right, any-true, any-of-member, none_or_some}
use Rattle.engine.proofs.Laws.Compare.{LookedUp, one-true}
use Rattle.engine.proofs.Laws.Eval.{bit-lt}
use Rattle.engine.proofs.Laws.Kernel.{row-replicate}
use Rattle.engine.proofs.Laws.Leaves.{get_or-zeros}
use Rattle.engine.proofs.Laws.List.{zero-listed, listed-cases, listed_from-still}
use Rattle.engine.proofs.Laws.Note.{any_next, either-one, row_value-lt}
use Rattle.engine.proofs.Laws.Plan.{reads_of, block-free}
use Rattle.engine.proofs.Laws.Rows.{bit-pow}
use Rattle.std.specs.Option.{is_some}
use Rattle.engine.proofs.Laws.Search.{list-noted, list-stuck, list-skip}
use Rattle.engine.proofs.Laws.Searching.{row-rectifies}
use Rattle.engine.proofs.Laws.VectorSets.{in_set, bit-rectifiers, lowest-lt, lowest-bit}
use Rattle.engine.proofs.Laws.Word.{bit-or, bit-and, bit-zero}

-- ---- a set of listed vectors

-- each vector of the set s is one of vs
abbrev pub SetOf : List ℕ → ℕ → Type 0
SetOf vs s = (v : ℕ) → v < 16 → bit v s ≡ 1 → any (eqb v) vs ≡ true

pub set-none : (vs : List ℕ) → SetOf vs 0
set-none vs v h e = let f : ⊥ = omega (arith, bit-zero v) in absurd f

pub set_next : (list : List ℕ) (i s : ℕ) → i < length list → get_or list i 0 < 16 → SetOf (take i list) s
    → SetOf (take (i + 1) list) (bit_or s (1 * 2 ^ get_or list i 0 % 18446744073709551616))
set_next list i s l h p v k e =
    let u = get_or list i 0 in
    let m : 2 ^ u ≤ 2 ^ 15 = pow_mono {j = 15} (omega arith) in
    let q : 1 * 2 ^ u % 18446744073709551616 ≡ 2 ^ u = omega arith in
    any_next (eqb v) list i l
    (⊎_elim
    (λ (a : bit v s ≡ 1). inl (p v k a))
    (λ (a : bit v (2 ^ u) ≡ 1). inr (eq-eqb v u ((bit-pow u v).0 a)))
    (either-one (bit v s) (bit v (2 ^ u)) (bit-lt v s) (bit-lt v (2 ^ u))
    (sym (bit-or v s (2 ^ u)) ∙ ap (λ (n : ℕ). bit v (bit_or s n)) (sym q) ∙ e)))

-- ---- a table of listed vectors

-- 0 is always listed
abbrev ZeroOrListed : Vectors → ℕ → Type 0
ZeroOrListed v u = (u ≡ 0) ⊎ (any (eqb u) (listed_of v).vectors ≡ true)

-- 0, or one of the sixteen vectors that is in the set s
abbrev ZeroOrIn : ℕ → ℕ → Type 0
ZeroOrIn s v = (v ≡ 0) ⊎ ((v < 16) × (bit v s ≡ 1))

-- the two vectors of an entry
halves : {a b : ℕ} → a < 16 → b < 16 → ((a + 16 * b) % 16 ≡ a) × ((a + 16 * b) / 16 % 16 ≡ b)
halves h k = (omega arith, omega arith)

module _ (s : ℕ) where
  -- the smallest vector that is in both sets, 0 where there is none
  abbrev lowest_of : ℕ → ℕ
  lowest_of x = or_zero (lowest (bit_and x s))

  lowest-both : (x : ℕ) → ZeroOrIn s (lowest_of x)
  unfolding or_zero
  lowest-both x =
      ⊎_elim
      (λ (e : lowest (bit_and x s) ≡ none). inl (ap or_zero e))
      (λ q.
      let v = q.0 in
      let l = lowest-bit (bit_and x s) v q.1 in
      rw (ap or_zero q.1) (inr (l.0, omega (arith, l.1, bit-and v x s, bit-lt v s))))
      (none_or_some (lowest (bit_and x s)))

  pair-in : (x : ℕ) → ZeroOrIn s (listed_pair s x % 16) × ZeroOrIn s (listed_pair s x / 16 % 16)
  unfolding listed_pair
  pair-in x =
      let y = x / 2 ^ 16 in
      let q = halves (lowest-lt (bit_and x s)) (lowest-lt (bit_and y s)) in
      (rw q.0 (lowest-both x), rw q.1 (lowest-both y))

pub table-listed : (s : ℕ) (v : Vectors) (f : ℕ → ℕ) {t : List ℕ} → SetOf (listed_of v).vectors s
    → ((r : ℕ) → r < 1024 → get_or t r 0 ≡ listed_pair s (f r)) → OfListed v t
table-listed s v f {t} p h =
    let listed : (u : ℕ) → ZeroOrIn s u → ZeroOrListed v u =
    λ u. ⊎_elim (λ (e : u ≡ 0). inl e) (λ (e : (u < 16) × (bit u s ≡ 1)). inr (p u e.0 e.1)) in
    record { first = λ r l. rw (h r l) (listed _ (pair-in s (f r)).0); second = λ r l. rw (h r l) (listed _ (pair-in s (f r)).1) }

-- vector 0 twice at every reading
pub zeros-listed : (v : Vectors) → OfListed v (replicate 1024 0)
zeros-listed v = record { first = λ r l. inl (rw (get_or-zeros 1024 r)); second = λ r l. inl (rw (get_or-zeros 1024 r)) }

-- ---- inputs that listed vectors rectify

-- a listed vector is one of the job's
listed_small : (j : Job) (x v : ℕ) → Mem v (listed_from (rectifiers j) start_list 0 x).vectors → v < 2 ^ j.targets
listed_small j x v m =
    ⊎_elim
    (λ (e : v ≡ 0). rw e (pow_pos j.targets))
    (λ r. ((bit-rectifiers j r.0 v).0 (lowest-bit (rectifiers j r.0) v r.1).1).0)
    (listed-cases (rectifiers j) x v m)

-- inputs each of which a listed vector rectifies leave the list
list-rectified : (j : Job) (v : Vectors) (x k : ℕ)
    → ((y : ℕ) → y < k → (u : ℕ) × ZeroOrListed v u × (rectifies j (x + y) u ≡ true)) → ListTo j x v → ListTo j (x + k) v
list-rectified j v x k r e =
    let vs = (listed_from (rectifiers j) start_list 0 x).vectors in
    let same : (listed_of v).vectors ≡ vs = ap (λ (l : Listed). l.vectors) e in
    let mem : (u : ℕ) → ZeroOrListed v u → Mem u vs =
    λ u o.
    ⊎_elim
    (λ (z : u ≡ 0). rw z (zero-listed (rectifiers j) x))
    (λ (a : any (eqb u) (listed_of v).vectors ≡ true).
    let q = any-true (eqb u) vs (rw same at a) in
    rw (eqb-true u q.0 q.2) q.1)
    o in
    e
    ∙ sym
    (listed_from-still (rectifiers j) x k
    (λ z a b.
    let y : ℕ = z - x in
    let d : x + y ≡ z = omega arith in
    let g = r y (omega arith) in
    let u = g.0 in
    let m = mem u g.1 in
    any-of-member (in_set (rectifiers j z)) vs u m
    (eq-eqb (bit u (rectifiers j z)) 1 ((bit-rectifiers j z u).1 (listed_small j x u m, subst (λ (n : ℕ). rectifies j n u ≡ true) d g.2)))))

-- a block whose inputs are rectified by one of the two vectors of a table's entries leaves the list
list-guessed : {p : Plan} {words : List ℕ} (readings : List ℕ) {table : List ℕ} (b count : ℕ) {j : Job} {is : List ℕ} {v : Vectors}
    → BlockGuessed p words readings table count → (q : PlannedOf j is p) → BlockFree j q.live b words
    → OfListed v table → ListTo j (1024 * b) v → ListTo j (1024 * b + count) v
list-guessed readings {table} b count {j} {is} {v} g q f o =
    list-rectified j v (1024 * b) count
    (λ y h.
    let r = gathered readings y % 1024 in
    let e = get_or table r 0 in
    ⊎_elim
    (λ (t : rectifies j (1024 * b + y) (e % 16) ≡ true). (e % 16, o.first r (omega arith), t))
    (λ (t : rectifies j (1024 * b + y) (e / 16 % 16) ≡ true). (e / 16 % 16, o.second r (omega arith), t))
    (g j is q b f y h))

-- ---- a block driven by a table

-- where the driven row says 1, the vector rectifies the input
one-rectifies : {p : Plan} {u : ℕ → ℕ} {words row after : List ℕ} → DrivenRow p u words row after
    → {j : Job} {is : List ℕ} (q : PlannedOf j is p) {b : ℕ} → BlockFree j q.live b words → (y : ℕ) → y < 1024 → row_value row y ≡ 1
    → {v : ℕ} → u y ≡ v → rectifies j (1024 * b + y) v ≡ true
one-rectifies d {j} {is} q {b} f y h e {v} l =
    one-true (rectifies j (1024 * b + y) v) (rw (← l) (sym (d.values j is q b f y h) ∙ e))

-- one of the two vectors in each entry
abbrev pub vectors_at : List ℕ → ℕ → ℕ → ℕ
vectors_at entries at y = gathered entries y / 2 ^ at % 16

module _ {p : Plan} (readings table entries : List ℕ) (l : LookedUp readings table entries)
    {words row after : List ℕ} (d : DrivenRow p (vectors_at entries 0) words row after) where
  first-rectifies : {j : Job} {is : List ℕ} (q : PlannedOf j is p) {b : ℕ} → BlockFree j q.live b words → (y : ℕ) → y < 1024
      → row_value row y ≡ 1 → rectifies j (1024 * b + y) (get_or table (gathered readings y % 1024) 0 % 16) ≡ true
  first-rectifies q f y h e = one-rectifies d q f y h e (ap (λ (k : ℕ). k % 16) (div-one (gathered entries y) ∙ l y h))

  -- the first vectors do
  pub guessed-first : {count r : ℕ} → FirstZero row r → count ≤ r → BlockGuessed p words readings table count
  guessed-first z h j is q b f y k =
      let m = z.most in
      inl (first-rectifies q f y (omega arith) (z.ones y (omega arith)))

  -- .. or the second do where they do not
  pub guessed-either : {row₂ after₂ both : List ℕ} {count r : ℕ} → DrivenRow p (vectors_at entries 4) after row₂ after₂
      → ((y : ℕ) → y < 1024 → row_value both y ≡ max (row_value row y) (row_value row₂ y)) → FirstZero both r → count ≤ r
      → BlockGuessed p words readings table count
  guessed-either {row₂ = row₂} d₂ e z h j is q b f y k =
      let m = z.most in
      let u : y < 1024 = omega arith in
      ⊎_elim
      (λ (a : row_value row y ≡ 1). inl (first-rectifies q f y u a))
      (λ (a : row_value row₂ y ≡ 1).
      inr (one-rectifies d₂ q (d.free j is q b f) y u a (ap (λ (k : ℕ). k / 16 % 16) (l y u))))
      (either-one (row_value row y) (row_value row₂ y) (row_value-lt row y) (row_value-lt row₂ y) (sym (e y u) ∙ z.ones y (omega arith)))

-- ---- a block at listed vectors, one after the other

-- a vector that is listed, by its place
pub any_at : (vs : List ℕ) (i : ℕ) → i < length vs → any (eqb (get_or vs i 0)) vs ≡ true
unfolding any
any_at [] i l = let f : ⊥ = omega arith in absurd f
any_at (x ∷ xs) zero l = or_left (eqb x x) (any (eqb x) xs) (eq-eqb x x refl)
any_at (x ∷ xs) (suc i) l =
    let u = get_or xs i 0 in
    or_right (eqb u x) (any (eqb u) xs) (any_at xs i (omega arith))

module _ (p : Plan) (before vs : List ℕ) where
  -- the row says 1 only of inputs that one of the vectors vs rectifies
  abbrev pub RowShown : List ℕ → Type 0
  RowShown row =
      (j : Job) (is : List ℕ) (q : PlannedOf j is p) (b : ℕ) → BlockFree j q.live b before
      → (y : ℕ) → y < 1024 → row_value row y ≡ 1
      → (u : ℕ) × (any (eqb u) vs ≡ true) × (rectifies j (1024 * b + y) u ≡ true)

  pub shown-none : RowShown (replicate 16 0)
  shown-none j is q b f y h e = let z : ⊥ = omega (arith, row-replicate 0 y h, bit-zero (y % 64)) in absurd z

  -- one vector more
  pub shown-next : (row r row' : List ℕ) {words words' : List ℕ} (v : ℕ) → any (eqb v) vs ≡ true → RowShown row → FreeKept p before words
      → BlockVector p v words words' → RowEqual p words' r
      → ((y : ℕ) → y < 1024 → row_value row' y ≡ max (row_value row y) (row_value r y)) → RowShown row'
  shown-next row r row' v m s k w e d j is q b f y h o =
      ⊎_elim
      (λ (t : row_value row y ≡ 1). s j is q b f y h t)
      (λ (t : row_value r y ≡ 1).
      (v, m, one-true (rectifies j (1024 * b + y) v) (sym (row-rectifies p q b (λ y. v) r (w.values j is q b (k j is q b f)) e y h) ∙ t)))
      (either-one (row_value row y) (row_value r y) (row_value-lt row y) (row_value-lt r y) (sym (d y h) ∙ o))

-- a block evaluated at a vector keeps what no target leads to
pub vector-free : {p : Plan} {before words words' : List ℕ} {v : ℕ} → FreeKept p before words → BlockVector p v words words'
    → FreeKept p before words'
vector-free k w j is q b f = block-free (w.values j is q b (k j is q b f))

-- ---- a block, and block after block

module _ {p : Plan} {b count : ℕ} {words readings : List ℕ} (r : BlockRead p b words readings)
    (e : count ≡ min (2 ^ p.inputs - 1024 * b) 1024) where
  -- a block on which the table does
  pub block-guessed : {table : List ℕ} {v : Vectors} → OfListed v table → BlockGuessed p words readings table count → BlockListed p b v v
  block-guessed o g =
      record {
        listed = λ j t l. let q = t.planned in rw (← e) (list-guessed readings b count g q (r.free j (candidate_nets j) (reads_of q)) o l);
      }

  -- a block on which the listed vectors themselves do
  pub block-shown : {v : Vectors} → BlockShown p words v count → BlockListed p b v v
  block-shown {v} s =
      record {
        listed = λ j t l.
            let is = candidate_nets j in
            let q = t.planned in
            rw (← e)
            (list-rectified j v (1024 * b) count
            (λ y u. let g = s j is q b (r.free j is (reads_of q)) y u in (g.0, inr g.1, g.2))
            l);
      }

  -- a block where all vectors were evaluated
  pub block_noted : {words₁ words₂ masks : List ℕ} {v w : Vectors} → FreeKept p words words₁ → BlockVector p 0 words₁ words₂
      → BlockMasks p words₂ masks → ListNoted masks (1024 * b) count v w
      → BlockListed p b v w
  block_noted k z m n =
      record {
        listed = λ j t.
            let is = candidate_nets j in
            let q = t.planned in
            rw (← e)
            (list-noted j b count (omega arith) (m.sets j is t b (z.values j is q b (k j is q b (r.free j is (reads_of q))))) n);
      }

-- the list after the inputs below x, of every job with this plan
abbrev pub ListsTo : Plan → Vectors → ℕ → Type 0
ListsTo p v x = (j : Job) → TurnsOf j (candidate_nets j) p → ListTo j x v

module _ {p : Plan} (v : Vectors) where
  pub lists-start : listed_of v ≡ start_list → ListsTo p v 0
  unfolding listed_from
  lists-start e j q = e

  -- blocks in which every vector rectifies every input leave the list
  pub lists-skip : {b r : ℕ} → SettledFrom p b r → ListsTo p v (1024 * b) → ListsTo p v (1024 * (b + r))
  lists-skip {b} {r} s l j q =
      list-skip j (1024 * b) (1024 * (b + r)) v (omega arith) (s.settled j (candidate_nets j) q.planned) (l j q)

  -- once stuck, it is the list of all inputs
  pub lists-stuck : {x : ℕ} → x ≤ 2 ^ p.inputs → is_some v.stuck ≡ true → ListsTo p v x → ListsTo p v (2 ^ p.inputs)
  lists-stuck {x} h s l j q = list-stuck j x (2 ^ p.inputs) v h s (l j q)

  pub lists-all : ListsTo p v (2 ^ p.inputs) → (j : Job) → TurnsOf j (candidate_nets j) p → ListTo j (2 ^ j.inputs) v
  lists-all l j q = rw q.planned.inputs at (l j q)
