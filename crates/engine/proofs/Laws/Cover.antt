-- Laws of covers by cubes (specs/Inner/Cover). Assumes nothing.
use Prim.Native.Nat.{ℕ, ◌+◌, ◌-◌, ◌*◌, ◌/◌, ◌%◌, ◌^◌, min, ◌≤◌, ◌<◌}
use mathlib.Core.Path.{◌≡◌, refl, sym, ◌∙◌, ap, subst}
use mathlib.Core.Logic.{◌⊎◌, inl, inr, ⊎_elim}
use mathlib.Core.List.{List, map}
use mathlib.Core.Bool.{Bool, true, false, cond}
use native.Mathlib.Omega.{arith}
use borrow.Author.Tests.{eq-eqb, eqb-false, ltb-true, ltb-false}
use lib.Bits.{bit_and, bit_xor}
use lib.Dec.{eqb, ltb}
use lib.ListN.{length, get_or, take, set, replicate}
use lib.Seq.{get_or-set_same, get_or-set_other, get_or-take, length-take-le}
use Rattle.std.specs.Prelude.{Option, Some, None, MatchOption, unwrap_or}
use Rattle.std.proofs.lemmas.List.{get_or_read}
use Rattle.engine.specs.Eval.{bit, number_of}
use Rattle.engine.specs.Inner.Cover.{NextUnseen, InCube, no_cube, InCover, CubeAdded, CoverTo, reading_in}
use Rattle.engine.specs.Inner.Kernel.{Filled, row_value, value_in}
use Rattle.engine.specs.declared.cube.Cover.{Cover}
use Rattle.engine.specs.declared.cube.Cube.{Cube}
use Rattle.engine.proofs.Laws.Choice.{true-or-false}
use Rattle.engine.proofs.Laws.Eval.{bit-lt, bits-map}
use Rattle.engine.proofs.Laws.Fill.{fill-at}
use Rattle.engine.proofs.Laws.Kernel.{bit-sum}
use Rattle.engine.proofs.Laws.Leaves.{bit_kept}
use Rattle.engine.proofs.Laws.List.{eq-or-below}
use Rattle.engine.proofs.Laws.Reordered.{mapped_at}
use Rattle.engine.proofs.Laws.Rows.{value_in-lt}
use Rattle.engine.proofs.Laws.Shift.{bit_shifted}
use Rattle.engine.proofs.Laws.VectorSets.{bit-number_of}
use Rattle.engine.proofs.Laws.Word.{bit-zero, bit-and}

-- ---- the next unseen reading

pub next-of : (ss : List ℕ) (at n : ℕ) (o : Option ℕ) → at ≤ n → let Seen = λ (k : ℕ). eqb (bit 16 (get_or ss k 0)) 1 ≡ false in
    MatchOption o ((k : ℕ) → at ≤ k → k < n → Seen k) (λ i. (at ≤ i) × (i < n) × Unit {0} × ((k : ℕ) → at ≤ k → k < i → Seen k))
    → NextUnseen ss at n o
next-of ss at n None h m =
    record { past = h; most = omega arith; seen = λ q l k. omega (arith, eqb-false _ 1 (m q l k), bit-lt 16 (get_or ss q 0)) }
next-of ss at n (Some i) h m =
    record { past = m.0; most = omega (arith, m.1); seen = λ q l k. omega (arith, eqb-false _ 1 (m.3 q l k), bit-lt 16 (get_or ss q 0)) }

-- ---- cubes

pub in-cube : (u : Cube) (q : ℕ) → bit_and (bit_xor q u.value) u.care ≡ 0 → InCube u q
in-cube u q e k h =
    let z : min (bit k (bit_xor q u.value)) (bit k u.care) ≡ 0 = sym (bit-and k (bit_xor q u.value) u.care) ∙ ap (bit k) e ∙ bit-zero k in
    omega (arith, bit-sum k q u.value, bit-lt k q, bit-lt k u.value)

-- a cube that asks for nothing has every reading
pub in-open : (u : Cube) → u.care ≡ 0 → (q : ℕ) → InCube u q
in-open u e q k h = let f : ⊥ = omega (arith, bit-zero k, ap (bit k) e) in absurd f

pub in_all : (q : ℕ) → InCube no_cube q
in_all q = in-open no_cube refl q

-- the item of a list of cubes that a walk has come to
pub cube-item : (us : List Cube) (i : ℕ) {u : Cube} → i < length us → u ≡ get_or us i u → (q : ℕ) → InCube (get_or us i no_cube) q
    → InCube u q
cube-item us i {u} h e q m = subst (λ (x : Cube). InCube x q) (sym (get_or_read us i u h e no_cube)) m

-- ---- where a block's readings are in a cube

-- 16 words, with 0 where a net has another value than the lowest bit of x
pub row-valued : (i x v : ℕ) (words r r' : List ℕ) → ((j : ℕ) → j < 64 → bit j v ≡ bit 0 x)
    → Filled (λ w. bit_and (get_or r w 0) (bit_xor (bit_xor (get_or words (16 * i + w) 0) v) (2 ^ 64 - 1))) 0 16 r r'
    → (y : ℕ) → y < 1024 → row_value r' y ≡ cond (eqb (value_in words y i) (bit 0 x)) (row_value r y) 0
unfolding row_value value_in
row-valued i x v words r r' e l y h =
    ap (bit (y % 64)) (fill-at l (y / 64) (omega arith))
    ∙ bit_kept (y % 64) (get_or r (y / 64) 0) (get_or words (16 * i + y / 64) 0) v (omega arith)
    ∙ ap (λ (b : ℕ). cond (eqb (bit (y % 64) (get_or words (16 * i + y / 64) 0)) b) (bit (y % 64) (get_or r (y / 64) 0)) 0)
    (e (y % 64) (omega arith))

-- a bit of the number of nets' values is its net's value
pub number_bit : (f : ℕ → ℕ) → ((i : ℕ) → f i < 2) → (nets : List ℕ) (reads k : ℕ) → reads ≤ length nets → k < reads
    → bit k (number_of (map f (take reads nets))) ≡ f (get_or nets k 0)
number_bit f b nets reads k h l =
    bit-number_of (bits-map f b (take reads nets)) k
    ∙ mapped_at f (take reads nets) k (omega (arith, length-take-le reads nets h))
    ∙ ap f (get_or-take reads nets k 0 l)

-- one net more of those that the cube asks for
pub cube-next : (words nets : List ℕ) (reads : ℕ) (u : Cube) (y k : ℕ) {v : ℕ} → reads ≤ length nets → k < reads → bit k u.care ≡ 1
    → InCube u (reading_in words (take reads nets) y) → v ≡ 1
    → cond (eqb (value_in words y (get_or nets k 0)) (bit 0 (u.value / 2 ^ k))) v 0 ≡ 1
cube-next words nets reads u y k {v} h l c m o =
    let a = value_in words y (get_or nets k 0) in
    let b = bit 0 (u.value / 2 ^ k) in
    let s : a ≡ b = sym (number_bit (value_in words y) (value_in-lt words y) nets reads k h l) ∙ m k c ∙ bit_shifted k u.value in
    ap (λ (t : Bool). cond t v 0) (eq-eqb a b s) ∙ o

-- ---- covers

pub cube-added : {c d : Cover} (u : Cube) → length c.cubes ≡ 64 → c.count < 64 → d.count ≡ c.count + 1 → d.cubes ≡ set c.cubes c.count u
    → CubeAdded c u d
cube-added {c} {d} u long l e s =
    let n = c.count in
    let is : get_or d.cubes n no_cube ≡ u = rw s (get_or-set_same c.cubes n u no_cube (omega arith)) in
    record {
      count = e;
      added = λ q m. record { place = n; within = omega arith; cube = rw is m };
      kept = λ r m.
          let p = m.place in
          let o : p ≡ n → ⊥ = λ f. omega (arith, m.within) in
          record {
            place = p;
            within = omega (arith, m.within);
            cube = rw (s, get_or-set_other c.cubes n p u no_cube o) m.cube;
          };
      only = λ q m.
          let p = m.place in
          ⊎_elim
          (λ (f : p ≡ n). inr (rw (f, is) at m.cube))
          (λ (k : p < n).
          let o : p ≡ n → ⊥ = λ f. omega arith in
          inl record { place = p; within = k; cube = rw (s, get_or-set_other c.cubes n p u no_cube o) at m.cube })
          (eq-or-below p n (omega (arith, m.within)));
    }

-- the value and care at each place of a cover, also behind its cubes, are below 1,024
pub places-below : (c : Cover) (i : ℕ) → let u = get_or c.cubes i no_cube in (u.value < 1024) × (u.care < 1024)
places-below c i = let u = get_or c.cubes i no_cube in (u.value_below, u.care_below)

-- of the readings before the first unseen one none is to be covered
pub cover-none : (ss : List ℕ) {n : ℕ} {o : Option ℕ} {e c : Cover} → NextUnseen ss 0 n o → CoverTo ss (unwrap_or o n) e c
cover-none ss u q l o = let f : ⊥ = omega (arith, u.seen q (omega arith) l) in absurd f

module _ (ss : List ℕ) {r : ℕ} {e c : Cover} where
  -- .. and the next, and those from there on to the next unseen one
  pub cover-next : {n : ℕ} {o : Option ℕ} → CoverTo ss r e c → InCover e r ⊎ InCover c r → NextUnseen ss (r + 1) n o
      → CoverTo ss (unwrap_or o n) e c
  cover-next a m u q l t₀ =
      ⊎_elim
      (λ (t : ltb q (r + 1) ≡ true).
      ⊎_elim (λ (i : q ≡ r). rw i m) (λ (b : q < r). a q b t₀) (eq-or-below q r (ltb-true q (r + 1) t)))
      (λ (t : ltb q (r + 1) ≡ false). let f : ⊥ = omega (arith, u.seen q (ltb-false q (r + 1) t) l) in absurd f)
      (true-or-false (ltb q (r + 1)))

  pub cover-more : {u : Cube} {d : Cover} → CoverTo ss r e c → CubeAdded c u d → CoverTo ss r e d
  cover-more a m q l o = ⊎_elim inl (λ i. inr (m.kept q i)) (a q l o)

-- a reading of a cover is in one of its cubes
pub cubes-at : {c : Cover} {us : List Cube} {n q : ℕ} → us ≡ take c.count c.cubes → length c.cubes ≡ 64 → length us ≤ n → InCover c q
    → (k : ℕ) × (k < n) × InCube (get_or us k no_cube) q
cubes-at {c} e l h m =
    let k = m.place in
    let t : length (take c.count c.cubes) ≡ c.count = length-take-le c.count c.cubes (omega (arith, c.few)) in
    (k, omega (arith, m.within, ap length e), rw (e, get_or-take c.count c.cubes k no_cube m.within) m.cube)

-- a cube that asks for nothing
pub cover_all : {c : Cover} (u : Cube) → u.care ≡ 0 → c.count ≡ 1 → c.cubes ≡ replicate 64 u → (q : ℕ) → InCover c q
cover_all u o e s q = record { place = 0; within = omega arith; cube = rw s (in-open u o q) }
