-- Laws of the walk over a job's inputs, block by block: the list and the sets after a block, inputs that change nothing, and how far
-- the walk has come. Assumes nothing.
use Prim.Native.Nat.{ℕ, ◌+◌, ◌-◌, ◌*◌, ◌%◌, ◌^◌, min, ◌≤◌, ◌<◌}
use mathlib.Core.Path.{◌≡◌, sym, ◌∙◌, ap, subst}
use mathlib.Core.List.{List}
use mathlib.Core.Bool.{true, false}
use mathlib.Core.Option.{some}
use native.Mathlib.Omega.{arith}
use mathlib.Core.Logic.{inl, inr, ⊎_elim}
use native.Mathlib.Nat.{zero-add, mod-eq_of_lt}
use borrow.Author.Tests.{ltb-true, ltb-false}
use lib.Dec.{ltb}
use lib.ListN.{length, take, length-take}
use lib.Pow.{pow-add, pow_pos, pow_mono}
use Rattle.records.specs.Job.{Job}
use Rattle.records.proofs.Laws.Bytes.{tabulate-ext}
use Rattle.engine.specs.Eval.{bit, bits, old_values, old_outputs, golden_outputs}
use Rattle.engine.specs.Rectify.{rectifies, Listed}
use Rattle.engine.specs.Support.{reading, candidate_nets}
use Rattle.engine.specs.Inner.Guess.{ListTo}
use Rattle.engine.specs.Inner.Masks.{rectifiers}
use Rattle.engine.specs.Inner.List.{listed_from, start_list}
use Rattle.engine.specs.Inner.Note.{sets_from, gathered, filled, ListNoted}
use Rattle.engine.specs.Inner.Plan.{ReadsOf}
use Rattle.engine.specs.Inner.Search.{BlockRange, BlockRead, BlockVector, FreeKept, BlockKept, BlockMasks, BlockMet}
use Rattle.engine.proofs.Laws.Choice.{true-or-false}
use Rattle.engine.proofs.Laws.Miter.{candidates-good}
use Rattle.engine.proofs.Laws.Plan.{reads_of}
use Rattle.engine.proofs.Laws.ReadingSets.{sets_more, sets-stay}
use Rattle.engine.proofs.Laws.Shift.{bit-mod}
use Rattle.engine.proofs.Laws.Rows.{sets_from-agree, sets_from-repeats, block-sets, sets_from-length}
use Rattle.std.specs.Option.{is_some}
use Rattle.engine.proofs.Laws.Stream.{listed-stuck}
use Rattle.engine.proofs.Laws.List.{listed_from-append, stuck-stays, walk-skip-list}
use Rattle.engine.proofs.Laws.Support.{reading-lt}
use Rattle.engine.specs.declared.list.Vectors.{Vectors}
use Rattle.engine.specs.declared.plan.Plan.{Plan}

-- ---- the inputs of a block

-- the vectors and the reading of an input depend on its lowest bits alone, n for n inputs
module _ (j : Job) (n x : ℕ) (l : j.inputs ≤ n) where
  bits-low : bits j.inputs (x % 2 ^ n) ≡ bits j.inputs x
  unfolding bits
  bits-low = tabulate-ext j.inputs (λ i. bit i (x % 2 ^ n)) (λ i. bit i x) (λ i h. bit-mod n i x (omega arith))

  pub rectifies-low : (v : ℕ) → rectifies j x v ≡ rectifies j (x % 2 ^ n) v
  unfolding rectifies old_outputs golden_outputs old_values
  rectifies-low v = rw bits-low

  pub rectifiers-low : rectifiers j x ≡ rectifiers j (x % 2 ^ n)
  unfolding rectifiers rectifies old_outputs golden_outputs old_values
  rectifiers-low = rw bits-low

  pub reading-low : (is : List ℕ) → reading j is x ≡ reading j is (x % 2 ^ n)
  unfolding reading old_values
  reading-low is = rw bits-low

-- the sets after a block: a whole one, or one that repeats the inputs of a job with fewer
module _ (j : Job) (is : List ℕ) (f : ℕ → ℕ) (low : (x : ℕ) → f x ≡ f (x % 2 ^ j.inputs)) where
  pub noted-sets : (b count : ℕ) (masks readings ss : List ℕ) → BlockRange j.inputs b count
      → ((y : ℕ) → y < 1024 → gathered masks y ≡ f (1024 * b + y))
      → ((y : ℕ) → y < 1024 → gathered readings y ≡ reading j is (1024 * b + y))
      → ((x : ℕ) → reading j is x < 1024)
      → sets_from (gathered masks) (λ y. gathered readings y % 1024) ss 0 (filled count) ≡ sets_from f (reading j is) ss (1024 * b) count
  noted-sets b count masks readings ss r m g l =
      let h = reading j is in
      let n : ℕ = filled count in
      let most : n ≤ 1024 = omega (arith, r.few) in
      let whole : sets_from (gathered masks) (λ y. gathered readings y % 1024) ss 0 n ≡ sets_from f h ss (1024 * b) n =
      block-sets masks readings ss f h (1024 * b) n (λ y u. m y (omega arith)) (λ y u. (g y (omega arith), l (1024 * b + y))) in
      ⊎_elim
      (λ (e : count ≡ 1024). let same : n ≡ count = omega arith in whole ∙ ap (sets_from f h ss (1024 * b)) same)
      (λ (e : (b ≡ 0) × (count ≡ 2 ^ j.inputs)).
      let z : 1024 * b ≡ 0 = omega (arith, e.0) in
      let c = 2 ^ j.inputs in
      let few : c ≤ n = omega (arith, e.1) in
      whole
      ∙ ap (λ (x : ℕ). sets_from f h ss x n) z
      ∙ sets_from-agree f h (λ y. f (y % c)) (λ y. h (y % c)) ss 0 0 n (λ i u. (low (0 + i), reading-low j j.inputs (0 + i) (omega arith) is))
      ∙ sets_from-repeats f h ss c n (pow_pos j.inputs) few
      ∙ ap (λ (x : ℕ). sets_from f h ss x c) (sym z)
      ∙ ap (sets_from f h ss (1024 * b)) (sym e.1))
      r.whole

-- ---- the list

-- the inputs from x up to y
up_to : {x y : ℕ} → x ≤ y → x + (y - x) ≡ y
up_to h = omega arith

module _ (j : Job) where
  list_at_lem : (x y : ℕ) (v : Vectors) → x ≡ y → ListTo j x v → ListTo j y v
  list_at_lem x y v e p = subst (λ (z : ℕ). ListTo j z v) e p

  -- after a block
  pub list-noted : (b count : ℕ) {masks : List ℕ} {v w : Vectors} → count ≤ 1024
      → ((y : ℕ) → y < 1024 → gathered masks y ≡ rectifiers j (1024 * b + y)) → ListNoted masks (1024 * b) count v w
      → ListTo j (1024 * b) v → ListTo j (1024 * b + count) w
  list-noted b count {masks} {v} {w} few m n p =
      let f = rectifiers j in
      n.listed f (λ y h. m y (omega arith))
      ∙ ap (λ (k : Listed). listed_from f k (1024 * b) count) p
      ∙ sym
      (listed_from-append f start_list 0 (1024 * b) count
      ∙ ap (λ (z : ℕ). listed_from f (listed_from f start_list 0 (1024 * b)) z count) (zero-add (1024 * b)))

  module _ (x y : ℕ) (v : Vectors) (h : x ≤ y) where
    -- once stuck, it stays
    pub list-stuck : is_some v.stuck ≡ true → ListTo j x v → ListTo j y v
    list-stuck s p =
        let f = rectifiers j in
        let i = listed-stuck v s in
        let e : (listed_from f start_list 0 x).stuck ≡ some i.0 = ap (λ (l : Listed). l.stuck) (sym p) ∙ i.1 in
        list_at_lem (x + (y - x)) y v (up_to h) (p ∙ sym (stuck-stays f start_list x (y - x) i.0 e))

    -- inputs that every vector rectifies leave it
    pub list-skip : ((z u : ℕ) → x ≤ z → z < y → rectifies j z u ≡ true) → ListTo j x v → ListTo j y v
    list-skip r p =
        list_at_lem (x + (y - x)) y v (up_to h)
        (p ∙ sym (walk-skip-list j x (y - x) (λ z l b u c. r z u l (omega (arith, up_to h)))))

-- ---- the sets

-- nets that are the first n of others are at most n
pub first-few : (n : ℕ) (nets : List ℕ) {is : List ℕ} → take n nets ≡ is → length is ≤ n
first-few n nets e = omega (arith, ap length (sym e), length-take n nets)

-- readings of at most ten nets
pub reading_small : {j : Job} {is : List ℕ} {p : Plan} → p.reads.len ≤ 10 → ReadsOf j is p
    → (x : ℕ) → reading j is x < 1024
reading_small {j} {is} {p} h q x =
    let few : length is ≤ 10 = omega (arith, first-few p.reads.len p.reads.nets q.nets) in
    omega (arith, reading-lt j is x, pow_mono {j = 10} few)

-- ---- the sets after a block

pub met-long : (masks readings ss : List ℕ) (count : ℕ) {ts : List ℕ}
    → ts ≡ sets_from (gathered masks) (λ y. gathered readings y % 1024) ss 0 (filled count) → length ts ≡ length ss
met-long masks readings ss count e = ap length e ∙ sets_from-length (gathered masks) (λ y. gathered readings y % 1024) ss 0 (filled count)

module _ {p : Plan} (b count : ℕ) {words readings : List ℕ} (e : BlockRead p b words readings) where
  -- from the masks of its inputs
  pub block-met : {w₁ w₂ masks ss ts : List ℕ} → BlockRange p.inputs b count → FreeKept p words w₁ → BlockVector p 0 w₁ w₂
      → BlockMasks p w₂ masks → ts ≡ sets_from (gathered masks) (λ y. gathered readings y % 1024) ss 0 (filled count)
      → BlockMet p b count ss ts
  block-met {masks = masks} {ss = ss} r k z m n =
      record {
        sets = λ j s t.
            let is = candidate_nets j in
            let q = t.planned in
            sets_more j (omega (arith, p.targets_bound, q.targets)) (1024 * b) count
            (n
            ∙ noted-sets j is (rectifiers j) (λ x. rectifiers-low j j.inputs x (omega arith)) b count masks readings ss
            (subst (λ (i : ℕ). BlockRange i b count) q.inputs r)
            (m.sets j is t b (z.values j is q b (k j is q b (e.free j is (reads_of q)))))
            (e.readings j is (reads_of q) (candidates-good j q.good))
            (reading_small p.reads_bound (reads_of q)));
      }

  -- where it leaves them
  pub block-kept : {ss : List ℕ} → count ≤ 1024 → BlockKept p readings words ss → BlockMet p b count ss ss
  block-kept {ss} few k =
      record {
        sets = λ j s o.
            let is = candidate_nets j in
            let q = o.planned in
            sets-stay (omega arith) (λ i z. z)
            (λ z l u.
            let y : ℕ = z - 1024 * b in
            let i : 1024 * b + y ≡ z = omega arith in
            let g : gathered readings y % 1024 ≡ reading j is z =
            ap (λ (r : ℕ). r % 1024) (e.readings j is (reads_of q) (candidates-good j q.good) y (omega arith) ∙ ap (reading j is) i)
            ∙ mod-eq_of_lt (reading_small p.reads_bound (reads_of q) z) in
            let t = rw (g, i) at (k j is q b (e.free j is (reads_of q)) y (omega arith)) in
            (λ c. t.0, t.1));
      }

-- ---- how far the walk has come

-- the next inputs, at most 1,024, are a block
pub block-range : (n b : ℕ) → 1024 * b < 2 ^ n → BlockRange n b (min (2 ^ n - 1024 * b) 1024)
block-range n b h =
    record {
      few = omega arith;
      within = omega arith;
      whole =
          ⊎_elim
          (λ (t : ltb n 10 ≡ true).
          let m : 2 ^ n ≤ 1024 = pow_mono {j = 10} (omega (arith, ltb-true n 10 t)) in
          let z : b ≡ 0 = omega arith in
          inr (z, omega arith))
          (λ (t : ltb n 10 ≡ false).
          let i : n ≡ (n - 10) + 10 = omega (arith, ltb-false n 10 t) in
          let e : 2 ^ n ≡ 2 ^ (n - 10) * 1024 = ap (λ (k : ℕ). 2 ^ k) i ∙ pow-add 2 (n - 10) 10 in
          let c : ℕ = 2 ^ (n - 10) in
          inl (omega arith))
          (true-or-false (ltb n 10));
    }

-- the walk over the 2 ^ n inputs, size in number, stands before block b, and P holds of how many inputs it has passed
pub record WalkTo (P : ℕ → Type 0) (n size b : ℕ) : Type 0 where
  pub inputs : size ≡ 2 ^ n
  pub few : size ≤ 1048576
  pub reached : 1024 * b < size + 1024
  pub passed : P (min (1024 * b) size)

pub walk_start : (P : ℕ → Type 0) {n : ℕ} → n ≤ 20 → P 0 → WalkTo P n (1 * 2 ^ n % 18446744073709551616) 0
walk_start P {n} h p =
    let m : 2 ^ n ≤ 1048576 = pow_mono {j = 20} h in
    let z : 0 ≡ min (1024 * 0) (1 * 2 ^ n % 18446744073709551616) = omega arith in
    record { inputs = omega arith; few = omega arith; reached = omega (arith, pow_pos n); passed = subst P z p }

module _ {P : ℕ → Type 0} {n size b : ℕ} (w : WalkTo P n size b) where
  module _ (h : 1024 * b < size) where
    pub walk_here : P (1024 * b)
    walk_here = let e : min (1024 * b) size ≡ 1024 * b = omega arith in subst P e w.passed

    -- the next inputs, c in number, are a block
    module _ {c : ℕ} (e : c ≡ min (size - 1024 * b) 1024) where
      pub walk-range : BlockRange n b c
      walk-range = rw (e, w.inputs) (block-range n b (omega (arith, w.inputs)))

      pub walk_block : (Q : ℕ → Type 0) → Q (1024 * b + c) → WalkTo Q n size (b + 1)
      walk_block Q q =
          let d : 1024 * b + c ≡ min (1024 * (b + 1)) size = omega arith in
          record { inputs = w.inputs; few = w.few; reached = omega arith; passed = subst Q d q }

    -- some blocks are passed without a look
    pub walk-skip : (Q : ℕ → Type 0) (r : ℕ) → 1024 * (b + r) ≤ 2 ^ n → Q (1024 * (b + r)) → WalkTo Q n size (b + r)
    walk-skip Q r l q =
        let d : 1024 * (b + r) ≡ min (1024 * (b + r)) size = omega (arith, w.inputs) in
        record { inputs = w.inputs; few = w.few; reached = omega (arith, w.inputs); passed = subst Q d q }

  -- all inputs are passed at the end
  pub walk_end : size ≤ 1024 * b → P (2 ^ n)
  walk_end h = let e : min (1024 * b) size ≡ 2 ^ n = omega (arith, w.inputs) in subst P e w.passed
