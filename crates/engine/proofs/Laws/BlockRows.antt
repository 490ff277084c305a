-- Laws of the rows of a block: masks are the sets of vectors that rectify its inputs, and the rows of read nets their readings.
-- Assumes nothing.
use Prim.Native.Nat.{ℕ, zero, suc, ◌+◌, ◌-◌, ◌*◌, ◌%◌, ◌/◌, ◌^◌, ◌≤◌, ◌<◌}
use mathlib.Core.Path.{◌≡◌, refl, sym, ◌∙◌, ap}
use mathlib.Core.Logic.{◌⊎◌, inl, inr, ⊎_elim}
use mathlib.Core.List.{List, map, Memᴰ as Mem}
use mathlib.Core.Bool.{Bool, true, false, cond, ◌&&◌}
use native.Mathlib.Nat.{zero-add, suc-add, zero-div, eq-or-lt_of_le}
use native.Mathlib.Omega.{arith}
use borrow.Author.Tests.{ltb-true, ltb-false, lt-ltb, le-ltb}
use lib.Dec.{ltb}
use lib.ListN.{length, get_or, take, replicate, length-replicate}
use lib.Pow.{pow_mono}
use Rattle.records.specs.Bytes.{up_from, tabulate, all}
use Rattle.records.specs.Netlist.{net_at}
use Rattle.records.specs.Job.{Job}
use Rattle.records.specs.Claims.{PartsGood}
use Rattle.records.specs.Refusal.{old_nets, candidate_good}
use Rattle.records.proofs.Laws.Bytes.{tabulate-ext}
use Rattle.engine.specs.Choice.{same}
use Rattle.engine.specs.Eval.{bit, number_of, all_vectors}
use Rattle.engine.specs.Rectify.{rectifies}
use Rattle.engine.specs.Support.{reading}
use Rattle.engine.specs.Inner.Masks.{rectifiers, ordered, rank, Among, mask_at}
use Rattle.engine.specs.Inner.Kernel.{value_in, column, row_value, NetSet}
use Rattle.engine.specs.Inner.Miter.{miter_nets, miter_values}
use Rattle.engine.specs.Inner.Plan.{Agrees, BlockAt, BlockFree, ReadsOf, PlannedOf}
use Rattle.engine.specs.Inner.Note.{gathered}
use Rattle.engine.specs.declared.plan.Plan.{Plan}
use Rattle.engine.proofs.Laws.Choice.{true-or-false, all_true, all-of-members, all-below-more, map-agree}
use Rattle.engine.proofs.Laws.Gray.{rank-ordered, ordered-rank, rank-side}
use Rattle.engine.proofs.Laws.Kernel.{net_at-column}
use Rattle.engine.proofs.Laws.Miter.{miter-nets, old_nets-le, reading-miter}
use Rattle.engine.proofs.Laws.Plan.{fan_marks, free_of, zero-free, candidate-free}

-- ---- numbers of bits

zeros-number : (h : ℕ → ℕ) (a k : ℕ) → ((i : ℕ) → a ≤ i → h i ≡ 0) → number_of (map h (up_from a k)) ≡ 0
unfolding number_of up_from
zeros-number h a zero z = refl
zeros-number h a (suc k) z = omega (arith, z a (omega arith), zeros-number h (suc a) k (λ i l. z i (omega arith)))

short-from : (h : ℕ → ℕ) (a n k : ℕ) → ((i : ℕ) → a + n ≤ i → h i ≡ 0)
    → number_of (map h (up_from a (n + k))) ≡ number_of (map h (up_from a n))
unfolding number_of up_from
short-from h a zero k z = rw (zero-add k) (zeros-number h a k (λ i l. z i (omega arith)))
short-from h a (suc n) k z =
    rw (suc-add n k) (ap (λ (q : ℕ). h a + 2 * q) (short-from h (suc a) n k (λ i l. z i (omega arith))))

-- bits that are 0 from n on add nothing
pub number_of-short : (h : ℕ → ℕ) (n k : ℕ) → ((i : ℕ) → n ≤ i → h i ≡ 0) → number_of (tabulate (n + k) h) ≡ number_of (tabulate n h)
unfolding tabulate
number_of-short h n k z = short-from h 0 n k (λ i l. z i (omega arith))

-- ---- what a block's words say of live nets

-- values of live nets that agree with the miter's
pub agree-values : (j : Job) (live : ℕ → Bool) (x v : ℕ) (vs : List ℕ) → Agrees j live x v vs → (os : List ℕ)
    → all (λ i. ltb i (miter_nets j)) os ≡ true → all live os ≡ true → map (net_at vs) os ≡ map (net_at (miter_values j x v)) os
agree-values j live x v vs at os l e =
    map-agree (net_at vs) (net_at (miter_values j x v)) os
    (λ i m. at i (ltb-true i (miter_nets j) (all_true (λ i. ltb i (miter_nets j)) os l i m)) (all_true live os e i m))

module _ (j : Job) (good : PartsGood j) where
  -- nets of the miter have their values in the column
  column-values : (words : List ℕ) (y : ℕ) (os : List ℕ) → all (λ i. ltb i (miter_nets j)) os ≡ true
      → map (value_in words y) os ≡ map (net_at (column words y)) os
  column-values words y os l =
      map-agree (value_in words y) (net_at (column words y)) os
      (λ i m.
      let h = ltb-true i (miter_nets j) (all_true (λ i. ltb i (miter_nets j)) os l i m) in
      sym (net_at-column words y i (omega (arith, miter-nets j good))))

  module _ (is : List ℕ) (f : all (candidate_good j) is ≡ true) where
    free : (i : ℕ) → Mem i is → (i < old_nets j) × (net_at (fan_marks j) i ≡ 0)
    free i m = candidate-free j i (all_true (candidate_good j) is f i m)

    olds : all (λ i. ltb i (old_nets j)) is ≡ true
    olds = all-of-members (λ i. ltb i (old_nets j)) is (λ i m. lt-ltb i (old_nets j) (free i m).0)

    nets : all (λ i. ltb i (miter_nets j)) is ≡ true
    nets = all-below-more (old_nets j) (miter_nets j) (old_nets-le j good) is olds

    -- read nets that no target leads to are the reading
    pub agree-reading : (live : ℕ → Bool) (x : ℕ) (vs : List ℕ) → Agrees j (free_of j live) x 0 vs → all live is ≡ true
        → number_of (map (net_at vs) is) ≡ reading j is x
    agree-reading live x vs a l =
        ap number_of
        (agree-values j (free_of j live) x 0 vs a is nets
        (all-of-members (free_of j live) is (λ i m. zero-free j live i (all_true live is l i m) (free i m).1)))
        ∙ sym (reading-miter j is x olds)

module _ {j : Job} {is : List ℕ} {plan : Plan} where
  -- equal outputs say that the vector rectifies the input
  pub equal-rectifies : (p : PlannedOf j is plan) {b : ℕ} {v : ℕ → ℕ} {words : List ℕ} → BlockAt j p.live b v words
      → (y : ℕ) → y < 1024
      → same (map (value_in words y) (take plan.outs plan.outputs)) (map (value_in words y) (take plan.outs plan.goldens))
      ≡ rectifies j (1024 * b + y) (v y)
  equal-rectifies p {b} {v} {words} at y h =
      let good = p.good in
      let x = 1024 * b + y in
      let values : (os : List ℕ) → all (λ i. ltb i (miter_nets j)) os ≡ true → all p.live os ≡ true
      → map (value_in words y) os ≡ map (net_at (miter_values j x (v y))) os =
      λ os l e. column-values j good words y os l ∙ agree-values j p.live x (v y) (column words y) (at.agrees y h) os l e in
      let pairs = p.pairs in
      rw (
        values (take plan.outs plan.outputs) pairs.olds p.live-outputs,
        values (take plan.outs plan.goldens) pairs.goldens p.live-goldens,
      )
      (pairs.equal x (v y))

  -- read nets that no target leads to are the reading
  pub read-values : (p : ReadsOf j is plan) {b : ℕ} {words : List ℕ} → BlockFree j p.live b words
      → all (candidate_good j) is ≡ true → (y : ℕ) → y < 1024
      → number_of (map (value_in words y) is) ≡ reading j is (1024 * b + y)
  read-values p {b} {words} at f y h =
      ap number_of (column-values j p.good words y is (nets j p.good is f))
      ∙ agree-reading j p.good is f p.live (1024 * b + y) (column words y) (at.agrees y 0 h) p.live-nets

-- ---- the rows of the vectors taken so far

pub record MasksTo (j : Job) (b u s : ℕ) (masks : List ℕ) : Type 0 where
  pub long : length masks ≡ 256
  pub rows : (y k : ℕ) → y < 1024 → k < 16 → value_in masks y k ≡ mask_at j (1024 * b + y) u s k

zeros-at : (n i : ℕ) → get_or {A = ℕ} (replicate n 0) i 0 ≡ 0
zeros-at zero i = refl
zeros-at (suc n) zero = refl
zeros-at (suc n) (suc i) = zeros-at n i

eq-or-apart : (a c : ℕ) → (a ≡ c) ⊎ ((a < c) ⊎ (c < a))
eq-or-apart a c =
    ⊎_elim
    (λ (e : ltb a c ≡ true). inr (inl (ltb-true a c e)))
    (λ (e : ltb a c ≡ false).
    ⊎_elim (λ (q : c ≡ a). inl (sym q)) (λ (l : c < a). inr (inr l)) (eq-or-lt_of_le (ltb-false a c e)))
    (true-or-false (ltb a c))

ltb_next : (r s : ℕ) → (r ≡ s → ⊥) → ltb r s ≡ ltb r (s + 1)
ltb_next r s d =
    ⊎_elim
    (λ (e : ltb r s ≡ true). e ∙ sym (lt-ltb r (s + 1) (omega (arith, ltb-true r s e))))
    (λ (e : ltb r s ≡ false). e ∙ sym (le-ltb r (s + 1) (omega (arith, ltb-false r s e))))
    (true-or-false (ltb r s))

cond-alike : (c d t : Bool) → cond {A = ℕ} c 1 0 ≡ cond d 1 0 → cond {A = ℕ} (c && t) 1 0 ≡ cond (d && t) 1 0
cond-alike true true t e = refl
cond-alike true false t e = let f : ⊥ = omega arith in absurd f
cond-alike false true t e = let f : ⊥ = omega arith in absurd f
cond-alike false false t e = refl

-- tests that agree as numbers agree as conditions
side-cond : (a v k : ℕ) (t : Bool) → cond {A = ℕ} (ltb a k) 1 0 ≡ cond (ltb v k) 1 0
    → cond {A = ℕ} (ltb a k && t) 1 0 ≡ cond (ltb v k && t) 1 0
side-cond a v k t e = cond-alike (ltb a k) (ltb v k) t e

-- an entry of 256 zeros is 0
zeros-value : (y k : ℕ) → value_in (replicate 256 0) y k ≡ 0
unfolding value_in bit
zeros-value y k =
    ap (λ (x : ℕ). x / 2 ^ (y % 64) % 2) (zeros-at 256 (16 * k + y / 64)) ∙ ap (λ (x : ℕ). x % 2) (zero-div (2 ^ (y % 64)))

module _ (j : Job) (b u : ℕ) (w : u < 4) (s : ℕ) where
  -- one more row: that of the vector at step s
  pub masks-next : (r : List ℕ) {before after : List ℕ} → MasksTo j b u s before → s < 16 → NetSet (ordered u s) (row_value r) before after
      → ((y : ℕ) → y < 1024 → row_value r y ≡ cond (rectifies j (1024 * b + y) (ordered u s)) 1 0) → MasksTo j b u (s + 1) after
  unfolding mask_at
  masks-next r {before} {after} m h n e =
      record {
        long = n.long ∙ m.long;
        rows = λ y k l i.
            let x = 1024 * b + y in
            let t : Bool = rectifies j x k in
            ⊎_elim
            (λ (q : k ≡ ordered u s).
            let a : ltb (rank u k) (s + 1) ≡ true = lt-ltb (rank u k) (s + 1) (omega (arith, ap (rank u) q, rank-ordered u w s h)) in
            rw (a, q) (n.put y l ∙ e y l))
            (λ (o : (k < ordered u s) ⊎ (ordered u s < k)).
            let d : rank u k ≡ s → ⊥ =
            λ q. let f : k ≡ ordered u s = sym (ordered-rank u w k i) ∙ ap (ordered u) q in ⊎_elim (λ (z : k < ordered u s). let g : ⊥ = omega arith in g)
            (λ (z : ordered u s < k). let g : ⊥ = omega arith in g) o in
            n.kept y k l o ∙ m.rows y k l i ∙ ap (λ (c : Bool). cond (c && t) 1 0) (ltb_next (rank u k) s d))
            (eq-or-apart k (ordered u s));
      }

  -- no row yet
  pub masks-none : MasksTo j b u 0 (replicate 256 0)
  unfolding mask_at
  masks-none =
      record {
        long = length-replicate {A = ℕ} 256 0;
        rows = λ y k l i. rw (le-ltb (rank u k) 0 (omega arith)) (zeros-value y k);
      }

-- all rows of the job's vectors: the masks are the sets of vectors that rectify the block's inputs
pub masks-gathered : (j : Job) (b u : ℕ) (masks : List ℕ) → j.targets ≤ 4 → u < 4 → Among j.targets u
    → MasksTo j b u (2 ^ j.targets) masks → (y : ℕ) → y < 1024
    → gathered masks y ≡ rectifiers j (1024 * b + y)
unfolding gathered rectifiers all_vectors mask_at tabulate
masks-gathered j b u masks t l a m y h =
    let x = 1024 * b + y in
    let k = 2 ^ j.targets in
    let f : ℕ → ℕ = λ v. cond (ltb v k && rectifies j x v) 1 0 in
    let w : k ≤ 16 = pow_mono {j = 4} t in
    let s : k + (16 - k) ≡ 16 = omega arith in
    ap number_of
    (tabulate-ext 16 (value_in masks y) f
    (λ v i. m.rows y v h i ∙ side-cond (rank u v) v k (rectifies j x v) (rank-side u l j.targets (omega arith) a v i)))
    ∙ ap (λ (n : ℕ). number_of (tabulate n f)) (sym s)
    ∙ number_of-short f k (16 - k) (λ v l. rw (le-ltb v k l))
    ∙ ap number_of (tabulate-ext k f (λ v. cond (rectifies j x v) 1 0) (λ v i. rw (lt-ltb v k i)))
