-- Laws of the steps of the walk over a job's inputs (specs/Inner/Search). Assumes nothing.
use Prim.Native.Nat.{ℕ, ◌+◌, ◌-◌, ◌*◌, ◌/◌, ◌%◌, ◌^◌, ◌≤◌, ◌<◌}
use mathlib.Core.Path.{◌≡◌, refl, sym, ◌∙◌, ap, subst}
use mathlib.Core.Logic.{⊎_elim}
use mathlib.Core.List.{List}
use mathlib.Core.Bool.{Bool, true, cond}
use native.Mathlib.Nat.{zero-add}
use native.Mathlib.Omega.{arith}
use lib.ListN.{get_or, take, replicate}
use lib.Pow.{pow-add, pow_mono}
use lib.Seq.{slice}
use Rattle.records.specs.Job.{Job}
use Rattle.engine.specs.Eval.{bit}
use Rattle.engine.specs.Rectify.{rectifies}
use Rattle.engine.specs.Inner.Kernel.{Ran, NetSet, NetsSet, value_in, row_value}
use Rattle.engine.specs.Inner.Masks.{ordered, turns, Among}
use Rattle.engine.specs.Inner.Plan.{BlockAt, BlockFree, ReadsOf, PlannedOf, TurnsOf}
use Rattle.engine.specs.Inner.Cover.{reading_in}
use Rattle.engine.specs.Inner.Search.{BlockLoaded, BlockRead, BlockVector, RowEqual, RowsSay, DrivenRow, TargetTurned, BlockMasks, BlockRange, SettledFrom}
use Rattle.engine.specs.Inner.Note.{gathered}
use Rattle.engine.specs.Inner.Ranges.{InRange}
use Rattle.engine.specs.declared.plan.Plan.{Plan}
use Rattle.engine.proofs.Laws.BlockRows.{equal-rectifies, read-values, MasksTo, masks-none, masks-next, masks-gathered}
use Rattle.engine.proofs.Laws.Gray.{ordered-none, turns-among, ordered-kept}
use Rattle.engine.proofs.Laws.Plan.{block_read, block-driven, block-target, block-free}
use Rattle.engine.proofs.Laws.Shift.{bit_shifted}

-- ---- the words of a block

nets-alike : {at n : ℕ} {f g : ℕ → ℕ → ℕ} {before after : List ℕ} → NetsSet at n f before after
    → ((y k : ℕ) → y < 1024 → k < n → f y k ≡ g y k) → NetsSet at n g before after
nets-alike s e = record { long = s.long; put = λ y k h l. s.put y k h l ∙ e y k h l; kept = s.kept }

module _ (p : Plan) where
  -- a row that says where the outputs of both circuits have the same values says where the vectors rectify the inputs
  pub row-rectifies : {j : Job} {is : List ℕ} (q : PlannedOf j is p) (b : ℕ) (u : ℕ → ℕ) {w : List ℕ} (r : List ℕ)
      → BlockAt j q.live b u w → RowEqual p w r
      → (y : ℕ) → y < 1024 → row_value r y ≡ cond (rectifies j (1024 * b + y) (u y)) 1 0
  row-rectifies q b u r a e y h = e y h ∙ ap (λ (t : Bool). cond t 1 0) (equal-rectifies q a y h)

  -- inputs loaded, and the gates run that no target leads to
  pub block-loaded : (b : ℕ) {w₀ w₁ w₂ : List ℕ} → NetsSet 0 p.inputs (λ y k. bit k (1024 * b + y)) w₀ w₁
      → Ran (slice 0 (get_or p.ends 0 0) p.gates) w₁ w₂ → BlockLoaded p b w₂
  block-loaded b {w₀} {w₁} {w₂} s r =
      let read : (j : Job) (is : List ℕ) (q : ReadsOf j is p) → BlockFree j q.live b w₂ =
      λ j is q. block_read q b w₁ w₂ (λ y k h e. rw zero-add at (s.put y k h (omega (arith, q.inputs)))) r in
      record {
        free = read;
        readings = λ j is q f y h. ap (λ (os : List ℕ). reading_in w₂ os y) q.nets ∙ read-values q (read j is q) f y h;
      }

  -- .. and the nets read
  pub block-rows : {b : ℕ} {words rows : List ℕ} → BlockLoaded p b words
      → ((y : ℕ) → y < 1024 → gathered rows y ≡ reading_in words (take p.reads.len p.reads.nets) y) → BlockRead p b words rows
  block-rows l g =
      record {
        free = l.free;
        readings = λ j is q f y h. g y h ∙ l.readings j is q f y h;
      }

  -- all targets set, and the gates run that one leads to
  module _ {w w₁ w₂ : List ℕ} {f : ℕ → ℕ → ℕ} (s : NetsSet p.inputs p.targets f w w₁)
      (r : Ran (slice (get_or p.ends 0 0) (get_or p.ends 1 0) p.gates) w₁ w₂) (u : ℕ → ℕ)
      (e : (y k : ℕ) → y < 1024 → k < p.targets → f y k ≡ bit k (u y)) where
    block-set : {j : Job} {is : List ℕ} (q : PlannedOf j is p) (b : ℕ) → BlockFree j q.live b w → BlockAt j q.live b u w₂
    block-set q b a =
        block-driven q b u w w₁ w₂ a (rw (q.inputs, q.targets) at (nets-alike {g = λ y k. bit k (u y)} s e)) r

  -- .. to one vector
  pub block-vectored : {w w₁ w₂ : List ℕ} (v : ℕ) → NetsSet p.inputs p.targets (λ y k. bit k v) w w₁
      → Ran (slice (get_or p.ends 0 0) (get_or p.ends 1 0) p.gates) w₁ w₂ → BlockVector p v w w₂
  block-vectored v s r =
      record {
        values = λ j is q b a. block-set s r (λ y. v) (λ y k h l. refl) q b a;
      }

  -- .. to the vectors of the rows
  pub row-driven : {w w₁ w₂ : List ℕ} (rows : List ℕ) (first : ℕ) (row : List ℕ)
      → NetsSet p.inputs p.targets (λ y k. value_in rows y (first + k)) w w₁
      → Ran (slice (get_or p.ends 0 0) (get_or p.ends 1 0) p.gates) w₁ w₂ → RowEqual p w₂ row
      → (u : ℕ → ℕ) → RowsSay rows first p.targets u → DrivenRow p u w row w₂
  row-driven {w} {w₁} {w₂} rows first row s r e u n =
      let at : (j : Job) (is : List ℕ) (q : PlannedOf j is p) (b : ℕ) → BlockFree j q.live b w → BlockAt j q.live b u w₂ =
      λ j is q b a. block-set s r u n q b a in
      record {
        free = λ j is q b a. block-free (at j is q b a);
        values = λ j is q b a. row-rectifies q b u row (at j is q b a) e;
      }

  -- one target set, and the gates that it leads to run
  pub target-turned : (t x : ℕ) {w w₁ w₂ : List ℕ} → NetSet (p.inputs + t) (λ y. bit 0 x) w w₁
      → Ran (slice (get_or p.ends (t + 1) 0) (get_or p.ends (t + 2) 0) p.gates) w₁ w₂ → TargetTurned p t x w w₂
  target-turned t x {w} {w₁} {w₂} s r =
      record {
        turned = λ j is q b v u h e k a.
            let n : NetSet (j.inputs + t) (λ y. bit t u) w w₁ =
            subst (λ (i : ℕ). NetSet (i + t) (λ y. bit t u) w w₁) q.planned.inputs
            (record { long = s.long; put = λ y l. s.put y l ∙ sym e; kept = s.kept }) in
            block-target q.planned b t (λ y. u) (λ y. v) w w₁ w₂ h (q.lists t h) a n (λ y i l. k i) r;
      }

-- ---- the rows of the vectors, one after the other

-- from the words w₀ at vector 0: the words w at the vector of the step before s, and the rows ms of the steps below s
abbrev pub MasksDone : Plan → ℕ → List ℕ → ℕ → List ℕ → List ℕ → Type 0
MasksDone p u w₀ s w ms =
    (j : Job) (is : List ℕ) (q : TurnsOf j is p) (b : ℕ) → BlockAt j q.planned.live b (λ y. 0) w₀
    → BlockAt j q.planned.live b (λ y. ordered u (s - 1)) w × MasksTo j b u s ms

module _ (p : Plan) (u : ℕ) (o : u < 4) where
  pub masks-first : (w r : List ℕ) {ms : List ℕ} → RowEqual p w r → NetSet 0 (row_value r) (replicate 256 0) ms
      → MasksDone p u w 1 w ms
  masks-first w r {ms} e n j is q b a =
      let z : 0 ≡ ordered u 0 = sym (ordered-none u o) in
      let live = q.planned.live in
      let d : BlockAt j live b (λ y. ordered u 0) w = subst (λ (v : ℕ). BlockAt j live b (λ y. v) w) z a in
      (d, masks-next j b u o 0 r (masks-none j b u o 0) (omega arith) (subst (λ (v : ℕ). NetSet v (row_value r) (replicate 256 0) ms) z n) (row-rectifies p q.planned b (λ y. ordered u 0) r d e))

  pub masks-turned : (s : ℕ) {w₀ w w' ms ms' : List ℕ} (r : List ℕ) → p.targets ≤ 4 → Among p.targets u → 0 < s → s < 2 ^ p.targets
      → MasksDone p u w₀ s w ms → TargetTurned p (turns u s) (ordered u s / 2 ^ turns u s) w w' → RowEqual p w' r
      → NetSet (ordered u s) (row_value r) ms ms' → MasksDone p u w₀ (s + 1) w' ms'
  masks-turned s {w₀} {w} {w'} {ms} {ms'} r m f z l d t e n j is q b a =
      let few : 2 ^ p.targets ≤ 16 = pow_mono {j = 4} m in
      let k : s < 16 = omega arith in
      let g = d j is q b a in
      let back : s - 1 + 1 ≡ s = omega arith in
      let here : s + 1 - 1 ≡ s = omega arith in
      let turned : BlockAt j q.planned.live b (λ y. ordered u s) w' =
      t.turned j is q b (ordered u (s - 1)) (ordered u s)
      (omega (arith, turns-among u o p.targets (omega arith) f s z l k, q.planned.targets))
      (bit_shifted (turns u s) (ordered u s))
      (λ i h c.
      subst (λ (x : ℕ). bit i (ordered u x) ≡ bit i (ordered u (s - 1))) back
      (ordered-kept u o (s - 1) i (omega arith) (omega (arith, q.planned.targets))
      (λ y.
      let y' : i ≡ turns u s = y ∙ ap (turns u) back in
      ⊎_elim (λ (v : i < turns u s). let x : ⊥ = omega arith in x) (λ (v : turns u s < i). let x : ⊥ = omega arith in x) c)))
      g.0 in (
        subst (λ (x : ℕ). BlockAt j q.planned.live b (λ y. ordered u x) w') (sym here) turned,
        masks-next j b u o s r g.1 k n (row-rectifies p q.planned b (λ y. ordered u s) r turned e),
      )

  pub masks-all : {w₀ w ms : List ℕ} → p.targets ≤ 4 → Among p.targets u
      → MasksDone p u w₀ (2 ^ p.targets) w ms → BlockMasks p w₀ ms
  masks-all {w₀} {w} {ms} m f d =
      record {
        sets = λ j is q b a y h.
            let n = q.planned.targets in
            masks-gathered j b u ms (omega (arith, n)) o (subst (λ (k : ℕ). Among k u) n f)
            (subst (λ (k : ℕ). MasksTo j b u (2 ^ k) ms) n (d j is q b a).1)
            y
            h;
      }

-- ---- numbers

-- a block's number is small
pub block-small : {n b count : ℕ} → BlockRange n b count → n ≤ 20 → b < 65536
block-small {n} {b} {count} r h = omega (arith, r.within, pow_mono {j = 20} h)

-- four targets have sixteen vectors at most
pub vectors-many : {m : ℕ} → m ≤ 4 → 2 ^ m ≤ 16
vectors-many h = pow_mono {j = 4} h

-- ---- blocks that need no look

-- the 32 blocks from b on are the numbers that begin with b / 32
blocks-range : (b x : ℕ) → b % 32 ≡ 0 → 1024 * b ≤ x → x < 1024 * (b + 32) → InRange 15 (b / 32) x
blocks-range b x e l h = record { least = omega arith; most = omega arith }

-- .. and among the inputs
blocks-within : (n b : ℕ) → 15 ≤ n → b % 32 ≡ 0 → 1024 * b < 2 ^ n → 1024 * (b + 32) ≤ 2 ^ n
blocks-within n b l e h =
    let i : n ≡ (n - 15) + 15 = omega arith in
    let d : 2 ^ n ≡ 2 ^ (n - 15) * 32768 = ap (λ (k : ℕ). 2 ^ k) i ∙ pow-add 2 (n - 15) 15 in
    let c : ℕ = 2 ^ (n - 15) in
    omega arith

module _ {p : Plan} {b : ℕ} (h : 1024 * b < 2 ^ p.inputs) where
  pub settled-none : SettledFrom p b 0
  settled-none =
      record {
        within = omega arith;
        few = omega arith;
        range = λ l. let f : ⊥ = omega arith in absurd f;
        settled = λ j is q x v l u. let f : ⊥ = omega arith in absurd f;
      }

  pub settled-blocks : 15 ≤ p.inputs → b % 32 ≡ 0
      → ((j : Job) (is : List ℕ) → PlannedOf j is p → (x v : ℕ) → InRange 15 (b / 32) x → rectifies j x v ≡ true)
      → SettledFrom p b 32
  settled-blocks l e r =
      record {
        within = blocks-within p.inputs b l e h;
        few = omega arith;
        range = λ z. (refl, e);
        settled = λ j is q x v a u. r j is q x v (blocks-range b x e a u);
      }
