-- `engine::tree::word_size` meets its contract: it calls itself on each half, and the number of nets falls. Assumes nothing.
use Prim.Native.Nat.{ℕ, suc, ◌-◌, ◌/◌, ◌%◌, ◌^◌, ◌<◌}
use mathlib.Core.Logic.{inl, inr}
use mathlib.Core.Path.{◌≡◌, sym, ◌∙◌, ap}
use native.Mathlib.Omega.{arith}
use Rattle.engine.specs.Eval.{bits}
use Rattle.engine.specs.Tree.{join_of, builds_low, builds_high, tree_size}
use Rattle.engine.proofs.Laws.Tree.{built_size, half-came, half-small}
use Rattle.engine.proofs.Laws.TreeWord.{Halves, halves-word, low-lt, high_lt, word-least, word-equal, split-size}
use Rattle.engine.proofs.Laws.Join.{join_size-bounds}
use Rattle.engine.proofs.tree.+word_size.Goals as goal
use Rattle.engine.proofs.tree.+word_size.Goals.{After-reading_count-half, Joined-builds_low, Joined-builds_high, then-builds_low, else-builds_low, then-builds_high, else-builds_high}

-- the halves of the word, which has two
halves : (t : ℕ) (c : After-reading_count-half t) → Halves (c.args.k - 1) c.args.w c.reading_count-half.result
halves t c = halves-word (c.args.k - 1) c.args.w c.reading_count-half.result (omega arith) c.reading_count-half.ensures

-- the low half asks for the tree over one net fewer
low-asked : (t : ℕ) (c : After-reading_count-half t) → let k = c.args.k - 1 in c.args.w % 2 ^ 2 ^ k < 2 ^ 2 ^ k
low-asked t c = let e : suc (c.args.k - 1) ≡ c.args.k = omega arith in low-lt (c.args.k - 1) c.args.w (rw e c.requires.1)

-- .. and so does the high half
high-asked : (t : ℕ) (c : After-reading_count-half t) → let k = c.args.k - 1 in c.args.w / 2 ^ 2 ^ k < 2 ^ 2 ^ k
high-asked t c = let e : suc (c.args.k - 1) ≡ c.args.k = omega arith in high_lt (c.args.k - 1) c.args.w (rw e c.requires.1)

pub returns-then-k-lt2 : goal.returns-then-k-lt2
returns-then-k-lt2 t c = sym (word-least c.args.k c.args.w c.if-k-lt2.true c.requires.1)

pub overflow_shl-ones : goal.overflow_shl-ones
overflow_shl-ones t c = (halves t c).shift

pub overflow_sub-ones : goal.overflow_sub-ones
overflow_sub-ones t c = (halves t c).mask

pub overflow_shr-high : goal.overflow_shr-high
overflow_shr-high t c = (halves t c).shift

pub returns-then-low-high : goal.returns-then-low-high
returns-then-low-high t c =
    let k = c.args.k - 1 in
    let h = halves t (goal.at.returns-then-low-high t c).After-reading_count-half in
    let e : suc k ≡ c.args.k = omega arith in
    c.word_size.ensures
    ∙ ap (λ (x : ℕ). tree_size k (bits (2 ^ k) x)) h.low
    ∙ sym (rw e at (word-equal k c.args.w (rw e c.requires.1) (sym h.low ∙ c.if-low-high.true ∙ h.high)))

pub word_size-above-requires : goal.word_size-above-requires
word_size-above-requires t c =
    let d = (goal.at.word_size-above-requires t c).After-reading_count-half in
    (omega arith, (omega arith, rw (halves t d).high (high-asked t d)))

-- how many gates each half has
low-size : (t : ℕ) (c : Joined-builds_low t) → let k = c.args.k - 1 in
    Halves k c.args.w c.reading_count-half.result
    → c.if-builds_low.below ≡ built_size (builds_low c.word_join-join.result) (tree_size k (bits (2 ^ k) (c.args.w % 2 ^ 2 ^ k)))
low-size t c h =
    let k = c.args.k - 1 in
    half-came (builds_low c.word_join-join.result) _ c.builds_low.ensures
    (elim c.if-builds_low.branch [
      | then-builds_low w ↦ inl (w.if-builds_low.true, w.below-is ∙ w.word_size-below.ensures ∙ ap (λ (x : ℕ). tree_size k (bits (2 ^ k) x)) h.low)
      | else-builds_low w ↦ inr (w.if-builds_low.false, w.below-is)
    ])

high-size : (t : ℕ) (c : Joined-builds_high t) → let k = c.args.k - 1 in
    Halves k c.args.w c.reading_count-half.result
    → c.if-builds_high.above ≡ built_size (builds_high c.word_join-join.result) (tree_size k (bits (2 ^ k) (c.args.w / 2 ^ 2 ^ k)))
high-size t c h =
    let k = c.args.k - 1 in
    half-came (builds_high c.word_join-join.result) _ c.builds_high.ensures
    (elim c.if-builds_high.branch [
      | then-builds_high w ↦ inl (w.if-builds_high.true, w.above-is ∙ w.word_size-above.ensures ∙ ap (λ (x : ℕ). tree_size k (bits (2 ^ k) x)) h.high)
      | else-builds_high w ↦ inr (w.if-builds_high.false, w.above-is)
    ])

-- .. which is not many
low-small : (t : ℕ) (c : Joined-builds_low t) → Halves (c.args.k - 1) c.args.w c.reading_count-half.result → c.if-builds_low.below < 5120
low-small t c h = rw (low-size t c h) (half-small (builds_low c.word_join-join.result) (c.args.k - 1) _ (omega arith))

high-small : (t : ℕ) (c : Joined-builds_high t) → Halves (c.args.k - 1) c.args.w c.reading_count-half.result → c.if-builds_high.above < 5120
high-small t c h = rw (high-size t c h) (half-small (builds_high c.word_join-join.result) (c.args.k - 1) _ (omega arith))

pub overflow_add-result : goal.overflow_add-result
overflow_add-result t c =
    let d = goal.at.overflow_add-result t c in
    let h = halves t d.After-reading_count-half in
    omega (arith, low-small t d.Joined-builds_low h, high-small t d.Joined-builds_high h)

pub overflow_add-result-2 : goal.overflow_add-result-2
overflow_add-result-2 t c =
    let d = goal.at.overflow_add-result-2 t c in
    let h = halves t d.After-reading_count-half in
    omega (arith, low-small t d.Joined-builds_low h, high-small t d.Joined-builds_high h, join_size-bounds c.word_join-join.result)

pub returns : goal.returns
returns t c =
    let k = c.args.k - 1 in
    let m = 2 ^ k in
    let d = goal.at.returns t c in
    let h = halves t d.After-reading_count-half in
    let e : suc k ≡ c.args.k = omega arith in
    let joined : c.word_join-join.result ≡ join_of (bits m (c.args.w % 2 ^ m)) (bits m (c.args.w / 2 ^ m)) =
    c.word_join-join.ensures m h.ones (rw h.low (low-asked t d.After-reading_count-half)) (rw h.high (high-asked t d.After-reading_count-half))
    ∙ ap (λ (x : ℕ). join_of (bits m x) (bits m (c.args.w / 2 ^ c.reading_count-half.result))) h.low
    ∙ ap (λ (x : ℕ). join_of (bits m (c.args.w % 2 ^ m)) (bits m x)) h.high in
    rw e at
    (split-size k c.args.w (rw e c.requires.1) (λ q. c.if-low-high.false (h.low ∙ q ∙ sym h.high)) joined (low-size t d.Joined-builds_low h)
    (high-size t d.Joined-builds_high h)
    c.size.ensures)
