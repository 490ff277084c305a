-- `engine::narrow::list_of_words` meets its contract: all inputs are in the first block. Assumes nothing.
use Prim.Native.Nat.{ℕ, ◌*◌, ◌%◌, ◌^◌, ◌≤◌}
use mathlib.Core.Path.{◌≡◌, ◌∙◌, ap, subst}
use native.Mathlib.Nat.{one-mul}
use native.Mathlib.Omega.{arith}
use lib.Dec.{lit<}
use lib.Pow.{shl_exact}
use Rattle.engine.specs.Inner.Note.{ListNoted}
use Rattle.engine.proofs.Laws.Narrow.{list-of-masks}
use Rattle.engine.proofs.narrow.list_of_words.Goals as goal

-- how many inputs there are
size_of : (n : ℕ) → n ≤ 6 → 1 * 2 ^ n % 2 ^ 64 ≡ 2 ^ n
size_of n h = shl_exact 1 n 64 (lit< tt) (omega arith) ∙ one-mul (2 ^ n)

pub returns : goal.returns
returns c =
    let w = c.word_masks-masks in
    λ j q.
    list-of-masks j (omega (arith, c.requires, q.inputs)) (c.word_masks-masks.ensures.masks j q) c.start.ensures
    (subst (λ (k : ℕ). ListNoted w.result 0 k c.start.result c.list_block.result)
    (size_of c.args.miter.now.inputs c.requires ∙ ap (λ (n : ℕ). 2 ^ n) q.inputs)
    c.list_block.ensures)
