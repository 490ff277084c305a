-- `engine::word::zero_row` meets its contract. Assumes nothing.
use mathlib.Core.Path.{sym, ◌∙◌, ap}
use Prim.Native.Nat.{ℕ, ◌%◌}
use mathlib.Core.List.{List}
use Rattle.std.specs.Cmp.Lexicographic.{same_text}
use Rattle.engine.specs.Inner.Kernel.{row_value}
use Rattle.engine.proofs.Laws.Kernel.{row-replicate}
use Rattle.engine.proofs.Laws.Word.{bit-zero}
use Rattle.engine.proofs.word.zero_row.Goals as goal

pub returns : goal.returns
returns c e y h = let same = same_text _ _ (sym e ∙ c.eq.ensures) in
    ap (λ (r : List ℕ). row_value r y) same ∙ row-replicate 0 y h ∙ bit-zero (y % 64)
