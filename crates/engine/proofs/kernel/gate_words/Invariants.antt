-- `engine::kernel::gate_words` meets its contract. The invariant: the words so far, with the operands left, give the whole. Assumes nothing.
use Prim.Native.Nat.{ℕ, ◌-◌, ◌<◌}
use mathlib.Core.Path.{◌≡◌}
use mathlib.Core.List.{map}
use lib.ListN.{length}
use Rattle.engine.specs.Inner.Packed.{fields, operation, operands_of, folded}
use Rattle.engine.specs.Inner.Kernel.{row_value, value_in}
use Rattle.engine.proofs.Laws.Kernel.{left}
use Rattle.engine.proofs.kernel.gate_words.Given as goal

abbrev pub invariant-loop : goal.invariant-loop
invariant-loop l =
    (length l.r ≡ 16)
    × ((y : ℕ) → y < 1024
    → left l.op (operation l.c) (row_value l.r y) (map (value_in l.words y) (fields (l.end - l.counter) l.rest))
    ≡ folded (operation l.c) (map (value_in l.words y) (operands_of l.c)))
