-- `engine::leaves::keep_equal` meets its contract. The invariant: the first w words are kept where the nets are equal, the others
-- as at entry. Assumes nothing.
use Prim.Native.Nat.{◌+◌, ◌*◌, ◌-◌, ◌^◌}
use lib.Bits.{bit_and, bit_xor}
use lib.ListN.{get_or}
use Rattle.engine.specs.Inner.Kernel.{Filled}
use Rattle.engine.proofs.leaves.keep_equal.Given as goal

abbrev pub invariant-loop-w : goal.invariant-loop-w
invariant-loop-w l =
    Filled (λ k. bit_and (get_or l.initial.r k 0) (bit_xor (bit_xor (get_or l.words (16 * l.a + k) 0) (get_or l.words (16 * l.b + k) 0)) (2 ^ 64 - 1))) 0 l.w l.initial.r l.r
