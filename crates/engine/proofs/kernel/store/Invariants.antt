-- `engine::kernel::store` meets its contract. The invariant: the first w words are stored. Assumes nothing.
use Prim.Native.Nat.{◌≤◌}
use lib.Bits.{bit_xor}
use lib.ListN.{get_or}
use Rattle.engine.specs.Inner.Kernel.{Filled}
use Rattle.engine.proofs.kernel.store.Given as goal

abbrev pub invariant-loop-w : goal.invariant-loop-w
invariant-loop-w l = (l.w ≤ 16) × Filled (λ k. bit_xor (get_or l.r k 0) l.x) l.at l.w l.initial.words l.words
