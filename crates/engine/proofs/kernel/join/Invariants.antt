-- `engine::kernel::join` meets its contract. The invariant: the first w words are joined, the others as at entry. Assumes nothing.
use Prim.Native.Nat.{◌+◌, ◌≤◌}
use lib.ListN.{get_or}
use Rattle.engine.specs.Inner.Kernel.{applied, Filled}
use Rattle.engine.proofs.kernel.join.Given as goal

abbrev pub invariant-loop-w : goal.invariant-loop-w
invariant-loop-w l = (l.w ≤ 16) × Filled (λ k. applied l.op (get_or l.initial.r k 0) (get_or l.words (l.at + k) 0)) 0 l.w l.initial.r l.r
