-- `engine::kernel::apply` meets its contract. Assumes nothing.
use native.Mathlib.Omega.{arith}
use Rattle.engine.specs.Inner.Kernel.{applied}
use Rattle.engine.proofs.Laws.Kernel.{applied-last}
use Rattle.engine.proofs.kernel.apply.Goals as goal

pub returns-in-2 : goal.returns-in-2
unfolding applied
returns-in-2 c = rw c.in-2.is

pub returns-in-3 : goal.returns-in-3
unfolding applied
returns-in-3 c = rw c.in-3.is

pub returns-in_default : goal.returns-in_default
returns-in_default c = applied-last _ _ _ (λ e. omega arith) (λ e. omega arith)
