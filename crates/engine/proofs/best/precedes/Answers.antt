-- `engine::best::precedes` meets its contract. Assumes nothing.
use mathlib.Core.Path.{refl}
use Rattle.engine.specs.Inner.Best.{before}
use Rattle.engine.proofs.best.precedes.Goals as goal

pub returns-then-is_lt : goal.returns-then-is_lt
unfolding before
returns-then-is_lt c = rw (← c.cmp-order.ensures, ← c.is_lt.ensures, c.if-is_lt.true) refl

pub returns-then-is_eq : goal.returns-then-is_eq
unfolding before
returns-then-is_eq c = rw (← c.cmp-order.ensures, ← c.is_lt.ensures, c.if-is_lt.false, ← c.is_eq.ensures, c.if-is_eq.true) c.low_first.ensures

pub returns-else-is_eq : goal.returns-else-is_eq
unfolding before
returns-else-is_eq c = rw (← c.cmp-order.ensures, ← c.is_lt.ensures, c.if-is_lt.false, ← c.is_eq.ensures, c.if-is_eq.false) refl
