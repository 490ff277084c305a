-- `engine::tree::Join::size` meets its contract. Assumes nothing.
use mathlib.Core.Path.{◌≡◌, refl}
use native.Mathlib.Omega.{arith}
use Rattle.engine.specs.Tree.{join_gates}
use Rattle.engine.specs.Inner.Tree.{join_size}
use Rattle.engine.specs.declared.tree.Join.{Join}
use Rattle.engine.specs.declared.tree.Join.TheVariants.{Buf, Not, AndHigh, AndLow, OrHigh, OrLow, Both}
use Rattle.engine.proofs.tree.Join.size.Goals as goal

one : (j : Join) → (j ≡ AndLow → ⊥) → (j ≡ OrHigh → ⊥) → (j ≡ Both → ⊥) → 1 ≡ join_size j
unfolding join_size join_gates
one Buf p q r = refl
one Not p q r = refl
one AndHigh p q r = refl
one AndLow p q r = absurd (p refl)
one OrHigh p q r = absurd (q refl)
one OrLow p q r = refl
one Both p q r = absurd (r refl)

pub returns-in-AndLow : goal.returns-in-AndLow
unfolding join_size join_gates
returns-in-AndLow c = grind arith

pub returns-in-Both : goal.returns-in-Both
unfolding join_size join_gates
returns-in-Both c = grind arith

pub returns-in_default : goal.returns-in_default
returns-in_default c = one c.args.self c.in_default.not-AndLow c.in_default.not-OrHigh c.in_default.not-Both
