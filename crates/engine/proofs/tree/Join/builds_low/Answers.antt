-- `engine::tree::Join::builds_low` meets its contract. Assumes nothing.
use mathlib.Core.Path.{◌≡◌, refl}
use mathlib.Core.Bool.{false}
use native.Mathlib.Omega.{arith}
use Rattle.engine.specs.Tree.{builds_low}
use Rattle.engine.specs.declared.tree.Join.{Join}
use Rattle.engine.specs.declared.tree.Join.TheVariants.{Buf, Not, AndHigh, AndLow, OrHigh, OrLow, Both}
use Rattle.engine.proofs.tree.Join.builds_low.Goals as goal

none : (j : Join) → (j ≡ AndLow → ⊥) → (j ≡ OrLow → ⊥) → (j ≡ Both → ⊥) → false ≡ builds_low j
unfolding builds_low
none Buf p q r = refl
none Not p q r = refl
none AndHigh p q r = refl
none AndLow p q r = absurd (p refl)
none OrHigh p q r = refl
none OrLow p q r = absurd (q refl)
none Both p q r = absurd (r refl)

pub returns-in-AndLow : goal.returns-in-AndLow
unfolding builds_low
returns-in-AndLow c = grind arith

pub returns-in_default : goal.returns-in_default
returns-in_default c = none c.args.self c.in_default.not-AndLow c.in_default.not-OrLow c.in_default.not-Both
