-- `engine::tree::Join::builds_high` meets its contract. Assumes nothing.
use mathlib.Core.Path.{◌≡◌, refl}
use mathlib.Core.Bool.{false}
use native.Mathlib.Omega.{arith}
use Rattle.engine.specs.Tree.{builds_high}
use Rattle.engine.specs.declared.tree.Join.{Join}
use Rattle.engine.specs.declared.tree.Join.TheVariants.{Buf, Not, AndHigh, AndLow, OrHigh, OrLow, Both}
use Rattle.engine.proofs.tree.Join.builds_high.Goals as goal

none : (j : Join) → (j ≡ AndHigh → ⊥) → (j ≡ OrHigh → ⊥) → (j ≡ Both → ⊥) → false ≡ builds_high j
unfolding builds_high
none Buf p q r = refl
none Not p q r = refl
none AndHigh p q r = absurd (p refl)
none AndLow p q r = refl
none OrHigh p q r = absurd (q refl)
none OrLow p q r = refl
none Both p q r = absurd (r refl)

pub returns-in-AndHigh : goal.returns-in-AndHigh
unfolding builds_high
returns-in-AndHigh c = grind arith

pub returns-in_default : goal.returns-in_default
returns-in_default c = none c.args.self c.in_default.not-AndHigh c.in_default.not-OrHigh c.in_default.not-Both
