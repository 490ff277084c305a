-- `engine::pick::Priced::better_of` meets its contract: what is cheaper is taken as it is, and else the gates of both are counted. Assumes
-- nothing.
use mathlib.Core.Path.{◌≡◌, refl, sym, ◌∙◌, ap}
use Rattle.std.specs.Prelude.{Some}
use Rattle.records.specs.Job.{Job}
use Rattle.engine.specs.Inner.Best.{PricedOf, OpenOf, CountedOf}
use Rattle.engine.specs.declared.pick.Pick.{Pick}
use Rattle.engine.proofs.Laws.Pick.{closed-sets, closed-pick, counted-now, best-cheaper, best-itself, best-before, best-not-before}
use Rattle.engine.proofs.pick.Priced.better_of.Goals as goal
use Rattle.engine.proofs.pick.Priced.better_of.Goals.{After-precedes}

pub returns-then-from-best : goal.returns-then-from-best
returns-then-from-best c j w g h = best-cheaper j w g h c.if-from-best.true

pub returns-then-from-best-2 : goal.returns-then-from-best-2
returns-then-from-best-2 c j w g h = best-itself j w _ g c.if-from-best-2.true

-- the support that is open, with its gates counted
fresh : (c : After-precedes) (j : Job) {r : Pick} → let a = c.args in PricedOf j a.self.now → OpenOf j 0 a.from a.sets.now
    → (r.set ≡ a.from.set) × (r.cost ≡ a.from.cost) × (r.len ≡ a.from.len) → r.gates ≡ Some c.patch_gates.result → CountedOf j r
fresh c j w h s e =
    let p = closed-pick j w h in
    counted-now j p s (e ∙ ap Some (c.patch_gates.ensures j _ (closed-sets j h) (sym p.len) (sym w.targets)))

pub returns-then-precedes : goal.returns-then-precedes
returns-then-precedes c j w g h =
    let u = c.counted-was.ensures in
    best-before j w (fresh (goal.at.returns-then-precedes c).After-precedes j w h (refl, refl, refl) refl) (u.counted_of j w g) u.set_value.0
    (sym c.precedes.ensures ∙ c.if-precedes.true)

pub returns-else-precedes : goal.returns-else-precedes
returns-else-precedes c j w g h =
    let u = c.counted-was.ensures in
    best-not-before j w (fresh (goal.at.returns-else-precedes c).After-precedes j w h (refl, refl, refl) refl) (u.counted_of j w g) u.set_value.0
    (sym c.precedes.ensures ∙ c.if-precedes.false)
