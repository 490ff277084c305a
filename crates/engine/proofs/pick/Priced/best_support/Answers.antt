-- `engine::pick::Priced::best_support` meets its contract: the search starts from all candidates, which are sound together. Assumes nothing.
use Prim.Native.Nat.{◌-◌}
use mathlib.Core.Path.{refl}
use native.Mathlib.Omega.{arith}
use lib.ListN.{length}
use lib.Pow.{pow_pos}
use Rattle.engine.proofs.Laws.Pick.{nets-many, all-sets, all-priced, all-pick, all-open, best-chosen, chosen_of}
use Rattle.engine.proofs.Laws.Rule.{readings-many}
use Rattle.engine.proofs.pick.Priced.best_support.Goals as goal

pub best_from-best-requires : goal.best_from-best-requires
best_from-best-requires c =
    let few = c.args.self.now.few in
    let m = readings-many few in
    (record { places = omega arith; set = pow_pos (10 - length c.args.self.now.nets.now); cost = omega arith }, omega arith, omega arith, omega arith)

pub returns-clause-chosen_of : goal.returns-clause-chosen_of
returns-clause-chosen_of c j q =
    let all = all-pick q (omega (arith, c.reading_count.ensures)) c.sum_weights.ensures refl refl in
    let g = c.best_from-best.ensures j (all-priced q) all (all-open q refl refl refl refl) in
    let f = c.sets_of.ensures j (nets-many q) (all-sets q) g.pick.sound in
    (chosen_of q g c.support_of.ensures.0 f.0, λ k h. rw (← best-chosen q g) (f.1 k h))
