-- `engine::pick::Priced::counted` meets its contract: gates that are not 0 were counted before, and else the pick's sets are those of all
-- nets without the others. Assumes nothing.
use native.Mathlib.Omega.{arith}
use Rattle.engine.proofs.Laws.Rule.{readings-many}
use Rattle.engine.proofs.pick.Priced.counted.Goals as goal

pub patch_gates-requires : goal.patch_gates-requires
patch_gates-requires c =
    let few = c.args.pick.few in
    (few, omega (arith, readings-many few), c.args.self.now.targets_bound)
