-- `engine::planning::leaf_marks` meets its contract. The invariant: the first i leaves have their mark. Assumes nothing.
use mathlib.Core.Path.{◌≡◌}
use Rattle.engine.specs.Inner.Plan.{leaves_from}
use Rattle.engine.proofs.planning.leaf_marks.Given as goal

abbrev pub invariant-loop-i : goal.invariant-loop-i
invariant-loop-i l = l.marks ≡ leaves_from l.from l.i
