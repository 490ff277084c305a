-- `engine::imply::contradicts` calls itself with fewer splits.
use Rattle.engine.proofs.imply.+contradicts.Given as goal

abbrev pub decreases-contradicts : goal.decreases-contradicts
decreases-contradicts l = l.splits
