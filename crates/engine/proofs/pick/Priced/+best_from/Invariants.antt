-- `engine::pick::Priced::best_from`: the number of open places falls.
use Rattle.engine.proofs.pick.Priced.+best_from.Given as goal

abbrev pub decreases-best_from : goal.decreases-best_from
decreases-best_from l = l.i
