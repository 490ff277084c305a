-- `engine::imply::open_net` meets its contract, which asks of its answer only that it is a net. Assumes nothing.
use Rattle.engine.proofs.imply.open_net.Given as goal

abbrev pub invariant-loop-c : goal.invariant-loop-c
invariant-loop-c l = Unit {0}
