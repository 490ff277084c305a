-- `engine::imply::learn_cube` meets its contract. The invariant: the steps so far went well. Assumes nothing.
use mathlib.Core.Bool.{true}
use Rattle.engine.specs.Inner.Imply.{Learns, CubeHas}
use Rattle.engine.proofs.imply.learn_cube.Given as goal

abbrev pub invariant-loop-k : goal.invariant-loop-k
invariant-loop-k l = Learns (CubeHas l.plan l.fn.cube) l.initial.known true l.known
