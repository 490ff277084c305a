-- `engine::imply::learn_backward` meets its contract. The invariant: the steps so far went well. Assumes nothing.
use mathlib.Core.Bool.{true}
use Rattle.engine.specs.Inner.Imply.{Learns, ValuesOf}
use Rattle.engine.proofs.imply.learn_backward.Given as goal

abbrev pub invariant-loop-c : goal.invariant-loop-c
invariant-loop-c l = Learns (ValuesOf l.gates) l.initial.known true l.known
