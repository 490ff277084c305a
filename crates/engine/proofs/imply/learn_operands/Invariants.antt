-- `engine::imply::learn_operands` meets its contract. The invariant: the steps so far went well, and the operands left have the value. Assumes
-- nothing.
use Prim.Native.Nat.{ℕ}
use mathlib.Core.List.{List}
use mathlib.Core.Bool.{true}
use Rattle.engine.specs.Inner.Imply.{Learns, AllHave}
use Rattle.engine.specs.Inner.Operands.{operands_left}
use Rattle.engine.specs.Inner.Packed.{operands_of}
use Rattle.engine.proofs.imply.learn_operands.Given as goal

abbrev pub invariant-loop-net : goal.invariant-loop-net
invariant-loop-net l =
    Learns (AllHave l.v (operands_of l.c)) l.initial.known true l.known
    × ((vs : List ℕ) → AllHave l.v (operands_of l.c) vs → AllHave l.v (operands_left l.net-iterator) vs)
