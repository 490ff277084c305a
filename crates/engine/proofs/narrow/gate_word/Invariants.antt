-- `engine::narrow::gate_word` meets its contract. The invariant: the word so far, with the operands left, gives the whole. Assumes nothing.
use Prim.Native.Nat.{ℕ, ◌<◌}
use Rattle.engine.specs.Inner.Operands.{operands_left}
use Rattle.engine.proofs.Laws.Narrow.{WordLeft}
use Rattle.engine.proofs.narrow.gate_word.Given as goal

abbrev pub invariant-loop-net : goal.invariant-loop-net
invariant-loop-net l = (y : ℕ) → y < 64 → WordLeft l.words l.c y l.op l.r (operands_left l.net-iterator)
