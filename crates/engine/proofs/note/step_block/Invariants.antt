-- `engine::note::step_block` meets its contract. The invariants: the steps of the scenarios visited so far. Assumes nothing.
use Prim.Native.Nat.{◌+◌, ◌*◌}
use Rattle.engine.specs.Inner.Note.{gathered, Stepped}
use Rattle.engine.proofs.note.step_block.Given as goal

abbrev pub invariant-loop-w : goal.invariant-loop-w
invariant-loop-w g l = Stepped g.S.Step.gives (gathered l.fn.masks) (gathered l.fn.readings) (64 * l.w) l.fn.sets l.sets

abbrev pub invariant-loop-i : goal.invariant-loop-i
invariant-loop-i g l = Stepped g.S.Step.gives (gathered l.fn.masks) (gathered l.fn.readings) (64 * l.w + 4 * l.i) l.fn.sets l.sets

abbrev pub invariant-loop-quarter : goal.invariant-loop-quarter
invariant-loop-quarter g l =
    Stepped g.S.Step.gives (gathered l.fn.masks) (gathered l.fn.readings) (64 * l.w + 4 * l.i + l.quarter) l.fn.sets l.sets
