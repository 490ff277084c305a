-- `engine::note::Meet::step` meets its contract. Assumes nothing.
use Prim.Native.Nat.{◌%◌}
use mathlib.Core.Path.{refl}
use Rattle.engine.specs.Inner.Note.{narrowed}
use Rattle.engine.proofs.Laws.Note.{kept}
use Rattle.engine.proofs.note.MeetStep.step.Goals as goal

pub returns-then-now-was : goal.returns-then-now-was
unfolding narrowed
returns-then-now-was c = refl

pub returns-else-now-was : goal.returns-else-now-was
returns-else-now-was c = let a = c.args in kept a.sets.now (a.reading % 1024) (a.set % 65536) c.if-now-was.false
