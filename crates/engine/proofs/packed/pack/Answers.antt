-- `engine::packed::pack` meets its contract: four slots of ten bits each fit behind the net. Assumes nothing.
use mathlib.Core.Path.{sym}
use borrow.Author.Rules.{rules}
use Rattle.engine.proofs.Laws.Packed.{packed-of}
use Rattle.engine.proofs.packed.pack.Goals as goal

pub returns : goal.returns
returns c = let a = c.args in sym (packed-of a.own a.kind a.count a.slots (search rules))
