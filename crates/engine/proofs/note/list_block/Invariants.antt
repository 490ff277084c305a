-- `engine::note::list_block` meets its contract. The invariant: the list is the one after the inputs before y, of which those from
-- count on are none of the block's. Assumes nothing.
use Prim.Native.Nat.{◌-◌, min}
use Rattle.engine.specs.Inner.Note.{ListNoted}
use Rattle.engine.proofs.note.list_block.Given as goal

abbrev pub invariant-loop-y : goal.invariant-loop-y
invariant-loop-y l = ListNoted l.masks l.first (min l.y l.count) l.initial.list l.list

abbrev pub decreases-loop-y : goal.decreases-loop-y
decreases-loop-y l = l.count - l.y
