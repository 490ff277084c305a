-- `engine::pick::Priced::sets_of` meets its contract. The invariant: these are the sets of the candidates before place i and of the set's from
-- there on. Assumes nothing.
use Prim.Native.Nat.{◌≤◌}
use lib.ListN.{length}
use Rattle.engine.proofs.Laws.Pick.{SetsTo}
use Rattle.engine.proofs.pick.Priced.sets_of.Given as goal

abbrev pub invariant-loop-i : goal.invariant-loop-i
invariant-loop-i l =
    (l.i ≤ l.len) × (l.len ≤ 10) × SetsTo l.self.sets.now (length l.self.nets.now) l.set l.i l.len l.sets
