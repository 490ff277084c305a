-- `engine::best::leave_out` meets its contract. The invariant: the readings before q have their sets in fewer, none of them empty. Assumes
-- nothing.
use Prim.Native.Nat.{ℕ, ◌≤◌, ◌<◌}
use Rattle.engine.specs.Inner.Kernel.{Filled}
use Rattle.engine.specs.Inner.Best.{NotEmpty, joined_at}
use Rattle.engine.proofs.best.leave_out.Given as goal

abbrev pub invariant-loop-q : goal.invariant-loop-q
invariant-loop-q l =
    (l.q ≤ l.count)
    × Filled (joined_at l.sets l.place) 0 l.q l.initial.fewer l.fewer
    × ((k : ℕ) → k < l.q → NotEmpty (joined_at l.sets l.place k))
