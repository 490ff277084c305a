-- `engine::best::low_first` meets its contract. The invariant: what is left of the sets from place i on decides. Assumes nothing.
use Prim.Native.Nat.{◌≤◌}
use mathlib.Core.Path.{◌≡◌}
use Rattle.engine.specs.Inner.Best.{low_first}
use Rattle.engine.proofs.Laws.Picked.{low_from}
use Rattle.engine.proofs.best.low_first.Given as goal

abbrev pub invariant-loop-i : goal.invariant-loop-i
invariant-loop-i l = (l.i ≤ 10) × (low_from l.a l.b l.i ≡ low_first 10 l.a l.b)
