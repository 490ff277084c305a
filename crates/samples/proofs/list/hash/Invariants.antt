-- The values not yet passed, hashed from here, give the whole hash.
use Rattle.std.proofs.Common.{◌≡◌, drop}
use Rattle.samples.specs.Sample.{hashed_by}
use Rattle.samples.proofs.list.hash.Given as goal

abbrev pub invariant-loop-x : goal.invariant-loop-x
invariant-loop-x g l = let f = g.T.Place.number in hashed_by f l.h (drop l.x-index l.list) ≡ hashed_by f l.from l.list
