-- A turn takes one value from the list, and none is left in the end.
use Rattle.std.proofs.Common.{◌∙◌, sym, arith}
use Rattle.samples.proofs.Laws.{hashed-cons, hashed_nil}
use Rattle.samples.proofs.list.hash.Goals as goal

pub loop-x-preserved : goal.loop-x-preserved
loop-x-preserved g c =
    let l = c.loop-x in
    cc (hashed-cons g.T.Place.number l.h c.args.list.now l.x-index c.x-item.result c.loop-x-test.true c.x-item.is)

pub returns : goal.returns
returns g c =
    let l = c.loop-x in
    sym (hashed_nil g.T.Place.number l.h c.args.list.now l.x-index (omega arith) (omega arith)) ∙ l.invariant
