-- `records::gate::permits` meets its contract: each arm is the test of the counts of its kinds. Assumes nothing.
use borrow.Author.Tests.{le-leb, lt-leb}
use mathlib.Core.Path.{◌≡◌, sym}
use mathlib.Core.Bool.{true, false}
use native.Mathlib.Omega.{arith}
use lib.Dec.{leb}
use Rattle.records.proofs.Laws.Gate.{count_none, count-one, count-many, permits-one, permits-many, permits-high}
use Rattle.records.proofs.gate.permits.Goals as goal

pub returns-in-0 : goal.returns-in-0
returns-in-0 c =
    let x = c.args in
    sym (permits-one x.kind x.count 0 (omega arith) (count_none x.kind (omega arith)))

pub returns-in-2 : goal.returns-in-2
returns-in-2 c =
    let x = c.args in
    sym (permits-one x.kind x.count 1 (omega arith) (count-one x.kind (omega arith) (omega arith)))

pub returns-then-count-ge2 : goal.returns-then-count-ge2
returns-then-count-ge2 c =
    let x = c.args in
    let k = count-many x.kind (omega arith) (omega arith) in
    let t : leb 2 x.count ≡ true = le-leb 2 x.count (omega arith) in
    rw (permits-many x.kind x.count 2 4 (omega arith) k, t)

pub returns-else-count-ge2 : goal.returns-else-count-ge2
returns-else-count-ge2 c =
    let x = c.args in
    let k = count-many x.kind (omega arith) (omega arith) in
    let t : leb 2 x.count ≡ false = lt-leb 2 x.count (omega arith) in
    rw (permits-many x.kind x.count 2 4 (omega arith) k, t)

pub returns-in_default : goal.returns-in_default
returns-in_default c = let x = c.args in sym (permits-high x.kind x.count (omega arith))
