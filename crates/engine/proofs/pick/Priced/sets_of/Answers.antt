-- `engine::pick::Priced::sets_of` meets its contract. The invariant: these are the sets of the candidates before place i and of the set's from
-- there on. Assumes nothing.
use Prim.Native.Nat.{suc, ◌-◌}
use mathlib.Core.Path.{◌≡◌}
use native.Mathlib.Omega.{arith}
use borrow.Author.Tests.{eqb-true, eqb-false, tests}
use lib.ListN.{length}
use Rattle.std.proofs.Common.{rules}
use Rattle.engine.specs.Eval.{bit}
use Rattle.engine.proofs.Laws.Pick.{sets-all, sets-none, sets-kept, sets-out}
use Rattle.engine.proofs.Laws.Rule.{readings-many}
use Rattle.engine.proofs.pick.Priced.sets_of.Goals as goal

pub loop-i-init : goal.loop-i-init
loop-i-init c =
    let p = c.args.self.now in
    (omega arith, p.few, sets-all p.sets.now (length p.nets.now) c.args.set)

pub leave_out-requires : goal.leave_out-requires
leave_out-requires c =
    let l = c.loop-i in
    let m = readings-many {k = l.len} l.invariant.1 in
    let o = readings-many {k = l.len - 1} (omega (arith, l.invariant.1)) in
    (omega (arith, l.invariant.0), l.invariant.1, omega arith, omega arith)

pub loop-i-preserved-then-not-has : goal.loop-i-preserved-then-not-has
unfolding bit
loop-i-preserved-then-not-has c =
    let l = c.loop-i in
    let p = c.args.self.now in
    let e : suc (l.i - 1) ≡ l.i = omega arith in
    (omega arith, omega arith, sets-out p.sets.now (length p.nets.now) c.args.set (l.i - 1) l.len l.sets (omega arith) (rw e l.invariant.2) (omega (arith, eqb-false (bit (l.i - 1) c.args.set) 1 (search (rules, tests)))) c.leave_out.ensures)

pub loop-i-preserved : goal.loop-i-preserved
unfolding bit
loop-i-preserved c =
    let l = c.loop-i in
    let p = c.args.self.now in
    let e : suc (l.i - 1) ≡ l.i = omega arith in (
      omega arith,
      omega arith,
      sets-kept p.sets.now (length p.nets.now) c.args.set (l.i - 1) l.len l.sets (omega arith) (rw e l.invariant.2)
          (eqb-true _ 1 (search (rules, tests))),
    )

pub returns : goal.returns
returns c =
    let p = c.args.self.now in
    let l = c.loop-i in
    let e : l.i ≡ 0 = omega arith in
    sets-none p.sets.now (length p.nets.now) c.args.set l.len l.sets (rw e at l.invariant.2)
