-- `engine::renumber::NewSide::place_marked` meets its contract. Assumes nothing.
use Prim.Native.Nat.{◌+◌}
use native.Mathlib.Omega.{arith}
use Rattle.engine.specs.Inner.Tree.{GateRoom}
use Rattle.engine.proofs.Laws.FitCode.{placing-none, placing-skip, placing-room, placing-nets, placing-next, placing-all, old-held}
use Rattle.engine.proofs.renumber.NewSide.place_marked.Goals as goal
use Rattle.engine.proofs.renumber.NewSide.place_marked.Goals.{Then-old-net, then-old-net, else-old-net}

pub loop-i-init : goal.loop-i-init
loop-i-init c = let a = c.args in placing-none a.old.now a.mark a.self.now

-- there is room for one more gate
room : (c : Then-old-net) → GateRoom c.args.old.now.inputs (c.loop-i.self.count + 1) c.loop-i.self.gates
room c =
    let a = c.args in
    placing-room a.old.now a.mark a.self.now c.loop-i.invariant (old-held a.old.now (omega arith)) c.loop-i-test.true c.if-old-net.true c.requires.1

pub overflow_add-own : goal.overflow_add-own
overflow_add-own c = omega (arith, (room (goal.at.overflow_add-own c).Then-old-net).nets)

pub overflow_cast-self : goal.overflow_cast-self
overflow_cast-self c = omega (arith, (room (goal.at.overflow_cast-self c).Then-old-net).nets)

pub moved_code-requires : goal.moved_code-requires
moved_code-requires c =
    let a = c.args in (
      omega (arith, (room (goal.at.moved_code-requires c).Then-old-net).nets),
      placing-nets a.old.now a.mark a.self.now c.loop-i.invariant (old-held a.old.now (omega arith)) c.loop-i-test.true c.if-old-net.true (omega arith)
          (omega (arith, c.requires.1.room))
          c.requires.0,
    )

pub offset_bounds-self-self : goal.offset_bounds-self-self
offset_bounds-self-self c = omega (arith, (room (goal.at.offset_bounds-self-self c).Then-old-net).room)

pub bounds-self-self : goal.bounds-self-self
bounds-self-self c = omega (arith, (room (goal.at.bounds-self-self c).Then-old-net).room)

pub overflow_add-self : goal.overflow_add-self
overflow_add-self c = omega (arith, (room (goal.at.overflow_add-self c).Then-old-net).room)

pub loop-i-preserved : goal.loop-i-preserved
loop-i-preserved c =
    let l = c.loop-i in
    let a = c.args in
    elim c.if-old-net.branch [
      | then-old-net k ↦
          rw k.self-is
          (placing-next a.old.now a.mark a.self.now l.invariant (old-held a.old.now (omega arith)) c.loop-i-test.true k.if-old-net.true (omega arith) c.requires.1
          k.moved_code.ensures)
      | else-old-net k ↦
          rw k.self-is (placing-skip a.old.now a.mark a.self.now l.invariant c.loop-i-test.true k.if-old-net.false)
    ]

pub returns : goal.returns
returns c = let a = c.args in placing-all a.old.now a.mark a.self.now c.loop-i.invariant c.loop-i-test.false
