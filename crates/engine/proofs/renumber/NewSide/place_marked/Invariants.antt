-- `engine::renumber::NewSide::place_marked` meets its contract. The invariant: the gates with the mark among the first i have their numbers,
-- and stand at these behind the new gates. Assumes nothing.
use Prim.Native.Nat.{◌+◌}
use Rattle.engine.proofs.Laws.FitCode.{Placing}
use Rattle.engine.proofs.renumber.NewSide.place_marked.Given as goal

abbrev pub invariant-loop-i : goal.invariant-loop-i
invariant-loop-i l =
    let o = l.old in
    let a = l.initial.self in
    let b = l.self in
    Placing o.marks o.gates (o.inputs + o.targets) o.count o.inputs l.mark a.numbers a.gates a.count l.i b.numbers b.gates b.count
