-- `engine::given::see_inputs` meets its contract. The invariant: the sets after the blocks passed, all readings seen before the first that is
-- not, a cover of those that are not, and cubes that none gives. Assumes nothing.
use Rattle.std.specs.Prelude.{unwrap_or}
use Rattle.engine.specs.Inner.Given.{Covered}
use Rattle.engine.proofs.Laws.Given.{Seeing}
use Rattle.engine.proofs.given.see_inputs.Given as goal

abbrev pub invariant-loop-b : goal.invariant-loop-b
invariant-loop-b l =
    Seeing l.plan l.skipped l.initial.sets l.count l.size l.b (unwrap_or l.next l.count) l.sets × Covered l.plan l.sets l.covering
