-- `engine::note::step_block` meets its contract. The invariants: the steps of the scenarios visited so far. Assumes nothing.
use Rattle.engine.proofs.Laws.Rows.{step-next}
use Rattle.engine.proofs.note.step_block.Goals as goal

pub loop-quarter-preserved : goal.loop-quarter-preserved
loop-quarter-preserved g c =
    let a = c.args in
    let l = c.loop-quarter in
    step-next g.S.Step.gives a.columns a.masks a.readings c.transpose.new.x c.transpose-2.new.x c.loop-w.w c.loop-i.i l.quarter a.sets.now l.sets
    c.step.new.sets
    c.transpose.ensures c.transpose-2.ensures c.loop-w-test.true c.loop-i-test.true c.loop-quarter-test.true l.invariant c.step.ensures
