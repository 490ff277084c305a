-- `engine::note::meet_block` meets its contract: the sets come out alike in any order of the scenarios. Assumes nothing.
use Rattle.engine.specs.Inner.Note.{gathered}
use Rattle.engine.proofs.Laws.Rows.{narrowed-sets}
use Rattle.engine.proofs.note.meet_block.Goals as goal

pub returns : goal.returns
returns c =
    let a = c.args in
    narrowed-sets (gathered a.masks) (gathered a.readings) a.columns a.sets.now _ c.step_block.ensures
