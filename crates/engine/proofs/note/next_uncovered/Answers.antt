-- `engine::note::next_uncovered` meets its contract: of the scenarios before the first 0 the row says 1. Assumes nothing.
use Rattle.engine.proofs.Laws.Note.{covered_next}
use Rattle.engine.proofs.note.next_uncovered.Goals as goal

pub returns : goal.returns
returns c =
    let a = c.args in
    rw c.max.ensures (covered_next a.masks.now _ a.list.now a.y _ c.listed_row.ensures c.first_zero-next.ensures)
