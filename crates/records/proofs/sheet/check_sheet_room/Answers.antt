-- `records::sheet::check_sheet_room` meets its contract: the test is the definition's. Assumes nothing.
use Rattle.records.specs.Inner.{sheet_room}
use Rattle.records.proofs.Laws.Counts.{passed, failed-of}
use Rattle.records.proofs.sheet.check_sheet_room.Goals as goal

pub returns-then-targets-candidates : goal.returns-then-targets-candidates
unfolding sheet_room
returns-then-targets-candidates c = let a = c.args in passed (sheet_room a.targets a.candidates a.nets a.weights) c.if-targets-candidates.true

pub returns : goal.returns
unfolding sheet_room
returns c = let a = c.args in failed-of (sheet_room a.targets a.candidates a.nets a.weights) c.if-targets-candidates.false
