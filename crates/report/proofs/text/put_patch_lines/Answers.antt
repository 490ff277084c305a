-- Five lines, each behind the one before.
use Rattle.records.specs.Job.{nets_of}
use Rattle.report.specs.Text.{table_word, vectors_word, notes_word}
use Rattle.report.proofs.Laws.Line.{bytes_room, bytes-line}
use Rattle.report.proofs.Laws.Text.{cost-room, nets-room, table-room, vectors-room, notes-room, patch-lines, pairs-nets}
use Rattle.report.proofs.text.put_patch_lines.Goals as goal

pub put_line-requires : goal.put_line-requires
put_line-requires c =
    let a = c.args in
    cost-room a.cost (nets_of a.support.now) a.table.now a.vectors.now a.notes.now c.requires.empty c.requires.room

pub put_line-requires-2 : goal.put_line-requires-2
put_line-requires-2 c =
    let a = c.args in
    rw (c.as_chunks.ensures.front, pairs-nets a.support.now)
    (nets-room a.cost (nets_of a.support.now) a.table.now a.vectors.now a.notes.now c.requires.empty c.requires.room
    c.put_line.ensures)

pub put_line-requires-3 : goal.put_line-requires-3
put_line-requires-3 c =
    let a = c.args in
    let nets = rw (c.as_chunks.ensures.front, pairs-nets a.support.now) at c.put_line-2.ensures in
    bytes_room _ _ table_word a.table.now
    (table-room a.cost (nets_of a.support.now) a.table.now a.vectors.now a.notes.now c.requires.empty c.requires.room
    c.put_line.ensures
    nets)

pub put_line-requires-4 : goal.put_line-requires-4
put_line-requires-4 c =
    let a = c.args in
    let nets = rw (c.as_chunks.ensures.front, pairs-nets a.support.now) at c.put_line-2.ensures in
    bytes_room _ _ vectors_word a.vectors.now
    (vectors-room a.cost (nets_of a.support.now) a.table.now a.vectors.now a.notes.now c.requires.empty c.requires.room
    c.put_line.ensures
    nets
    (bytes-line _ table_word a.table.now c.put_line-3.ensures))

pub put_line-requires-5 : goal.put_line-requires-5
put_line-requires-5 c =
    let a = c.args in
    let nets = rw (c.as_chunks.ensures.front, pairs-nets a.support.now) at c.put_line-2.ensures in
    bytes_room _ _ notes_word a.notes.now
    (notes-room a.cost (nets_of a.support.now) a.table.now a.vectors.now a.notes.now c.requires.empty c.requires.room
    c.put_line.ensures
    nets
    (bytes-line _ table_word a.table.now c.put_line-3.ensures)
    (bytes-line _ vectors_word a.vectors.now c.put_line-4.ensures))

pub returns : goal.returns
returns c =
    let a = c.args in
    let nets = rw (c.as_chunks.ensures.front, pairs-nets a.support.now) at c.put_line-2.ensures in
    patch-lines a.cost (nets_of a.support.now) a.table.now a.vectors.now a.notes.now c.requires.empty c.requires.room
    c.put_line.ensures
    nets
    (bytes-line _ table_word a.table.now c.put_line-3.ensures)
    (bytes-line _ vectors_word a.vectors.now c.put_line-4.ensures)
    (bytes-line _ notes_word a.notes.now c.put_line-5.ensures)
