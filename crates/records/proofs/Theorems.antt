-- What specs/Claims.antt and specs/Parts.antt promise of the record library, each by one citation. Assumes nothing.
use Rattle.records.specs.Parts.{LoadGiven}
use Rattle.records.specs.Claims.{First, ReadAccepts, WriteAccepts, SheetAccepts, ReadRefuses, WriteRefuses, SheetRefuses, NumberGiven, ReadKeeps, WriteKeeps, ReadIndependent, WriteIndependent, SheetIndependent, TruthTable, OperandsFold, OddInverts, PlacesGiven, ReadWrite, WriteRead, LongestJob, LongestJobMet, SheetGiven, SheetNotes, NotesSeven, LeftOverSeven, VectorsSeven, SevenExactly, ColumnsRead, ColumnsAccepts, ColumnsRefuses, ColumnsGiven, ColumnsWithin, ColumnsWrite, ColumnsWriteAccepts, ColumnsWriteRefuses, ColumnsReadWrite, ColumnsWriteRead, ColumnsKeeps, ColumnsWriteKeeps, ColumnsIndependent, ColumnsWriteIndependent}
use Rattle.records.proofs.Laws.Accepted as accepted
use Rattle.records.proofs.Laws.Gate as gate
use Rattle.records.proofs.Laws.Independent as independent
use Rattle.records.proofs.Laws.Loading as loading
use Rattle.records.proofs.Laws.Notes as notes
use Rattle.records.proofs.Laws.ReadColumns as over-columns
use Rattle.records.proofs.Laws.SheetReply as sheet-reply

pub first : First
first = accepted.first

pub read-accepts : ReadAccepts
read-accepts = accepted.read-accepts

pub write-accepts : WriteAccepts
write-accepts = accepted.write-accepts

pub sheet-accepts : SheetAccepts
sheet-accepts = accepted.sheet-accepts

pub read-refuses : ReadRefuses
read-refuses = accepted.read-refuses

pub write-refuses : WriteRefuses
write-refuses = accepted.write-refuses

pub sheet-refuses : SheetRefuses
sheet-refuses = accepted.sheet-refuses

pub number-given : NumberGiven
number-given = accepted.number-given

pub read_keeps : ReadKeeps
read_keeps = independent.read_keeps

pub write_keeps : WriteKeeps
write_keeps = independent.write_keeps

pub read-independent : ReadIndependent
read-independent = independent.read-independent

pub write-independent : WriteIndependent
write-independent = independent.write-independent

pub sheet-independent : SheetIndependent
sheet-independent = independent.sheet-independent

pub truth-table : TruthTable
truth-table = gate.truth-table

pub operands-fold : OperandsFold
operands-fold = gate.operands-fold

pub odd-inverts : OddInverts
odd-inverts = gate.odd-inverts

pub places-given : PlacesGiven
places-given = accepted.places-given

pub read-write : ReadWrite
read-write = accepted.reread

pub write_read : WriteRead
write_read = accepted.rewritten

pub longest-job : LongestJob
longest-job = accepted.longest

pub longest-job-met : LongestJobMet
longest-job-met = accepted.longest-met

pub sheet-given : SheetGiven
sheet-given = sheet-reply.sheet-given

pub sheet-notes : SheetNotes
sheet-notes = notes.sheet-notes

pub notes-seven : NotesSeven
notes-seven = notes.notes-seven

pub left-over-seven : LeftOverSeven
left-over-seven = notes.left-over-seven

pub vectors-seven : VectorsSeven
vectors-seven = notes.vectors-seven

pub seven-exactly : SevenExactly
seven-exactly = notes.seven-exactly

pub columns-read : ColumnsRead
columns-read = over-columns.columns-read

pub columns-accepts : ColumnsAccepts
columns-accepts = over-columns.columns-accepts

pub columns-refuses : ColumnsRefuses
columns-refuses = over-columns.columns-refuses

pub columns-given : ColumnsGiven
columns-given = over-columns.columns-given

pub columns-within : ColumnsWithin
columns-within = over-columns.columns-within

pub columns-write : ColumnsWrite
columns-write = over-columns.columns-write

pub columns-write-accepts : ColumnsWriteAccepts
columns-write-accepts = over-columns.columns-write-accepts

pub columns-write-refuses : ColumnsWriteRefuses
columns-write-refuses = over-columns.columns-write-refuses

pub columns-read-write : ColumnsReadWrite
columns-read-write = over-columns.columns-read-write

pub columns-write-read : ColumnsWriteRead
columns-write-read = over-columns.columns-write-read

pub columns-keeps : ColumnsKeeps
columns-keeps = independent.columns-keeps

pub columns-write-keeps : ColumnsWriteKeeps
columns-write-keeps = independent.columns-write-keeps

pub columns-independent : ColumnsIndependent
columns-independent = independent.columns-independent

pub columns-write-independent : ColumnsWriteIndependent
columns-write-independent = independent.columns-write-independent

pub load_given : LoadGiven
load_given s = (loading.loaded-number s, loading.loaded-parts s)
