-- `records::field::walked`: the reader stands behind the fields found so far, and their spans are known.
use Rattle.std.proofs.Common.{◌≡◌}
use Rattle.records.proofs.Laws.Walk.{Walking}
use Rattle.records.proofs.field.walked.Given as goal

abbrev pub invariant-loop-i : goal.invariant-loop-i
invariant-loop-i l = record {
  bytes : l.reader.bytes.now ≡ l.s;
  walking : Walking l.s l.first l.count l.i l.reader.at l.spans;
}
