-- `records::gates::fill_gates`: after i turns the first i places hold the first i gates.
use Rattle.std.proofs.Common.{◌≡◌, ◌≤◌}
use Rattle.records.specs.Bytes.{placed}
use Rattle.records.specs.Inner.{structs_at}
use Rattle.records.proofs.gates.fill_gates.Given as goal

abbrev pub invariant-loop-i : goal.invariant-loop-i
invariant-loop-i l = record {
  in_range : l.i ≤ l.count;
  filled : l.gates ≡ placed l.fn.gates 0 (structs_at l.s l.at l.i);
}
