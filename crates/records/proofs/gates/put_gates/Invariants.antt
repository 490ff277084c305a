-- `records::gates::put_gates`: after i turns the bytes of the first i gates are put.
use Rattle.std.proofs.Common.{◌≡◌, ◌≤◌}
use Rattle.records.specs.Bytes.{placed}
use Rattle.records.specs.Inner.{gates_bytes}
use Rattle.records.proofs.gates.put_gates.Given as goal

abbrev pub invariant-loop-i : goal.invariant-loop-i
invariant-loop-i l = record {
  in_range : l.i ≤ l.count;
  put : l.buf ≡ placed l.fn.buf l.at (gates_bytes l.i l.gates);
}
