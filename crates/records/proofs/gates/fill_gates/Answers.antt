-- `records::gates::fill_gates` meets its contract: each turn fills the next place.
use Rattle.std.proofs.Common.{sym}
use native.Mathlib.Omega.{arith}
use Rattle.records.proofs.Laws.Gates.{structs-none, structs-next}
use Rattle.records.proofs.gates.fill_gates.Goals as goal

pub loop-i-init : goal.loop-i-init
loop-i-init c = let a = c.args in record {
  in_range = omega arith;
  filled = sym (structs-none a.gates.now a.s.now a.at);
}

pub loop-i-preserved : goal.loop-i-preserved
loop-i-preserved c =
    let a = c.args in
    let l = c.loop-i in
    record {
      in_range = omega arith;
      filled = rw (l.invariant.filled, c.gate_at.ensures) (structs-next a.gates.now a.s.now a.at l.i (omega arith));
    }
