-- `records::gates::put_gates` meets its contract: each turn puts the next gate's bytes.
use Rattle.std.proofs.Common.{sym, ◌∙◌}
use native.Mathlib.Omega.{arith}
use Rattle.records.specs.Inner.{no_gate}
use Rattle.records.proofs.Laws.Gates.{bytes-none, bytes_next}
use Rattle.records.proofs.gates.put_gates.Goals as goal

pub loop-i-init : goal.loop-i-init
loop-i-init c = let a = c.args in record {
  in_range = omega arith;
  put = sym (bytes-none a.buf.now a.at a.gates.now);
}

pub loop-i-preserved : goal.loop-i-preserved
unfolding no_gate
loop-i-preserved c =
    let a = c.args in
    let l = c.loop-i in
    record {
      in_range = omega arith;
      put = c.put_gate.ensures ∙ rw l.invariant.put (bytes_next a.buf.now a.at a.gates.now l.i (omega arith) (omega arith));
    }
