-- `records::columns::split` meets its contract: after i turns the parts of the first i gates stand at the columns' starts.
-- Assumes nothing.
use Prim.Native.Nat.{◌*◌}
use mathlib.Core.Path.{◌≡◌, refl}
use native.Mathlib.Omega.{arith}
use lib.ListN.{get_or}
use Rattle.records.specs.Inner.{no_gate, struct_slots}
use Rattle.records.specs.declared.gate.Gate.{Gate}
use Rattle.records.proofs.Laws.Job.{filled_none, filled_next, put-none, put_next}
use Rattle.records.proofs.Laws.ReadColumns.{length-struct_slots}
use Rattle.records.proofs.Laws.Columns.{slots-placed, column-split, slots-split}
use Rattle.records.proofs.columns.split.Goals as goal

pub loop-i-init : goal.loop-i-init
loop-i-init c =
    let a = c.args in (
      omega arith,
      filled_none a.kinds.now (λ k. (get_or a.gates.now k no_gate).kind),
      filled_none a.counts.now (λ k. (get_or a.gates.now k no_gate).count),
      put-none struct_slots (λ k. get_or a.gates.now k no_gate) a.slots.now 0,
    )

pub loop-i-preserved : goal.loop-i-preserved
unfolding no_gate
loop-i-preserved c =
    let l = c.loop-i in
    let a = c.args in (
      omega arith,
      filled_next a.kinds.now (λ k. (get_or a.gates.now k no_gate).kind) l.kinds l.i _ (omega arith) refl l.invariant.1,
      filled_next a.counts.now (λ k. (get_or a.gates.now k no_gate).count) l.counts l.i _ (omega arith) refl l.invariant.2,
      put_next struct_slots (λ k. get_or a.gates.now k no_gate) a.slots.now 0 4 (λ i. length-struct_slots _) l.slots _ l.i (4 * l.i)
          (omega arith) (omega arith) (slots-placed l.slots (4 * l.i) (get_or a.gates.now l.i no_gate) (omega arith)) l.invariant.3,
    )

pub returns : goal.returns
returns c =
    let a = c.args in
    let l = c.loop-i in
    let h = c.requires.gates in
    let e : l.i ≡ a.count = omega arith in
    record {
      kinds = column-split a.gates.now a.kinds.now l.kinds l.i a.count e h (λ (g : Gate). g.kind) l.invariant.1;
      counts = column-split a.gates.now a.counts.now l.counts l.i a.count e h (λ (g : Gate). g.count) l.invariant.2;
      slots = slots-split a.gates.now a.slots.now l.slots l.i a.count e h l.invariant.3;
    }
