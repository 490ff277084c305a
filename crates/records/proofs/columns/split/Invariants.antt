-- `records::columns::split` meets its contract: after i turns the parts of the first i gates stand at the columns' starts.
-- Assumes nothing.
use Prim.Native.Nat.{◌≤◌}
use lib.ListN.{get_or}
use Rattle.records.specs.Inner.{no_gate, struct_slots}
use Rattle.records.proofs.Laws.Job.{Filled, Put}
use Rattle.records.proofs.columns.split.Given as goal

abbrev pub invariant-loop-i : goal.invariant-loop-i
invariant-loop-i l =
    (l.i ≤ l.count)
    × Filled l.initial.kinds l.kinds l.i (λ k. (get_or l.gates k no_gate).kind)
    × Filled l.initial.counts l.counts l.i (λ k. (get_or l.gates k no_gate).count)
    × Put struct_slots (λ k. get_or l.gates k no_gate) l.initial.slots 0 l.slots l.i
