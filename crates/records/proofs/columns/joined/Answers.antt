-- `records::columns::joined` meets its contract: after i turns the first i gates of the columns stand at the start.
-- Assumes nothing.
use mathlib.Core.Path.{◌≡◌, refl}
use native.Mathlib.Omega.{arith}
use Rattle.records.specs.Inner.{no_gate, no_gates, structs_from}
use Rattle.records.proofs.Laws.Job.{filled_none, filled_next}
use Rattle.records.proofs.Laws.Columns.{length-no_gates}
use Rattle.records.proofs.columns.joined.Invariants.{gate}
use Rattle.records.proofs.columns.joined.Goals as goal

pub loop-k-init : goal.loop-k-init
unfolding no_gates no_gate
loop-k-init c =
    let a = c.args in
    (omega arith, filled_none no_gates (gate a.kinds.now a.counts.now a.slots.now))

pub loop-k-preserved : goal.loop-k-preserved
loop-k-preserved c =
    let l = c.loop-k in
    let a = c.args in (
      omega arith,
      filled_next no_gates (gate a.kinds.now a.counts.now a.slots.now) l.gates l.k _
          (omega (arith, length-no_gates)) refl l.invariant.1,
    )

pub returns : goal.returns
unfolding structs_from
returns c =
    let a = c.args in
    let l = c.loop-k in
    let e : l.k ≡ a.count = omega arith in
    rw e at l.invariant.1.1
