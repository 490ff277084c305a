-- `records::netlist::check_outputs` meets its contract. The loop's invariant: the nets from i on pass the test exactly
-- when all do. Assumes nothing.
use Prim.Native.Nat.{◌+◌, ◌*◌, ◌/◌}
use mathlib.Core.Path.{◌≡◌, ◌∙◌, sym}
use borrow.Author.Tests.{lt-ltb, le-ltb}
use mathlib.Core.Bool.{◌&&◌}
use lib.Dec.{ltb}
use lib.ListN.{length}
use Rattle.records.specs.Bytes.{all, word}
use Rattle.records.specs.Job.{nets_of}
use Rattle.records.specs.Inner.{check_of}
use Rattle.records.proofs.Laws.Bytes.{all_drop, drop-tabulate-past}
use Rattle.records.proofs.netlist.check_outputs.Invariants.{below}
use Rattle.records.proofs.netlist.check_outputs.Goals as goal
use Rattle.records.proofs.netlist.check_outputs.Goals.{In-loop-i, After-word_at-net}

-- a turn tests one net
turn : (c : After-word_at-net)
    → let a = c.args in
    below a.nets a.s.now 0 ≡ (ltb c.word_at-net.result a.nets && below a.nets a.s.now (c.loop-i.i + 1))
unfolding nets_of
turn c =
    let a = c.args in
    let s = a.s.now in
    let l = c.loop-i in
    sym l.invariant
    ∙ all_drop (λ k. ltb k a.nets) (length s / 2) (λ k. word s (2 * k)) l.i c.loop-i-test.true
    ∙ rw c.word_at-net.ensures

pub returns-then-nets-net : goal.returns-then-nets-net
unfolding check_of
returns-then-nets-net c = rw (turn (goal.at.returns-then-nets-net c).After-word_at-net, le-ltb _ _ c.if-nets-net.true)

pub loop-i-preserved : goal.loop-i-preserved
loop-i-preserved c = sym (turn (goal.at.loop-i-preserved c).After-word_at-net ∙ rw (lt-ltb _ _ c.if-nets-net.false))

pub returns : goal.returns
unfolding check_of nets_of all
returns c = rw (← c.loop-i.invariant, drop-tabulate-past _ _ _ c.loop-i-test.false)
