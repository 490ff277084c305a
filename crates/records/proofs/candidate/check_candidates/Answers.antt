-- `records::candidate::check_candidates` meets its contract. The loop's invariant: the candidates from i on pass from
-- least on exactly when all pass. Assumes nothing.
use borrow.Author.Tests.{le-leb, lt-leb, lt-ltb, le-ltb, eq-eqb, ne_eqb}
use lib.Dec.{leb, ltb, eqb}
use lib.ListN.{get_or, drop}
use mathlib.Core.Bool.{◌&&◌}
use mathlib.Core.Path.{◌≡◌, ◌∙◌, sym}
use Prim.Native.Nat.{◌+◌, ◌*◌}
use Rattle.records.specs.Bytes.{word}
use Rattle.records.specs.Job.{candidates_of}
use Rattle.records.specs.Inner.{check_of, unmarked_ascending}
use Rattle.records.proofs.Laws.Refusal.{unmarked_from, unmarked-from, unmarked-drop, unmarked-past}
use Rattle.records.proofs.candidate.check_candidates.Goals as goal
use Rattle.records.proofs.candidate.check_candidates.Goals.{In-loop-i}

-- all pass where candidate i does, and those after it
turn : (c : In-loop-i) → let x = c.args in
    let i = c.loop-i.i in
    let cs = candidates_of x.s.now in
    let r = word x.s.now (4 * i) in
    unmarked_ascending x.nets x.marks.now cs
    ≡ (leb c.loop-i.least r
    && (ltb r x.nets && eqb (get_or x.marks.now r 0) 0)
    && unmarked_from (r + 1) x.nets x.marks.now (drop (i + 1) cs))
turn c = sym c.loop-i.invariant ∙ unmarked-drop _ _ _ _ _ c.loop-i-test.true

pub loop-i-init : goal.loop-i-init
loop-i-init c = unmarked-from _ _ _

pub returns-then-net-least : goal.returns-then-net-least
unfolding check_of
returns-then-net-least c =
    rw (turn (goal.at.returns-then-net-least c).In-loop-i, ← c.word_at-net.ensures, lt-leb _ _ c.if-net-least.true)

pub returns-then-nets-net : goal.returns-then-nets-net
unfolding check_of
returns-then-nets-net c =
    let t = turn (goal.at.returns-then-nets-net c).In-loop-i in
    rw (t, ← c.word_at-net.ensures, le-leb _ _ c.if-net-least.false, le-ltb _ _ c.if-nets-net.true)

pub returns-then-marks-net-ne0 : goal.returns-then-marks-net-ne0
unfolding check_of
returns-then-marks-net-ne0 c =
    let t = turn (goal.at.returns-then-marks-net-ne0 c).In-loop-i in
    let w = c.word_at-net.ensures in
    rw (t, ← w, le-leb _ _ c.if-net-least.false, lt-ltb _ _ c.if-nets-net.false, ne_eqb _ _ c.if-marks-net-ne0.true)

pub loop-i-preserved : goal.loop-i-preserved
loop-i-preserved c =
    let t = turn (goal.at.loop-i-preserved c).In-loop-i in
    let w = c.word_at-net.ensures in
    sym
    (t
    ∙ rw (← w, le-leb _ _ c.if-net-least.false, lt-ltb _ _ c.if-nets-net.false, eq-eqb _ _ c.if-marks-net-ne0.false))

pub returns : goal.returns
unfolding check_of
returns c = rw (← c.loop-i.invariant, unmarked-past _ _ _ _ _ c.loop-i-test.false)
