-- `records::writing::write` meets its contract: what its calls ask and what they leave are laws of `write_reply` and `written_bytes`.
use Rattle.std.proofs.Common.{refl, ◌∙◌}
use native.Mathlib.Omega.{arith}
use Rattle.records.specs.Service.{Places, side_places, places}
use Rattle.records.proofs.Laws.Option.{err-is}
use Rattle.records.proofs.Laws.Reply.{replied}
use Rattle.records.proofs.Laws.Writing.{Passed, tests-refuse, tests-pass, gates-held, rest-held, gates-put}
use Rattle.records.proofs.writing.write.Goals as goal
use Rattle.records.proofs.writing.write.Goals.{In_ok-check_write}

-- the places as they are lent
abbrev lent : (c : In_ok-check_write) → Places
lent c =
    let a = c.args in
    places (side_places a.old.now a.old_outputs.now) (side_places a.golden.now a.golden_outputs.now) a.nets.now a.weights.now

passed : (c : In_ok-check_write) → Passed c.args.counts (lent c) c.args.buf.now
passed c = tests-pass _ (lent c) _ c.in_ok-check_write.ensures

pub returns-in_err-check_write : goal.returns-in_err-check_write
returns-in_err-check_write c =
    let a = c.args in
    let p = places (side_places a.old.now a.old_outputs.now) (side_places a.golden.now a.golden_outputs.now) a.nets.now a.weights.now in
    rw (err-is _ _ c.from_residual.ensures.1) (replied (tests-refuse a.counts p a.buf.now _ c.in_err-check_write.ensures))

pub starts_of-at-requires : goal.starts_of-at-requires
starts_of-at-requires c = (passed (goal.at.starts_of-at-requires c).In_ok-check_write).within

pub put_gates-requires : goal.put_gates-requires
put_gates-requires c =
    let d = (goal.at.put_gates-requires c).In_ok-check_write in
    let s = gates-held _ (lent d) _ (passed d) _ c.starts_of-at.ensures in
    (s.0, s.1)

pub put_gates-requires-2 : goal.put_gates-requires-2
put_gates-requires-2 c =
    let d = (goal.at.put_gates-requires-2 c).In_ok-check_write in
    let s = gates-held _ (lent d) _ (passed d) _ c.starts_of-at.ensures in
    (omega (arith, s.2, c.put_gates.auto.buf), s.3)

pub write_rest-requires : goal.write_rest-requires
write_rest-requires c =
    let d = (goal.at.write_rest-requires c).In_ok-check_write in
    rest-held _ (lent d) _ (passed d) _ c.starts_of-at.ensures _ (c.put_gates-2.auto.buf ∙ c.put_gates.auto.buf)

pub returns : goal.returns
returns c =
    let d = (goal.at.returns c).In_ok-check_write in
    let g = gates-put _ (lent d) _ (passed d) _ c.starts_of-at.ensures _ _ _ refl c.put_gates.ensures c.put_gates-2.ensures in
    let w = c.write_rest.ensures c.args.old.now c.args.golden.now g in
    replied (w.reply, w.lent)
