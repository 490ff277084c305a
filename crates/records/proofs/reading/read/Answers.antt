-- `records::reading::read` meets its contract: what its calls ask and what they leave are laws of `read_reply` and `read_places`.
use mathlib.Core.Path.{◌≡◌}
use Rattle.std.specs.Prelude.{Ok}
use Rattle.records.specs.Service.{Places, side_places, places, read_told}
use Rattle.records.proofs.Laws.Option.{err-is}
use Rattle.records.proofs.Laws.Reading.{checked, read-refused, read-within, read-gates, rest-fits, read-ends}
use Rattle.records.proofs.Laws.Reply.{replied}
use Rattle.records.proofs.reading.read.Goals as goal
use Rattle.records.proofs.reading.read.Goals.{In_ok-counts}

-- the places as they are lent
abbrev lent : (c : In_ok-counts) → Places
lent c =
    let a = c.args in
    places (side_places a.old.now a.old_outputs.now) (side_places a.golden.now a.golden_outputs.now) a.nets.now a.weights.now

accepted : (c : In_ok-counts) → read_told (Ok c.in_ok-counts.counts) ≡ checked (lent c) c.args.job.now
accepted c = c.in_ok-counts.ensures

pub returns-in_err-counts : goal.returns-in_err-counts
returns-in_err-counts c =
    let a = c.args in
    let p = places (side_places a.old.now a.old_outputs.now) (side_places a.golden.now a.golden_outputs.now) a.nets.now a.weights.now in
    rw (err-is _ _ c.from_residual.ensures.1) (replied (read-refused p a.job.now _ c.in_err-counts.ensures))

pub starts_of-at-requires : goal.starts_of-at-requires
starts_of-at-requires c = let d = (goal.at.starts_of-at-requires c).In_ok-counts in read-within (lent d) _ _ (accepted d)

pub fill_gates-requires : goal.fill_gates-requires
fill_gates-requires c =
    let d = (goal.at.fill_gates-requires c).In_ok-counts in
    let g = read-gates (lent d) _ _ (accepted d) _ c.starts_of-at.ensures in
    (g.0, g.1)

pub fill_gates-requires-2 : goal.fill_gates-requires-2
fill_gates-requires-2 c =
    let d = (goal.at.fill_gates-requires-2 c).In_ok-counts in
    let g = read-gates (lent d) _ _ (accepted d) _ c.starts_of-at.ensures in
    (g.2, g.3)

pub fill_rest-requires : goal.fill_rest-requires
fill_rest-requires c = let d = (goal.at.fill_rest-requires c).In_ok-counts in rest-fits (lent d) _ _ (accepted d)

pub returns : goal.returns
returns c =
    let d = (goal.at.returns c).In_ok-counts in
    replied
    (read-ends (lent d) _ _ (accepted d) _ _ _ _ _ _ _ c.starts_of-at.ensures c.fill_gates.ensures c.fill_gates-2.ensures
    c.fill_rest.ensures)
