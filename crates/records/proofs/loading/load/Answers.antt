-- `records::loading::load` meets its contract: its arrays are the empty places, and read fills them. Assumes nothing.
use Rattle.records.specs.Service.{side_places, places, no_gate, no_gates, empty_places, parts_in}
use Rattle.records.proofs.Laws.Option.{err-is}
use Rattle.records.proofs.Laws.Loading.{load-refused, load-accepted}
use Rattle.records.proofs.loading.load.Goals as goal

pub returns-in_err-counts : goal.returns-in_err-counts
unfolding empty_places no_gates no_gate
returns-in_err-counts c =
    rw (err-is _ _ c.from_residual.ensures.1) (load-refused c.args.job.now _ c.in_err-counts.ensures.reply)

pub returns : goal.returns
unfolding empty_places no_gates no_gate parts_in
returns c =
    let l = c.read.new in
    let p = places (side_places l.old l.old_outputs) (side_places l.golden l.golden_outputs) l.nets l.weights in
    load-accepted c.args.job.now _ p c.in_ok-counts.ensures.reply c.in_ok-counts.ensures.lent
