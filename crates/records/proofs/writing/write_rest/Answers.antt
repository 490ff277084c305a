-- `records::writing::write_rest` meets its contract: the job is put around its gates, checked as read checks it, and copied where it
-- is accepted. Assumes nothing.
use Rattle.records.proofs.Laws.Option.{err-is}
use mathlib.Core.Path.{sym}
use native.Mathlib.Omega.{arith}
use lib.Seq.{length-take-le}
use Rattle.records.proofs.Laws.Put.{mid-placed}
use Rattle.records.proofs.Laws.Writing.{rest-refused, rest-accepted}
use Rattle.records.proofs.writing.write_rest.Goals as goal

pub returns-in_err-checked : goal.returns-in_err-checked
returns-in_err-checked c gs hs g =
    rw (err-is _ _ c.from_residual.ensures.1)
    (rest-refused c.args.counts _ c.args.buf.now c.args.scratch c.requires g (c.put_rest-job.ensures.2 gs hs g) _ c.in_err-checked.ensures)

pub returns : goal.returns
returns c gs hs g =
    rest-accepted c.args.counts _ c.args.buf.now c.args.scratch c.requires g (c.put_rest-job.ensures.2 gs hs g) _
    c.in_ok-checked.ensures (mid-placed c.args.buf.now 0 _ _ c.copy_from_slice.ensures.after (sym (length-take-le _ _ (omega (arith, c.put_rest-job.ensures.0, c.put_rest-job.ensures.1)))))
