-- `engine::sheet::put_pairs` meets its contract. Assumes nothing.
use mathlib.Core.Path.{refl, ◌∙◌, ap}
use native.Mathlib.Omega.{arith}
use lib.ListN.{length, get_or}
use Rattle.records.specs.Bytes.{flat, byte_pair}
use Rattle.records.proofs.Laws.Job.{length-byte_pair}
use Rattle.engine.proofs.Laws.Sheet.{pieces-next, pieces-all, pair-bytes}
use Rattle.engine.proofs.sheet.put_pairs.Goals as goal

pub loop-i-init : goal.loop-i-init
unfolding flat
loop-i-init c = refl

pub loop-i-preserved : goal.loop-i-preserved
loop-i-preserved c =
    let l = c.loop-i in
    let q = c.copy_from_slice.ensures.after ∙ c.to_be_bytes.ensures ∙ pair-bytes (get_or c.args.numbers.now l.i 0) (omega (arith, c.type_inv.numbers l.i)) in
    pieces-next byte_pair 2 c.args.numbers.now l.i l.bytes l.invariant 0 _ c.loop-i-test.true (omega (arith, l.auto.bytes, c.requires)) q (ap length q ∙ length-byte_pair _)

pub returns : goal.returns
returns c =
    let l = c.loop-i in
    pieces-all byte_pair 2 c.args.numbers.now l.i l.bytes l.invariant (omega (arith, l.auto.i-end)) (omega (arith, l.auto.bytes, c.requires))
