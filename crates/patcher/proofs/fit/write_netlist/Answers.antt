-- The netlist's length is within the buffer.
use Rattle.std.proofs.Common.{sym, arith, length-take-le}
use Rattle.patcher.proofs.Lengths.{fit-short}
use Rattle.patcher.proofs.fit.write_netlist.Goals as goal

pub slice_bounds-netlist-end : goal.slice_bounds-netlist-end
slice_bounds-netlist-end g c = let l = fit-short _ _ _ c.in_ok-len.ensures.reply in omega arith

pub slice_bounds-write_all-end : goal.slice_bounds-write_all-end
slice_bounds-write_all-end g c =
    let l = fit-short _ _ _ c.in_ok-len.ensures.reply in
    sym (length-take-le _ _ (omega arith))
