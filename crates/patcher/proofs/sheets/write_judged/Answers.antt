-- The sheet's length is within the buffer.
use Rattle.std.proofs.Common.{sym, arith, length-take-le}
use Rattle.patcher.proofs.Lengths.{judge-short}
use Rattle.patcher.proofs.sheets.write_judged.Goals as goal

pub slice_bounds-sheet-end : goal.slice_bounds-sheet-end
slice_bounds-sheet-end g c = let l = judge-short _ _ c.in_ok-judged.ensures.reply in omega arith

pub slice_bounds-write_all-end : goal.slice_bounds-write_all-end
slice_bounds-write_all-end g c =
    let l = judge-short _ _ c.in_ok-judged.ensures.reply in
    sym (length-take-le _ _ (omega arith))
