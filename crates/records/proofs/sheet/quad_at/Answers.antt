-- `records::sheet::quad_at` meets its contract: each byte counts 256 times the one behind it. Assumes nothing.
use native.Mathlib.Omega.{arith}
use native.Mathlib.Nat.{add-zero}
use lib.Seq.{get_or-drop}
use Rattle.records.specs.Bytes.{word}
use Rattle.records.specs.Sheet.{quad}
use Rattle.records.proofs.sheet.quad_at.Goals as goal

pub returns : goal.returns
unfolding quad word
returns c =
    let s = c.args.s.now in
    let p = c.args.at in
    rw (get_or-drop p s 0 0, get_or-drop p s 1 0, get_or-drop p s 2 0, get_or-drop p s 3 0, add-zero p)
    (omega (arith, c.from_be_bytes.ensures))
