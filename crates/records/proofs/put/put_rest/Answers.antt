-- `records::put::put_rest` meets its contract: each step puts its bytes behind those of the one before or behind a netlist's gates.
-- Assumes nothing.
use Prim.Native.Nat.{◌+◌, ◌*◌, ◌≤◌}
use mathlib.Core.Path.{◌≡◌, ◌∙◌, ap}
use borrow.Author.Rules.{rules}
use native.Mathlib.Omega.{arith}
use lib.ListN.{length}
use Rattle.records.proofs.Laws.Job.{two_bytes}
use Rattle.records.proofs.Laws.Put.{length-spread, length-headed, job-bounds, job-done}
use Rattle.records.proofs.put.put_rest.Goals as goal

pub returns : goal.returns
returns c =
    let long : length c.args.bytes ≡ 8188 = search rules in
    let first : length c.headed-first.result ≡ 8188 =
    length-headed _ _ _ _ (omega (arith, long)) c.headed-first.ensures ∙ long in
    let b = c.requires in
    let side = c.put_side-golden.result in
    let within : (side.len + 3 + 4 * c.args.counts.candidates ≤ 8188) × (length side.bytes ≡ 8188) =
    (omega (arith, b, c.put_side-old.ensures.1.end, c.put_side-golden.ensures.1.end), c.put_side-golden.ensures.0) in
    let headed : length c.headed-second.result ≡ 8188 =
    length-headed _ _ _ _ (omega (arith, within)) c.headed-second.ensures ∙ within.1 in
    let netted : length c.put_column-third.result ≡ 8188 =
    ap length c.put_column-third.ensures ∙ length-spread _ _ 4 _ _ (omega (arith, within, headed)) ∙ headed in (
      within.0,
      ap length c.put_column-fourth.ensures ∙ length-spread _ _ 4 _ _ (omega (arith, within, netted)) ∙ netted,
      λ gs hs g.
          job-done c.args.bytes (job-bounds _ b g) b.within g b.room c.headed-first.ensures
          (two_bytes c.headed-first.result 3 _ _ (omega (arith, first)))
          c.put_side-old.ensures.1 c.put_side-golden.ensures.1 c.headed-second.ensures
          c.put_column-third.ensures c.put_column-fourth.ensures,
    )
