-- The places below i hold the pattern.
use Rattle.std.proofs.Common.{◌≡◌, ℕ, ◌<◌, get_or}
use Rattle.samples.specs.Sample.{patterned}
use Rattle.samples.proofs.list.new_list.Given as goal

abbrev pub invariant-loop-i : goal.invariant-loop-i
invariant-loop-i g l =
    let p = g.T.Place in
    (k : ℕ) → k < l.i → get_or l.list k (p.lowest 0) ≡ p.lowest (patterned l.which k)
