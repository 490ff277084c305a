-- `engine::merge::pairs_apart` meets its contract. The invariant: the pairs so far are kept but for those of one net. Assumes nothing.
use mathlib.Core.Path.{◌≡◌}
use lib.ListN.{length}
use Rattle.engine.proofs.Laws.Pairs.{pairs, Pairing}
use Rattle.engine.proofs.merge.pairs_apart.Given as goal

abbrev pub invariant-loop-a : goal.invariant-loop-a
invariant-loop-a l =
    (length l.olds ≡ 32) × (length l.news ≡ 32)
    × Pairing l.outputs l.goldens l.a-iterator.a.rest.now l.a-iterator.b.rest.now (pairs l.count l.olds l.news)
