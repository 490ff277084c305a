-- `engine::narrow::sets_of_words` meets its contract: all inputs are in the first column of the first block. Assumes nothing.
use Prim.Native.Nat.{ℕ, ◌-◌, ◌%◌, ◌^◌, ◌≤◌}
use mathlib.Core.Path.{sym, ◌∙◌, ap}
use mathlib.Core.List.{List, map}
use native.Mathlib.Omega.{arith}
use lib.ListN.{length, length-take}
use Rattle.records.specs.Netlist.{net_at}
use Rattle.engine.specs.Eval.{number_of}
use Rattle.engine.specs.Support.{candidate_nets}
use Rattle.engine.specs.Inner.Narrow.{values_at}
use Rattle.engine.proofs.Laws.Miter.{candidates-good}
use Rattle.engine.proofs.Laws.Narrow.{word-reading, sets-of-masks}
use Rattle.engine.proofs.Laws.ReadingSets.{sets-start}
use Rattle.engine.proofs.narrow.sets_of_words.Goals as goal

pub returns : goal.returns
returns c j q e =
    let a = c.all_vectors in
    let r = c.read_words-readings in
    let w = c.word_masks-masks in
    let few : j.inputs ≤ 6 = omega (arith, c.requires.0, q.inputs) in
    let m = c.args.miter.now.targets_bound in
    let v = c.word_masks-masks.ensures.words j q in
    let words = c.word_masks-masks.new.words in
    sets-of-masks j few (c.word_masks-masks.ensures.masks j q) r.result _ (omega (arith, q.targets))
    (omega (arith, ap length (sym e), length-take c.args.reads.len c.args.reads.nets, c.requires.1.few))
    (λ y h.
    c.read_words-readings.ensures y h
    ∙ ap (λ (is : List ℕ). number_of (map (net_at (values_at words (y % 64))) is)) e
    ∙ word-reading j few (candidate_nets j) v.0 words q.good v.1 (candidates-good j q.good) y)
    (sets-start j (omega (arith, q.targets)) (a.ensures ∙ ap (λ (n : ℕ). 2 ^ 2 ^ n - 1) q.targets))
    c.meet_block.ensures
