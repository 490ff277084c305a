-- `engine::choosing::choose_job` meets its contract: the miter, and the sets of all readings; blind where some
-- reading's set is empty, and else the chosen support has a patch. Assumes nothing.
use mathlib.Core.Path.{refl}
use native.Mathlib.Omega.{arith}
use Rattle.engine.specs.Support.{chosen}
use Rattle.engine.proofs.Laws.Rule.{readings-many, parts-few, parts-nets, chosen-good, chosen-same, rule-given, rule-blind, rule-sound, below-taken}
use Rattle.engine.proofs.choosing.choose_job.Goals as goal

pub reading_sets-met-requires : goal.reading_sets-met-requires
reading_sets-met-requires c =
    let p = c.requires.0.parts in
    record { below = c.requires.1; few = parts-few p }

pub reading_count-requires : goal.reading_count-requires
reading_count-requires c = parts-few c.requires.0.parts

pub shared_ref_as_front-first_empty : goal.shared_ref_as_front-first_empty
shared_ref_as_front-first_empty c = omega (arith, c.reading_count.ensures, readings-many (parts-few c.requires.0.parts))

pub returns-in-Some : goal.returns-in-Some
returns-in-Some c j p =
    let met = c.reading_sets-met.ensures j (c.merged_miter-miter.ensures j p) (parts-nets p) in
    let b = rule-blind p met c.reading_count.ensures c.in-Some.reading (rw c.first_empty.ensures at c.in-Some.is) in
    c.rule_blind.ensures j b.1 b.2

pub shared_ref_as_front-priced : goal.shared_ref_as_front-priced
shared_ref_as_front-priced c = parts-few c.requires.0.parts

pub see_skipped-requires : goal.see_skipped-requires
see_skipped-requires c =
    let p = c.requires.0.parts in
    let few = parts-few p in
    let b = below-taken c.args.job.now.nets (omega arith) (omega (arith, p.nets-long)) c.requires.1 in
    c.best_support-best.ensures.held_support.1 b

pub returns : goal.returns
returns c j p =
    let m = c.merged_miter-miter.ensures j p in
    let met = c.reading_sets-met.ensures j m (parts-nets p) in
    let q = rule-sound p met c.reading_count.ensures (rw c.first_empty.ensures at c.in_default.is) refl refl refl m.targets in
    let best = c.best_support-best.ensures.chosen_of j q in
    c.rule_patch.ensures j q.sound (chosen-same c.see_skipped.ensures.same_vectors best.0)
    (c.see_skipped.ensures.unseen j (chosen j) m best.0.support (chosen-good p.good q.sound) (best.1 _ (rule-given p met c.reading_count.ensures)))
