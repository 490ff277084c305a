-- `engine::miter::Miter::of_parts` meets its contract: the counts of a good job leave room, and its calls give the miter's parts.
-- Assumes nothing.
use Rattle.std.proofs.Common.{rules}
use Rattle.std.proofs.lemmas.Slice.{overwrites}
use Prim.Native.Nat.{ℕ, ◌+◌, ◌≤◌}
use lib.ListN.{take}
use mathlib.Core.Path.{◌∙◌, sym, ap}
use native.Mathlib.Omega.{arith}
use lib.Seq.{length-take-le}
use Rattle.records.specs.Service.{counts_of, side_counts_of}
use Rattle.records.specs.declared.job.Counts.{Counts}
use Rattle.engine.proofs.Laws.MiterCode.{parts_within, old-fit, golden-fit, outputs-fit, goldens-fit, length-codes, put-behind, made-forms, made-count, made-codes, made-outputs, made-goldens}
use Rattle.engine.proofs.miter.Miter.of_parts.Goals as goal

pub overflow_add-base : goal.overflow_add-base
overflow_add-base c = let w = parts_within c.requires.parts in omega arith

pub overflow_add-shift : goal.overflow_add-shift
overflow_add-shift c = let w = parts_within c.requires.parts in omega arith

pub overflow_add-count : goal.overflow_add-count
overflow_add-count c = let w = parts_within c.requires.parts in omega arith

pub shared_ref_as_front-put_gates : goal.shared_ref_as_front-put_gates
shared_ref_as_front-put_gates c = let w = parts_within c.requires.parts in omega (arith, w.old.gates)

pub put_gates-requires : goal.put_gates-requires
put_gates-requires c =
    let q = c.requires.parts in
    let w = parts_within q in
    let k : c.args.job.now.counts.old.gates ≤ 400 = w.old.gates in
    (old-fit q, search (rules, k, q.old-long))

pub shared_ref_as_front-put_gates-2 : goal.shared_ref_as_front-put_gates-2
shared_ref_as_front-put_gates-2 c = let w = parts_within c.requires.parts in omega (arith, w.golden.gates)

pub overflow_add-base-2 : goal.overflow_add-base-2
overflow_add-base-2 c = let w = parts_within c.requires.parts in omega arith

pub put_gates-requires-2 : goal.put_gates-requires-2
put_gates-requires-2 c =
    let q = c.requires.parts in
    let w = parts_within q in
    (golden-fit q, search (rules, overwrites, w.old.gates, w.golden.gates, q.golden-long, c.put_gates.auto.out))

pub shared_ref_as_front-nets_from : goal.shared_ref_as_front-nets_from
shared_ref_as_front-nets_from c = let w = parts_within c.requires.parts in omega (arith, w.old.outputs)

pub nets_from-outputs-requires : goal.nets_from-outputs-requires
nets_from-outputs-requires c = outputs-fit c.requires.parts

pub nets_from-goldens-requires : goal.nets_from-goldens-requires
nets_from-goldens-requires c = goldens-fit c.requires.parts

pub invariant_of-result : goal.invariant_of-result
invariant_of-result c =
    let w = parts_within c.requires.parts in record {
      inputs_bound = w.inputs;
      targets_bound = w.targets;
      count_bound = omega (arith, w.old.gates, w.golden.gates);
      outs_bound = w.old.outputs;
      outputs_below = c.nets_from-outputs.ensures.0;
      goldens_below = c.nets_from-goldens.ensures.0;
    }

pub returns : goal.returns
unfolding counts_of side_counts_of
returns c j q =
    let p = c.args.job.now in
    let w = parts_within q in
    let n = p.counts.inputs in
    let a = length-codes p.old p.counts.old.gates n 0 (n + p.counts.targets) (omega (arith, w.old.gates, q.old-long)) in
    let b = length-codes p.golden p.counts.golden.gates n (p.counts.targets + p.counts.old.gates) (n + p.counts.targets + p.counts.old.gates)
    (omega (arith, w.golden.gates, q.golden-long)) in
    record {
      good = q.good;
      forms = made-forms q;
      inputs = ap (λ (n : Counts). n.inputs) q.counts;
      targets = ap (λ (n : Counts). n.targets) q.counts;
      count = made-count q;
      gates = made-codes q _ (rw (c.put_gates.ensures, c.put_gates-2.ensures) (put-behind _ _ _ _ _ _ a b));
      outs = ap (λ (n : Counts). n.old.outputs) q.counts;
      outputs = made-outputs q _ (ap (λ (k : ℕ). take k c.nets_from-outputs.result) (sym (length-take-le p.counts.old.outputs p.outputs (omega (arith, w.old.outputs, q.outputs-long)))) ∙ c.nets_from-outputs.ensures.1);
      goldens = made-goldens q _ (ap (λ (k : ℕ). take k c.nets_from-goldens.result) (sym (length-take-le p.counts.old.outputs p.goldens (omega (arith, w.old.outputs, q.goldens-long)))) ∙ c.nets_from-goldens.ensures.1);
    }
