-- `engine::merge::merged` meets its contract. Assumes nothing.
use Prim.Native.Nat.{ℕ, ◌≤◌}
use mathlib.Core.Path.{◌≡◌, ◌∙◌, ap, sym}
use mathlib.Core.List.{List, ◌++◌, map}
use native.Mathlib.Omega.{arith}
use lib.ListN.{length, get_or, take, drop, length-map}
use lib.Seq.{length-take-le}
use Rattle.records.specs.Claims.{Below}
use Rattle.engine.specs.Inner.Tree.{Nets}
use Rattle.engine.proofs.Laws.InPlace.{below-map, below-take, take-mapped}
use Rattle.engine.proofs.Laws.Merge.{miter-merged, moved-pairs}
use Rattle.engine.proofs.Laws.Pairs.{kept-pairs}
use Rattle.engine.proofs.merge.merged.Goals as goal

-- nets that have been moved are nets
below : (ns is : List ℕ) (n : ℕ) → Nets 1024 ns → Below 1024 is → Below 1024 (map (λ o. get_or ns o 0) (take n is))
below ns is n h b =
    below-map 1024 (λ o. get_or ns o 0) (take n is) (omega arith)
    (λ i l. h (get_or (take n is) i 0) (below-take 1024 (omega arith) n is (λ k m. b k) i))

-- the first of them, as they are passed on
nets : (ns is : List ℕ) (n : ℕ) {js : List ℕ} → n ≤ length is → js ≡ map (λ o. get_or ns o 0) (take n is)
    → take n (js ++ drop n is) ≡ map (λ o. get_or ns o 0) (take n is)
nets ns is n h e = rw e (take-mapped (λ o. get_or ns o 0) n is h)

-- .. and how many they are
long : (ns is : List ℕ) (n : ℕ) {js : List ℕ} → n ≤ length is → js ≡ map (λ o. get_or ns o 0) (take n is)
    → length (take n (js ++ drop n is)) ≡ n
long ns is n h e =
    ap length (nets ns is n h e) ∙ length-map (take n is) (λ o. get_or ns o 0) ∙ length-take-le n is h

pub invariant_of-result : goal.invariant_of-result
invariant_of-result c =
    let m = c.args.miter.now in
    let k = c.pairs_apart-pairs.ensures in
    let g = c.merge_gates-merged in
    let a = nets g.result.stands m.outputs m.outs (omega (arith, m.outs_bound)) c.move_nets.ensures in
    let b = nets g.result.stands m.goldens m.outs (omega (arith, m.outs_bound)) c.move_nets-2.ensures in
    let l = k.below 1024 (omega arith) (λ i h. rw (a, b) (below g.result.stands m.outputs m.outs g.ensures.nets m.outputs_below i, below g.result.stands m.goldens m.outs g.ensures.nets m.goldens_below i)) in
    record {
      inputs_bound = m.inputs_bound;
      targets_bound = m.targets_bound;
      count_bound = m.count_bound;
      outs_bound = omega (arith, m.outs_bound, k.few, long g.result.stands m.outputs m.outs (omega (arith, m.outs_bound)) c.move_nets.ensures);
      outputs_below = λ i. (l i).0;
      goldens_below = λ i. (l i).1;
    }

pub returns : goal.returns
returns c j q =
    let m = c.args.miter.now in
    let g = c.merge_gates-merged in
    let d = miter-merged g.ensures q in
    let a = nets g.result.stands m.outputs m.outs (omega (arith, m.outs_bound)) c.move_nets.ensures in
    let b = nets g.result.stands m.goldens m.outs (omega (arith, m.outs_bound)) c.move_nets-2.ensures in
    record {
      good = q.good;
      inputs = q.inputs;
      targets = q.targets;
      count = q.count;
      merged = d.merged;
      same = d.same;
      gates = d.gates;
      pairs = kept-pairs (rw (a, b) (moved-pairs g.ensures q)) c.pairs_apart-pairs.ensures
          (long g.result.stands m.goldens m.outs (omega (arith, m.outs_bound)) c.move_nets-2.ensures
          ∙ sym (long g.result.stands m.outputs m.outs (omega (arith, m.outs_bound)) c.move_nets.ensures));
    }
