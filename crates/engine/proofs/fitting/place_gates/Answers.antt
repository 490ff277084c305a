-- `engine::fitting::place_gates` meets its contract: the three groups, one behind the other. Assumes nothing.
use Prim.Native.Nat.{ℕ}
use native.Mathlib.Omega.{arith}
use lib.ListN.{length-replicate}
use Rattle.engine.proofs.Laws.FitCode.{old-held}
use Rattle.engine.proofs.Laws.FitPlaced.{support-nets, free-room, free-nets, trees-room, rest-room, grown-nets, gates-placed}
use Rattle.engine.proofs.fitting.place_gates.Goals as goal

pub place_marked-requires : goal.place_marked-requires
place_marked-requires c =
    let h = c.requires.0 in
    (c.number_inputs.ensures.nets, free-room (old-held c.args.old.now (omega arith)) h (length-replicate {A = ℕ} 400 0))

pub place_trees-requires : goal.place_trees-requires
place_trees-requires c =
    let p = c.requires in
    let h = p.0 in
    let v = old-held c.args.old.now (omega arith) in
    let l = length-replicate {A = ℕ} 400 0 in record {
      nets_bound = (h.few, h.entries, support-nets v h);
      targets_bound = (
        c.args.old.now.targets_bound,
        omega (arith, c.args.old.now.inputs_bound, c.args.old.now.targets_bound),
        free-nets v h p.1 c.number_inputs.ensures l c.place_marked.ensures,
      );
      gate_room = trees-room v h p.1 c.number_inputs.ensures l c.place_marked.ensures;
    }

pub place_marked-requires-2 : goal.place_marked-requires-2
place_marked-requires-2 c =
    let p = c.requires in
    let h = p.0 in
    let v = old-held c.args.old.now (omega arith) in
    let l = length-replicate {A = ℕ} 400 0 in (
      grown-nets v h p.1 c.number_inputs.ensures l c.place_marked.ensures c.place_trees.ensures,
      rest-room v h p.1 c.number_inputs.ensures l c.place_marked.ensures c.place_trees.ensures,
    )

pub returns : goal.returns
returns c =
    let p = c.requires in
    gates-placed (old-held c.args.old.now (omega arith)) p.0 p.1 c.number_inputs.ensures (length-replicate {A = ℕ} 400 0) c.place_marked.ensures
    c.place_trees.ensures
    c.place_marked-2.ensures
