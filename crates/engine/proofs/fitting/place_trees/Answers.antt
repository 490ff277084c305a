-- `engine::fitting::place_trees` meets its contract. Assumes nothing.
use Prim.Native.Nat.{◌^◌, ℕ}
use mathlib.Core.Path.{◌≡◌, ◌∙◌, ap}
use mathlib.Core.List.{map}
use native.Mathlib.Omega.{arith}
use lib.ListN.{length, get_or, length-map}
use Rattle.engine.proofs.Laws.FitCode.{moved-nets, trees-placed}
use Rattle.engine.proofs.fitting.place_trees.Goals as goal
use Rattle.engine.proofs.fitting.place_trees.Goals.{After-move_nets}

-- the nets at their numbers
moved : (c : After-move_nets) → c.move_nets.new.nets ≡ map (λ o. get_or c.args.new.now.numbers o 0) c.args.nets.now
moved c = c.move_nets.ensures ∙ ap (map (λ o. get_or c.args.new.now.numbers o 0)) c.copy_from_slice.ensures.after

pub move_nets-requires : goal.move_nets-requires
move_nets-requires c = rw c.copy_from_slice.ensures.after c.requires.nets_bound.2

pub put_trees-new-requires : goal.put_trees-new-requires
put_trees-new-requires c =
    let a = c.args in
    let r = c.requires in
    let e = moved (goal.at.put_trees-new-requires c).After-move_nets in
    let m : length c.move_nets.new.nets ≡ length a.nets.now = ap length e ∙ length-map a.nets.now (λ o. get_or a.new.now.numbers o 0) in
    record {
      nets_bound = (
        omega (arith, m, r.nets_bound.0),
        omega (arith, ap (λ (k : ℕ). 2 ^ k) m, r.nets_bound.1),
        moved-nets a.new.now.numbers a.nets.now e r.nets_bound.2 r.targets_bound.2,
      );
      targets_bound = (r.targets_bound.0, r.targets_bound.1);
      gate_room = rw m r.gate_room;
    }

pub returns : goal.returns
returns c =
    let a = c.args in
    trees-placed a.inputs a.targets a.nets.now a.new.now _ c.requires.nets_bound.1 (moved (goal.at.returns c).After-move_nets) c.put_trees-new.ensures
