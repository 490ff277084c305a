-- `engine::tree::put_mux` meets its contract. Assumes nothing.
use native.Mathlib.Omega.{arith}
use Rattle.engine.specs.Tree.{not_of, and_of, or_of, join_gates}
use Rattle.engine.proofs.Laws.Tree.{room-less, room_next, gates-put-append}
use Rattle.engine.proofs.tree.put_mux.Goals as goal

pub add_gate-a-requires : goal.add_gate-a-requires
add_gate-a-requires c =
    let p = c.requires in
    (room-less p.0 (omega arith), omega arith, omega arith, p.1, omega arith)

pub add_gate-b-requires : goal.add_gate-b-requires
add_gate-b-requires c =
    let p = c.requires in
    let a = c.add_gate-a.ensures in
    (room_next p.0 a (omega (arith, a.end)), omega arith, omega arith, omega (arith, p.0.nets), p.2)

pub add_gate-c-requires : goal.add_gate-c-requires
add_gate-c-requires c =
    let p = c.requires in
    let b = gates-put-append c.add_gate-a.ensures c.add_gate-b.ensures in
    (room_next p.0 b (omega (arith, b.end)), omega arith, omega arith, p.1, omega (arith, p.0.nets))

pub add_gate-requires : goal.add_gate-requires
add_gate-requires c =
    let p = c.requires in
    let b =
    gates-put-append (gates-put-append c.add_gate-a.ensures
    c.add_gate-b.ensures)
    c.add_gate-c.ensures in
    (room_next p.0 b (omega (arith, b.end)), omega arith, omega arith, omega (arith, p.0.nets), omega (arith, p.0.nets))

pub returns : goal.returns
unfolding join_gates not_of and_of or_of
returns c =
    gates-put-append
    (gates-put-append
    (gates-put-append c.add_gate-a.ensures
    c.add_gate-b.ensures)
    c.add_gate-c.ensures)
    c.add_gate.ensures
