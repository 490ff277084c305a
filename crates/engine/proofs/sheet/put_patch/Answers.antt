-- `engine::sheet::put_patch` meets its contract: four fields, one behind the other. Assumes nothing.
use native.Mathlib.Omega.{arith}
use Rattle.engine.proofs.Laws.Sheet.{nets-end, bytes-end, number-end, patch-put}
use Rattle.engine.proofs.sheet.put_patch.Goals as goal

pub put_bytes-b-requires : goal.put_bytes-b-requires
put_bytes-b-requires c = let e = nets-end 16 c.args.nets.now c.put_nets-a.ensures in omega arith

pub put_number-c-requires : goal.put_number-c-requires
put_number-c-requires c =
    let e = nets-end 16 c.args.nets.now c.put_nets-a.ensures in
    let f = bytes-end 17 c.args.table.now c.put_bytes-b.ensures in
    omega arith

pub put_bytes-requires : goal.put_bytes-requires
put_bytes-requires c =
    let e = nets-end 16 c.args.nets.now c.put_nets-a.ensures in
    let f = bytes-end 17 c.args.table.now c.put_bytes-b.ensures in
    let g = number-end 18 c.args.cost c.put_number-c.ensures in
    omega arith

pub returns : goal.returns
returns c =
    let a = c.args in
    let r = c.requires in
    patch-put r.0 a.nets.now a.table.now a.cost a.notes.now r.1 r.2 r.3 c.put_nets-a.ensures c.put_bytes-b.ensures c.put_number-c.ensures
    c.put_bytes.ensures
