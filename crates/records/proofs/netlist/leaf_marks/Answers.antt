-- `records::netlist::leaf_marks` meets its contract: zeros, and ones filled in behind the inputs. Assumes nothing.
use native.Mathlib.Omega.{arith}
use Rattle.std.proofs.Common.{rules, ◌≡◌, replicate}
use Rattle.records.proofs.Laws.Netlist.{leaf_marks-filled}
use Rattle.records.proofs.netlist.leaf_marks.Goals as goal

pub returns : goal.returns
returns c =
    let a = c.args in
    let e : c.fill.new.self ≡ replicate a.targets 1 = search rules in
    leaf_marks-filled a.inputs a.targets _ 424 _ (omega (arith, c.requires)) e
