-- `engine::netlist::put_code` meets its contract. Assumes nothing.
use Prim.Native.Nat.{◌-◌}
use mathlib.Core.Path.{◌≡◌, ◌∙◌, ap}
use native.Mathlib.Omega.{arith}
use lib.ListN.{length, set, length-set, drop}
use Rattle.std.proofs.lemmas.List.{length-take, length-drop}
use Rattle.records.specs.Bytes.{flat, byte_pair}
use Rattle.engine.specs.Inner.Packed.{fields}
use Rattle.engine.proofs.Laws.Fitting.{code-put}
use Rattle.engine.proofs.netlist.put_code.Goals as goal

pub put_pairs-requires : goal.put_pairs-requires
unfolding fields
put_pairs-requires c =
    let bs = c.args.bytes.now in
    let ds = set (set bs 0 c.kind_of.result) 1 c.count_of.result in
    let m : length ds ≡ 10 = length-set (set bs 0 c.kind_of.result) 1 c.count_of.result ∙ length-set bs 0 c.kind_of.result ∙ c.requires in
    let k : length c.slots_in.result ≡ 4 = ap length c.slots_in.ensures in
    omega (arith, m, k, length-take (length ds - 2) (drop 2 ds), length-drop 2 ds)

pub returns : goal.returns
returns c =
    let bs = c.args.bytes.now in
    let m : length (set (set bs 0 c.kind_of.result) 1 c.count_of.result) ≡ 10 =
    length-set (set bs 0 c.kind_of.result) 1 c.count_of.result ∙ length-set bs 0 c.kind_of.result ∙ c.requires in
    code-put bs c.args.c _ c.requires (omega (arith, m)) c.kind_of.ensures c.count_of.ensures
    (c.put_pairs.ensures ∙ ap (flat byte_pair) c.slots_in.ensures)
