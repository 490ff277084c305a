-- `engine::tree::add_gate` meets its contract. Assumes nothing.
use Rattle.records.specs.Gate.{gate_of}
use Rattle.engine.proofs.Laws.Tree.{gates-put-one}
use Rattle.engine.proofs.tree.add_gate.Goals as goal

pub returns : goal.returns
unfolding gate_of
returns c =
    let a = c.args in
    rw c.pack.ensures
    (gates-put-one a.base a.at a.gates.now c.requires.0 (gate_of a.kind a.count a.a a.b 0 0))
