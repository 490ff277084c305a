-- `records::gates::put_gate` meets its contract: two stores and four calls, each behind the one before. Assumes nothing.
use Rattle.records.specs.Service.{gate_from}
use Rattle.records.proofs.Laws.Job.{gate-placed}
use Rattle.records.proofs.gates.put_gate.Goals as goal

pub returns : goal.returns
unfolding gate_from
returns c =
    let a = c.args in
    gate-placed a.buf.now a.at _ _ _ _ _ _ c.requires c.put_word.ensures c.put_word-2.ensures c.put_word-3.ensures
    c.put_word-4.ensures
