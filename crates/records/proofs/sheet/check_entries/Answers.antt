-- `records::sheet::check_entries` meets its contract. Assumes nothing.
use mathlib.Core.Path.{sym, ◌∙◌}
use Prim.Native.Nat.{◌-◌, ◌<◌}
use lib.ListN.{take, drop}
use Rattle.std.proofs.Common.{rules, IsTrue, EachIndex, ◌↔◌, get_or}
use Rattle.records.specs.Inner.{check_of}
use Rattle.records.proofs.Laws.Sheet.{below-each}
use Rattle.records.proofs.sheet.check_entries.Goals as goal

pub returns-then-all : goal.returns-then-all
unfolding check_of
returns-then-all c =
    let a = c.args in
    let e : IsTrue c.all.result ↔ EachIndex (take (a.end - a.from) (drop a.from a.s.now)) (λ k. get_or (take (a.end - a.from) (drop a.from a.s.now)) k 0 < a.limit) = search rules in
    rw (sym (below-each a.limit (take (a.end - a.from) (drop a.from a.s.now)) e) ∙ c.if-all.true)

pub returns-else-all : goal.returns-else-all
unfolding check_of
returns-else-all c =
    let a = c.args in
    let e : IsTrue c.all.result ↔ EachIndex (take (a.end - a.from) (drop a.from a.s.now)) (λ k. get_or (take (a.end - a.from) (drop a.from a.s.now)) k 0 < a.limit) = search rules in
    rw (sym (below-each a.limit (take (a.end - a.from) (drop a.from a.s.now)) e) ∙ c.if-all.false)
