-- `engine::list::Vectors::step` meets its contract, by its tests. Assumes nothing.
use mathlib.Core.Path.{sym, ◌∙◌}
use native.Mathlib.Omega.{arith}
use Rattle.engine.specs.Inner.List.{stuck_at, listed_of}
use Rattle.engine.proofs.Laws.VectorSets.{lowest-lt}
use Rattle.engine.proofs.Laws.Stream.{step-stuck, step-listed, step-none, step-full, step-append}
use Rattle.engine.proofs.list.Vectors.step.Goals as goal
use Rattle.engine.proofs.list.Vectors.step.Goals.{then-is_some-via-then-is_some, then-is_some-via-else-is_some+then-meets}

pub returns-then-is_some : goal.returns-then-is_some
returns-then-is_some c =
    let a = c.args in
    elim c.then-is_some.branch [
      | then-is_some-via-then-is_some w ↦ step-stuck a.self.now a.set a.input (sym c.is_some.ensures ∙ w.if-is_some.true)
      | then-is_some-via-else-is_some+then-meets w ↦ step-listed a.self.now a.set a.input (sym w.meets.ensures ∙ w.if-meets.true)
    ]

pub returns-then-set-eq0 : goal.returns-then-set-eq0
unfolding listed_of stuck_at
returns-then-set-eq0 c =
    let a = c.args in
    sym (step-none a.self.now a.set a.input (sym c.is_some.ensures ∙ c.if-is_some.false) (sym c.meets.ensures ∙ c.if-meets.false) c.if-set-eq0.true)

pub append-requires : goal.append-requires
append-requires c = (c.if-self-lt-VECTORS.true, omega (arith, c.lowest_of.ensures, lowest-lt c.from.result))

pub returns-then-self-lt-VECTORS : goal.returns-then-self-lt-VECTORS
returns-then-self-lt-VECTORS c =
    let a = c.args in
    rw (c.lowest_of.ensures, c.from.ensures) at c.append.ensures
    ∙ sym (step-append a.self.now a.set a.input (sym c.is_some.ensures ∙ c.if-is_some.false) (sym c.meets.ensures ∙ c.if-meets.false) (omega arith)
    c.if-set-eq0.false c.if-self-lt-VECTORS.true)

pub returns-else-self-lt-VECTORS : goal.returns-else-self-lt-VECTORS
returns-else-self-lt-VECTORS c =
    let a = c.args in
    step-full a.self.now a.set a.input (sym c.is_some.ensures ∙ c.if-is_some.false) (sym c.meets.ensures ∙ c.if-meets.false) (omega arith)
    c.if-set-eq0.false (omega arith) (omega arith)
