-- `engine::guess::try_listed` meets its contract. The invariant: the row says 1 only of inputs that a listed vector rectifies. Assumes
-- nothing.
use native.Mathlib.Omega.{arith}
use Rattle.engine.specs.Inner.List.{listed_of}
use Rattle.engine.proofs.Laws.Guess.{any_at, shown-none, shown-next, vector-free}
use Rattle.engine.proofs.guess.try_listed.Goals as goal

pub loop-v-init : goal.loop-v-init
loop-v-init c =
    (λ j is q b f. f, shown-none c.args.plan.now c.args.words.now _)

pub returns-then-count-first_zero : goal.returns-then-count-first_zero
returns-then-count-first_zero c =
    let a = c.args in
    let l = c.loop-v in
    let w = c.vector_block.ensures in
    let vs = (listed_of a.list).vectors in
    let same = c.listed-v-items.ensures in
    let shown =
    shown-next _ _ vs l.row _ _ _ (any_at vs l.v-index (rw same at c.loop-v-test.true)) l.invariant.1 l.invariant.0 (rw same at w)
    c.equal_row.ensures c.join_rows-next.ensures in
    let f = c.first_zero.ensures in
    record {
      free_kept = vector-free l.invariant.0 w;
      block_shown = λ t j is q b g y h. shown j is q b g y (omega (arith, f.most)) (f.ones y (omega arith));
    }

pub loop-v-preserved : goal.loop-v-preserved
loop-v-preserved c =
    let a = c.args in
    let l = c.loop-v in
    let w = c.vector_block.ensures in
    let vs = (listed_of a.list).vectors in
    let same = c.listed-v-items.ensures in
    let shown =
    shown-next _ _ vs l.row _ _ _ (any_at vs l.v-index (rw same at c.loop-v-test.true)) l.invariant.1 l.invariant.0 (rw same at w)
    c.equal_row.ensures c.join_rows-next.ensures in
    (vector-free l.invariant.0 w, shown)
