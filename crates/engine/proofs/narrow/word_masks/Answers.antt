-- `engine::narrow::word_masks` meets its contract. The invariant: the rows of the vectors taken so far are done, and the words are those at the
-- last of them. Assumes nothing.
use Prim.Native.Nat.{ℕ, ◌^◌, ◌<◌}
use mathlib.Core.Path.{◌≡◌, refl, ◌∙◌, subst}
use native.Mathlib.Nat.{one-mul}
use native.Mathlib.Omega.{arith}
use lib.Dec.{lit<}
use lib.Pow.{shl_exact}
use Rattle.records.specs.Job.{Job}
use Rattle.engine.specs.Inner.Miter.{MergedOf}
use Rattle.engine.proofs.Laws.Narrow.{narrow-of, WordsTo, words-none, words-next, words-all}
use Rattle.engine.proofs.Laws.Gray.{ordered-lt}
use Rattle.engine.proofs.Laws.Searching.{vectors-many}
use Rattle.engine.proofs.narrow.word_masks.Goals as goal

pub loop-step-init : goal.loop-step-init
loop-step-init c =
    let v = shl_exact 1 c.args.miter.now.targets 64 (lit< tt) (omega (arith, c.args.miter.now.targets_bound)) ∙ one-mul (2 ^ c.args.miter.now.targets) in
    (omega arith, refl, omega arith, v, λ j q. words-none j c.args.miter.now _)

pub vector_at-v-requires : goal.vector_at-v-requires
vector_at-v-requires c =
    let step-few : c.loop-step.step < 16 =
    omega (arith, c.loop-step.invariant.3, vectors-many c.args.miter.now.targets_bound) in
    (lit< tt, step-few)

pub set_row-requires : goal.set_row-requires
set_row-requires c =
    let step-few : c.loop-step.step < 16 =
    omega (arith, c.loop-step.invariant.3, vectors-many c.args.miter.now.targets_bound) in
    let v = c.vector_at-v in
    let l = c.loop-step in
    omega (arith, v.ensures, ordered-lt 0 (lit< tt) l.step step-few)

pub loop-step-preserved : goal.loop-step-preserved
loop-step-preserved c =
    let step-few : c.loop-step.step < 16 =
    omega (arith, c.loop-step.invariant.3, vectors-many c.args.miter.now.targets_bound) in
    let e = c.eval_vector in
    let m = c.args.miter.now in
    let v = c.vector_at-v in (
      omega arith,
      c.set_row.ensures.long ∙ c.loop-step.invariant.1,
      omega arith,
      c.loop-step.invariant.3,
      λ j q.
          words-next j m c.loop-step.step v.result c.equal_word-r.result q c.requires step-few v.ensures
          (c.loop-step.invariant.4 j q)
          (c.eval_vector.ensures j (narrow-of q c.requires))
          c.equal_word-r.ensures
          c.set_row.ensures,
    )

pub returns : goal.returns
returns c =
    let m = c.args.miter.now in
    let e : c.loop-step.step ≡ 2 ^ m.targets = omega (arith, c.loop-step.invariant.3, c.loop-step.invariant.2) in
    let all : (j : Job) → MergedOf j m → _ =
    λ j q. words-all j m q c.args.miter.now.targets_bound (subst (λ (k : ℕ). WordsTo j m k c.loop-step.words c.loop-step.masks) e (c.loop-step.invariant.4 j q)) in
    record {
      masks = λ j q. (all j q).0;
      words = λ j q. (all j q).1;
    }
