-- `records::field::walked` meets its contract: what it knows after each field is a law of the walk. Assumes nothing.
use native.Mathlib.Omega.{arith}
use mathlib.Core.Path.{◌≡◌, refl, sym, ◌∙◌, ap}
use mathlib.Core.List.{List}
use Prim.Native.Nat.{ℕ, ◌+◌}
use borrow.Author.Tests.{eq-eqb, ne_eqb}
use denote.Ref.{Bor}
use Rattle.records.proofs.Laws.Field.{end-within}
use Rattle.records.proofs.Laws.Walk.{walk-start, walk-missing, walk-more, walk-ends}
use Rattle.records.proofs.field.walked.Goals as goal

pub loop-i-init : goal.loop-i-init
loop-i-init c = record { bytes = refl; walking = walk-start _ _ _ _ refl }

pub returns-in_err-span : goal.returns-in_err-span
returns-in_err-span c =
    let i = c.loop-i.invariant in
    rw c.from_residual.ensures (walk-missing _ _ _ _ _ _ i.walking c.loop-i-test.true (sym (c.in_err-span.ensures ∙ rw i.bytes refl)))

pub overflow_add-span : goal.overflow_add-span
overflow_add-span c =
    let i = c.loop-i.invariant in
    omega (arith, i.walking.inside, end-within c.args.s.now c.loop-i.reader.at (c.args.first + c.loop-i.i) c.in_ok-span.span (sym (c.in_ok-span.ensures ∙ rw i.bytes refl)))

pub loop-i-preserved : goal.loop-i-preserved
loop-i-preserved c =
    let i = c.loop-i.invariant in
    let m = c.moved-reader.ensures in
    record {
      bytes = ap (λ (b : Bor (List ℕ)). b.now) m.0 ∙ i.bytes;
      walking =
          rw m.1
          (walk-more _ _ _ _ _ _ i.walking c.loop-i-test.true _ (sym (c.in_ok-span.ensures ∙ rw i.bytes refl)) (omega arith));
    }

pub returns-then-reader-s : goal.returns-then-reader-s
returns-then-reader-s c =
    let w = c.loop-i.invariant.walking in
    let e : c.loop-i.i ≡ c.args.count = omega arith in
    (walk-ends _ _ _ _ _ (rw e at w) ∙ eq-eqb _ _ c.if-reader-s.true, rw e at w.spanned)

pub returns-else-reader-s : goal.returns-else-reader-s
returns-else-reader-s c =
    let w = c.loop-i.invariant.walking in
    let e : c.loop-i.i ≡ c.args.count = omega arith in
    walk-ends _ _ _ _ _ (rw e at w) ∙ ne_eqb _ _ c.if-reader-s.false
