-- `engine::ternary::ternary_value` meets its contract. The loop's invariant: r is what is known of the plain kind on the operands from i
-- on; at the end the table of not inverts it for an odd kind. Assumes nothing.
use lib.ListN.{length}
use mathlib.Core.List.{[]}
use mathlib.Core.Path.{◌≡◌, sym, ◌∙◌, ap}
use native.Mathlib.Omega.{arith}
use Prim.Native.Nat.{ℕ, suc, ◌-◌, ◌%◌}
use Rattle.records.specs.Gate.{gate_value, conj}
use Rattle.records.proofs.Laws.Gate.{gate_value-nil}
use Rattle.engine.specs.Ternary.{ternary_value}
use Rattle.engine.proofs.Laws.Ternary.{knowns, length-knowns, ternaries-knowns, ternary_value-high, known-none, known-back, fold-inverts}
use Rattle.engine.proofs.ternary.ternary_value.Goals as goal
use Rattle.engine.proofs.ternary.ternary_value.Goals.{else-plain-eq-AND, then-plain-eq-AND}

pub returns-then-kind-gt9 : goal.returns-then-kind-gt9
returns-then-kind-gt9 c =
    let x = c.args in
    sym (ternary_value-high x.kind (knowns x.count x.operands) c.if-kind-gt9.true (ternaries-knowns x.count x.operands))

-- the plain kind of kind k
abbrev plain_of : ℕ → ℕ
plain_of k = k - k % 2

even : (k : ℕ) → plain_of k % 2 ≡ 0
even k = omega arith

pub loop-i-init : goal.loop-i-init
unfolding gate_value conj
loop-i-init c =
    let x = c.args in
    let k = x.kind in
    let none : c.if-plain-eq-AND.r ≡ gate_value (plain_of k) [] =
    elim c.if-plain-eq-AND.branch [
      | then-plain-eq-AND w ↦ rw (w.if-plain-eq-AND.true, w.r-is)
      | else-plain-eq-AND w ↦ w.r-is ∙ sym (gate_value-nil (plain_of k) (even k) w.if-plain-eq-AND.false)
    ] in
    let all : c.min-used.result ≡ length (knowns x.count x.operands) =
    omega (arith, c.min-used.ensures, length-knowns x.count x.operands) in
    (omega arith, known-none (plain_of k) (even k) x.count x.operands c.min-used.result c.if-plain-eq-AND.r all none)

pub loop-i-preserved : goal.loop-i-preserved
loop-i-preserved c =
    let x = c.args in
    let k = x.kind in
    let t = c.loop-i in
    let more = known-back (plain_of k) (even k) x.count x.operands t.i t.r (omega arith) t.invariant.0 t.invariant.1 in (
      omega arith,
      c.ternary_entry-r.ensures
          ∙ rw c.ternary_table-table.ensures more,
    )

pub returns-then-kind-eq1 : goal.returns-then-kind-eq1
returns-then-kind-eq1 c =
    let x = c.args in
    let vs = knowns x.count x.operands in
    let z : c.loop-i.i ≡ 0 = omega arith in
    let r : c.loop-i.r ≡ ternary_value (plain_of x.kind) vs = rw z at c.loop-i.invariant.1 in
    let k : x.kind ≡ suc (plain_of x.kind) = omega arith in
    c.ternary_entry.ensures
    ∙ rw (c.ternary_table.ensures, r)
    (sym (fold-inverts (plain_of x.kind) vs (even x.kind) (omega arith) (ternaries-knowns x.count x.operands)))
    ∙ ap (λ (n : ℕ). ternary_value n vs) (sym k)
