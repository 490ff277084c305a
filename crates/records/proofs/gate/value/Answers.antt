-- `records::gate::value` meets its contract. The loop's invariant: r is the plain kind's value on the operands from i on; at
-- the end an odd kind inverts it. Assumes nothing.
use lib.ListN.{length}
use mathlib.Core.List.{[]}
use mathlib.Core.Path.{◌≡◌, sym, ◌∙◌, ap}
use native.Mathlib.Omega.{arith}
use Prim.Native.Nat.{ℕ, suc, ◌-◌, ◌%◌, ◌<◌}
use Rattle.records.specs.Gate.{gate_value, conj, inverted}
use Rattle.records.proofs.Laws.Gate.{lowest, length-lowest, gate_value-high, gate_value-nil, fold-none, fold-back, odd-inverts}
use Rattle.records.proofs.gate.value.Goals as goal
use Rattle.records.proofs.gate.value.Goals.{else-count-lt4, else-plain-eq4, then-count-lt4, then-plain-eq4}

pub returns-then-kind-gt9 : goal.returns-then-kind-gt9
returns-then-kind-gt9 c =
    let x = c.args in
    sym (gate_value-high x.kind (lowest x.count x.operands) c.if-kind-gt9.true)

-- the plain kind of kind k
abbrev plain_of : ℕ → ℕ
plain_of k = k - k % 2

even : (k : ℕ) → plain_of k % 2 ≡ 0
even k = omega arith

pub loop-i-init : goal.loop-i-init
unfolding gate_value conj
loop-i-init c =
    let none : c.if-plain-eq4.r ≡ gate_value (plain_of c.args.kind) [] =
    let k = c.args.kind in
    elim c.if-plain-eq4.branch [ then-plain-eq4 w ↦ rw (w.if-plain-eq4.true, w.r-is) | else-plain-eq4 w ↦ w.r-is ∙ sym (gate_value-nil (plain_of k) (even k) w.if-plain-eq4.false) ] in
    let all : let x = c.args in c.if-count-lt4.i ≡ length (lowest x.count x.operands) =
    let n : length c.args.operands ≡ 4 = omega arith in
    let m = length-lowest c.args.count c.args.operands in
    elim c.if-count-lt4.branch [ then-count-lt4 w ↦ omega arith | else-count-lt4 w ↦ omega arith ] in
    let x = c.args in
    let n = all in
    let b : c.if-plain-eq4.r < 2 = elim c.if-plain-eq4.branch [ then-plain-eq4 w ↦ omega arith | else-plain-eq4 w ↦ omega arith ] in
    let k = x.kind in
    (omega arith, b, fold-none (plain_of k) (even k) x.count x.operands c.if-count-lt4.i c.if-plain-eq4.r n none)

pub loop-i-preserved : goal.loop-i-preserved
loop-i-preserved c =
    let x = c.args in
    let k = x.kind in
    let t = c.loop-i in
    let more = fold-back (plain_of k) (even k) x.count x.operands t.i t.r (omega arith) t.invariant.0 t.invariant.2 in
    (omega arith, omega arith, c.plain_value-r.ensures.0 ∙ more)

pub returns-then-kind-eq1 : goal.returns-then-kind-eq1
unfolding inverted
returns-then-kind-eq1 c =
    let x = c.args in
    let vs = lowest x.count x.operands in
    let z : c.loop-i.i ≡ 0 = omega arith in
    let k : x.kind ≡ suc (plain_of x.kind) = omega arith in
    ap inverted (rw z at c.loop-i.invariant.2)
    ∙ sym (odd-inverts (plain_of x.kind) vs (even x.kind) (omega arith))
    ∙ ap (λ (n : ℕ). gate_value n vs) (sym k)
