-- `records::gate::plain_value` meets its contract: each arm is the table's entry of that kind, on 0 and 1. Assumes nothing.
use Prim.Native.Nat.{ℕ}
use mathlib.Core.List.{[], ◌∷◌}
use mathlib.Core.Path.{◌≡◌, refl, sym}
use native.Mathlib.Omega.{arith}
use lib.Dec.{lit≤}
use Rattle.records.specs.Gate.{gate_value}
use Rattle.records.proofs.Laws.Gate.{Gives, and-bits, or-bits, xor-bits, gate_value-other}
use Rattle.records.proofs.gate.plain_value.Goals as goal

-- a kind that is n has the value of kind n
at-kind : (x y : ℕ) {k n v : ℕ} → k ≡ n → Gives n x y v → Gives k x y v
at-kind x y e p = rw e p

pub returns-in-2 : goal.returns-in-2
unfolding gate_value
returns-in-2 c = let x = c.args in at-kind x.x x.y c.in-2.is (refl, omega arith)

pub returns-in-4 : goal.returns-in-4
returns-in-4 c =
    let x = c.args in
    at-kind x.x x.y c.in-4.is (and-bits x.x x.y (omega arith) (omega arith))

pub returns-in-6 : goal.returns-in-6
returns-in-6 c =
    let x = c.args in
    at-kind x.x x.y c.in-6.is (or-bits x.x x.y (omega arith) (omega arith))

pub returns-in-8 : goal.returns-in-8
returns-in-8 c =
    let x = c.args in
    at-kind x.x x.y c.in-8.is (xor-bits x.x x.y (omega arith) (omega arith))

pub returns-in_default : goal.returns-in_default
returns-in_default c =
    let x = c.args in
    (sym (gate_value-other (x.x ∷ x.y ∷ []) x.kind c.requires.0 c.in_default.in_default-own.rest), lit≤ tt)
