-- `engine::miter::put_gates` meets its contract. Assumes nothing.
use mathlib.Core.Path.{◌≡◌, refl, sym, ◌∙◌, ap}
use native.Mathlib.Omega.{arith}
use Prim.Native.Nat.{ℕ}
use mathlib.Core.List.{List, map}
use lib.ListN.{length, take}
use lib.Seq.{take-length}
use Rattle.records.specs.Service.{gate_from, no_gate}
use Rattle.records.specs.declared.gate.Gate.{Gate as GateStruct}
use Rattle.engine.specs.Inner.Packed.{packed_from}
use Rattle.engine.specs.Inner.Shifted.{shifted}
use Rattle.engine.proofs.Laws.MiterCode.{putting-next}
use Rattle.engine.proofs.miter.put_gates.Goals as goal

pub loop-i-init : goal.loop-i-init
unfolding packed_from
loop-i-init c = refl

pub gate_code-requires : goal.gate_code-requires
unfolding no_gate
gate_code-requires c = (c.requires.0.gates c.loop-i.i c.loop-i-test.true, omega (arith, c.requires.0.nets))

pub loop-i-preserved : goal.loop-i-preserved
unfolding no_gate
loop-i-preserved c =
    let a = c.args in
    let l = c.loop-i in
    putting-next a.gates.now a.inputs a.shift a.base l.i c.gate_code.result l.out c.loop-i-test.true (omega arith) l.invariant
    c.gate_code.ensures

pub returns : goal.returns
returns c =
    let a = c.args in
    let l = c.loop-i in
    let e : l.i ≡ length a.gates.now = omega (arith, l.auto.i-end) in
    let o : length l.out ≡ l.i = l.auto.out ∙ c.requires.1 ∙ sym e in
    let f : List GateStruct → List ℕ = λ gs. packed_from a.base (map (shifted a.inputs a.shift) (map gate_from gs)) in
    sym (ap (λ (k : ℕ). take k l.out) (sym o) ∙ take-length l.out)
    ∙ l.invariant
    ∙ ap f (ap (λ (k : ℕ). take k a.gates.now) e ∙ take-length a.gates.now)
