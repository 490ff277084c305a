-- Laws of gates in a row: when they are good, and lists of values that agree with each of them. Assumes nothing.
--
--   Local f                  f goes by a gate's used operands: what stands for other nets has no say
--   Consistent f ws net gs   in the list ws the gates gs, which drive net, net + 1, .., have what f says of each from ws itself
use Prim.Native.Nat.{ℕ, zero, suc, ◌+◌, ◌<◌}
use mathlib.Core.Path.{◌≡◌, refl, sym, ◌∙◌, ap}
use mathlib.Core.List.{List, [], ◌∷◌, ◌++◌, map}
use mathlib.Core.Bool.{true}
use native.Mathlib.Nat.{add-zero, add_assoc}
use native.Mathlib.Omega.{arith}
use borrow.Author.Tests.{ltb-true}
use lib.Dec.{ltb}
use lib.ListN.{length, get_or, length-append, get_or-append}
use lib.Seq.{get_or_at, get_or-append-add}
use Rattle.records.specs.Gate.{Gate, gate_of, operands, gate_value, disj}
use Rattle.records.specs.Netlist.{net_at, extended, value_of, mark_of}
use Rattle.records.specs.Refusal.{gate_good, gates_good}
use Rattle.records.proofs.Laws.Bytes.{and_left, and_right, and_both}
use Rattle.records.proofs.Laws.Gate.{gate_good-parts}
use Rattle.engine.proofs.Laws.Choice.{all_true, map-agree}
use Rattle.engine.proofs.Laws.Eval.{Bits, bits-nil, bits-cons, bits-append}

-- what stands for a gate past the end of a list
abbrev pub no_gate : Gate
no_gate = gate_of 0 0 0 0 0 0

-- ---- good gates

pub good-append : (net : ℕ) (gs hs : List Gate) → gates_good net gs ≡ true → gates_good (net + length gs) hs ≡ true
    → gates_good net (gs ++ hs) ≡ true
unfolding gates_good
good-append net [] hs p q = rw add-zero at q
good-append net (g ∷ gs) hs p q =
    let e : net + suc (length gs) ≡ suc net + length gs = omega arith in
    and_both (gate_good net g) (gates_good (suc net) (gs ++ hs))
    (and_left (gate_good net g) (gates_good (suc net) gs) p)
    (good-append (suc net) gs hs (and_right (gate_good net g) (gates_good (suc net) gs) p) (rw e at q))

-- each gate is good at its net
pub good-at : (net : ℕ) (gs : List Gate) → gates_good net gs ≡ true → (r : ℕ) → r < length gs
    → gate_good (net + r) (get_or gs r no_gate) ≡ true
unfolding gates_good
good-at net [] p r h = let f : ⊥ = omega arith in absurd f
good-at net (g ∷ gs) p zero h = rw add-zero (and_left (gate_good net g) (gates_good (suc net) gs) p)
good-at net (g ∷ gs) p (suc r) h =
    let e : net + suc r ≡ suc net + r = omega arith in
    rw e (good-at (suc net) gs (and_right (gate_good net g) (gates_good (suc net) gs) p) r (omega arith))

pub good-of-each : (net : ℕ) (gs : List Gate)
    → ((r : ℕ) → r < length gs → gate_good (net + r) (get_or gs r no_gate) ≡ true) → gates_good net gs ≡ true
unfolding gates_good
good-of-each net [] h = refl
good-of-each net (g ∷ gs) h =
    and_both (gate_good net g) (gates_good (suc net) gs)
    (rw add-zero at (h 0 (omega arith)))
    (good-of-each (suc net) gs
    (λ r l. let e : net + suc r ≡ suc net + r = omega arith in rw e at (h (suc r) (omega arith))))

-- ---- gates in turn

abbrev pub Local : (List ℕ → Gate → ℕ) → Type 0
Local f = (vs ws : List ℕ) (g : Gate) → map (net_at vs) (operands g) ≡ map (net_at ws) (operands g) → f vs g ≡ f ws g

pub value_of-local : Local value_of
unfolding value_of
value_of-local vs ws g e = ap (gate_value g.kind) e

pub mark_of-local : Local mark_of
unfolding mark_of
mark_of-local vs ws g e = ap disj e

pub record Consistent (f : List ℕ → Gate → ℕ) (ws : List ℕ) (net : ℕ) (gs : List Gate) : Type 0 where
  pub at : (r : ℕ) → r < length gs → net_at ws (net + r) ≡ f ws (get_or gs r no_gate)

module _ (f : List ℕ → Gate → ℕ) (ws : List ℕ) (net : ℕ) (gs hs : List Gate) (c : Consistent f ws net (gs ++ hs)) where
  pub consistent-left : Consistent f ws net gs
  consistent-left =
      record {
        at =
            λ r h.
            c.at r (omega (arith, length-append gs hs)) ∙ ap (f ws) (get_or-append gs hs no_gate r h);
      }

  pub consistent-right : Consistent f ws (net + length gs) hs
  consistent-right =
      record {
        at =
            λ r h.
            ap (net_at ws) (add_assoc net (length gs) r)
            ∙ c.at (length gs + r) (omega (arith, length-append gs hs))
            ∙ ap (f ws) (get_or-append-add gs hs r no_gate);
      }

module _ (f : List ℕ → Gate → ℕ) where
  -- what stands in a list stands in the list extended
  pub net_at-extended : (known : List ℕ) (gs : List Gate) (i : ℕ) → i < length known
      → net_at (extended f known gs) i ≡ net_at known i
  unfolding extended net_at
  net_at-extended known [] i h = refl
  net_at-extended known (g ∷ gs) i h =
      let v = f known g in
      net_at-extended (known ++ (v ∷ [])) gs i (omega (arith, length-append known (v ∷ [])))
      ∙ get_or-append known (v ∷ []) 0 i h

  -- .. and after it what f says of each gate, which is what f says of it from all the list
  pub extended-consistent : Local f → (known : List ℕ) (gs : List Gate) → gates_good (length known) gs ≡ true
      → (r : ℕ) → r < length gs
      → net_at (extended f known gs) (length known + r) ≡ f (extended f known gs) (get_or gs r no_gate)
  unfolding extended gates_good net_at
  extended-consistent l known [] p r h = let x : ⊥ = omega arith in absurd x
  extended-consistent l known (g ∷ gs) p zero h =
      let v = f known g in
      let ws = extended f (known ++ (v ∷ [])) gs in
      let o = (gate_good-parts (length known) g (and_left (gate_good (length known) g) (gates_good (suc (length known)) gs) p)).0 in
      let e : length known < length (known ++ (v ∷ [])) = omega (arith, length-append known (v ∷ [])) in
      ap (net_at ws) (add-zero (length known))
      ∙ net_at-extended (known ++ (v ∷ [])) gs (length known) e
      ∙ get_or_at known v [] 0 (length known) refl
      ∙ l known ws g
      (map-agree (net_at known) (net_at ws) (operands g)
      (λ i m.
      sym
      (net_at-extended known (g ∷ gs) i
      (ltb-true i (length known) (all_true (λ i. ltb i (length known)) (operands g) o i m)))))
  extended-consistent l known (g ∷ gs) p (suc r) h =
      let v = f known g in
      let e : length (known ++ (v ∷ [])) ≡ suc (length known) = length-append known (v ∷ []) ∙ omega arith in
      let n : length known + suc r ≡ length (known ++ (v ∷ [])) + r = omega arith in
      ap (net_at (extended f (known ++ (v ∷ [])) gs)) n
      ∙ extended-consistent l (known ++ (v ∷ [])) gs
      (rw e (and_right (gate_good (length known) g) (gates_good (suc (length known)) gs) p))
      r
      (omega arith)

  pub consistent-extended : Local f → (known : List ℕ) (gs : List Gate) (net : ℕ) → length known ≡ net
      → gates_good net gs ≡ true → Consistent f (extended f known gs) net gs
  consistent-extended l known gs net e p =
      record {
        at =
            λ r h.
            ap (λ (k : ℕ). net_at (extended f known gs) (k + r)) (sym e)
            ∙ extended-consistent l known gs (rw e p) r h;
      }

  -- where f gives bits from bits, the list extended has only bits
  pub extended-bits : ((known : List ℕ) → Bits known → (g : Gate) → f known g < 2)
      → (known : List ℕ) → Bits known → (gs : List Gate) → Bits (extended f known gs)
  unfolding extended
  extended-bits h known b [] = b
  extended-bits h known b (g ∷ gs) =
      extended-bits h (known ++ (f known g ∷ [])) (bits-append b (bits-cons (h known b g) bits-nil)) gs
