-- One netlist of both circuits (the field's miter): inputs, targets, old gates, golden gates (src/miter.rt). No public contract cites
-- this file. Assumes nothing.
--
--   shift_of j           how far golden gates stand behind their own nets
--   miter_gates j, miter_goldens j     the gates of both netlists, old first; the golden outputs' nets
--   miter_nets j         how many nets
--   miter_values j x v   the value of each net at input x and vector v
--   codes j              the gates packed
--   on_operands F vs g   F of gate g's kind and of what vs has at its operands
--   SameGates d gs hs    the gates hs may stand for the gates gs, over d leaves: whatever depends on a gate's kind and on what its operands
--                        have comes out the same at every net
--   SomeParts p          p are the parts of some good job
--   MiterOf j m          the struct m has the miter of the good job j
--   PairsOf j os gs      the values of the nets os and gs are the same, pair by pair, exactly when the vector rectifies the input
--   MergedOf j m         .. gates that may stand for the miter's, and such nets
use Rattle.std.specs.Prelude.{ℕ, ◌+◌, ◌≡◌, List, ◌++◌, map, true, ltb, length, take}
use Rattle.records.specs.Bytes.{all}
use Rattle.records.specs.Gate.{Gate, operands}
use Rattle.records.specs.Netlist.{net_at, extended, values}
use Rattle.records.specs.Refusal.{gates_good}
use Rattle.records.specs.Job.{Job}
use Rattle.records.specs.Claims.{PartsGood}
use Rattle.records.specs.Parts.{PartsOf}
use Rattle.records.specs.declared.loading.JobParts.{JobParts}
use Rattle.engine.specs.Choice.{same}
use Rattle.engine.specs.Eval.{bits}
use Rattle.engine.specs.Rectify.{rectifies}
use Rattle.engine.specs.Inner.Packed.{packed_from, formed}
use Rattle.engine.specs.Inner.Shifted.{shifted_net, shifted}
use Rattle.engine.specs.declared.miter.Miter.{Miter}

unfoldable pub shift_of : Job → ℕ
shift_of j = j.targets + length j.old.gates

unfoldable pub miter_gates : Job → List Gate
miter_gates j = j.old.gates ++ map (shifted j.inputs (shift_of j)) j.golden.gates

unfoldable pub miter_goldens : Job → List ℕ
miter_goldens j = map (shifted_net j.inputs (shift_of j)) j.golden.outputs

unfoldable pub miter_nets : Job → ℕ
miter_nets j = j.inputs + j.targets + length (miter_gates j)

unfoldable pub miter_values : Job → ℕ → ℕ → List ℕ
miter_values j x v = values (bits j.inputs x ++ bits j.targets v) (miter_gates j)

unfoldable pub codes : Job → List ℕ
codes j = packed_from (j.inputs + j.targets) (miter_gates j)

-- ---- gates that stand for others

abbrev pub on_operands : (ℕ → List ℕ → ℕ) → List ℕ → Gate → ℕ
on_operands F vs g = F g.kind (map (net_at vs) (operands g))

pub record SameGates (d : ℕ) (gs hs : List Gate) : Type 0 where
  pub long : length hs ≡ length gs
  pub good : gates_good d hs ≡ true
  pub forms : all formed hs ≡ true
  pub same : (F : ℕ → List ℕ → ℕ) (leaves : List ℕ) → length leaves ≡ d
      → extended (on_operands F) leaves hs ≡ extended (on_operands F) leaves gs

-- ---- the struct

pub record SomeParts (p : JobParts) : Type 0 where
  pub job : Job
  pub parts : PartsOf job p

pub record MiterOf (j : Job) (m : Miter) : Type 0 where
  pub good : PartsGood j
  pub forms : all formed (miter_gates j) ≡ true
  pub inputs : m.inputs ≡ j.inputs
  pub targets : m.targets ≡ j.targets
  pub count : m.count ≡ length (miter_gates j)
  pub gates : take m.count m.gates ≡ codes j
  pub outs : m.outs ≡ length j.old.outputs
  pub outputs : take m.outs m.outputs ≡ j.old.outputs
  pub goldens : take m.outs m.goldens ≡ miter_goldens j

-- .. and nets of the miter
pub record PairsOf (j : Job) (os gs : List ℕ) : Type 0 where
  pub olds : all (λ i. ltb i (miter_nets j)) os ≡ true
  pub goldens : all (λ i. ltb i (miter_nets j)) gs ≡ true
  pub equal : (x v : ℕ) → same (map (net_at (miter_values j x v)) os) (map (net_at (miter_values j x v)) gs) ≡ rectifies j x v

pub record MergedOf (j : Job) (m : Miter) : Type 0 where
  pub good : PartsGood j
  pub inputs : m.inputs ≡ j.inputs
  pub targets : m.targets ≡ j.targets
  pub count : m.count ≡ length (miter_gates j)
  pub merged : List Gate
  pub same : SameGates (j.inputs + j.targets) (miter_gates j) merged
  pub gates : take m.count m.gates ≡ packed_from (j.inputs + j.targets) merged
  pub pairs : PairsOf j (take m.outs m.outputs) (take m.outs m.goldens)
