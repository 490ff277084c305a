-- Partial evaluation: one evaluation on 0, 1 and not yet known (specs/Ternary) for a whole range of inputs (src/ranges.rt). No public
-- contract cites this file. Assumes nothing.
--
--   known_at known i            what is known of net i: 0, 1 or 2
--   ternary_of known g          gate g on what is known of its operands
--   code_ternary known c        the packed gate c on what is known of its operands, of which a gate has four at most
--   Completed k vs ns           each of the first k values of vs is one that its place in ns may turn out to have
--   partial_input low prefix i  input i where the inputs from low on are the bits of prefix, and those below not yet known
--   InRange low prefix x        x is a number whose bits from bit low on are those of prefix
--   Known x y                   x and y are the same known value
use Rattle.std.specs.Prelude.{ℕ, ◌+◌, ◌*◌, ◌-◌, ◌^◌, ◌≤◌, ◌<◌, min, ◌≡◌, List, map, cond, ltb, get_or, take}
use Rattle.records.specs.Gate.{Gate, slot_count, operands}
use Rattle.records.specs.Netlist.{net_at}
use Rattle.engine.specs.Eval.{bit}
use Rattle.engine.specs.Ternary.{unknown, ternary_value, Completes}
use Rattle.engine.specs.Inner.Packed.{kind_of, operands_of}

unfoldable pub known_at : List ℕ → ℕ → ℕ
known_at known i = min (net_at known i) unknown

unfoldable pub ternary_of : List ℕ → Gate → ℕ
ternary_of known g = ternary_value g.kind (map (known_at known) (operands g))

unfoldable pub code_ternary : List ℕ → ℕ → ℕ
code_ternary known c = ternary_value (kind_of c) (map (known_at known) (take slot_count (operands_of c)))

abbrev pub Completed : ℕ → List ℕ → List ℕ → Type 0
Completed k vs ns = (i : ℕ) → i < k → Completes (get_or vs i 0) (get_or ns i 0)

-- ---- a range of inputs

unfoldable pub partial_input : ℕ → ℕ → ℕ → ℕ
partial_input low prefix i = cond (ltb i low) unknown (bit (i - low) prefix)

pub record InRange (low prefix x : ℕ) : Type 0 where
  pub least : prefix * 2 ^ low ≤ x
  pub most : x < (prefix + 1) * 2 ^ low

-- ---- outputs

pub record Known (x y : ℕ) : Type 0 where
  pub below : x < unknown
  pub equal : x ≡ y
