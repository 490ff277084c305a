-- Gates and their values (document 01, "Nets and gates"; card 6 of document 02; IEEE 1364 for its primitives on 0 and 1). Assumes nothing.
--
--   Gate              a kind, how many operands it has, and its operand slots, used or not
--   slot_count        how many operand slots a gate has
--   gate_of k n a b c d     the gate of kind k with n operands, and a, b, c, d in its slots
--   kind_count        how many kinds there are, numbered from 0: constant zero, constant one, buf, not, and, nand, or, nor, xor, xnor
--   least_count k, most_count k     the fewest and the most operands that kind k may have
--   permits k n       there is a kind k, and it may have n operands
--   operands g        the used operands of g, first to last
--   unused g          what stands in the other slots
--   conj, disj, parity, inverted     and, or, xor of any number of values; not
--   gate_value k vs   the value of kind k on the operand values vs, each 0 or 1, however many they are; 0 where there is no such kind
use Rattle.std.specs.Prelude.{ℕ, ◌+◌, ◌-◌, ◌%◌, min, max, List, [], ◌∷◌, Bool, ◌&&◌, leb, ltb, get_or, take, drop}

pub record Gate : Type 0 where
  pub kind : ℕ
  pub count : ℕ
  pub slots : List ℕ

abbrev pub slot_count : ℕ
slot_count = 4

unfoldable pub gate_of : ℕ → ℕ → ℕ → ℕ → ℕ → ℕ → Gate
gate_of k n a b c d = record { kind = k; count = n; slots = a ∷ b ∷ c ∷ d ∷ [] }

abbrev pub kind_count : ℕ
kind_count = 10

unfoldable pub least_count : ℕ → ℕ
least_count k = get_or (0 ∷ 0 ∷ 1 ∷ 1 ∷ 2 ∷ 2 ∷ 2 ∷ 2 ∷ 2 ∷ 2 ∷ []) k 0

unfoldable pub most_count : ℕ → ℕ
most_count k = get_or (0 ∷ 0 ∷ 1 ∷ 1 ∷ 4 ∷ 4 ∷ 4 ∷ 4 ∷ 4 ∷ 4 ∷ []) k 0

unfoldable pub permits : ℕ → ℕ → Bool
permits k n = ltb k kind_count && leb (least_count k) n && leb n (most_count k)

unfoldable pub operands : Gate → List ℕ
operands g = take g.count g.slots

unfoldable pub unused : Gate → List ℕ
unused g = drop g.count g.slots

-- ---- values

unfoldable pub conj : List ℕ → ℕ
conj [] = 1
conj (v ∷ vs) = min v (conj vs)

unfoldable pub disj : List ℕ → ℕ
disj [] = 0
disj (v ∷ vs) = max v (disj vs)

unfoldable pub parity : List ℕ → ℕ
parity [] = 0
parity (v ∷ vs) = (v + parity vs) % 2

unfoldable pub inverted : ℕ → ℕ
inverted v = 1 - v

unfoldable pub gate_value : ℕ → List ℕ → ℕ
gate_value k vs =
    let v = get_or vs 0 0 in
    get_or
    (0 ∷ 1 ∷ v ∷ inverted v ∷ conj vs ∷ inverted (conj vs) ∷ disj vs ∷ inverted (disj vs) ∷ parity vs ∷ inverted (parity vs) ∷ [])
    k
    0
