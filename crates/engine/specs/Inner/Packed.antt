-- Gates in one number, and their values on 0 and 1 (src/packed.rt). No public contract cites this file. Assumes nothing.
--
--   fields n x        n numbers of ten bits each, the lowest first
--   kind_of c, count_of c, own c, operands_of c     a packed gate's parts, from its lowest bit on: its kind (4 bits), how many operands
--                     it has (3), the net that it drives (10), the nets of its operands (10 each)
--   slots_number ss   operand slots as one number, ten bits each
--   gate_with k n ss  the gate of kind k with n operands and the slots ss
--   gate_in c, unpacked n cs    the gate in the number c; those in the first n of the numbers cs
--   packed d g        gate g, driving net d, in one number
--   packed_from d gs  the gates gs, which drive d, d + 1, ..
--   formed g          gate g has all its operand slots
--   operation c, inverts c     a kind is an operation (from 2 on: and, or, parity) and, if it is odd, an inversion
--   joined op x y     the operation on two values
--   folded op vs      the operation over the values vs, first to last; 0 of none
--   code_value vs c   the value of the packed gate c where the nets have the values vs
--   evaluated F vs cs     what is known of the nets once the packed gates cs, one after the other, have set their own by F
use Rattle.std.specs.Prelude.{ℕ, zero, suc, ◌+◌, ◌*◌, ◌/◌, ◌%◌, min, max, List, [], ◌∷◌, map, Bool, cond, eqb, length, take, set}
use Rattle.records.specs.Gate.{Gate, slot_count}
use Rattle.records.specs.Netlist.{net_at}

unfoldable pub fields : ℕ → ℕ → List ℕ
fields zero x = []
fields (suc n) x = x % 1024 ∷ fields n (x / 1024)

abbrev pub kind_of : ℕ → ℕ
kind_of c = c % 16

abbrev pub count_of : ℕ → ℕ
count_of c = c / 16 % 8

abbrev pub own : ℕ → ℕ
own c = c / 128 % 1024

abbrev pub operands_of : ℕ → List ℕ
operands_of c = fields (count_of c) (c / 131072)

unfoldable pub slots_number : List ℕ → ℕ
slots_number [] = 0
slots_number (s ∷ ss) = s + 1024 * slots_number ss

abbrev pub gate_with : ℕ → ℕ → List ℕ → Gate
gate_with k n ss = record { kind = k; count = n; slots = ss }

unfoldable pub gate_in : ℕ → Gate
gate_in c = record { kind = kind_of c; count = count_of c; slots = fields slot_count (c / 131072) }

abbrev pub unpacked : ℕ → List ℕ → List Gate
unpacked n cs = map gate_in (take n cs)

unfoldable pub packed : ℕ → Gate → ℕ
packed d g = g.kind + 16 * g.count + 128 * d + 131072 * slots_number g.slots

unfoldable pub packed_from : ℕ → List Gate → List ℕ
packed_from d [] = []
packed_from d (g ∷ gs) = packed d g ∷ packed_from (suc d) gs

unfoldable pub formed : Gate → Bool
formed g = eqb (length g.slots) slot_count

-- ---- values

abbrev pub operation : ℕ → ℕ
operation c = c / 2 % 8

abbrev pub inverts : ℕ → ℕ
inverts c = c % 2

unfoldable pub joined : ℕ → ℕ → ℕ → ℕ
joined op x y = cond (eqb op 2) (min x y) (cond (eqb op 3) (max x y) ((x + y) % 2))

unfoldable pub folded_from : ℕ → ℕ → List ℕ → ℕ
folded_from op x [] = x
folded_from op x (v ∷ vs) = folded_from op (joined op x v) vs

unfoldable pub folded : ℕ → List ℕ → ℕ
folded op [] = 0
folded op (v ∷ vs) = folded_from op v vs

unfoldable pub code_value : List ℕ → ℕ → ℕ
code_value vs c = (folded (operation c) (map (net_at vs) (operands_of c)) + inverts c) % 2

unfoldable pub evaluated : (List ℕ → ℕ → ℕ) → List ℕ → List ℕ → List ℕ
evaluated F vs [] = vs
evaluated F vs (c ∷ cs) = evaluated F (set vs (own c) (F vs c)) cs
