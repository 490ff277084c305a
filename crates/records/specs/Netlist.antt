-- Netlists, the values of their nets, and what a target leads to (document 01, "Nets and gates"). Assumes nothing.
--
--   Netlist              gates and output nets
--   net_at known i       what the list known says of net i, an entry a net from net 0 on
--   extended f known gs  known, and after it what f says of each gate of gs in turn, from the nets before it
--   value_of known g     the value of gate g where the nets below it have the values known
--   values leaves gs     the value of each net: leaves are those of the inputs (and targets), then one for each gate
--   mark_of known g      1 if some used operand of g is marked 1, else 0: by structure, whatever the gate's value
--   fanout n m gs        1 for each net that is a target or that a path of gates leads to from one, else 0 (the targets' fanout)
use Rattle.std.specs.Prelude.{ℕ, List, [], ◌∷◌, ◌++◌, map, get_or, replicate}
use Rattle.records.specs.Gate.{Gate, operands, gate_value, disj}

pub record Netlist : Type 0 where
  pub gates : List Gate
  pub outputs : List ℕ

unfoldable pub net_at : List ℕ → ℕ → ℕ
net_at known i = get_or known i 0

unfoldable pub extended : (List ℕ → Gate → ℕ) → List ℕ → List Gate → List ℕ
extended f known [] = known
extended f known (g ∷ gs) = extended f (known ++ (f known g ∷ [])) gs

unfoldable pub value_of : List ℕ → Gate → ℕ
value_of known g = gate_value g.kind (map (net_at known) (operands g))

unfoldable pub values : List ℕ → List Gate → List ℕ
values leaves gs = extended value_of leaves gs

unfoldable pub mark_of : List ℕ → Gate → ℕ
mark_of known g = disj (map (net_at known) (operands g))

unfoldable pub fanout : ℕ → ℕ → List Gate → List ℕ
fanout n m gs = extended mark_of (replicate n 0 ++ replicate m 1) gs
