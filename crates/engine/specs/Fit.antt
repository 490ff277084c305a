-- Fit (document 01, "Fitting and comparing"; card 6 of document 02). Assumes nothing.
--
--   led j                  1 for each old net that is a target or led to by one, else 0
--   gate_indices j b       the indices of the old gates with mark b, ascending
--   rank xs i              how many elements of xs are below i
--   Trees, trees           the gates of all targets' trees and the net of each; those of a job
--   new_free_gate j i, new_gate j is t i     the new net of old gate i: where no target leads to it, and in general
--   new_free_net j i       the new number of an old net that no target leads to
--   trees_from next ..     the trees of the targets k, k + 1, .., one after the other, the first gate driving net next, and the
--                          net of each
--   new_nets j is t        the new number of each old net
--   moved ns g, moved_gates gate g with its used operands at their new numbers ns; several old gates so
--   fitted j is t          the patched netlist: the old gates that no target leads to, a tree for each target, the remaining old
--                          gates, each group in its old order
--   fitted_bytes j is t    its fields 1 (n and 0), 2 and 3
--   fits j is t            the patched netlist has at most 400 gates, else number 9
--   longest_fit            the longest result has 4,075 bytes
use Rattle.std.specs.Prelude.{ℕ, zero, suc, ◌+◌, ◌-◌, List, [], ◌∷◌, ◌++◌, map, Bool, cond, length, get_or, leb, ltb, eqb}
use Rattle.records.specs.Bytes.{up_from, tabulate, flat, byte_pair, field}
use Rattle.records.specs.Gate.{Gate, gate_of, operands, unused}
use Rattle.records.specs.Netlist.{Netlist, net_at, fanout}
use Rattle.records.specs.Job.{Job, gate_bytes}
use Rattle.records.specs.Refusal.{max_gates}
use Rattle.engine.specs.Choice.{keep}
use Rattle.engine.specs.Tree.{column, tree}

unfoldable pub led : Job → List ℕ
led j = fanout j.inputs j.targets j.old.gates

unfoldable pub gate_indices : Job → ℕ → List ℕ
gate_indices j b =
    keep (λ i. eqb (net_at (led j) (j.inputs + j.targets + i)) b) (up_from 0 (length j.old.gates))

unfoldable pub rank : List ℕ → ℕ → ℕ
rank xs i = length (keep (λ x. ltb x i) xs)

pub record Trees : Type 0 where
  pub gates : List Gate
  pub nets : List ℕ

unfoldable pub trees_from : ℕ → ℕ → ℕ → List ℕ → List ℕ → Trees
trees_from zero k next is t = record { gates = []; nets = [] }
trees_from (suc m) k next is t =
    let gs = tree (length is) next is (column t k) in
    let r = trees_from m (suc k) (next + length gs) is t in
    record { gates = gs ++ r.gates; nets = (next + length gs - 1) ∷ r.nets }

-- the new number of old gate i where no target leads to it
unfoldable pub new_free_gate : Job → ℕ → ℕ
new_free_gate j i = j.inputs + rank (gate_indices j 0) i

-- the new number of an old net that is an input or a gate that no target leads to: of the support
unfoldable pub new_free_net : Job → ℕ → ℕ
new_free_net j i = cond (ltb i j.inputs) i (new_free_gate j (i - (j.inputs + j.targets)))

unfoldable pub trees : Job → List ℕ → List ℕ → Trees
trees j is t = trees_from j.targets 0 (j.inputs + length (gate_indices j 0)) (map (new_free_net j) is) t

unfoldable pub new_gate : Job → List ℕ → List ℕ → ℕ → ℕ
new_gate j is t i =
    cond (eqb (net_at (led j) (j.inputs + j.targets + i)) 0)
    (new_free_gate j i)
    (j.inputs + length (gate_indices j 0) + length (trees j is t).gates + rank (gate_indices j 1) i)

unfoldable pub new_nets : Job → List ℕ → List ℕ → List ℕ
new_nets j is t =
    up_from 0 j.inputs ++ (trees j is t).nets ++ tabulate (length j.old.gates) (new_gate j is t)

unfoldable pub moved : List ℕ → Gate → Gate
moved ns g = record { kind = g.kind; count = g.count; slots = map (net_at ns) (operands g) ++ unused g }

unfoldable pub moved_gates : Job → List ℕ → List ℕ → List Gate
moved_gates j ns ks = map (λ k. moved ns (get_or j.old.gates k (gate_of 0 0 0 0 0 0))) ks

unfoldable pub fitted : Job → List ℕ → List ℕ → Netlist
fitted j is t =
    let ns = new_nets j is t in
    record {
      gates = moved_gates j ns (gate_indices j 0) ++ (trees j is t).gates ++ moved_gates j ns (gate_indices j 1);
      outputs = map (net_at ns) j.old.outputs;
    }

unfoldable pub fitted_bytes : Job → List ℕ → List ℕ → List ℕ
fitted_bytes j is t =
    let l = fitted j is t in
    field 1 (j.inputs ∷ 0 ∷ []) ++ field 2 (flat gate_bytes l.gates) ++ field 3 (flat byte_pair l.outputs)

-- number 9 is given where this fails
unfoldable pub fits : Job → List ℕ → List ℕ → Bool
fits j is t = leb (length (fitted j is t).gates) max_gates

abbrev pub longest_fit : ℕ
longest_fit = 4075
