-- Building multiplexer trees: gates put into the places of a netlist (src/tree.rt). No public contract cites this file. Assumes nothing.
--
--   column_part tb at k t   the column of target t at the 2 ^ k entries of the table tb from place at on
--   TablePart tb k t        the table has 2 ^ k entries or more, and t is a bit of a byte
--   tree_start k col           how the tree over k nets and the column col starts
--   join_size j             how many gates join two halves
--   JoinRoom ..             there is room for the gates that join two halves behind their trees
--   trees_size m j k tb     how many gates the trees of the m targets from target j on have, over k nets and the table tb
--   Nets k ns               each of the first k numbers of ns is one of 1,024 nets
--   InputsNumbered n ns     the first n nets, the inputs, have their own numbers in ns
--   GateRoom base n cs      the places cs hold n gates, and the net base + i of each gate i is one of 1,024
--   GatesPut base ..        the gates gs now stand behind the first count gates, r gates in all; gate i drives net base + i
--   support_trees ..        the trees of m targets over the first k nets of is and the table tb, the first gate driving net next
--   TreesPut ..             those trees now stand behind the first count gates, and the numbers from base on are their nets
use Rattle.std.specs.Prelude.{ℕ, zero, suc, ◌+◌, ◌^◌, ◌≤◌, ◌<◌, ◌≡◌, List, ◌++◌, Bool, true, cond, eqb, length, get_or, take, drop}
use Rattle.records.specs.Bytes.{all, placed}
use Rattle.records.specs.Gate.{Gate}
use Rattle.engine.specs.Choice.{same}
use Rattle.engine.specs.Tree.{join_of, builds_low, builds_high, join_gates, column, tree_size}
use Rattle.engine.specs.Fit.{Trees, trees_from}
use Rattle.engine.specs.Inner.Packed.{packed_from}
use Rattle.engine.specs.declared.tree.Join.{Join}
use Rattle.engine.specs.declared.tree.TreeStart.{TreeStart}

abbrev pub column_part : List ℕ → ℕ → ℕ → ℕ → List ℕ
column_part tb at k t = column (take (2 ^ k) (drop at tb)) t

pub record TablePart (tb : List ℕ) (k t : ℕ) : Type 0 where
  pub most : k ≤ 10
  pub within : 2 ^ k ≤ length tb
  pub target : t < 8

-- the tests of a column: all 0, all 1, equal halves
unfoldable pub start_by : Bool → Bool → Bool → Join → TreeStart
start_by z o e j = cond z (TreeStart.Constant 0) (cond o (TreeStart.Constant 1) (cond e TreeStart.Equal (TreeStart.Split j)))

unfoldable pub tree_start : ℕ → List ℕ → TreeStart
tree_start zero col = cond (all (eqb 0) col) (TreeStart.Constant 0) (TreeStart.Constant 1)
tree_start (suc k) col =
    let low = take (2 ^ k) col in
    let high = drop (2 ^ k) col in
    start_by (all (eqb 0) col) (all (eqb 1) col) (same low high) (join_of low high)

unfoldable pub join_size : Join → ℕ
join_size j = length (join_gates j 0 0 0)

unfoldable pub trees_size : ℕ → ℕ → ℕ → List ℕ → ℕ
trees_size zero j k tb = 0
trees_size (suc m) j k tb = tree_size k (column_part tb 0 k j) + trees_size m (suc j) k tb

abbrev pub Nets : ℕ → List ℕ → Type 0
Nets k ns = (i : ℕ) → i < k → get_or ns i 0 < 1024

pub record InputsNumbered (n : ℕ) (after : List ℕ) : Type 0 where
  pub long : length after ≡ 1024
  pub inputs : (i : ℕ) → i < n → get_or after i 0 ≡ i
  pub nets : Nets 1024 after

pub record GateRoom (base n : ℕ) (cs : List ℕ) : Type 0 where
  pub long : length cs ≡ 400
  pub room : n ≤ 400
  pub nets : base + n ≤ 1024

-- the first low gates end with the low half's tree, the first high with the high half's, where these are built
pub record JoinRoom (j : Join) (s base low high : ℕ) (cs : List ℕ) : Type 0 where
  pub gates : GateRoom base (high + join_size j) cs
  pub chooser : s < 1024
  pub order : low ≤ high
  pub low-built : builds_low j ≡ true → 0 < low
  pub high-built : builds_high j ≡ true → 0 < high

pub record GatesPut (base count : ℕ) (before : List ℕ) (gs : List Gate) (r : ℕ) (after : List ℕ) : Type 0 where
  pub end : r ≡ count + length gs
  pub gates : take r after ≡ take count before ++ packed_from (base + count) gs
  pub long : length after ≡ length before

abbrev pub support_trees : ℕ → ℕ → ℕ → List ℕ → List ℕ → Trees
support_trees m k next is tb = trees_from m 0 next (take k is) (take (2 ^ k) tb)

pub record TreesPut (m k base : ℕ) (is tb : List ℕ) (count : ℕ) (ns cs : List ℕ) (r : ℕ) (ns' cs' : List ℕ) : Type 0 where
  pub gates : GatesPut base count cs (support_trees m k (base + count) is tb).gates r cs'
  pub nets : ns' ≡ placed ns base (support_trees m k (base + count) is tb).nets
