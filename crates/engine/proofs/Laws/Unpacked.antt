-- Laws of the gates in packed numbers (specs/Fitting, gate_in): good gates packed are those gates again; those of a patched netlist
-- have four slots. Assumes nothing.
use Prim.Native.Nat.{ℕ, zero, suc, ◌+◌, ◌-◌, ◌^◌, ◌≤◌, ◌<◌}
use mathlib.Core.Path.{◌≡◌, refl}
use mathlib.Core.List.{List, [], ◌∷◌, ◌++◌, map}
use mathlib.Core.Bool.{true}
use native.Mathlib.Omega.{arith}
use lib.ListN.{length, get_or, take, drop}
use Rattle.records.specs.Bytes.{all}
use Rattle.records.specs.Gate.{Gate, gate_of}
use Rattle.records.specs.Netlist.{net_at}
use Rattle.records.specs.Job.{Job}
use Rattle.records.specs.Refusal.{gate_good, gates_good}
use Rattle.records.proofs.Laws.Bytes.{all_cons}
use Rattle.engine.specs.Tree.{constant, column, builds_low, builds_high, tree}
use Rattle.engine.specs.Fit.{trees_from, trees, new_free_net, new_nets, gate_indices, moved, moved_gates, fitted}
use Rattle.engine.specs.Inner.Packed.{fields, packed, packed_from, formed, gate_in}
use Rattle.engine.proofs.Laws.Choice.{all_append}
use Rattle.engine.proofs.Laws.FitGates.{no_gate}
use Rattle.engine.proofs.Laws.FitTree.{TreeCase, zeros, ones, halves, halved, built, built-case, tree-case}
use Rattle.engine.proofs.Laws.Join.{join-formed}
use Rattle.engine.proofs.Laws.MiterCode.{formed-mapped}
use Rattle.engine.proofs.Laws.Packed.{packed-kind, packed-count, packed-slots}
use Rattle.engine.proofs.Laws.Run.{good-first, good-rest}

-- ---- unpacking

gate_in-packed : (d : ℕ) (g : Gate) → gate_good d g ≡ true → formed g ≡ true → d < 1024 → gate_in (packed d g) ≡ g
unfolding gate_in
gate_in-packed d g e f h = rw (packed-kind d g e f h, packed-count d g e f h, packed-slots d g e f h)

pub gates-unpacked : (d : ℕ) (gs : List Gate) → gates_good d gs ≡ true → all formed gs ≡ true → d + length gs ≤ 1024
    → map gate_in (packed_from d gs) ≡ gs
unfolding packed_from
gates-unpacked d [] e f h = refl
gates-unpacked d (g ∷ gs) e f h =
    let t = all_cons formed g gs f in
    rw (
      gate_in-packed d g (good-first d g gs e) t.0 (omega arith),
      gates-unpacked (suc d) gs (good-rest d g gs e) t.1 (omega arith),
    )

-- ---- the gates of a patched netlist have four slots

formed-at : (gs : List Gate) → all formed gs ≡ true → (k : ℕ) → formed (get_or gs k no_gate) ≡ true
unfolding formed gate_of
formed-at [] e k = refl
formed-at (g ∷ gs) e zero = (all_cons formed g gs e).0
formed-at (g ∷ gs) e (suc k) = formed-at gs (all_cons formed g gs e).1 k

formed-moved : (j : Job) → all formed j.old.gates ≡ true → (ns ks : List ℕ) → all formed (moved_gates j ns ks) ≡ true
unfolding moved_gates all moved
formed-moved j e ns [] = refl
formed-moved j e ns (k ∷ ks) =
    rw (formed-mapped (net_at ns) (get_or j.old.gates k no_gate), formed-at j.old.gates e k) (formed-moved j e ns ks)

formed-case : (k next : ℕ) (is col : List ℕ) {gs : List Gate}
    → ((n : ℕ) (c : List ℕ) → all formed (tree k n is c) ≡ true) → TreeCase k next is col gs → all formed gs ≡ true
unfolding all formed constant gate_of
formed-case k next is col ih (zeros z) = refl
formed-case k next is col ih (ones o) = refl
formed-case k next is col ih (halves e) = ih next (take (2 ^ k) col)
formed-case k next is col ih (halved j e) =
    let ls = built (builds_low j) (tree k next is (take (2 ^ k) col)) in
    let m = next + length ls in
    let hs = built (builds_high j) (tree k m is (drop (2 ^ k) col)) in
    all_append formed (ls ++ hs) _
    (all_append formed ls hs
    (built-case (λ gs. all formed gs ≡ true) (builds_low j) refl (ih next (take (2 ^ k) col)))
    (built-case (λ gs. all formed gs ≡ true) (builds_high j) refl (ih m (drop (2 ^ k) col))))
    (join-formed j (get_or is k 0) (m - 1) (m + length hs))

formed-tree : (k next : ℕ) (is col : List ℕ) → all formed (tree k next is col) ≡ true
unfolding tree all formed constant gate_of
formed-tree zero next is col = refl
formed-tree (suc k) next is col = formed-case k next is col (λ n c. formed-tree k n is c) (tree-case k next is col)

formed-trees : (m k next : ℕ) (is t : List ℕ) → all formed (trees_from m k next is t).gates ≡ true
unfolding trees_from all
formed-trees zero k next is t = refl
formed-trees (suc m) k next is t =
    let gs = tree (length is) next is (column t k) in
    all_append formed gs (trees_from m (suc k) (next + length gs) is t).gates
    (formed-tree (length is) next is (column t k))
    (formed-trees m (suc k) (next + length gs) is t)

pub fitted-formed : (j : Job) (is t : List ℕ) → all formed j.old.gates ≡ true → all formed (fitted j is t).gates ≡ true
unfolding fitted trees
fitted-formed j is t e =
    let ns = new_nets j is t in
    let xs = moved_gates j ns (gate_indices j 0) in
    let ys = (trees_from j.targets 0 (j.inputs + length (gate_indices j 0)) (map (new_free_net j) is) t).gates in
    all_append formed (xs ++ ys) (moved_gates j ns (gate_indices j 1))
    (all_append formed xs ys (formed-moved j e ns (gate_indices j 0)) (formed-trees j.targets 0 _ (map (new_free_net j) is) t))
    (formed-moved j e ns (gate_indices j 1))

-- the gates in numbers have four slots
pub formed-in : (cs : List ℕ) → all formed (map gate_in cs) ≡ true
unfolding all formed gate_in fields
formed-in [] = refl
formed-in (c ∷ cs) = formed-in cs
