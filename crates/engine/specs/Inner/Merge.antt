-- Gates that read, for a net, another that has the same values (src/merge.rt). No public contract cites this file. Assumes nothing.
--
--   Packs d n cs gs       the first n numbers of cs are the n good gates gs, which drive the nets from d on
--   StandsFor d gs i k    over d leaves, net k of the gates gs may be read for net i: whatever depends on a gate's kind and on what its
--                         operands have is the same at both, and k is not behind i
--   MergedIn d n gs cs ns     the first n numbers of cs are gates that may stand for the gates gs, and the numbers ns have for each net
--                         one that stands for it
--   GatesMerged d n cs r  the struct r has such gates and nets for what the first n numbers of cs are
--   PairsKept os gs r     the struct r has the pairs of the nets os and gs but for some that are one net
--   Backward xs           each number of xs is at most its index: a chain goes back
--   Chained n hs xs       .. and each number of hs is at most n: the chains are of the first n gates
use Rattle.std.specs.Prelude.{ℕ, ◌+◌, ◌≤◌, ◌<◌, ◌≡◌, List, map, true, length, get_or, take}
use Rattle.records.specs.Bytes.{all}
use Rattle.records.specs.Claims.{Below}
use Rattle.records.specs.Gate.{Gate}
use Rattle.records.specs.Netlist.{net_at, extended}
use Rattle.records.specs.Refusal.{gates_good}
use Rattle.engine.specs.Choice.{same}
use Rattle.engine.specs.Inner.Packed.{packed_from, formed}
use Rattle.engine.specs.Inner.Miter.{on_operands, SameGates}
use Rattle.engine.specs.Inner.Tree.{Nets}
use Rattle.engine.specs.declared.merge.MergedGates.{MergedGates}
use Rattle.engine.specs.declared.merge.Pairs.{Pairs}

pub record Packs (d n : ℕ) (cs : List ℕ) (gs : List Gate) : Type 0 where
  pub count : n ≡ length gs
  pub good : gates_good d gs ≡ true
  pub forms : all formed gs ≡ true
  pub gates : take n cs ≡ packed_from d gs

pub record StandsFor (d : ℕ) (gs : List Gate) (i k : ℕ) : Type 0 where
  pub before : k ≤ i
  pub same : (F : ℕ → List ℕ → ℕ) (leaves : List ℕ) → length leaves ≡ d
      → net_at (extended (on_operands F) leaves gs) k ≡ net_at (extended (on_operands F) leaves gs) i

pub record MergedIn (d n : ℕ) (gs : List Gate) (cs ns : List ℕ) : Type 0 where
  pub merged : List Gate
  pub same : SameGates d gs merged
  pub gates : take n cs ≡ packed_from d merged
  pub stands : (i : ℕ) → i < d + n → StandsFor d gs i (net_at ns i)

pub record GatesMerged (d n : ℕ) (cs : List ℕ) (r : MergedGates) : Type 0 where
  pub long : length r.gates ≡ 800
  pub nets : Nets 1024 r.stands
  pub merged : (gs : List Gate) → Packs d n cs gs → MergedIn d n gs r.gates r.stands

pub record PairsKept (os gs : List ℕ) (r : Pairs) : Type 0 where
  pub few : r.count ≤ length os
  pub below : (k : ℕ) → 0 < k → ((i : ℕ) → i < length os → (get_or os i 0 < k) × (get_or gs i 0 < k))
      → (i : ℕ) → (get_or r.outputs i 0 < k) × (get_or r.goldens i 0 < k)
  pub equal : (f : ℕ → ℕ) → same (map f (take r.count r.outputs)) (map f (take r.count r.goldens)) ≡ same (map f os) (map f gs)

abbrev pub Backward : List ℕ → Type 0
Backward xs = (i : ℕ) → get_or xs i 0 ≤ i

pub record Chained (n : ℕ) (hs xs : List ℕ) : Type 0 where
  pub heads : Below (n + 1) hs
  pub next : Backward xs
