-- The nets and gates of a patched netlist at their new numbers (src/renumber.rt). No public contract cites this file. Assumes nothing.
--
--   old_gates o, old_base o     the gates of the old side o, and the net of the first of them
--   indices_with ms base b n    the numbers i below n whose mark, that of net base + i, is b, ascending
--   Numbered ..                 the gates with mark b, among the first n, have consecutive new numbers from first on
--   moved_from gs ns ks         the gates of gs with the numbers ks, their used operands at their new numbers ns
--   with_mark o b               the indices of the old gates with mark b
--   MarkedPlaced ..             those gates have their numbers, and stand behind the gates of the new side n, which gives r
use Rattle.std.specs.Prelude.{ℕ, ◌+◌, ◌<◌, ◌≡◌, List, map, eqb, length, get_or}
use Rattle.records.specs.Bytes.{up_from}
use Rattle.records.specs.Gate.{Gate, gate_of}
use Rattle.records.specs.Netlist.{net_at}
use Rattle.engine.specs.Choice.{keep}
use Rattle.engine.specs.Fit.{moved}
use Rattle.engine.specs.Inner.Packed.{unpacked}
use Rattle.engine.specs.Inner.Tree.{GatesPut}
use Rattle.engine.specs.declared.renumber.OldSide.{OldSide}
use Rattle.engine.specs.declared.renumber.NewSide.{NewSide}

abbrev pub old_gates : OldSide → List Gate
old_gates o = unpacked o.count o.gates

abbrev pub old_base : OldSide → ℕ
old_base o = o.inputs + o.targets

unfoldable pub indices_with : List ℕ → ℕ → ℕ → ℕ → List ℕ
indices_with ms base b n = keep (λ i. eqb (net_at ms (base + i)) b) (up_from 0 n)

-- the new numbers of all nets before and after; what is not such a gate keeps its own
pub record Numbered (ms : List ℕ) (base b n first : ℕ) (before after : List ℕ) : Type 0 where
  pub long : length after ≡ length before
  pub numbers : (i : ℕ) → i < n → get_or ms (base + i) 0 ≡ b → get_or after (base + i) 0 ≡ first + length (indices_with ms base b i)
  pub leaves : (i : ℕ) → i < base → get_or after i 0 ≡ get_or before i 0
  pub others : (i : ℕ) → (i < n → get_or ms (base + i) 0 ≡ b → ⊥) → get_or after (base + i) 0 ≡ get_or before (base + i) 0

unfoldable pub moved_from : List Gate → List ℕ → List ℕ → List Gate
moved_from gs ns ks = map (λ k. moved ns (get_or gs k (gate_of 0 0 0 0 0 0))) ks

abbrev pub with_mark : OldSide → ℕ → List ℕ
with_mark o b = indices_with o.marks (old_base o) b o.count

pub record MarkedPlaced (o : OldSide) (b : ℕ) (n r : NewSide) : Type 0 where
  pub numbered : Numbered o.marks (old_base o) b o.count (o.inputs + n.count) n.numbers r.numbers
  pub gates : GatesPut o.inputs n.count n.gates (moved_from (old_gates o) r.numbers (with_mark o b)) r.count r.gates
