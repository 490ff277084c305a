-- Multiplexer trees (document 01, "Fitting and comparing": a tree over a column of bits; card 2 of document 02: no gates for constant
-- halves). Assumes nothing.
--
--   column t k            the bits of target k in the table t, from reading 0 up
--   constant b, buf_of a, not_of a, and_of a b, or_of a b     the gates of a tree, with 0, 1 and 2 operands: kinds b (0 or 1), 2, 3, 4 and 6
--   join_of low high      how the halves of a column, which differ, are joined: named after the gate that chooses and the half that has
--                         a tree of its own, where one has; both have where neither is all 0 or all 1
--   builds_low j, builds_high j     whether the low, the high half has a tree
--   join_gates j s low n  the gates behind the halves' trees, the first of them driving net n: s is the support net, n - 1 the net of the tree
--                         just before, and low that of the low half where both have one
--   tree k next is col    the gates of the tree over the column col and the first k nets of is, the first gate driving net next.
--                         The last gate drives the tree's net
--   tree_size k col       how many gates that tree has
use Rattle.std.specs.Prelude.{ℕ, zero, suc, ◌+◌, ◌-◌, ◌^◌, List, [], ◌∷◌, ◌++◌, map, Bool, true, false, cond, length, get_or, take, drop, eqb}
use Rattle.records.specs.Bytes.{all}
use Rattle.records.specs.Gate.{Gate, gate_of}
use Rattle.engine.specs.Choice.{same}
use Rattle.engine.specs.Eval.{bit}
use Rattle.engine.specs.declared.tree.Join.{Join}
use Rattle.engine.specs.declared.tree.Join.TheVariants.{Buf, Not, AndHigh, AndLow, OrHigh, OrLow, Both}

unfoldable pub column : List ℕ → ℕ → List ℕ
column t k = map (bit k) t

unfoldable pub constant : ℕ → Gate
constant b = gate_of b 0 0 0 0 0

unfoldable pub buf_of : ℕ → Gate
buf_of a = gate_of 2 1 a 0 0 0

unfoldable pub not_of : ℕ → Gate
not_of a = gate_of 3 1 a 0 0 0

unfoldable pub and_of : ℕ → ℕ → Gate
and_of a b = gate_of 4 2 a b 0 0

unfoldable pub or_of : ℕ → ℕ → Gate
or_of a b = gate_of 6 2 a b 0 0

unfoldable pub join_of : List ℕ → List ℕ → Join
join_of low high =
    cond (all (eqb 0) low)
    (cond (all (eqb 1) high) Buf AndHigh)
    (cond (all (eqb 1) low)
    (cond (all (eqb 0) high) Not OrHigh)
    (cond (all (eqb 0) high) AndLow (cond (all (eqb 1) high) OrLow Both)))

unfoldable pub builds_low : Join → Bool
builds_low Buf = false
builds_low Not = false
builds_low AndHigh = false
builds_low AndLow = true
builds_low OrHigh = false
builds_low OrLow = true
builds_low Both = true

unfoldable pub builds_high : Join → Bool
builds_high Buf = false
builds_high Not = false
builds_high AndHigh = true
builds_high AndLow = false
builds_high OrHigh = true
builds_high OrLow = false
builds_high Both = true

unfoldable pub join_gates : Join → ℕ → ℕ → ℕ → List Gate
join_gates Buf s low n = buf_of s ∷ []
join_gates Not s low n = not_of s ∷ []
join_gates AndHigh s low n = and_of s (n - 1) ∷ []
join_gates AndLow s low n = not_of s ∷ and_of n (n - 1) ∷ []
join_gates OrHigh s low n = not_of s ∷ or_of n (n - 1) ∷ []
join_gates OrLow s low n = or_of s (n - 1) ∷ []
join_gates Both s low n = not_of s ∷ and_of n low ∷ and_of s (n - 1) ∷ or_of (n + 1) (n + 2) ∷ []

unfoldable pub tree : ℕ → ℕ → List ℕ → List ℕ → List Gate
tree zero next is col = constant (cond (all (eqb 0) col) 0 1) ∷ []
tree (suc k) next is col =
    let low = take (2 ^ k) col in
    let high = drop (2 ^ k) col in
    elim (all (eqb 0) col) [
      | true ↦ constant 0 ∷ []
      | false ↦
          elim (all (eqb 1) col) [
            | true ↦ constant 1 ∷ []
            | false ↦
                elim (same low high) [
                  | true ↦ tree k next is low
                  | false ↦
                      let j = join_of low high in
                      let ls : List Gate = elim (builds_low j) [ true ↦ tree k next is low | false ↦ [] ] in
                      let m = next + length ls in
                      let hs : List Gate = elim (builds_high j) [ true ↦ tree k m is high | false ↦ [] ] in
                      ls ++ hs ++ join_gates j (get_or is k 0) (m - 1) (m + length hs)
                ]
          ]
    ]

unfoldable pub tree_size : ℕ → List ℕ → ℕ
tree_size zero col = 1
tree_size (suc k) col =
    let low = take (2 ^ k) col in
    let high = drop (2 ^ k) col in
    elim (all (eqb 0) col) [
      | true ↦ 1
      | false ↦
          elim (all (eqb 1) col) [
            | true ↦ 1
            | false ↦
                elim (same low high) [
                  | true ↦ tree_size k low
                  | false ↦
                      let j = join_of low high in
                      let l : ℕ = elim (builds_low j) [ true ↦ tree_size k low | false ↦ 0 ] in
                      let h : ℕ = elim (builds_high j) [ true ↦ tree_size k high | false ↦ 0 ] in
                      l + h + length (join_gates j 0 0 0)
                ]
          ]
    ]
