-- `engine::tree::put_join` meets its contract: for each join that may be told, its gates have room and are those put. Assumes nothing.
use Prim.Native.Nat.{ℕ, ◌+◌, ◌-◌, ◌<◌}
use mathlib.Core.Path.{◌≡◌, refl, sym, ap}
use mathlib.Core.List.{List, [], ◌∷◌}
use mathlib.Core.Bool.{true}
use native.Mathlib.Omega.{arith}
use Rattle.records.specs.Gate.{Gate}
use Rattle.engine.specs.Tree.{buf_of, not_of, and_of, or_of, join_gates, builds_low, builds_high}
use Rattle.engine.specs.Inner.Tree.{GateRoom, GatesPut, JoinRoom, join_size}
use Rattle.engine.specs.declared.tree.Join.{Join}
use Rattle.engine.proofs.Laws.Join.{join_size-bounds}
use Rattle.engine.proofs.Laws.Tree.{room-less, room_next, gates-put-same, gates-put-append}
use Rattle.engine.proofs.tree.put_join.Goals as goal

module _ {j : Join} {s base low high : ℕ} {cs : List ℕ} (n : JoinRoom j s base low high cs) where
  -- there is room for the first gate
  first : GateRoom base (high + 1) cs
  first = room-less n.gates (omega (arith, join_size-bounds j))

  -- .. and, behind it, for the second of a join of two
  second : {i : Join} {r : ℕ} {g : Gate} {cs' : List ℕ} → j ≡ i → join_size i ≡ 2 → GatesPut base high cs (g ∷ []) r cs'
      → GateRoom base (r + 1) cs'
  second e m p = room_next n.gates p (omega (arith, p.end, ap join_size e))

  -- a tree stands before the gates that join where a half has one
  above_low : builds_low j ≡ true → 0 < high
  above_low e = let h = n.low-built e in omega (arith, n.order)

  -- the gates of the join that is told
  told : {i : Join} → j ≡ i → join_gates i s (base + low - 1) (base + high) ≡ join_gates j s (base + low - 1) (base + high)
  told e = ap (λ (i : Join). join_gates i s (base + low - 1) (base + high)) (sym e)

pub add_gate-requires : goal.add_gate-requires
add_gate-requires c = (first c.requires, omega arith, omega arith, c.requires.chooser, omega arith)

pub add_gate-requires-in-Not : goal.add_gate-requires-in-Not
add_gate-requires-in-Not c = (first c.requires, omega arith, omega arith, c.requires.chooser, omega arith)

pub overflow_sub-n : goal.overflow_sub-n
unfolding builds_high
overflow_sub-n c = let h = c.requires.high-built (ap builds_high c.in-AndHigh.is) in omega arith

pub add_gate-requires-in-AndHigh : goal.add_gate-requires-in-AndHigh
add_gate-requires-in-AndHigh c = (first c.requires, omega arith, omega arith, c.requires.chooser, omega arith)

pub overflow_sub-n-in-OrLow : goal.overflow_sub-n-in-OrLow
unfolding builds_low
overflow_sub-n-in-OrLow c = let h = above_low c.requires (ap builds_low c.in-OrLow.is) in omega arith

pub add_gate-requires-in-OrLow : goal.add_gate-requires-in-OrLow
add_gate-requires-in-OrLow c = (first c.requires, omega arith, omega arith, c.requires.chooser, omega arith)

pub add_gate-next-requires : goal.add_gate-next-requires
add_gate-next-requires c = (first c.requires, omega arith, omega arith, c.requires.chooser, omega arith)

pub overflow_sub-n-in-AndLow : goal.overflow_sub-n-in-AndLow
unfolding builds_low
overflow_sub-n-in-AndLow c = let h = above_low c.requires (ap builds_low c.in-AndLow.is) in omega arith

pub add_gate-requires-in-AndLow : goal.add_gate-requires-in-AndLow
unfolding join_size join_gates
add_gate-requires-in-AndLow c =
    let h = (first c.requires).nets in
    (second c.requires c.in-AndLow.is refl c.add_gate-next.ensures, omega arith, omega arith, omega arith, omega arith)

pub add_gate-next-requires-in-OrHigh : goal.add_gate-next-requires-in-OrHigh
add_gate-next-requires-in-OrHigh c = (first c.requires, omega arith, omega arith, c.requires.chooser, omega arith)

pub overflow_sub-n-in-OrHigh : goal.overflow_sub-n-in-OrHigh
unfolding builds_high
overflow_sub-n-in-OrHigh c = let h = c.requires.high-built (ap builds_high c.in-OrHigh.is) in omega arith

pub add_gate-requires-in-OrHigh : goal.add_gate-requires-in-OrHigh
unfolding join_size join_gates
add_gate-requires-in-OrHigh c =
    let h = (first c.requires).nets in
    (second c.requires c.in-OrHigh.is refl c.add_gate-next-in-OrHigh.ensures, omega arith, omega arith, omega arith, omega arith)

pub overflow_sub-base : goal.overflow_sub-base
unfolding builds_low
overflow_sub-base c = let h = c.requires.low-built (ap builds_low c.in-Both.is) in omega arith

pub put_mux-requires : goal.put_mux-requires
unfolding join_size join_gates builds_high
put_mux-requires c =
    let e = c.in-Both.is in
    let n = c.requires.gates.nets in
    let o = c.requires.order in
    (room-less c.requires.gates (omega (arith, ap join_size e)), c.requires.chooser, omega arith, c.requires.high-built (ap builds_high e))

pub returns-in-Buf : goal.returns-in-Buf
unfolding join_gates buf_of
returns-in-Buf c = gates-put-same c.add_gate.ensures (told c.requires c.in-Buf.is)

pub returns-in-Not : goal.returns-in-Not
unfolding join_gates not_of
returns-in-Not c = gates-put-same c.add_gate-in-Not.ensures (told c.requires c.in-Not.is)

pub returns-in-AndHigh : goal.returns-in-AndHigh
unfolding join_gates and_of
returns-in-AndHigh c = gates-put-same c.add_gate-in-AndHigh.ensures (told c.requires c.in-AndHigh.is)

pub returns-in-OrLow : goal.returns-in-OrLow
unfolding join_gates or_of
returns-in-OrLow c = gates-put-same c.add_gate-in-OrLow.ensures (told c.requires c.in-OrLow.is)

pub returns-in-AndLow : goal.returns-in-AndLow
unfolding join_gates not_of and_of
returns-in-AndLow c =
    gates-put-same (gates-put-append c.add_gate-next.ensures c.add_gate-in-AndLow.ensures) (told c.requires c.in-AndLow.is)

pub returns-in-OrHigh : goal.returns-in-OrHigh
unfolding join_gates not_of or_of
returns-in-OrHigh c =
    gates-put-same (gates-put-append c.add_gate-next-in-OrHigh.ensures c.add_gate-in-OrHigh.ensures)
    (told c.requires c.in-OrHigh.is)
