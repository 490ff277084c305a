-- `engine::tree::put_tree` meets its contract: it calls itself on each half, and the number of nets falls. Assumes nothing.
use Prim.Native.Nat.{ℕ, ◌+◌, ◌-◌, ◌^◌, ◌≤◌, ◌<◌}
use mathlib.Core.Path.{◌≡◌, sym, ◌∙◌, ap}
use mathlib.Core.List.{List}
use native.Mathlib.Omega.{arith}
use lib.ListN.{length, take, drop}
use lib.Seq.{length-take-le}
use Rattle.records.specs.Claims.{Below}
use Rattle.records.specs.Gate.{gate_of}
use Rattle.engine.specs.Tree.{builds_low, builds_high, tree, constant as constant_of}
use Rattle.engine.specs.Inner.Tree.{column_part}
use Rattle.engine.proofs.Laws.InPlace.{below-take}
use Rattle.engine.proofs.Laws.Tree.{HalfPut, gates-put-same, deep-equal, deep-split, pow-halves, part_low, part-high, column-rest, kind-constant}
use Rattle.engine.proofs.Laws.Tree.{room-constant, room-equal, room-low, room-high, room-join, half-put, half-none, tree-front}
use Rattle.engine.proofs.Laws.Tree.{tree-constant, tree-equal, put-split}
use Rattle.engine.proofs.tree.+put_tree.Goals as goal
use Rattle.engine.proofs.tree.+put_tree.Goals.{In-Equal, In-Split, After-reading_count-half, Joined-builds_low, Joined-builds_high, then-builds_low, else-builds_low, then-builds_high, else-builds_high}

-- the nets but for the last
fewer : (ns : List ℕ) → length (take (length ns - 1) ns) ≡ length ns - 1
fewer ns = length-take-le (length ns - 1) ns (omega arith)

below-fewer : (ns : List ℕ) → Below 1024 ns → Below 1024 (take (length ns - 1) ns)
below-fewer ns b = below-take 1024 (omega arith) (length ns - 1) ns (λ i h. b i)

deep : (t : ℕ) (c : In-Split t) → 0 < length c.args.nets.now
deep t c = deep-split (length c.args.nets.now) _ _ (sym c.in-Split.ensures)

-- the high half lies in the table
fits : (t : ℕ) (c : After-reading_count-half t) → 0 < length c.args.nets.now
    → c.reading_count-half.result + 2 ^ (length c.args.nets.now - 1) ≤ length c.args.table.now
fits t c d =
    omega (arith, c.reading_count-half.ensures, pow-halves (length c.args.nets.now) d, c.requires.table_part.0.within)

-- what is put of each half
low-put : (t : ℕ) (c : Joined-builds_low t) → let a = c.args in
    HalfPut (builds_low c.in-Split.join) a.table.now 0 (length a.nets.now) a.t a.base a.nets.now a.count a.gates.now c.if-builds_low.low c.if-builds_low.gates
low-put t c =
    let a = c.args in
    let b = c.builds_low.ensures in
    let ns = a.nets.now in
    elim c.if-builds_low.branch [
      | then-builds_low w ↦
          rw (w.low-is, w.gates-is)
          (half-put (sym b ∙ w.if-builds_low.true)
          (gates-put-same w.put_tree-low.ensures
          (tree-front (length ns - 1) (a.base + a.count) ns (λ m. column_part a.table.now 0 m a.t) (omega arith))))
      | else-builds_low w ↦ rw (w.low-is, w.gates-is) (half-none _ (sym b ∙ w.if-builds_low.false))
    ]

high-put : (t : ℕ) (c : Joined-builds_high t) → let a = c.args in
    let l = c.if-builds_low in
    c.reading_count-half.result + 2 ^ (length a.nets.now - 1) ≤ length a.table.now
    → HalfPut (builds_high c.in-Split.join) a.table.now (0 + c.reading_count-half.result) (length a.nets.now) a.t a.base a.nets.now l.low l.gates
    c.if-builds_high.high
    c.if-builds_high.gates
high-put t c f =
    let a = c.args in
    let l = c.if-builds_low in
    let b = c.builds_high.ensures in
    let ns = a.nets.now in
    let half = c.reading_count-half.result in
    elim c.if-builds_high.branch [
      | then-builds_high w ↦
          rw (w.high-is, w.gates-is)
          (half-put (sym b ∙ w.if-builds_high.true)
          (gates-put-same w.put_tree-high.ensures
          (tree-front (length ns - 1) (a.base + l.low) ns
          (λ m. column_part (take (length a.table.now - half) (drop half a.table.now)) 0 m a.t)
          (omega arith)
          ∙ ap (tree (length ns - 1) (a.base + l.low) ns) (column-rest a.table.now (length ns - 1) a.t half f))))
      | else-builds_high w ↦ rw (w.high-is, w.gates-is) (half-none _ (sym b ∙ w.if-builds_high.false))
    ]

pub add_gate-requires : goal.add_gate-requires
add_gate-requires t c =
    let q = sym c.in-Constant.ensures in
    let k = length c.args.nets.now in (
      room-constant c.args.count k _ _ q c.requires.gate_room,
      omega (arith, kind-constant k _ _ q),
      omega arith,
      omega arith,
      omega arith,
    )

pub slice_bounds-put_tree-count : goal.slice_bounds-put_tree-count
slice_bounds-put_tree-count t c = deep-equal (length c.args.nets.now) _ (sym c.in-Equal.ensures)

pub put_tree-requires : goal.put_tree-requires
put_tree-requires t c =
    let a = c.args in
    let ns = a.nets.now in
    let q = sym c.in-Equal.ensures in
    let d = deep-equal (length ns) _ q in
    let e = fewer ns in (
      omega (arith, e),
      (
        (rw e (part_low c.requires.table_part.0 d), below-fewer ns c.requires.table_part.1),
        rw e (room-equal a.table.now 0 (length ns) a.t a.count q c.requires.gate_room),
      ),
    )

pub overflow_sub-k : goal.overflow_sub-k
overflow_sub-k t c = deep t (goal.at.overflow_sub-k t c).In-Split

pub slice_bounds-put_tree-count-then-builds_low : goal.slice_bounds-put_tree-count-then-builds_low
slice_bounds-put_tree-count-then-builds_low t c = deep t (goal.at.slice_bounds-put_tree-count-then-builds_low t c).In-Split

pub slice_bounds-put_tree-count-then-builds_high : goal.slice_bounds-put_tree-count-then-builds_high
slice_bounds-put_tree-count-then-builds_high t c =
    let g = goal.at.slice_bounds-put_tree-count-then-builds_high t c in
    omega (arith, fits t g.After-reading_count-half (deep t g.In-Split))

pub slice_bounds-put_tree-start : goal.slice_bounds-put_tree-start
slice_bounds-put_tree-start t c =
    let g = goal.at.slice_bounds-put_tree-start t c in
    omega (arith, fits t g.After-reading_count-half (deep t g.In-Split))

pub slice_bounds-put_tree-count-then-builds_high-2 : goal.slice_bounds-put_tree-count-then-builds_high-2
slice_bounds-put_tree-count-then-builds_high-2 t c = deep t (goal.at.slice_bounds-put_tree-count-then-builds_high-2 t c).In-Split

pub overflow_sub-k-in-Split : goal.overflow_sub-k-in-Split
overflow_sub-k-in-Split t c = deep t (goal.at.overflow_sub-k-in-Split t c).In-Split

pub bounds-nets-k : goal.bounds-nets-k
bounds-nets-k t c = omega (arith, deep t (goal.at.bounds-nets-k t c).In-Split)

pub put_tree-low-requires : goal.put_tree-low-requires
put_tree-low-requires t c =
    let a = c.args in
    let ns = a.nets.now in
    let q = sym c.in-Split.ensures in
    let d = deep-split (length ns) _ _ q in
    let e = fewer ns in (
      omega (arith, e),
      (
        (rw e (part_low c.requires.table_part.0 d), below-fewer ns c.requires.table_part.1),
        rw e
            (room-low a.table.now 0 (length ns) a.t _ a.base ns _ q c.reading_count-half.ensures a.count
            (sym c.builds_low.ensures ∙ c.if-builds_low.true)
            c.requires.gate_room),
      ),
    )

pub put_tree-high-requires : goal.put_tree-high-requires
put_tree-high-requires t c =
    let a = c.args in
    let ns = a.nets.now in
    let q = sym c.in-Split.ensures in
    let d = deep-split (length ns) _ _ q in
    let g = goal.at.put_tree-high-requires t c in
    let half = c.reading_count-half.result in
    let e = fewer ns in (
      omega (arith, e),
      (
        (rw e (part-high c.requires.table_part.0 d c.reading_count-half.ensures), below-fewer ns c.requires.table_part.1),
        rw (e, column-rest a.table.now (length ns - 1) a.t half (fits t g.After-reading_count-half d))
            (room-high a.table.now 0 (length ns) a.t _ a.base ns _ q c.reading_count-half.ensures c.requires.gate_room
            (low-put t g.Joined-builds_low)
            (sym c.builds_high.ensures ∙ c.if-builds_high.true)),
      ),
    )

pub put_join-requires : goal.put_join-requires
put_join-requires t c =
    let a = c.args in
    let ns = a.nets.now in
    let g = goal.at.put_join-requires t c in
    let d = deep t g.In-Split in
    room-join a.table.now 0 (length ns) a.t _ a.base ns _ (sym c.in-Split.ensures) c.reading_count-half.ensures c.requires.gate_room
    (low-put t g.Joined-builds_low)
    _
    (c.requires.table_part.1 (length ns - 1))
    (high-put t g.Joined-builds_high (fits t g.After-reading_count-half d))

pub returns-in-Constant : goal.returns-in-Constant
unfolding gate_of constant_of
returns-in-Constant t c =
    let a = c.args in
    gates-put-same c.add_gate.ensures (sym (tree-constant (length a.nets.now) _ a.nets.now _ _ (sym c.in-Constant.ensures)))

pub returns-in-Equal : goal.returns-in-Equal
returns-in-Equal t c =
    let a = c.args in
    let ns = a.nets.now in
    gates-put-same c.put_tree.ensures
    (tree-front (length ns - 1) (a.base + a.count) ns (λ m. column_part a.table.now 0 m a.t) (omega arith)
    ∙ sym (tree-equal a.table.now 0 (length ns) a.t _ ns (sym c.in-Equal.ensures)))

pub returns-after-builds_high : goal.returns-after-builds_high
returns-after-builds_high t c =
    let a = c.args in
    let ns = a.nets.now in
    let g = goal.at.returns-after-builds_high t c in
    let d = deep t g.In-Split in
    put-split a.table.now 0 (length ns) a.t _ a.base ns _ (sym c.in-Split.ensures) c.reading_count-half.ensures c.requires.gate_room
    (low-put t g.Joined-builds_low)
    (high-put t g.Joined-builds_high (fits t g.After-reading_count-half d))
    c.put_join.ensures
