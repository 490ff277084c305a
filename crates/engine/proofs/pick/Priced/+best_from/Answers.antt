-- `engine::pick::Priced::best_from` meets its contract: it calls itself without the net below the place, where that is sound, and with it,
-- and the number of open places falls. Assumes nothing.
use Prim.Native.Nat.{suc, ◌-◌}
use mathlib.Core.Path.{◌≡◌, refl}
use mathlib.Core.Logic.{inl, inr}
use native.Mathlib.Omega.{arith}
use Rattle.engine.proofs.Laws.Pick.{halves, fewer-open, kept-room, left_open, best-dearer, best-joined}
use Rattle.engine.proofs.pick.Priced.+best_from.Goals as goal
use Rattle.engine.proofs.pick.Priced.+best_from.Goals.{then-leave_out, else-leave_out}

pub returns-then-best-from : goal.returns-then-best-from
returns-then-best-from t c j w g h = best-dearer j w g h c.if-best-from.true

pub split_at_mut-fewer-requires : goal.split_at_mut-fewer-requires
split_at_mut-fewer-requires t c =
    let l = halves {n = c.args.from.len} (omega (arith, c.requires.0.places)) in
    omega (arith, c.reading_count.ensures)

pub best_from-found-requires : goal.best_from-found-requires
best_from-found-requires t c =
    let p = c.requires in
    let l = halves {n = c.args.from.len} (omega (arith, p.0.places)) in
    let s = c.split_at_mut-fewer.ensures in (
      omega arith,
      (
        fewer-open p.0 (omega arith) record { set = refl; cost = refl; len = refl; gates = refl },
        omega arith,
        omega (arith, s.front_len, c.leave_out.auto.fewer, c.reading_count.ensures),
        omega (arith, s.back_len, c.reading_count.ensures),
      ),
    )

pub best_from-requires : goal.best_from-requires
best_from-requires t c =
    let p = c.requires in (
      omega arith,
      (
        kept-room p.0 (omega arith) (omega (arith, c.from.ensures)) record { set = refl; cost = refl; len = refl; gates = refl },
        omega arith,
        p.2,
        omega (arith, p.3, c.if-leave_out.auto.room),
      ),
    )

pub returns : goal.returns
returns t c =
    let a = c.args in
    let e : suc (a.i - 1) ≡ a.i = omega arith in
    λ j w g h.
    rw e at
    (best-joined j {p = a.from} w g (rw e h) c.leave_out.ensures
    (elim c.if-leave_out.branch [
      | then-leave_out v ↦ inl (v.if-leave_out.true, rw v.found-is (v.best_from-found.ensures j w g (left_open j {p = a.from} (rw e h) c.leave_out.ensures v.if-leave_out.true record { set = refl; cost = refl; len = refl; gates = refl })))
      | else-leave_out v ↦ inr (v.if-leave_out.false, v.found-is)
    ])
    record { set = refl; cost = omega (arith, c.from.ensures); len = refl; gates = refl }
    (λ v o. c.best_from.ensures j w v o))
