-- `engine::renumber::moved_code` meets its contract. Assumes nothing.
use Prim.Native.Nat.{min, ◌/◌}
use mathlib.Core.Path.{◌≡◌, ◌∙◌}
use mathlib.Core.List.{◌++◌}
use native.Mathlib.Omega.{arith}
use lib.ListN.{get_or, drop}
use Rattle.engine.specs.Inner.Packed.{fields, count_of}
use Rattle.engine.proofs.Laws.InPlace.{mapped, mapped-below, below-take}
use Rattle.engine.proofs.Laws.FitCode.{below-fields, moved-packed}
use Rattle.engine.proofs.renumber.moved_code.Goals as goal
use Rattle.engine.proofs.renumber.moved_code.Goals.{After-move_nets}

pub move_nets-requires : goal.move_nets-requires
move_nets-requires c =
    rw c.slots_in-slots.ensures (below-take 1024 (omega arith) c.min-used.result (fields 4 (c.args.c / 131072)) (λ i h. below-fields 4 (c.args.c / 131072) i))

-- the slots once those that are used are moved
slots : (c : After-move_nets) → c.move_nets.new.nets ++ drop c.min-used.result c.slots_in-slots.result
    ≡ mapped (λ o. get_or c.args.numbers.now o 0) (min 4 (count_of c.args.c)) (fields 4 (c.args.c / 131072))
slots c = rw (c.move_nets.ensures, c.slots_in-slots.ensures, c.min-used.ensures, c.count_of-count.ensures)

pub pack-requires : goal.pack-requires
pack-requires c =
    let a = c.args in (
      omega (arith, c.kind_of.ensures),
      omega (arith, c.count_of-count.ensures),
      c.requires.0,
      rw (slots (goal.at.pack-requires c).After-move_nets)
          (mapped-below (λ o. get_or a.numbers.now o 0) 1024 (min 4 (count_of a.c)) (fields 4 (a.c / 131072))
          (below-fields 4 (a.c / 131072))
          (λ i. c.requires.1 _ (below-fields 4 (a.c / 131072) i))),
    )

pub returns : goal.returns
returns c =
    let a = c.args in
    c.pack.ensures
    ∙ (rw (slots (goal.at.returns c).After-move_nets, c.kind_of.ensures, c.count_of-count.ensures) (moved-packed a.numbers.now a.c a.own))
