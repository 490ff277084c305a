-- `engine::miter::gate_code` meets its contract: the slots that it packs are those of the shifted gate. Assumes nothing.
use mathlib.Core.Path.{◌≡◌}
use mathlib.Core.List.{◌++◌}
use native.Mathlib.Omega.{arith}
use lib.ListN.{drop}
use Rattle.records.specs.Service.{struct_slots}
use Rattle.engine.specs.Inner.Shifted.{shifted_net}
use Rattle.engine.proofs.Laws.InPlace.{mapped}
use Rattle.engine.proofs.Laws.MiterCode.{shifted-below, packed-shifted}
use Rattle.engine.proofs.miter.gate_code.Goals as goal
use Rattle.engine.proofs.miter.gate_code.Goals.{After-shift_nets}

-- the slots once those that are used are shifted
slots : (c : After-shift_nets) → c.shift_nets.new.nets ++ drop c.args.gate.count c.slots_of-slots.result
    ≡ mapped (shifted_net c.args.inputs c.args.shift) c.args.gate.count (struct_slots c.args.gate)
slots c = rw (c.shift_nets.ensures, c.slots_of-slots.ensures)

pub pack-requires : goal.pack-requires
pack-requires c =
    let a = c.args in
    let r = c.requires.0 in
    (omega (arith, r.kind), omega (arith, r.count), c.requires.1, rw (slots (goal.at.pack-requires c).After-shift_nets) (shifted-below a.inputs a.shift (struct_slots a.gate) r.slots a.gate.count))

pub returns : goal.returns
returns c =
    let a = c.args in
    packed-shifted a.gate a.own a.inputs a.shift (slots (goal.at.returns c).After-shift_nets) c.pack.ensures
