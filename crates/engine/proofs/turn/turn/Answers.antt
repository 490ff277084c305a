-- `engine::turn::turn` meets its contract. Assumes nothing.
use mathlib.Core.Path.{refl}
use native.Mathlib.Omega.{arith}
use Rattle.records.specs.Bytes.{up_from, all}
use Rattle.engine.specs.Eval.{bit}
use Rattle.engine.proofs.Laws.Turn.{half-mask, turned}
use Rattle.engine.proofs.turn.turn.Goals as goal

pub stage-a-requires : goal.stage-a-requires
unfolding bit all up_from
stage-a-requires c = (omega arith, half-mask 3 71777214294589695 refl)

pub stage-b-requires : goal.stage-b-requires
unfolding bit all up_from
stage-b-requires c = (omega arith, half-mask 2 1085102592571150095 refl)

pub stage-c-requires : goal.stage-c-requires
unfolding bit all up_from
stage-c-requires c = (omega arith, half-mask 1 3689348814741910323 refl)

pub stage-requires : goal.stage-requires
unfolding bit all up_from
stage-requires c = (omega arith, half-mask 0 6148914691236517205 refl)

pub returns : goal.returns
returns c =
    turned c.args.x c.stage-a.result c.stage-b.result c.stage-c.result c.stage.result c.stage-a.ensures
    c.stage-b.ensures
    c.stage-c.ensures
    c.stage.ensures
