-- `engine::cube::Cover::push` meets its contract. Assumes nothing.
use mathlib.Core.Path.{refl}
use native.Mathlib.Omega.{arith}
use Rattle.engine.proofs.Laws.Cover.{cube-added}
use Rattle.engine.proofs.cube.Cover.push.Goals as goal

pub returns : goal.returns
returns c = cube-added c.args.cube (omega arith) c.requires refl refl
