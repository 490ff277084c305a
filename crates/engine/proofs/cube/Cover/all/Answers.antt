-- `engine::cube::Cover::all` meets its contract. Assumes nothing.
use mathlib.Core.Path.{refl}
use Rattle.engine.proofs.Laws.Cover.{cover_all}
use Rattle.engine.proofs.cube.Cover.all.Goals as goal

pub returns : goal.returns
returns c = cover_all _ refl refl refl
