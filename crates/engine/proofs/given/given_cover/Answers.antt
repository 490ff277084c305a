-- `engine::given::given_cover` meets its contract: cubes that are refuted at once are left out, and then others. Assumes nothing.
use native.Mathlib.Omega.{arith}
use Rattle.engine.proofs.Laws.Imply.{unrefuted-then, cover-given}
use Rattle.engine.proofs.given.given_cover.Goals as goal

pub returns : goal.returns
returns c =
    let e = c.unrefuted.ensures in
    (cover-given (omega arith) c.cover_of-cover.ensures c.requires (unrefuted-then c.unrefuted-left.ensures.0 e.0), e.1)
