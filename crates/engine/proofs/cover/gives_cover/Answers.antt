-- `engine::cover::gives_cover` meets its contract: no reading of the block is in a cube. Assumes nothing.
use Prim.Native.Nat.{ℕ, ◌<◌}
use native.Mathlib.Omega.{arith}
use lib.ListN.{length, take}
use Rattle.std.proofs.Common.{rules}
use Rattle.std.proofs.lemmas.Iterator.{cases_from_any, YieldsList-from_slice}
use Rattle.engine.specs.Inner.Cover.{InCube, no_cube, reading_in}
use Rattle.engine.specs.declared.cube.Cube.{Cube}
use Rattle.engine.proofs.Laws.Cover.{cubes-at}
use Rattle.engine.proofs.cover.gives_cover.Goals as goal

pub returns : goal.returns
returns c e y l m =
    let p = c.args.plan.now in
    let none = cases_from_any _ _ _ (λ u. Unit {0})
    (λ (u : Cube). (x : ℕ) → x < 1024 → InCube u (reading_in c.args.words.now (take p.reads.len p.reads.nets) x) → ⊥)
    c.any.ensures.ran (YieldsList-from_slice c.cubes.result.now cc) (λ x q k. tt) (λ x q k. search rules) in
    let k = cubes-at {n = length c.cubes.result.now} c.cubes.ensures (omega arith) (omega arith) m in
    (rw e at none) k.0 no_cube (omega arith) k.1 y l k.2
