-- `engine::cover::gives_cube` meets its contract: the row says of no input that it gives a reading of the cube. Assumes nothing.
use native.Mathlib.Omega.{arith}
use borrow.Author.Tests.{tests}
use Rattle.std.proofs.Common.{rules}
use Rattle.engine.proofs.cover.gives_cube.Goals as goal

pub returns : goal.returns
returns c e y l m = omega (arith, c.zero_row.ensures (search (rules, tests)) y l, c.cube_row.ensures y l m)
