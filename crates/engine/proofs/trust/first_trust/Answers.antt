-- `engine::trust::first_trust` meets its contract: of 2 ^ 20 inputs one in 16,384 is 64. Assumes nothing.
use Prim.Native.Nat.{◌^◌, ◌≤◌}
use native.Mathlib.Omega.{arith}
use lib.Pow.{pow_mono}
use Rattle.engine.proofs.trust.first_trust.Goals as goal

pub returns : goal.returns
returns c = let m : 2 ^ c.args.inputs ≤ 1048576 = pow_mono {j = 20} c.requires in omega arith
