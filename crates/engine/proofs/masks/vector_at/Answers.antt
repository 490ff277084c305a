-- `engine::masks::vector_at` meets its contract. Assumes nothing.
use Prim.Native.Nat.{ℕ, ◌*◌, ◌%◌, ◌^◌, ◌≤◌, ◌<◌}
use mathlib.Core.Path.{◌≡◌}
use native.Mathlib.Omega.{arith}
use lib.Pow.{pow_mono}
use Rattle.engine.proofs.Laws.Gray.{ordered-plain, ordered-swapped}
use Rattle.engine.proofs.masks.vector_at.Goals as goal

-- a shift by a target's number
shifted : {u : ℕ} → u < 4 → 1 * 2 ^ u % 18446744073709551616 ≡ 2 ^ u
shifted {u} h = let q : 2 ^ u ≤ 8 = pow_mono {j = 3} (omega arith) in omega arith

pub returns-then-v-u : goal.returns-then-v-u
returns-then-v-u c = ordered-plain c.args.u c.args.step c.if-v-u.true

pub returns-else-v-u : goal.returns-else-v-u
returns-else-v-u c = ordered-swapped c.args.u c.args.step _ (shifted c.requires.0) c.if-v-u.false
