-- The result of a comparison as two numbers: what a C program gets. Assumes nothing.
use Rattle.std.specs.Prelude.{ℕ}
use Rattle.std.proofs.Math.Option.{Option, none, some}
use Rattle.engine.specs.declared.comparing.Comparison.{Comparison}

-- 1 where the outputs differ, else 0
unfoldable pub differs_of : Option Comparison → ℕ
differs_of (some Comparison.Equal) = 0
differs_of (some (Comparison.Differs d)) = 1
differs_of none = 0

-- the smallest input at which they differ, 0 where they do not
unfoldable pub input_of : Option Comparison → ℕ
input_of (some Comparison.Equal) = 0
input_of (some (Comparison.Differs d)) = d.input
input_of none = 0
