-- `engine::tree::column_word` meets its contract. The invariant: w has the entries from place i on. Assumes nothing.
use Prim.Native.Nat.{◌^◌, ◌≤◌}
use mathlib.Core.Path.{◌≡◌}
use lib.ListN.{drop}
use Rattle.engine.specs.Eval.{number_of}
use Rattle.engine.specs.Inner.Tree.{column_part}
use Rattle.engine.proofs.tree.column_word.Given as goal

abbrev pub invariant-loop-i : goal.invariant-loop-i
invariant-loop-i l = (l.i ≤ 2 ^ l.k) × (l.w ≡ number_of (drop l.i (column_part l.table 0 l.k l.t)))
