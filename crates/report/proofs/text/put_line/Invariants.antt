-- The numbers of the values passed stand behind the word.
use Rattle.std.proofs.Common.{◌≡◌, ◌++◌, map, take}
use Rattle.report.specs.Text.{numbers}
use Rattle.report.proofs.text.put_line.Given as goal

abbrev pub invariant-loop-x : goal.invariant-loop-x
invariant-loop-x g l = l.text.items ≡ l.initial.text.items ++ numbers (map g.T.Shown.shown (take l.x-index l.values))
