-- `engine::pick::Priced::support_of`: the first len places hold what is picked before place i.
use Prim.Native.Nat.{ℕ, ◌≤◌}
use mathlib.Core.Path.{◌≡◌}
use mathlib.Core.List.{List}
use lib.ListN.{length, take}
use Rattle.records.specs.Claims.{Below}
use Rattle.engine.specs.Inner.Best.{picked}
use Rattle.engine.proofs.pick.Priced.support_of.Given as goal

pub record Picking (is : List ℕ) (s i : ℕ) (picks : List ℕ) (len : ℕ) : Type 0 where
  pub places : length picks ≡ 10
  pub most : len ≤ i
  pub long : len ≡ length (picked (take i is) s)
  pub nets : take len picks ≡ picked (take i is) s
  pub below : Below 1024 is → Below 1024 picks

abbrev pub invariant-loop-i : goal.invariant-loop-i
invariant-loop-i l = (l.i ≤ length l.self.nets.now) × Picking l.self.nets.now l.set l.i l.picks l.len
