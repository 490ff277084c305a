-- `engine::guess::shown_by` meets its contract: it is what the test says that was tried. Assumes nothing.
use Prim.Native.Nat.{ℕ}
use mathlib.Core.Path.{◌≡◌}
use native.Mathlib.Omega.{arith}
use Rattle.engine.proofs.guess.shown_by.Goals as goal

-- the ways differ
never : {A : Type 0} → ◌≡◌ {A = ℕ} 0 1 → A
never e = let f : ⊥ = omega arith in absurd f

pub returns-then-try_listed : goal.returns-then-try_listed
returns-then-try_listed c =
    let e = c.try_listed.ensures in
    record {
      free_kept = e.free_kept;
      block_shown = (λ z. e.block_shown c.if-try_listed.true, λ z. never (cc));
    }

pub returns-then-guess_block : goal.returns-then-guess_block
returns-then-guess_block c =
    let e = c.guess_block.ensures in
    record {
      free_kept = e.free_kept;
      block_shown = (λ z. never (cc), λ z. (omega (arith, c.if-trust-eq0.false), e.block_guessed c.if-guess_block.true));
    }
