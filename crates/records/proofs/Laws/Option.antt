-- What a test that gives a value or none tells, and what a `?` hands on. Assumes nothing.
use mathlib.Core.Path.{◌≡◌, refl, ap}
use mathlib.Core.Bool.{Bool, true, false, true≢false, cond}
use Rattle.std.specs.Prelude.{Some, None, Result, Ok, Err}
use Rattle.std.specs.Result.{IsErrAnd}

pub some-none : {A : Type 0} {x : A} → Some x ≡ None → ⊥
some-none e = let z : ◌≡◌ {A = Bool} true false = cc in absurd (true≢false z)

pub pick-some : {A : Type 0} (b : Bool) (x y : A) → cond b (Some x) None ≡ Some y → (b ≡ true) × (y ≡ x)
pick-some true x y e = (refl, cc)
pick-some false x y e = let z : ◌≡◌ {A = Bool} true false = cc in absurd (true≢false z)

pub pick-none : {A : Type 0} (b : Bool) (x : A) → cond b (Some x) None ≡ None → b ≡ false
pick-none false x e = refl
pick-none true x e = let z : ◌≡◌ {A = Bool} true false = cc in absurd (true≢false z)

pub err-is : {A E : Type 0} (r : Result A E) (e : E) → IsErrAnd r (λ y. y ≡ e) → r ≡ Err e
err-is (Ok x) e p = absurd p
err-is (Err y) e p = ap Err p
