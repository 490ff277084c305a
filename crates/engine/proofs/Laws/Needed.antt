-- Laws of the vector loop's list (specs/Rectify): no vector stands at two places, and each after the first rectifies an input that none
-- before it rectifies. Assumes nothing.
use Prim.Native.Nat.{ℕ, zero, suc, ◌^◌, ◌≤◌, ◌<◌}
use mathlib.Core.Path.{◌≡◌, refl, ap}
use mathlib.Core.Logic.{⊎_elim}
use mathlib.Core.List.{List, [], ◌∷◌, ◌++◌}
use mathlib.Core.Option.{some}
use native.Mathlib.Nat.{eq-or-lt_of_le}
use native.Mathlib.Omega.{arith}
use borrow.Author.Tests.{not-true}
use lib.ListN.{length, get_or, length-append, get_or-append}
use lib.Seq.{get_or-append_seam}
use Rattle.records.specs.Job.{Job}
use Rattle.engine.specs.Choice.{any, first}
use Rattle.engine.specs.Eval.{all_inputs, all_vectors, old_outputs, golden_outputs}
use Rattle.engine.specs.Rectify.{rectifies, unrectified, rounds, vector_loop}
use Rattle.engine.specs.Claims.{WithoutWaste}
use Rattle.engine.proofs.Laws.Choice.{not-both, none_or_some, any-of-member, first-least}
use Rattle.engine.proofs.Laws.FitNets.{mem-at}
use Rattle.engine.proofs.Laws.Loop.{Distinct, rounds-done, rounds-stuck, rounds-again, vectors-distinct, length-vectors-le}
use Rattle.engine.proofs.Laws.Support.{rectifies-iff-outputs}

-- distinct numbers stand at one place each
distinct-once : (vs : List ℕ) → Distinct vs → (a b : ℕ) → a < length vs → b < length vs → get_or vs a 0 ≡ get_or vs b 0 → a ≡ b
distinct-once [] d a b l m e = let f : ⊥ = omega arith in absurd f
distinct-once (v ∷ vs) d zero zero l m e = refl
distinct-once (v ∷ vs) d zero (suc b) l m e = absurd (d.0 (rw e (mem-at vs b (omega arith))))
distinct-once (v ∷ vs) d (suc a) zero l m e = absurd (d.0 (rw (← e) (mem-at vs a (omega arith))))
distinct-once (v ∷ vs) d (suc a) (suc b) l m e = ap suc (distinct-once vs d.1 a b (omega arith) (omega arith) e)

module _ (j : Job) where
  -- a round, which takes input x, appends v to vs
  abbrev Appends : List ℕ → ℕ → ℕ → Type 0
  Appends vs x v = (first (unrectified j vs) (all_inputs j) ≡ some x) × (first (rectifies j x) (all_vectors j) ≡ some v)

  -- what each round keeps holds of the list at the end
  rounds-keep : (P : List ℕ → Type 0) → ((vs : List ℕ) (x v : ℕ) → Appends vs x v → P vs → P (vs ++ (v ∷ [])))
      → (k : ℕ) (vs : List ℕ) → P vs → P (rounds j k vs).vectors
  unfolding rounds
  rounds-keep P keep zero vs h = h
  rounds-keep P keep (suc k) vs h =
      ⊎_elim
      (λ e. rw (rounds-done j k vs e) h)
      (λ (s : (x : ℕ) × (first (unrectified j vs) (all_inputs j) ≡ some x)).
      ⊎_elim
      (λ n. rw (rounds-stuck j k vs s.0 s.1 n) h)
      (λ (t : (v : ℕ) × (first (rectifies j s.0) (all_vectors j) ≡ some v)).
      rw (rounds-again j k vs s.0 t.0 s.1 t.1)
      (rounds-keep P keep k (vs ++ (t.0 ∷ [])) (keep vs s.0 t.0 (s.1, t.1) h)))
      (none_or_some (first (rectifies j s.0) (all_vectors j))))
      (none_or_some (first (unrectified j vs) (all_inputs j)))

  -- v rectifies an input that none of the vectors at the places of vs before a rectifies
  abbrev NeededAt : List ℕ → ℕ → ℕ → Type 0
  NeededAt vs a v =
      (x : ℕ)
      × (x < 2 ^ j.inputs)
      × (old_outputs j x v ≡ golden_outputs j x)
      × ((b : ℕ) → b < a → old_outputs j x (get_or vs b 0) ≡ golden_outputs j x → ⊥)

  abbrev Needed : List ℕ → Type 0
  Needed vs = (a : ℕ) → 0 < a → a < length vs → NeededAt vs a (get_or vs a 0)

  -- an appended vector is needed
  appended-needed : (vs : List ℕ) (x v : ℕ) → Appends vs x v → NeededAt vs (length vs) v
  unfolding all_inputs all_vectors unrectified
  appended-needed vs x v s =
      let u = first-least (unrectified j vs) (2 ^ j.inputs) x s.0 in
      let r = first-least (rectifies j x) (2 ^ j.targets) v s.1 in (
        x,
        u.below,
        (rectifies-iff-outputs j x v).0 r.holds,
        λ b l e.
            not-both
            (any-of-member (rectifies j x) vs (get_or vs b 0) (mem-at vs b l) ((rectifies-iff-outputs j x (get_or vs b 0)).1 e))
            (not-true (any (rectifies j x) vs) u.holds),
      )

  -- .. in the longer list too
  needed-longer : (vs : List ℕ) (v a w : ℕ) → a ≤ length vs → NeededAt vs a w → NeededAt (vs ++ (v ∷ [])) a w
  needed-longer vs v a w l n =
      (n.0, n.1, n.2, λ b i e. n.3 b i (rw (get_or-append vs (v ∷ []) 0 b (omega arith)) at e))

  needed-round : (vs : List ℕ) (x v : ℕ) → Appends vs x v → Needed vs → Needed (vs ++ (v ∷ []))
  needed-round vs x v s h a p l =
      ⊎_elim
      (λ (e : a ≡ length vs).
      rw (e, get_or-append_seam vs v [] 0) (needed-longer vs v (length vs) v (omega arith) (appended-needed vs x v s)))
      (λ (m : a < length vs).
      rw (get_or-append vs (v ∷ []) 0 a m) (needed-longer vs v a (get_or vs a 0) (omega arith) (h a p m)))
      (eq-or-lt_of_le (omega (arith, length-append vs (v ∷ []))))

  vectors-needed : Needed (vector_loop j).vectors
  unfolding vector_loop
  vectors-needed = rounds-keep Needed needed-round (2 ^ j.targets) (0 ∷ []) (λ a p l. let f : ⊥ = omega arith in absurd f)

  pub without-waste : WithoutWaste j (vector_loop j).vectors
  without-waste =
      record {
        once = distinct-once (vector_loop j).vectors (vectors-distinct j);
        most = length-vectors-le j;
        needed = vectors-needed;
      }
