-- The walk over all inputs lists the vectors that the loop of specs/Rectify lists. Where a step appends a vector or is stuck,
-- the loop's next round takes the same input, since each input before it has a listed vector. Assumes nothing.
use Prim.Native.Nat.{ℕ, suc, ◌+◌, ◌-◌, ◌^◌, ◌≤◌, ◌<◌}
use mathlib.Core.Path.{◌≡◌, refl, sym, ◌∙◌, ap}
use mathlib.Core.Logic.{◌⊎◌, inl, inr, ⊎_elim}
use mathlib.Core.List.Memᴰ.{append_left}
use mathlib.Core.List.Memᴰ.{append_right}
use mathlib.Core.List.Memᴰ.{head as here}
use mathlib.Core.List.Memᴰ.{tail as there}
use mathlib.Core.List.{List, [], ◌∷◌, ◌++◌, Memᴰ as Mem}
use mathlib.Core.Bool.{Bool, true, false, not}
use mathlib.Core.Option.{none, some}
use native.Mathlib.Nat.{zero-add}
use native.Mathlib.Omega.{arith}
use lib.ListN.{length, length-append}
use lib.Pow.{pow_pos, pow_mono}
use Rattle.records.specs.Job.{Job}
use Rattle.engine.specs.Choice.{any, first}
use Rattle.engine.specs.Eval.{all_inputs, all_vectors}
use Rattle.engine.specs.Rectify.{rectifies, unrectified, Listed, rounds, vector_loop}
use Rattle.engine.specs.Inner.Masks.{rectifiers}
use Rattle.engine.specs.Inner.List.{list_step, listed_from, start_list}
use Rattle.engine.proofs.Laws.Choice.{true-or-false, none_or_some, any-true, any-of-member, first-least, first-of-least, first-of-none}
use Rattle.engine.proofs.Laws.Loop.{rounds-done, rounds-stuck, rounds-again, Listing, listing_start, listing-round, listing-length}
use Rattle.engine.proofs.Laws.VectorSets.{in_set, in_set-rectifiers, lowest-rectifiers}
use Rattle.engine.proofs.Laws.List.{walked, walked-holds, eq-or-below, listed-eta, list_step-stuck, list_step-listed, list_step-none, list_step-append, listing, listed_from-walked}

-- ---- the walk gives the list of the loop's rounds

any-agree : (p q : ℕ → Bool) (xs : List ℕ) → ((x : ℕ) → Mem x xs → p x ≡ q x) → any p xs ≡ any q xs
unfolding any
any-agree p q [] h = refl
any-agree p q (x ∷ xs) h = rw (h x (here refl), any-agree p q xs (λ y m. h y (there m)))

-- what holds after the inputs below x: no input is stuck yet, and the rounds left from the list give the loop's result ..
record Going (j : Job) (x : ℕ) (l : Listed) : Type 0 where
  going : l.stuck ≡ none
  listing : Listing j l.vectors
  seen : (y : ℕ) → y < x → any (rectifies j y) l.vectors ≡ true
  left : ℕ
  rest : rounds j (suc left) l.vectors ≡ vector_loop j
  enough : 2 ^ j.targets ≤ left + length l.vectors

-- .. or it is the result already
record Ended (j : Job) (l : Listed) : Type 0 where
  at : ℕ
  stuck : l.stuck ≡ some at
  same : l ≡ vector_loop j

module _ (j : Job) (t : j.targets ≤ 4) where
  going_start : Going j 0 start_list
  unfolding vector_loop
  going_start =
      let p = pow_pos j.targets in
      let e : suc (2 ^ j.targets - 1) ≡ 2 ^ j.targets = omega arith in
      record {
        going = refl;
        listing = listing_start j;
        seen = λ y h. let f : ⊥ = omega arith in absurd f;
        left = 2 ^ j.targets - 1;
        rest = ap (λ (k : ℕ). rounds j k (0 ∷ [])) e;
        enough = omega arith;
      }

  module _ (y : ℕ) (b : y < 2 ^ j.inputs) (l : Listed) (h : Going j y l) where
    listed-any : any (in_set (rectifiers j y)) l.vectors ≡ any (rectifies j y) l.vectors
    listed-any =
        any-agree (in_set (rectifiers j y)) (rectifies j y) l.vectors
        (λ v m. in_set-rectifiers j y v (h.listing.below v m))

    -- the input is rectified by a listed vector
    going-listed : any (rectifies j y) l.vectors ≡ true → Going j (y + 1) (list_step l (rectifiers j y) y)
    going-listed a =
        rw (list_step-listed l (rectifiers j y) y (listed-any ∙ a))
        (record {
          going = h.going;
          listing = h.listing;
          seen = λ z u.
              ⊎_elim (λ (e : z ≡ y). rw e a) (λ (u : z < y). h.seen z u) (eq-or-below z y u);
          left = h.left;
          rest = h.rest;
          enough = h.enough;
        })

    module _ (a : any (rectifies j y) l.vectors ≡ false) where
      -- the loop's next round takes this input
      next-input : first (unrectified j l.vectors) (all_inputs j) ≡ some y
      unfolding all_inputs unrectified
      next-input =
          first-of-least (unrectified j l.vectors) (2 ^ j.inputs) y
          (record { below = b; holds = ap not a; smaller = λ z u. ap not (h.seen z u) })

      ended : first (rectifies j y) (all_vectors j) ≡ none → Ended j (list_step l (rectifiers j y) y)
      ended n =
          rw (list_step-none l (rectifiers j y) y h.going (listed-any ∙ a) (lowest-rectifiers j y t ∙ n))
          (record {
            at = y;
            stuck = refl;
            same = sym (rounds-stuck j h.left l.vectors y next-input n) ∙ h.rest;
          })

      going-append : (v : ℕ) → first (rectifies j y) (all_vectors j) ≡ some v
          → Going j (y + 1) (list_step l (rectifiers j y) y)
      unfolding all_vectors
      going-append v n =
          let ws : List ℕ = l.vectors ++ (v ∷ []) in
          let r = listing-round j l.vectors y v h.listing next-input n in
          let k : length ws ≡ length l.vectors + 1 = length-append l.vectors (v ∷ []) in
          let m : 2 ^ j.targets ≤ 16 = pow_mono t in
          let c = listing-length j ws r in
          let e : suc (h.left - 1) ≡ h.left = omega (arith, h.enough) in
          rw
          (list_step-append l (rectifiers j y) y h.going (listed-any ∙ a) v (lowest-rectifiers j y t ∙ n) (omega arith))
          (record {
            going = refl;
            listing = r;
            seen = λ z u.
                ⊎_elim
                (λ (q : z ≡ y).
                any-of-member (rectifies j z) ws v (append_right l.vectors (here refl))
                (rw q (first-least (rectifies j y) (2 ^ j.targets) v n).holds))
                (λ (u : z < y).
                let w = any-true (rectifies j z) l.vectors (h.seen z u) in
                any-of-member (rectifies j z) ws w.0 (append_left (v ∷ []) w.1) w.2)
                (eq-or-below z y u);
            left = h.left - 1;
            rest = rw e (sym (rounds-again j h.left l.vectors y v next-input n) ∙ h.rest);
            enough = omega (arith, h.enough);
          })

    walk_turn : Going j (y + 1) (list_step l (rectifiers j y) y) ⊎ Ended j (list_step l (rectifiers j y) y)
    walk_turn =
        ⊎_elim
        (λ a. inl (going-listed a))
        (λ a.
        ⊎_elim
        (λ n. inr (ended a n))
        (λ r. inl (going-append a r.0 r.1))
        (none_or_some (first (rectifies j y) (all_vectors j))))
        (true-or-false (any (rectifies j y) l.vectors))

  walk_end : (l : Listed) → Going j (2 ^ j.inputs) l → l ≡ vector_loop j
  unfolding all_inputs unrectified
  walk_end l h =
      listed-eta l none h.going
      ∙ sym
      (rounds-done j h.left l.vectors
      (first-of-none (unrectified j l.vectors) (2 ^ j.inputs) (λ y u. ap not (h.seen y u))))
      ∙ h.rest

  -- the list after all inputs is the loop's
  pub walk-list : listed_from (rectifiers j) start_list 0 (2 ^ j.inputs) ≡ vector_loop j
  walk-list =
      let n : ℕ = 2 ^ j.inputs in
      let w =
      walked-holds (listing (rectifiers j)) (λ y l. Going j y l ⊎ Ended j l) start_list 0 n (inl going_start)
      (λ y a b l s.
      ⊎_elim
      (λ (h : Going j y l). walk_turn y (omega arith) l h)
      (λ (h : Ended j l). inr (rw (list_step-stuck l (rectifiers j y) y h.at h.stuck) h))
      s) in
      listed_from-walked (rectifiers j) start_list 0 n
      ∙ ⊎_elim (λ h. walk_end (walked (listing (rectifiers j)) start_list 0 n) (rw (zero-add n) at h)) (λ h. h.same) w
