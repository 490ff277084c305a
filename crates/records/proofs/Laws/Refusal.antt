-- Laws of specs/Refusal: ascending lists by a lower bound that rises, and the loop over candidates. Assumes nothing.
use Prim.Native.Nat.{ℕ, suc, ◌+◌, ◌*◌, ◌/◌, ◌≤◌, ◌<◌}
use mathlib.Core.Path.{◌≡◌, refl, sym, ◌∙◌, ap}
use mathlib.Core.List.{List, [], ◌∷◌, map}
use mathlib.Core.Bool.{Bool, true, false, ◌&&◌}
use native.Mathlib.Numerals.{add-one}
use lib.ListN.{length, get_or, drop}
use lib.Dec.{leb, ltb, eqb, leb-zero}
use Rattle.records.specs.Bytes.{all, word}
use Rattle.records.specs.Netlist.{net_at}
use Rattle.records.specs.Job.{Candidate, candidate_at, candidates_of}
use Rattle.records.specs.Refusal.{ascending}
use Rattle.records.specs.Inner.{unmarked_ascending}
use Rattle.records.proofs.Laws.Bytes.{drop-tabulate, drop-tabulate-past}

-- each element is above the one before, and the first is at least lo
unfoldable pub ascending_from : ℕ → List ℕ → Bool
ascending_from lo [] = true
ascending_from lo (x ∷ xs) = leb lo x && ascending_from (suc x) xs

ascending-cons : (x : ℕ) (xs : List ℕ) → ascending (x ∷ xs) ≡ ascending_from (suc x) xs
unfolding ascending ascending_from
ascending-cons x [] = refl
ascending-cons x (y ∷ xs) = ap (λ (b : Bool). ltb x y && b) (ascending-cons y xs)

pub ascending-from : (xs : List ℕ) → ascending xs ≡ ascending_from 0 xs
unfolding ascending ascending_from
ascending-from [] = refl
ascending-from (x ∷ xs) = ascending-cons x xs ∙ ap (λ (b : Bool). b && ascending_from (suc x) xs) (sym (leb-zero x))

-- ---- candidates

-- the candidates cs ascend from least on, are below nets and have no mark
unfoldable pub unmarked_from : ℕ → ℕ → List ℕ → List Candidate → Bool
unmarked_from least nets marks cs =
    ascending_from least (map (λ (c : Candidate). c.net) cs)
    && all (λ (c : Candidate). ltb c.net nets && eqb (net_at marks c.net) 0) cs

pub unmarked-from : (nets : ℕ) (marks : List ℕ) (cs : List Candidate)
    → unmarked_from 0 nets marks cs ≡ unmarked_ascending nets marks cs
unfolding unmarked_from unmarked_ascending
unmarked-from nets marks cs = rw (ascending-from (map (λ (c : Candidate). c.net) cs))

and-swap : (a b c d : Bool) → (a && b && (c && d)) ≡ (a && c && (b && d))
and-swap true true c d = refl
and-swap true false true d = refl
and-swap true false false d = refl
and-swap false b c d = refl

-- a turn of a loop over candidates: the one at i passes, and those after it from the next net on
pub unmarked-drop : (least nets : ℕ) (marks s : List ℕ) (i : ℕ) → i < length s / 4
    → let x = word s (4 * i) in
    unmarked_from least nets marks (drop i (candidates_of s))
    ≡ (leb least x
    && (ltb x nets && eqb (get_or marks x 0) 0)
    && unmarked_from (x + 1) nets marks (drop (i + 1) (candidates_of s)))
unfolding candidates_of candidate_at unmarked_from ascending_from all net_at
unmarked-drop least nets marks s i h =
    rw (drop-tabulate (length s / 4) (candidate_at s) i h, and-swap, add-one (word s (4 * i)))

pub unmarked-past : (least nets : ℕ) (marks s : List ℕ) (i : ℕ) → length s / 4 ≤ i
    → unmarked_from least nets marks (drop i (candidates_of s)) ≡ true
unfolding candidates_of unmarked_from ascending_from all
unmarked-past least nets marks s i h = rw (drop-tabulate-past (length s / 4) (candidate_at s) i h)
