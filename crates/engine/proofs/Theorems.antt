-- What specs/Claims.antt promises of the engine's definitions. Assumes nothing.
use Prim.Native.Nat.{ℕ, ◌+◌}
use mathlib.Core.Path.{◌≡◌, ◌∙◌, ap}
use mathlib.Core.Logic.{inl, inr, ⊎_elim}
use mathlib.Core.List.{List}
use mathlib.Core.Bool.{true, false}
use native.Mathlib.Omega.{arith}
use Rattle.records.specs.Job.{Job}
use Rattle.engine.specs.Choice.{any}
use Rattle.engine.specs.Rectify.{rectifies, vector_loop}
use Rattle.engine.specs.Support.{sound, candidate_nets, subsets, better, chosen, table_of}
use Rattle.engine.specs.Verdict.{patch, blind, blind_reading, ruling}
use Rattle.engine.specs.Claims.{In, Rectifiable, TernaryKnown, TernaryUnknown, TernaryListKnown, TernaryListUnknown, TernaryFold, TernaryInverts, LoopEnds, EveryTable, Readings, PatchExactly, PatchTable, LeastCost, SoundExactly, FewestGates, WinsTies, UnfixableExactly, BlindExactly, HalvesEqual, SharesNone}
use Rattle.engine.proofs.Laws.Choice.{any-iff-member, none_or_some, true-or-false}
use Rattle.engine.proofs.Laws.Ternary.{entry-known-iff, entry-unknown-iff, list-known-iff, list-unknown-iff, fold_more, fold-inverts}
use Rattle.engine.proofs.Laws.Support.{golden-iff, golden-iff-readings, golden-of-sound, carries-of-sound, sound-of-carries, sound-iff-subset-carries, reading-vector, rectifiable-of-carries, shared-none-iff}
use Rattle.engine.proofs.Laws.Best.{better-neither, chosen-sound, chosen-least, chosen-fewest}
use Rattle.engine.proofs.Laws.Loop.{rectifiable-iff, listed-of-none, listed-of-some, unlisted-of-some, stuck-iff, stuck-none-iff}
use Rattle.engine.proofs.Laws.Notes.{rectify-iff}
use Rattle.engine.proofs.Laws.Tree.{same-iff-bits}
use Rattle.engine.proofs.Laws.Verdict.{LeastBlind, ruling-unfixable, ruling-patch, ruling-blind, unfixable-stuck, patch-chosen, blind-reading, blind-least, blind-unique, unsound-of-blind}

pub rectifiable-exactly : Rectifiable
rectifiable-exactly = rectifiable-iff

pub ternary-known : TernaryKnown
ternary-known k x y v h l = entry-known-iff x y k h l v

pub ternary-unknown : TernaryUnknown
ternary-unknown k x y = entry-unknown-iff x y k

pub ternary-list-known : TernaryListKnown
ternary-list-known = list-known-iff

pub ternary-list-unknown : TernaryListUnknown
ternary-list-unknown = list-unknown-iff

pub ternary-fold : TernaryFold
ternary-fold = fold_more

pub ternary-inverts : TernaryInverts
ternary-inverts = fold-inverts

pub loop-ends : LoopEnds
loop-ends j =
    let vs = (vector_loop j).vectors in
    let listed : (x : ℕ) → (v : ℕ) × In v vs × (rectifies j x v ≡ true) → any (rectifies j x) vs ≡ true =
    λ x. (any-iff-member (rectifies j x) vs).1 in
    ⊎_elim
    (λ e. inl (e, λ x h. listed x (listed-of-none j e x h)))
    (λ s.
    let r = (stuck-iff j s.0).0 s.1 in
    inr (s.0, s.1, r.0, unlisted-of-some j s.0 s.1, r.1, λ y h. listed y (listed-of-some j s.0 s.1 y h)))
    (none_or_some (vector_loop j).stuck)

pub every-table : EveryTable
every-table j is t = (
  λ g. (golden-iff-readings j is t).0 ((golden-iff j is t).1 g),
  λ h. (golden-iff j is t).0 ((golden-iff-readings j is t).1 h),
)

pub readings : Readings
readings j g is m x v = reading-vector j g is m x v

-- where all candidates together are sound, every input is fixable, and the verdict is the patch over the chosen support
pub sound-ruling : (j : Job) → sound j (candidate_nets j) ≡ true → ruling j ≡ patch (chosen j)
sound-ruling j s =
    ruling-patch j
    ((stuck-none-iff j).1 (rectifiable-of-carries j (candidate_nets j) (carries-of-sound j (candidate_nets j) s))) s

pub patch-exactly : PatchExactly
patch-exactly j =
    let carries = sound-iff-subset-carries j (candidate_nets j) in (
      λ p. carries.0 (patch-chosen j p.0 p.1).1,
      λ c. (chosen j, sound-ruling j (carries.1 c)),
    )

-- a patch's nets are a sound set of candidates
pub patch-sound : (j : Job) (is : List ℕ) → ruling j ≡ patch is → (sound j is ≡ true) × In is (subsets (candidate_nets j))
patch-sound j is e = let c = patch-chosen j is e in rw c.2 (chosen-sound j c.1)

pub patch-table : PatchTable
patch-table j is e =
    let s = patch-sound j is e in
    (s.1, (golden-iff j is (table_of j is)).0 (golden-of-sound j is s.0))

pub least-cost : LeastCost
least-cost j is e ks m c =
    let p = patch-chosen j is e in
    rw p.2 (chosen-least j ks m (sound-of-carries j ks c)).0

pub sound-exactly : SoundExactly
sound-exactly j is = (carries-of-sound j is, sound-of-carries j is)

pub wins-ties : WinsTies
wins-ties j is e ks m s =
    let p = patch-chosen j is e in
    let n : better j ks is ≡ false = rw p.2 (chosen-least j ks m s).1 in
    ⊎_elim inr (λ b. inl (better-neither j ks is n b)) (true-or-false (better j is ks))

pub fewest-gates : FewestGates
fewest-gates j is e ks m s c =
    let p = patch-chosen j is e in
    rw p.2 (chosen-fewest j ks m s (rw p.2 at c))

pub unfixable-exactly : UnfixableExactly
unfixable-exactly j x = (
  λ e. (stuck-iff j x).0 (unfixable-stuck j x e),
  λ h. ruling-unfixable j x ((stuck-iff j x).1 h),
)

pub blind-exactly : BlindExactly
blind-exactly j r = (
  λ e.
      let b = blind-reading j r e in
      let l = blind-least j b.1 in
      ((stuck-none-iff j).0 b.0, rw b.2 l.below, rw b.2 l.none-shared, rw b.2 l.smaller),
  λ h.
      let l : LeastBlind j r = record { below = h.1; none-shared = h.2; smaller = h.3 } in
      let u = unsound-of-blind j r l in
      ruling-blind j ((stuck-none-iff j).1 h.0) u ∙ ap blind (blind-unique j (blind_reading j) r (blind-least j u) l),
)

pub shares-none : SharesNone
shares-none j is r =
    let i = shared-none-iff j is r in (
      λ e v a. let s = (rectify-iff j is r v).0 a in i.0 e v s.0 s.1,
      λ h. i.1 (λ v l f. h v ((rectify-iff j is r v).1 (l, f))),
    )

pub halves-equal : HalvesEqual
halves-equal tb at half t h = same-iff-bits tb at (at + half) half t (omega arith) h
