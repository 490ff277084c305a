-- `engine::merge::pairs_apart` meets its contract. The invariant: the pairs so far are kept but for those of one net. Assumes nothing.
use Rattle.std.proofs.Common.{rules}
use mathlib.Core.Path.{◌≡◌, refl, ◌∙◌}
use mathlib.Core.Logic.{⊎_elim}
use mathlib.Core.List.{[], ◌∷◌}
use native.Mathlib.Omega.{arith}
use lib.ListN.{length-set}
use Rattle.engine.proofs.Laws.Pairs.{Pairing, pairs, pairs-none, pairing-left, pairing-more, pairing-room, pairing-long, pairing-all}
use Rattle.engine.proofs.merge.pairs_apart.Goals as goal
use Rattle.engine.proofs.merge.pairs_apart.Goals.{In-Some}

pub loop-a-init : goal.loop-a-init
loop-a-init c =
    (refl, refl, record { olds = []; news = []; old-rest = search rules; new-rest = search rules; long = refl; kept = pairs-none })

-- the lists from the pair at hand on
at-hand : (c : In-Some) → Pairing c.args.outputs.now c.args.goldens.now
    (c.in-Some.a.now ∷ c.next.new.self.a.rest.now)
    (c.in-Some.b.now ∷ c.next.new.self.b.rest.now)
    (pairs c.loop-a.count c.loop-a.olds c.loop-a.news)
at-hand c =
    let s = c.in-Some.ensures.steps in
    let a : c.loop-a.a-iterator.a.rest.now ≡ c.in-Some.a.now ∷ c.next.new.self.a.rest.now = s.0 in
    let b : c.loop-a.a-iterator.b.rest.now ≡ c.in-Some.b.now ∷ c.next.new.self.b.rest.now = s.1 in
    rw (a, b) at c.loop-a.invariant.2

pub loop-a-preserved : goal.loop-a-preserved
loop-a-preserved c =
    let w = c.loop-a.invariant in
    (w.0, w.1, pairing-left (at-hand (goal.at.loop-a-preserved c).In-Some) c.if-a-b.false)

pub bounds-olds-count : goal.bounds-olds-count
bounds-olds-count c = omega (arith, pairing-room (at-hand (goal.at.bounds-olds-count c).In-Some), c.requires)

pub loop-a-preserved-then-a-b : goal.loop-a-preserved-then-a-b
loop-a-preserved-then-a-b c =
    let p = at-hand (goal.at.loop-a-preserved-then-a-b c).In-Some in
    let l = c.loop-a in
    let w = l.invariant in (
      length-set l.olds l.count c.in-Some.a.now ∙ w.0,
      length-set l.news l.count c.in-Some.b.now ∙ w.1,
      pairing-more p (omega (arith, pairing-room p, c.requires, w.0)) (omega (arith, pairing-room p, c.requires, w.1)),
    )

pub returns : goal.returns
returns c =
    let l = c.loop-a in
    pairing-all l.invariant.2 c.requires.1
    (⊎_elim
    (λ x. x.1.0)
    (λ x. omega (arith, x.1.0, pairing-long l.invariant.2 c.requires.1))
    c.in-None.ensures.steps)
