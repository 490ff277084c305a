-- `engine::pick::Priced::support_of` meets its contract. The invariant: the first len places hold what is picked before place i.
-- Assumes nothing.
use Prim.Native.Nat.{ℕ, ◌+◌, ◌<◌}
use mathlib.Core.Path.{◌≡◌, refl, sym, ◌∙◌, ap}
use mathlib.Core.List.{List}
use native.Mathlib.Omega.{arith}
use borrow.Author.Tests.{eqb-true, eqb-false, tests}
use Rattle.std.proofs.Common.{rules}
use lib.ListN.{length, get_or, set, length-set}
use lib.Seq.{take-length}
use Rattle.engine.specs.Eval.{bit}
use Rattle.engine.specs.Inner.Best.{picked}
use Rattle.engine.proofs.Laws.List.{set_below}
use Rattle.engine.proofs.Laws.PlanCode.{replicate-le}
use Rattle.engine.proofs.Laws.Picked.{picks-in, length-picked-in, picked-take-out}
use Rattle.engine.proofs.pick.Priced.support_of.Invariants.{Picking}
use Rattle.engine.proofs.pick.Priced.support_of.Goals as goal
use Rattle.engine.proofs.pick.Priced.support_of.Goals.{then-has, else-has}

-- a turn that picks the net, and one that does not
module _ (is : List ℕ) (s i : ℕ) (ps : List ℕ) (len : ℕ) (ps' : List ℕ) (len' : ℕ) (h : i < length is) (few : i < 10)
    (p : Picking is s i ps len) where
  turn_in : bit i s ≡ 1 → ps' ≡ set ps len (get_or is i 0) → len' ≡ len + 1 → Picking is s (i + 1) ps' len'
  turn_in b e n =
      record {
        places = ap length e ∙ length-set ps len (get_or is i 0) ∙ p.places;
        most = omega (arith, p.most);
        long = omega (arith, p.long, length-picked-in is s i h b);
        nets = rw (e, n) (picks-in is ps s i len h p.long (omega (arith, p.most, p.places)) p.nets b);
        below = λ l. rw e (set_below ps len (get_or is i 0) 1024 (p.below l) (l i));
      }

  turn-out : (bit i s ≡ 1 → ⊥) → ps' ≡ ps → len' ≡ len → Picking is s (i + 1) ps' len'
  turn-out b e n =
      let o = picked-take-out is s i h b in
      record {
        places = ap length e ∙ p.places;
        most = omega (arith, p.most);
        long = n ∙ p.long ∙ ap length (sym o);
        nets = rw (e, n) (p.nets ∙ sym o);
        below = λ l. rw e (p.below l);
      }

pub loop-i-init : goal.loop-i-init
unfolding picked
loop-i-init c =
    (omega arith, record { places = refl; most = omega arith; long = refl; nets = refl; below = λ l k. omega (arith, replicate-le 1023 0 10 (omega arith) k) })

pub loop-i-preserved : goal.loop-i-preserved
unfolding bit
loop-i-preserved c =
    let p = c.args.self.now in
    let is = p.nets.now in
    let s = c.args.set in
    let l = c.loop-i in
    let k : l.i < 10 = omega (arith, p.few) in (
      omega arith,
      elim c.if-has.branch [
        | then-has w ↦ turn_in is s l.i l.picks l.len _ _ (omega arith) k l.invariant.1 (eqb-true _ 1 (search (rules, tests))) w.picks-is w.len-is
        | else-has w ↦ turn-out is s l.i l.picks l.len _ _ (omega arith) k l.invariant.1 (eqb-false _ 1 (search (rules, tests))) w.picks-is w.len-is
      ],
    )

pub returns : goal.returns
returns c =
    let is = c.args.self.now.nets.now in
    let l = c.loop-i in
    let e : l.i ≡ length is = omega arith in
    let p = l.invariant.1 in
    let t = take-length is in
    (record { len = rw (e, t) at p.long; nets = rw (e, t) at p.nets }, λ b. record { below = p.below b; few = omega (arith, p.most) })
