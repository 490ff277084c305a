-- Laws of which readings inputs give (specs/Inner/Given): the bits above the vectors' after some inputs, block by block. Assumes nothing.
use Prim.Native.Nat.{ℕ, zero, suc, ◌+◌, ◌-◌, ◌*◌, ◌/◌, ◌%◌, ◌^◌, min, ◌≤◌, ◌<◌}
use mathlib.Core.Path.{◌≡◌, refl, sym, ◌∙◌, ap, subst}
use mathlib.Core.Logic.{◌↔◌, ◌⊎◌, inl, inr, ⊎_elim}
use mathlib.Core.List.{List}
use mathlib.Core.Bool.{true, false}
use native.Mathlib.Nat.{eq-or-lt_of_le, eq-zero-or-pos}
use native.Mathlib.Omega.{arith}
use borrow.Author.Tests.{eqb-true, eqb-false, ltb-true, ltb-false}
use lib.Bits.{bit_and}
use lib.Dec.{eqb, ltb}
use lib.ListN.{length, get_or, take, set, replicate, length-set, get_or-replicate, get_or-eq_default}
use lib.Pow.{pow_pos, pow_mono}
use lib.Seq.{get_or-set_same, get_or-set_other}
use Rattle.std.specs.Prelude.{Option, Some, unwrap_or}
use Rattle.records.specs.Bytes.{up_from, tabulate, all}
use Rattle.records.proofs.Laws.Bytes.{tabulate-ext}
use Rattle.records.specs.Job.{Job}
use Rattle.records.specs.Refusal.{candidate_good}
use Rattle.engine.specs.Eval.{bit, number_of}
use Rattle.engine.specs.Support.{reading}
use Rattle.engine.specs.Inner.Best.{GivenBits}
use Rattle.engine.specs.Inner.Cover.{NextUnseen, InCover, reading_in, GivesNone}
use Rattle.engine.specs.Inner.Given.{GivenCover, GivenBy, BlockSeen, Unseen, SameVectors, AllSeen}
use Rattle.engine.specs.Inner.Kernel.{value_in}
use Rattle.engine.specs.Inner.Note.{narrowed, sets_from, gathered, filled}
use Rattle.engine.specs.Inner.Plan.{ReadsOf}
use Rattle.engine.specs.Inner.Search.{BlockRange, BlockLoaded, BlockRead}
use Rattle.engine.specs.declared.cube.Cover.{Cover}
use Rattle.engine.specs.declared.plan.Plan.{Plan}
use Rattle.engine.proofs.Laws.Choice.{true-or-false}
use Rattle.engine.proofs.Laws.Eval.{bit-lt}
use Rattle.engine.proofs.Laws.Rows.{sets_from-agree}
use Rattle.engine.proofs.Laws.Search.{first-few, noted-sets, reading_small, met-long, block-range}
use Rattle.engine.proofs.Laws.VectorSets.{bit-ones}
use Rattle.engine.proofs.Laws.Word.{bit-zero, bit-and, bit-ones as word_ones}

-- ---- the sets after some inputs

-- the set that clears bit 16 alone
abbrev all_ones : ℕ
all_ones = 65535

-- narrowed by all vectors, a set keeps them and loses the bit above them
ones_below : (v x : ℕ) → v < 16 → bit v (bit_and x all_ones) ≡ bit v x
ones_below v x h = bit-and v x all_ones ∙ omega (arith, (bit-ones 16 v).1 h, bit-lt v x)

ones_above : (x : ℕ) → bit 16 (bit_and x all_ones) ≡ 0
unfolding bit
ones_above x = let z : bit 16 all_ones ≡ 0 = refl in bit-and 16 x all_ones ∙ omega arith

narrowed-ones : (ss : List ℕ) (q r : ℕ) → r < length ss
    → (bit 16 (get_or (narrowed ss q all_ones) r 0) ≡ 0) ↔ ((bit 16 (get_or ss r 0) ≡ 0) ⊎ (q ≡ r))
unfolding narrowed
narrowed-ones ss q r l =
    let v : ℕ = bit_and (get_or ss q 0) all_ones in
    ⊎_elim
    (λ (t : eqb r q ≡ true).
    let e : r ≡ q = eqb-true r q t in
    (λ z. inr (sym e), λ z. rw e (ap (bit 16) (get_or-set_same ss q v 0 (rw e at l)) ∙ ones_above (get_or ss q 0))))
    (λ (t : eqb r q ≡ false).
    let n = eqb-false r q t in
    let e : bit 16 (get_or (set ss q v) r 0) ≡ bit 16 (get_or ss r 0) = ap (bit 16) (get_or-set_other ss q r v 0 n) in
    (λ z. inl (sym e ∙ z), λ z. ⊎_elim (λ (a : bit 16 (get_or ss r 0) ≡ 0). e ∙ a) (λ (a : q ≡ r). absurd (n (sym a))) z))
    (true-or-false (eqb r q))

-- .. and all sets keep their vectors
narrowed-same : (ss : List ℕ) (q : ℕ) → SameVectors ss (narrowed ss q all_ones)
unfolding narrowed
narrowed-same ss q r v h =
    let w : ℕ = bit_and (get_or ss q 0) all_ones in
    ⊎_elim
    (λ (t : eqb r q ≡ true).
    let e : r ≡ q = eqb-true r q t in
    ⊎_elim
    (λ (l : ltb r (length ss) ≡ true).
    rw e (ap (bit v) (get_or-set_same ss q w 0 (rw e at (ltb-true r (length ss) l))) ∙ ones_below v (get_or ss q 0) h))
    (λ (l : ltb r (length ss) ≡ false).
    let m = ltb-false r (length ss) l in
    ap (bit v)
    (get_or-eq_default (set ss q w) 0 (omega (arith, length-set ss q w)) ∙ sym (get_or-eq_default ss 0 m)))
    (true-or-false (ltb r (length ss))))
    (λ (t : eqb r q ≡ false). ap (bit v) (get_or-set_other ss q r w 0 (eqb-false r q t)))
    (true-or-false (eqb r q))

same_from : (g : ℕ → ℕ) (ss : List ℕ) (x k : ℕ) → SameVectors ss (sets_from (λ y. all_ones) g ss x k)
unfolding sets_from
same_from g ss x zero r v h = refl
same_from g ss x (suc k) r v h = same_from g (narrowed ss (g x) all_ones) (suc x) k r v h ∙ narrowed-same ss (g x) r v h

-- a bit is 0 after the k inputs from x on exactly when it was before, or one of them gives its reading
seen-iff : (g : ℕ → ℕ) (os : List ℕ) (x k r : ℕ) → r < length os
    → (bit 16 (get_or (sets_from (λ y. all_ones) g os x k) r 0) ≡ 0) ↔ ((bit 16 (get_or os r 0) ≡ 0) ⊎ GivenBy g x k r)
unfolding sets_from narrowed
seen-iff g os x zero r l = (
  inl,
  λ z. ⊎_elim (λ (a : bit 16 (get_or os r 0) ≡ 0). a) (λ (a : GivenBy g x 0 r). let f : ⊥ = omega (arith, a.1, a.2) in absurd f) z,
)
seen-iff g os x (suc k) r l =
    let ps = narrowed os (g x) all_ones in
    let turn = narrowed-ones os (g x) r l in
    let rest = seen-iff g ps (suc x) k r (omega (arith, length-set os (g x) (bit_and (get_or os (g x) 0) all_ones))) in (
      λ z.
          ⊎_elim
          (λ (a : bit 16 (get_or ps r 0) ≡ 0).
          ⊎_elim (λ (b : bit 16 (get_or os r 0) ≡ 0). inl b) (λ (b : g x ≡ r). inr (x, omega arith, omega arith, b)) (turn.0 a))
          (λ (a : GivenBy g (suc x) k r). inr (a.0, omega (arith, a.1), omega (arith, a.2), a.3))
          (rest.0 z),
      λ z.
          rest.1
          (⊎_elim
          (λ (a : bit 16 (get_or os r 0) ≡ 0). inl (turn.1 (inl a)))
          (λ (a : GivenBy g x (suc k) r).
          ⊎_elim
          (λ (e : x ≡ a.0). inl (turn.1 (inr (ap g e ∙ a.3))))
          (λ (b : x < a.0). inr (a.0, b, omega (arith, a.2), a.3))
          (eq-or-lt_of_le a.1))
          z),
    )

-- ---- a block

-- rows of ones say all vectors
abbrev ones_rows : List ℕ
ones_rows = replicate 256 18446744073709551615

ones-number : number_of (tabulate 16 (λ i. 1)) ≡ all_ones
unfolding number_of tabulate up_from
ones-number = refl

gathered-ones : (y : ℕ) → y < 1024 → gathered ones_rows y ≡ all_ones
unfolding gathered value_in
gathered-ones y h =
    ap number_of
    (tabulate-ext 16 (value_in ones_rows y) (λ i. 1)
    (λ i l.
    ap (bit (y % 64)) (get_or-replicate {A = ℕ} 256 (16 * i + y / 64) 18446744073709551615 0 (omega arith)) ∙ word_ones (y % 64) (omega arith)))
    ∙ ones-number

pub block-seen : {p : Plan} (b count : ℕ) (readings words before after : List ℕ) → p.reads.len ≤ 10
    → BlockRange p.inputs b count → BlockRead p b words readings
    → after ≡ sets_from (gathered ones_rows) (λ y. gathered readings y % 1024) before 0 (filled count)
    → BlockSeen p b count before after
block-seen b count readings words before after k r e n =
    let ones = n ∙ sets_from-agree (gathered ones_rows) (λ y. gathered readings y % 1024) (λ y. all_ones) (λ y. gathered readings y % 1024) before 0 0
    (filled count) (λ i u. (gathered-ones (0 + i) (omega (arith, r.few)), refl)) in
    record {
      long = met-long ones_rows readings before count n;
      seen =
          λ j is q good i l.
          rw (n
          ∙ noted-sets j is (λ x. all_ones) (λ x. refl) b count ones_rows readings before
          (subst (λ (i : ℕ). BlockRange i b count) q.inputs r)
          (λ y l. gathered-ones y l)
          (e.readings j is q good)
          (reading_small k q))
          (seen-iff (reading j is) before (1024 * b) count i l);
      same = λ i v h. ap (λ (ss : List ℕ). bit v (get_or ss i 0)) ones ∙ same_from (λ y. gathered readings y % 1024) before 0 (filled count) i v h;
    }

-- where no input gives a reading of the cover, none gives one that is unseen
pub block-passed : {p : Plan} {c : Cover} {words sets : List ℕ} (b count : ℕ) → BlockRange p.inputs b count
    → BlockLoaded p b words → GivenCover p sets c → GivesNone c words (take p.reads.len p.reads.nets)
    → BlockSeen p b count sets sets
block-passed {p} {c} {words} {sets} b count range l o none =
    record {
      long = refl;
      seen =
          λ j is q good r h. (
            inl,
            ⊎_elim
                (λ z. z)
                (λ (g : GivenBy (reading j is) (1024 * b) count r).
                let y : ℕ = g.0 - 1024 * b in
                let i : y < 1024 = omega (arith, g.1, g.2, range.few) in
                let x : 1024 * b + y ≡ g.0 = omega (arith, g.1) in
                let e : reading_in words (take p.reads.len p.reads.nets) y ≡ reading j is g.0 =
                l.readings j is q good y i ∙ ap (reading j is) x in
                let z : bit 16 (get_or sets r 0) ≡ 1 → ⊥ =
                λ u. none y i (rw e (o.covers j is q good g.0 (rw g.3 u))) in
                omega (arith, bit-lt 16 (get_or sets r 0))),
          );
      same = λ r v h. refl;
    }

module _ {p : Plan} {ss : List ℕ} {c : Cover} where
  pub all-given : ((q : ℕ) → InCover c q) → GivenCover p ss c
  all-given a = record { covers = λ j is q good x u. a (reading j is x) }

  -- a cover stays one after a block, since no more readings are unseen
  pub given-kept : {b count : ℕ} {ts : List ℕ} → GivenCover p ss c → p.reads.len ≤ 10 → length ss ≡ 1024 → BlockSeen p b count ss ts
      → GivenCover p ts c
  given-kept {b} {count} {ts} g k l t =
      record {
        covers = λ j is q good x u.
            let r = reading j is x in
            let z : bit 16 (get_or ss r 0) ≡ 0 → ⊥ =
            λ e. omega (arith, (t.seen j is q good r (omega (arith, reading_small k q x))).1 (inl e)) in
            g.covers j is q good x (omega (arith, bit-lt 16 (get_or ss r 0)));
      }

-- ---- block after block

-- an input below x, of a range whose bit of k is 1, gives reading r
abbrev SkippedTo : Job → List ℕ → ℕ → ℕ → ℕ → Type 0
SkippedTo j is k x r = (y : ℕ) × (y < x) × (bit (y / 32768) k ≡ 1) × (reading j is y ≡ r)

-- a bit is 0 after these inputs exactly when it was before, or one of them gives its reading
abbrev BitsTo : Job → List ℕ → ℕ → ℕ → List ℕ → List ℕ → Type 0
BitsTo j is k x before after =
    (r : ℕ) → r < 1024 → (bit 16 (get_or after r 0) ≡ 0) ↔ ((bit 16 (get_or before r 0) ≡ 0) ⊎ SkippedTo j is k x r)

-- how far the look at a plan's inputs has come, before block b: the sets after those passed, from the sets before; of the count readings
-- those before next are seen
pub record Seeing (p : Plan) (k : ℕ) (before : List ℕ) (count size b next : ℕ) (after : List ℕ) : Type 0 where
  pub inputs : size ≡ 2 ^ p.inputs
  pub few : size ≤ 1048576
  pub reached : 1024 * b < size + 1024
  pub readings : count ≡ 2 ^ p.reads.len
  pub places : count ≤ 1024
  pub most : next ≤ count
  pub long : length after ≡ 1024
  pub seen : (j : Job) (is : List ℕ) → ReadsOf j is p → all (candidate_good j) is ≡ true
      → BitsTo j is k (min (1024 * b) size) before after × ((q : ℕ) → q < next → bit 16 (get_or after q 0) ≡ 0)
  pub same : SameVectors before after

pub seeing-none : (p : Plan) (k : ℕ) {before : List ℕ} {count : ℕ} {o : Option ℕ} → p.inputs ≤ 20 → p.reads.len ≤ 10
    → length before ≡ 1024 → count ≡ 2 ^ p.reads.len → NextUnseen before 0 count o
    → Seeing p k before count (1 * 2 ^ p.inputs % 18446744073709551616) 0 (unwrap_or o count) before
seeing-none p k {before} {count} a b l c o =
    let n : 2 ^ p.inputs ≤ 1048576 = pow_mono {j = 20} a in
    let m : 2 ^ p.reads.len ≤ 1024 = pow_mono {j = 10} b in
    let size = 1 * 2 ^ p.inputs % 18446744073709551616 in
    record {
      inputs = omega arith;
      few = omega arith;
      reached = omega (arith, pow_pos p.inputs);
      readings = c;
      places = omega arith;
      most = o.most;
      long = l;
      seen =
          λ j is q good. (
            λ r h. (
              inl,
              ⊎_elim (λ z. z) (λ (y : SkippedTo j is k (min (1024 * 0) size) r). let f : ⊥ = omega (arith, y.1) in absurd f),
            ),
            λ r h. o.seen r (omega arith) h,
          );
      same = λ r v h. refl;
    }

-- an input of block b is of range b / 32
range-of : (b y : ℕ) → 1024 * b ≤ y → y < 1024 * b + 1024 → y / 32768 ≡ b / 32
range-of b y h l = omega arith

-- block b, with n inputs
module _ {p : Plan} {before mid : List ℕ} {k count size b next n : ℕ} (s : Seeing p k before count size b next mid)
    (h : 1024 * b < size) (e : n ≡ min (size - 1024 * b) 1024) where
  pub seeing-range : BlockRange p.inputs b n
  seeing-range = rw (e, s.inputs) (block-range p.inputs b (omega (arith, s.inputs)))

  -- one of them gives reading r, and their range was skipped
  abbrev SkippedHere : Job → List ℕ → ℕ → Type 0
  SkippedHere j is r = (bit (b / 32) k ≡ 1) × GivenBy (reading j is) (1024 * b) n r

  skipped-iff : (j : Job) (is : List ℕ) (r : ℕ)
      → SkippedTo j is k (min (1024 * (b + 1)) size) r ↔ (SkippedTo j is k (min (1024 * b) size) r ⊎ SkippedHere j is r)
  skipped-iff j is r = (
    λ y.
        let x = y.0 in
        ⊎_elim
        (λ a. inl (x, omega (arith, ltb-true x (1024 * b) a), y.2, y.3))
        (λ a.
        let m = ltb-false x (1024 * b) a in
        inr (rw (← range-of b x m (omega (arith, y.1))) y.2, (x, m, omega (arith, y.1), y.3)))
        (true-or-false (ltb x (1024 * b))),
    ⊎_elim
        (λ (y : SkippedTo j is k (min (1024 * b) size) r). (y.0, omega (arith, y.1), y.2, y.3))
        (λ (a : SkippedHere j is r).
        let y = a.1 in
        (y.0, omega (arith, y.2), rw (range-of b y.0 y.1 (omega (arith, y.2))) a.0, y.3)),
  )

  seeing-more : {after : List ℕ} {later : Option ℕ} → length after ≡ length mid → SameVectors mid after → NextUnseen after next count later
      → ((j : Job) (is : List ℕ) → ReadsOf j is p → all (candidate_good j) is ≡ true → (r : ℕ) → r < 1024
      → (bit 16 (get_or after r 0) ≡ 0) ↔ ((bit 16 (get_or mid r 0) ≡ 0) ⊎ SkippedHere j is r))
      → Seeing p k before count size (b + 1) (unwrap_or later count) after
  seeing-more {after} {later} g same o t =
      record {
        inputs = s.inputs;
        few = s.few;
        reached = omega arith;
        readings = s.readings;
        places = s.places;
        most = o.most;
        long = g ∙ s.long;
        seen =
            λ j is q good.
            let w = s.seen j is q good in
            let turn = t j is q good in (
              λ r l. (
                λ z.
                    ⊎_elim
                    (λ a. ⊎_elim inl (λ y. inr ((skipped-iff j is r).1 (inl y))) ((w.0 r l).0 a))
                    (λ y. inr ((skipped-iff j is r).1 (inr y)))
                    ((turn r l).0 z),
                λ z.
                    (turn r l).1
                    (⊎_elim
                    (λ a. inl ((w.0 r l).1 (inl a)))
                    (λ y. ⊎_elim (λ a. inl ((w.0 r l).1 (inr a))) inr ((skipped-iff j is r).0 y))
                    z),
              ),
              λ r l.
                  ⊎_elim
                  (λ a.
                  let u = ltb-true r next a in
                  (turn r (omega (arith, s.most, s.places))).1 (inl (w.1 r u)))
                  (λ a. o.seen r (ltb-false r next a) l)
                  (true-or-false (ltb r next)),
            );
        same = λ r v u. same r v u ∙ s.same r v u;
      }

  -- it is looked at
  pub seeing-next : {after : List ℕ} {later : Option ℕ} → bit (b / 32) k ≡ 1 → BlockSeen p b n mid after
      → NextUnseen after next count later → Seeing p k before count size (b + 1) (unwrap_or later count) after
  seeing-next i t o =
      seeing-more t.long t.same o
      (λ j is q good r l.
      let g = t.seen j is q good r (omega (arith, s.long)) in
      (λ z. ⊎_elim inl (λ y. inr (i, y)) (g.0 z), λ z. g.1 (⊎_elim inl (λ y. inr y.1) z)))

  -- .. or passed, since its range was not skipped
  pub seeing-pass : (bit (b / 32) k ≡ 1 → ⊥) → Seeing p k before count size (b + 1) next mid
  seeing-pass i =
      seeing-more {later = Some next} refl (λ r v u. refl)
      record { past = omega arith; most = s.most; seen = λ q u v. let f : ⊥ = omega arith in absurd f }
      (λ j is q good r l. (inl, ⊎_elim (λ z. z) (λ y. absurd (i y.0))))

-- .. after all inputs, once all readings are seen, or where the cover has no cube
pub seeing-all : {p : Plan} {before after : List ℕ} {k count size b next : ℕ} {c : Cover} → Seeing p k before count size b next after
    → GivenCover p after c → (size ≤ 1024 * b) ⊎ (next ≡ count) ⊎ (c.count ≡ 0) → AllSeen p k before after
seeing-all {p} {before} {after} {k} {count} {size} {b} {next} {c} s o d j is q good g r h =
    let n = first-few p.reads.len p.reads.nets q.nets in
    let m : 2 ^ length is ≤ count = rw s.readings (pow_mono n) in
    let i : size ≡ 2 ^ j.inputs = s.inputs ∙ ap (λ (t : ℕ). 2 ^ t) q.inputs in
    let w = s.seen j is q good in
    let seen = w.0 r (omega (arith, s.places)) in (
      λ z.
          ⊎_elim
          (λ (a : bit 16 (get_or before r 0) ≡ 0). g.given r h a)
          (λ (y : SkippedTo j is k (min (1024 * b) size) r). (y.0, omega (arith, y.1), y.3))
          (seen.0 z),
      λ y.
          ⊎_elim
          (λ (f : size ≤ 1024 * b).
          seen.1
          (⊎_elim
          inl
          (λ (a : 0 < bit 16 (get_or before r 0)).
          let o : bit 16 (get_or before r 0) ≡ 1 = omega (arith, bit-lt 16 (get_or before r 0)) in
          let u : bit (y.0 / 32768) k ≡ 1 =
          let z : (bit (y.0 / 32768) k ≡ 0 → ⊥) = λ e. g.unmet r h o y.0 y.1 e y.2 in
          omega (arith, bit-lt (y.0 / 32768) k) in
          inr (y.0, omega (arith, y.1), u, y.2))
          (eq-zero-or-pos (bit 16 (get_or before r 0)))))
          (⊎_elim
          (λ (f : next ≡ count). w.1 r (omega arith))
          (λ (f : c.count ≡ 0).
          let z : bit 16 (get_or after r 0) ≡ 1 → ⊥ =
          λ u. omega (arith, (o.covers j is q good y.0 (rw y.2 u)).within) in
          omega (arith, bit-lt 16 (get_or after r 0))))
          d,
    )

-- ---- before the look at the ranges that were skipped

module _ {j : Job} {is ss : List ℕ} {k : ℕ} (g : GivenBits j is ss k) where
  -- where none was, the bits are those after all inputs
  pub none-skipped : k ≡ 0 → Unseen j is ss
  none-skipped e r h = (
    g.given r h,
    λ y.
        ⊎_elim
        (λ z. z)
        (λ (a : 0 < bit 16 (get_or ss r 0)).
        absurd (g.unmet r h (omega (arith, bit-lt 16 (get_or ss r 0))) y.0 y.1 (rw e (bit-zero (y.0 / 32768))) y.2))
        (eq-zero-or-pos (bit 16 (get_or ss r 0))),
  )

  -- .. and so they are where all readings are seen
  pub all_seen : {n count : ℕ} {o : Option ℕ} → length is ≤ n → count ≡ 2 ^ n → NextUnseen ss 0 count o → unwrap_or o count ≡ count
      → Unseen j is ss
  all_seen few c t d r h = (g.given r h, λ a. t.seen r (omega arith) (omega (arith, pow_mono few)))
