-- Laws of the search for the chosen support: a pick that is open up to a place stands for all sets that agree with it from there on.
-- Those that are sound are parts of its support, none of them costs less, and leaving out or keeping the net below the place splits
-- them in two. Assumes nothing.
use Prim.Native.Nat.{ℕ, suc, ◌+◌, ◌-◌, ◌*◌, ◌/◌, ◌%◌, ◌^◌, ◌≤◌, ◌<◌}
use mathlib.Core.Path.{◌≡◌, refl, sym, ◌∙◌, ap}
use mathlib.Core.Logic.{◌⊎◌, inl, inr, ⊎_elim}
use mathlib.Core.List.{List, [], ◌∷◌, ◌++◌, map}
use mathlib.Core.Bool.{Bool, true, false, ◌&&◌, ◌||◌}
use native.Mathlib.Nat.{pow-suc, div-one, div-eq_of_lt}
use native.Mathlib.Omega.{arith}
use borrow.Author.Tests.{eqb-true}
use lib.Dec.{ltb, eqb}
use lib.Pow.{pow_pos, pow_mono, shr-shr}
use lib.ListN.{length, get_or, take, drop, length-append, length-map, length-take}
use lib.Seq.{length-take-le, take-length, drop-length}
use Rattle.std.specs.Prelude.{Some, None}
use Rattle.records.specs.Job.{Job, Candidate}
use Rattle.records.specs.Refusal.{ascending}
use Rattle.records.proofs.Laws.Bytes.{false_of}
use Rattle.records.specs.declared.sheet.Support.{Support}
use Rattle.engine.specs.Support.{sound, candidate_nets, cost, patch_gates, earlier, better, chosen}
use Rattle.std.specs.List.{sum}
use Rattle.engine.specs.Inner.Best.{picked, low_first, before, open_at, candidate_weights, SetsOf, GivenBits, LeftOut, OpenPick, PricedOf, PickOf, CountedOf, OpenOf, BestFrom, PickedNets, HeldSupport, Choosable, ChosenOf}
use Rattle.engine.specs.declared.pick.Pick.{Pick}
use Rattle.engine.specs.declared.pick.Priced.{Priced}
use Rattle.engine.proofs.Laws.Best.{better-irrefl, better-trans, better-neither, chosen-unique}
use Rattle.engine.proofs.Laws.Choice.{not-both, true-or-false}
use Rattle.engine.proofs.Laws.Picked.{picked_all, picked-subset, subset-picked, sum-from-le, open_none, open-all, open-among, open-suc, open_in, open-out, sum-in, sum-out, above-first, ranked, low-earlier, cost-picked, nets-from, weights-from, in-or-out, length-picked-le}
use Rattle.engine.proofs.Laws.Sets.{left-sets, left-given, left-sound, left-unsound}
use Rattle.engine.proofs.Laws.Support.{sound-mono}

and_same : (b x y : Bool) → (b ≡ true → x ≡ y) → (b && x) ≡ (b && y)
and_same true x y f = f refl
and_same false x y f = refl

pub halves : {n : ℕ} → 0 < n → 2 ^ n ≡ 2 ^ (n - 1) * 2
halves {n} l = let e : suc (n - 1) ≡ n = omega arith in rw e at (pow-suc 2 (n - 1))

-- ---- open picks

-- r is the pick p without the net below the place, and with it, whose weight is w
pub record Without (p r : Pick) : Type 0 where
  pub set : r.set ≡ 2 * p.set
  pub cost : r.cost ≡ p.cost
  pub len : r.len ≡ p.len - 1
  pub gates : r.gates ≡ None

pub record With (w : ℕ) (p r : Pick) : Type 0 where
  pub set : r.set ≡ 2 * p.set + 1
  pub cost : r.cost ≡ p.cost + w
  pub len : r.len ≡ p.len
  pub gates : r.gates ≡ None

module _ {i : ℕ} {p : Pick} (h : OpenPick i p) where
  pub open-small : p.set < 1024
  open-small =
      let l : 10 - i ≤ 10 = omega arith in
      let m : 2 ^ (10 - i) ≤ 2 ^ 10 = pow_mono l in
      omega (arith, h.set)

  module _ {q : ℕ} (e : i ≡ suc q) where
    room : 2 ^ (10 - q) ≡ 2 ^ (10 - i) * 2
    room =
        let l : 10 - q ≡ suc (10 - i) = omega (arith, h.places, p.few) in
        rw l (pow-suc 2 (10 - i))

    pub fewer-open : {r : Pick} → Without p r → OpenPick q r
    fewer-open w =
        record {
          places = omega (arith, h.places, w.len);
          set = omega (arith, h.set, room, w.set);
          cost = omega (arith, h.cost, h.places, p.few, w.cost);
        }

    pub kept-room : {n : ℕ} {r : Pick} → n < 65536 → With n p r → OpenPick q r
    kept-room l w =
        record {
          places = omega (arith, h.places, w.len);
          set = omega (arith, h.set, room, w.set);
          cost = omega (arith, h.cost, h.places, p.few, w.cost);
        }

-- ---- the order

module _ (j : Job) (is ks ls : List ℕ) where
  -- what is not better than one that is not better is not better
  not-better-trans : better j is ks ≡ false → better j ks ls ≡ false → better j is ls ≡ false
  not-better-trans p q =
      false_of (better j is ls)
      (λ e.
      ⊎_elim
      (λ b. not-both (better-trans j ks is ls b e) q)
      (λ b. not-both (rw (better-neither j is ks p b) at e) q)
      (true-or-false (better j ks is)))

module _ (j : Job) (is ks : List ℕ) where
  not-better-dearer : cost j ks < cost j is → better j is ks ≡ false
  unfolding better
  not-better-dearer h = above-first (cost j is) (cost j ks) _ h

  better-asym : better j is ks ≡ true → better j ks is ≡ false
  better-asym e = false_of (better j ks is) (λ b. not-both (better-trans j ks is ks b e) (better-irrefl j ks))

module _ (j : Job) where
  abbrev at : ℕ → List ℕ
  at s = picked (candidate_nets j) s

  abbrev k : ℕ
  k = length (candidate_nets j)

  length-weights : length (candidate_weights j) ≡ k
  unfolding candidate_weights candidate_nets
  length-weights = length-map j.candidates (λ (c : Candidate). c.weight) ∙ sym (length-map j.candidates (λ (c : Candidate). c.net))

  module _ (ascends : ascending (candidate_nets j) ≡ true) where
    pub cost-at : (s : ℕ) → cost j (at s) ≡ sum (picked (candidate_weights j) s)
    unfolding cost candidate_nets candidate_weights
    cost-at s = cost-picked j.candidates s ascends

  -- a sound set is part of the open support
  sound-open : (i s : ℕ) → sound j (at s) ≡ true → sound j (open_at (candidate_nets j) i (s / 2 ^ i)) ≡ true
  sound-open i s e = sound-mono j (at s) (open_at (candidate_nets j) i (s / 2 ^ i)) (open-among (candidate_nets j) i s) e

  -- ---- where gates are counted

  -- a pick with gates has had them counted
  pub counted-before : {p : Pick} → PickOf j p → (p.gates ≡ None → ⊥) → CountedOf j p
  counted-before h l = record { pick = h; gates = ⊎_elim (λ z. absurd (l z)) (λ e. e) h.gates }

  pub counted-now : {p r : Pick} → PickOf j p → (r.set ≡ p.set) × (r.cost ≡ p.cost) × (r.len ≡ p.len)
      → r.gates ≡ Some (patch_gates j (at p.set)) → CountedOf j r
  counted-now h s e =
      let g = e ∙ ap (λ (t : ℕ). Some (patch_gates j (at t))) (sym s.0) in
      record {
        pick = record {
          set = rw s.0 h.set;
          len = s.2 ∙ rw s.0 h.len;
          cost = s.1 ∙ rw s.0 h.cost;
          sound = rw s.0 h.sound;
          gates = inr g;
        };
        gates = g;
      }

  -- ---- where the search ends

  pub closed-sets : {p : Pick} {ss : List ℕ} → OpenOf j 0 p ss → SetsOf j (at p.set) ss
  closed-sets {p} h = rw (← open_none (candidate_nets j) p.set) h.sets

  module _ {v : Priced} (w : PricedOf j v) where
    -- a counted pick is chosen before another where its support is
    before-better : {a b : Pick} → CountedOf j a → CountedOf j b → before a b ≡ better j (at a.set) (at b.set)
    unfolding before better
    before-better {a} {b} p q =
        let x = at a.set in
        let y = at b.set in
        rw (p.pick.cost, q.pick.cost, p.gates, q.gates, p.pick.len, q.pick.len)
        (ranked (cost j x) (cost j y) (patch_gates j x) (patch_gates j y) (length x) (length y) (low_first 10 a.set b.set)
        ∙ ap
        (λ (t : Bool).
        ltb (cost j x) (cost j y)
        || (eqb (cost j x) (cost j y)
        && (ltb (patch_gates j x) (patch_gates j y) || (eqb (patch_gates j x) (patch_gates j y) && (ltb (length x) (length y) || t)))))
        (and_same (eqb (length x) (length y)) (low_first 10 a.set b.set) (earlier x y)
        (λ e.
        low-earlier 10 (candidate_nets j) a.set b.set (omega (arith, w.count, v.few)) w.ascends p.pick.set q.pick.set
        (eqb-true (length x) (length y) e))))

    -- what is open costs more than the best so far
    pub best-dearer : {i : ℕ} {p b : Pick} {ss : List ℕ} → PickOf j b → OpenOf j i p ss → b.cost < p.cost
        → BestFrom j i p.set b b
    best-dearer {i} {p} {b} g h l =
        record {
          pick = g;
          kept = better-irrefl j (at b.set);
          least =
              λ t e s.
              let c = sum-from-le i (candidate_weights j) t in
              let d : sum (picked (drop i (candidate_weights j)) (t / 2 ^ i)) ≡ p.cost = rw e (sym h.cost) in
              not-better-dearer j (at t) (at b.set) (omega (arith, cost-at w.ascends t, g.cost));
        }

    -- nothing is open
    pub closed-pick : {p : Pick} {ss : List ℕ} → OpenOf j 0 p ss → PickOf j p
    closed-pick {p} h =
        let e = open_none (candidate_nets j) p.set in
        let z : k - 0 ≡ k = omega arith in
        record {
          set = rw z at h.set;
          len = h.len ∙ ap length e;
          cost = h.cost ∙ sym (cost-at w.ascends p.set);
          sound = rw (← e) h.sound;
          gates = inl h.gates;
        }

    -- .. and it costs less than the best so far
    pub best-cheaper : {p b : Pick} {ss : List ℕ} → PickOf j b → OpenOf j 0 p ss → p.cost < b.cost → BestFrom j 0 p.set b p
    best-cheaper {p} {b} g h l =
        let c = closed-pick h in
        record {
          pick = c;
          kept = not-better-dearer j (at b.set) (at p.set) (omega (arith, c.cost, g.cost));
          least = λ t e s. rw (sym (div-one t) ∙ e) (better-irrefl j (at p.set));
        }

    -- .. or it is the best so far
    pub best-itself : (s : ℕ) {b : Pick} → PickOf j b → s ≡ b.set → BestFrom j 0 s b b
    best-itself s {b} g same =
        record {
          pick = g;
          kept = better-irrefl j (at b.set);
          least = λ t e o. rw (sym (div-one t) ∙ e ∙ same) (better-irrefl j (at b.set));
        }

    -- .. or the gates of both are counted, those of the best so far in c
    module _ {p b c : Pick} (f : CountedOf j p) (g : CountedOf j c) (same : c.set ≡ b.set) where
      pub best-before : before p c ≡ true → BestFrom j 0 p.set b p
      best-before o =
          record {
            pick = f.pick;
            kept = rw (← same) (better-asym j (at p.set) (at c.set) (sym (before-better f g) ∙ o));
            least = λ t e s. rw (sym (div-one t) ∙ e) (better-irrefl j (at p.set));
          }

      pub best-not-before : before p c ≡ false → BestFrom j 0 p.set b c
      best-not-before o =
          record {
            pick = g.pick;
            kept = rw (← same) (better-irrefl j (at c.set));
            least = λ t e s. rw (sym (div-one t) ∙ e) (sym (before-better f g) ∙ o);
          }

  -- ---- the net below the place

  -- a support of n nets that is open up to and with place q, and of which t says whether it has that net
  module _ (q t s n : ℕ) {ss : List ℕ} (place : q < k) (e : t / 2 ≡ s) (long : n ≡ length (open_at (candidate_nets j) (suc q) s))
      (sets : SetsOf j (open_at (candidate_nets j) (suc q) s) ss) where
    abbrev below : List ℕ
    below = take q (candidate_nets j)

    abbrev net : ℕ
    net = get_or (candidate_nets j) q 0

    abbrev above : List ℕ
    above = picked (drop (suc q) (candidate_nets j)) s

    pub kept-nets : t % 2 ≡ 1 → open_at (candidate_nets j) q t ≡ open_at (candidate_nets j) (suc q) s
    kept-nets o = open_in (candidate_nets j) q place t o ∙ ap (open_at (candidate_nets j) (suc q)) e

    module _ (o : t % 2 ≡ 0) where
      out-nets : open_at (candidate_nets j) q t ≡ below ++ above
      out-nets = open-out (candidate_nets j) q place t o ∙ rw e

      all-nets : open_at (candidate_nets j) (suc q) s ≡ below ++ (net ∷ above)
      all-nets = open-suc (candidate_nets j) q place s

      with-sets : SetsOf j (below ++ (net ∷ above)) ss
      with-sets = rw (← all-nets) sets

      length-below : length below ≡ q
      length-below = length-take-le q (candidate_nets j) (omega arith)

      few-nets : n - 1 ≡ length (below ++ above)
      few-nets = omega (arith, ap length all-nets, length-append below (net ∷ above), length-append below above)

      pub out-long : n - 1 ≡ length (open_at (candidate_nets j) q t)
      out-long = few-nets ∙ ap length (sym out-nets)

      module _ {b : Bool} {ps : List ℕ} (f : LeftOut ss (n - 1) q b ps) where
        pub out-sets : b ≡ true → SetsOf j (open_at (candidate_nets j) q t) ps
        out-sets h =
            rw out-nets
            (left-sets j below net above ss with-sets ps (λ r b. rw length-below (f.filled h r (rw few-nets b)).0))

        pub out-given : (k : ℕ) → b ≡ true → GivenBits j (open_at (candidate_nets j) (suc q) s) ss k
            → GivenBits j (open_at (candidate_nets j) q t) ps k
        out-given k h g =
            rw out-nets
            (left-given j below net above ss ps (λ r b. rw length-below (f.filled h r (rw few-nets b)).0) k (rw (← all-nets) g))

        pub out-sound : b ≡ true → sound j (open_at (candidate_nets j) q t) ≡ true
        out-sound h =
            rw out-nets (left-sound j below net above ss with-sets (λ r b. rw length-below (f.filled h r (rw few-nets b)).1))

        pub out-unsound : b ≡ false → sound j (open_at (candidate_nets j) q t) ≡ false
        out-unsound h =
            let z = f.empty h in
            rw out-nets
            (left-unsound j below net above ss with-sets z.0 (rw few-nets at z.1) (rw length-below z.2))

  -- the same of a pick
  module _ {q : ℕ} {p : Pick} {ss : List ℕ} (h : OpenOf j (suc q) p ss) where
    few-weights : q < length (candidate_weights j)
    few-weights = omega (arith, h.places, length-weights)

    one_place : 2 ^ (k - q) ≡ 2 ^ (k - suc q) * 2
    one_place = let e : k - q ≡ suc (k - suc q) = omega (arith, h.places) in rw e (pow-suc 2 (k - suc q))

    even : (2 * p.set) % 2 ≡ 0
    even = omega arith

    half : (2 * p.set) / 2 ≡ p.set
    half = omega arith

    module _ {b : Bool} {ps : List ℕ} (f : LeftOut ss (p.len - 1) q b ps) where
      pub left_open : b ≡ true → {r : Pick} → Without p r → OpenOf j q r ps
      left_open e {r} o =
          let z : r.set / 2 ≡ p.set = omega (arith, o.set) in
          let v : r.set % 2 ≡ 0 = omega (arith, o.set) in
          record {
            places = omega (arith, h.places);
            set = omega (arith, h.set, one_place, o.set);
            len = o.len ∙ out-long q r.set p.set p.len h.places z h.len h.sets v;
            cost = o.cost ∙ h.cost ∙ sym (sum-out (candidate_weights j) q few-weights r.set v ∙ rw z);
            sets = out-sets q r.set p.set p.len h.places z h.len h.sets v f e;
            sound = out-sound q r.set p.set p.len h.places z h.len h.sets v f e;
            gates = o.gates;
          }

      pub left_not : b ≡ false → sound j (open_at (candidate_nets j) q (2 * p.set)) ≡ false
      left_not e = out-unsound q (2 * p.set) p.set p.len h.places half h.len h.sets even f e

    pub kept-open : {v : Priced} → PricedOf j v → {r : Pick} → With (get_or v.weights.now q 0) p r → OpenOf j q r ss
    kept-open w {r} k =
        let z : r.set / 2 ≡ p.set = omega (arith, k.set) in
        let o : r.set % 2 ≡ 1 = omega (arith, k.set) in
        let e = kept-nets q r.set p.set p.len h.places z h.len h.sets o in
        let c : sum (picked (drop q (candidate_weights j)) r.set)
        ≡ get_or (candidate_weights j) q 0 + sum (picked (drop (suc q) (candidate_weights j)) p.set) =
        sum-in (candidate_weights j) q few-weights r.set o ∙ rw z in
        record {
          places = omega (arith, h.places);
          set = omega (arith, h.set, one_place, k.set);
          len = k.len ∙ h.len ∙ ap length (sym e);
          cost = omega (arith, h.cost, c, k.cost, w.weights q h.places);
          sets = rw e h.sets;
          sound = rw e h.sound;
          gates = k.gates;
        }

  -- ---- both halves

  pub best-split : {q s : ℕ} {b f r : Pick} → BestFrom j q (2 * s + 1) f r
      → (BestFrom j q (2 * s) b f ⊎ ((sound j (open_at (candidate_nets j) q (2 * s)) ≡ false) × (f ≡ b)))
      → BestFrom j (suc q) s b r
  best-split {q} {s} {b} {f} {r} g o =
      record {
        pick = g.pick;
        kept =
            ⊎_elim
            (λ d. not-better-trans j (at b.set) (at f.set) (at r.set) d.kept g.kept)
            (λ d. rw (← d.1) g.kept)
            o;
        least =
            λ t e n.
            let u = t / 2 ^ q in
            let v : u / 2 ≡ s = (let z : q + 1 ≡ suc q = omega arith in rw z at (shr-shr t q 1)) ∙ e in
            ⊎_elim
            (λ i. g.least t (omega arith) n)
            (λ i.
            let y : t / 2 ^ q ≡ 2 * s = omega arith in
            ⊎_elim
            (λ d. not-better-trans j (at t) (at f.set) (at r.set) (d.least t y n) g.kept)
            (λ d. absurd (not-both (rw y at (sound-open q t n)) d.0))
            o)
            (in-or-out u);
      }

  -- .. as the search joins them: f is the best of those without the net, where they are looked into
  module _ {q : ℕ} {p b f : Pick} {ss : List ℕ} {d : Bool} {ps : List ℕ} {v : Priced} (w : PricedOf j v) (g : PickOf j b)
      (h : OpenOf j (suc q) p ss) (o : LeftOut ss (p.len - 1) q d ps)
      (a : ((d ≡ true) × BestFrom j q (2 * p.set) b f) ⊎ ((d ≡ false) × (f ≡ b))) where
    half-best : BestFrom j q (2 * p.set) b f ⊎ ((sound j (open_at (candidate_nets j) q (2 * p.set)) ≡ false) × (f ≡ b))
    half-best = ⊎_elim (λ u. inl u.1) (λ u. inr (left_not h o u.0, u.1)) a

    half-pick : PickOf j f
    half-pick = ⊎_elim (λ u. u.pick) (λ u. rw u.1 g) half-best

    pub best-joined : {k r : Pick} → With (get_or v.weights.now q 0) p k → (PickOf j f → OpenOf j q k ss → BestFrom j q k.set f r)
        → BestFrom j (suc q) p.set b r
    best-joined k n = best-split (rw k.set at (n half-pick (kept-open h w k))) half-best

-- ---- the sets of a sound set of candidates

-- those of len nets that are open up to place i, from those of all n
abbrev pub SetsTo : List ℕ → ℕ → ℕ → ℕ → ℕ → List ℕ → Type 0
SetsTo ss n s i len ps =
    (j : Job) → length (candidate_nets j) ≡ n → SetsOf j (candidate_nets j) ss → sound j (picked (candidate_nets j) s) ≡ true
    → let is = open_at (candidate_nets j) i (s / 2 ^ i) in
    (len ≡ length is) × SetsOf j is ps × ((k : ℕ) → GivenBits j (candidate_nets j) ss k → GivenBits j is ps k)

pub sets-all : (ss : List ℕ) (n s : ℕ) → SetsTo ss n s n n ss
sets-all ss n s j e h u =
    let a : open_at (candidate_nets j) n (s / 2 ^ n) ≡ candidate_nets j = rw e at (open-all (candidate_nets j) (s / 2 ^ length (candidate_nets j))) in
    (sym (ap length a ∙ e), rw a h, λ k g. rw a g)

pub sets-none : (ss : List ℕ) (n s len : ℕ) (ps : List ℕ) → SetsTo ss n s 0 len ps → (j : Job) → length (candidate_nets j) ≡ n
    → SetsOf j (candidate_nets j) ss → sound j (picked (candidate_nets j) s) ≡ true
    → SetsOf j (picked (candidate_nets j) s) ps
    × ((k : ℕ) → GivenBits j (candidate_nets j) ss k → GivenBits j (picked (candidate_nets j) s) ps k)
sets-none ss n s len ps f j e h u =
    let a : open_at (candidate_nets j) 0 (s / 2 ^ 0) ≡ picked (candidate_nets j) s = rw (div-one s) (open_none (candidate_nets j) s) in
    let g = f j e h u in
    (rw (← a) g.1, λ k o. rw (← a) (g.2 k o))

module _ (ss : List ℕ) (n s q len : ℕ) (ps : List ℕ) (l : q < n) (f : SetsTo ss n s (suc q) len ps) where
  halved : s / 2 ^ q / 2 ≡ s / 2 ^ suc q
  halved = let e : q + 1 ≡ suc q = omega arith in rw e at (shr-shr s q 1)

  pub sets-kept : s / 2 ^ q % 2 ≡ 1 → SetsTo ss n s q len ps
  sets-kept o j e h u =
      let g = f j e h u in
      let w = kept-nets j q (s / 2 ^ q) (s / 2 ^ suc q) len (omega arith) halved g.0 g.1 o in
      (g.0 ∙ ap length (sym w), rw w g.1, λ k i. rw w (g.2 k i))

  pub sets-out : {b : Bool} {rs : List ℕ} → s / 2 ^ q % 2 ≡ 0 → LeftOut ps (len - 1) q b rs → SetsTo ss n s q (len - 1) rs
  sets-out {b} o d j e h u =
      let g = f j e h u in
      let p : q < length (candidate_nets j) = omega arith in
      let t : b ≡ true =
      ⊎_elim
      (λ z. z)
      (λ z. absurd (not-both (sound-open j q s u) (out-unsound j q (s / 2 ^ q) (s / 2 ^ suc q) len p halved g.0 g.1 o d z)))
      (true-or-false b) in (
        out-long j q (s / 2 ^ q) (s / 2 ^ suc q) len p halved g.0 g.1 o,
        out-sets j q (s / 2 ^ q) (s / 2 ^ suc q) len p halved g.0 g.1 o d t,
        λ k i. out-given j q (s / 2 ^ q) (s / 2 ^ suc q) len p halved g.0 g.1 o d k t (g.2 k i),
      )

-- ---- from all candidates to the chosen support

-- the nets that a set picks stand in ten places
pub picked-held : (n : ℕ) (is : List ℕ) {s : ℕ} {r : Support} → n ≤ 10 → PickedNets (take n is) s r → HeldSupport r
picked-held n is {s} {r} few p =
    record {
      few = omega (arith, p.len, length-picked-le (take n is) s, length-take n is);
      held = omega (arith, p.len, ap length p.nets, length-take r.len r.nets);
    }

module _ {j : Job} {v : Priced} (h : Choosable j v) where
  abbrev is : List ℕ
  is = v.nets.now

  abbrev n : ℕ
  n = length is

  pub nets-are : candidate_nets j ≡ is
  unfolding candidate_nets
  nets-are = ap (map (λ (c : Candidate). c.net)) h.candidates ∙ nets-from n is v.weights.now (omega arith) ∙ take-length is

  pub nets-many : length (candidate_nets j) ≡ n
  nets-many = ap length nets-are

  weights-are : candidate_weights j ≡ v.weights.now
  unfolding candidate_weights
  weights-are =
      ap (map (λ (c : Candidate). c.weight)) h.candidates
      ∙ weights-from n is v.weights.now (omega (arith, v.weighed))
      ∙ rw (← v.weighed) (take-length v.weights.now)

  pub all-sets : SetsOf j (candidate_nets j) v.sets.now
  all-sets = record { targets = omega (arith, h.targets, v.targets_bound); sets = h.sets.sets }

  pub all-priced : PricedOf j v
  all-priced =
      record {
        count = sym nets-many;
        ascends = h.ascends;
        weights = λ i l. rw weights-are refl;
        targets = sym h.targets;
        sets = all-sets;
      }

  -- all candidates together are a sound support
  pub all-pick : {p : Pick} → p.set ≡ 2 ^ n - 1 → p.cost ≡ sum v.weights.now → p.len ≡ n → p.gates ≡ None → PickOf j p
  all-pick {p} s o l g =
      let a : picked (candidate_nets j) (2 ^ n - 1) ≡ candidate_nets j = rw nets-many at (picked_all (candidate_nets j)) in
      let b : picked (candidate_weights j) (2 ^ n - 1) ≡ candidate_weights j =
      rw (length-weights j, nets-many) at (picked_all (candidate_weights j)) in
      let e : picked (candidate_nets j) p.set ≡ candidate_nets j = rw s a in
      record {
        set = rw nets-many (omega (arith, pow_pos n));
        len = l ∙ sym (ap length e ∙ nets-many);
        cost = o ∙ sym (cost-at j h.ascends p.set ∙ rw s (ap sum (b ∙ weights-are)));
        sound = rw e h.sound;
        gates = inl g;
      }

  -- .. and all are open at first
  pub all-open : {p : Pick} → p.set ≡ 0 → p.cost ≡ 0 → p.len ≡ n → p.gates ≡ None → OpenOf j n p v.sets.now
  unfolding picked
  all-open {p} s o l g =
      let a : open_at (candidate_nets j) n p.set ≡ candidate_nets j = rw nets-many at (open-all (candidate_nets j) p.set) in
      let d : drop n (candidate_weights j) ≡ [] = rw (length-weights j, nets-many) at (drop-length (candidate_weights j)) in
      record {
        places = omega (arith, nets-many);
        set = rw s (pow_pos (length (candidate_nets j) - n));
        len = l ∙ sym (ap length a ∙ nets-many);
        cost = o ∙ rw d refl;
        sets = rw a all-sets;
        sound = rw a h.sound;
        gates = g;
      }

  module _ {b r : Pick} (g : BestFrom j n 0 b r) where
    pub best-chosen : picked (candidate_nets j) r.set ≡ chosen j
    best-chosen =
        let ns = candidate_nets j in
        chosen-unique j h.sound (picked ns r.set) (picked-subset ns r.set) g.pick.sound
        (λ ls m s.
        let t = subset-picked ns ls m in
        let l : t.0 < 2 ^ n = rw nets-many at t.1 in
        rw t.2 (g.least t.0 (div-eq_of_lt l) (rw t.2 at s)))

    pub chosen_of : {u : Support} {ps : List ℕ} → PickedNets is r.set u → SetsOf j (picked (candidate_nets j) r.set) ps
        → ChosenOf j u r.cost ps
    chosen_of p s =
        let q : picked is r.set ≡ chosen j = rw nets-are at best-chosen in
        record {
          len = p.len ∙ ap length q;
          support = p.nets ∙ q;
          cost = g.pick.cost ∙ ap (cost j) best-chosen;
          sets = rw (← best-chosen) s;
        }
