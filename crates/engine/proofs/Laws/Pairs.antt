-- Laws of nets that are compared in pairs: those of one net may be left out. Assumes nothing.
use Prim.Native.Nat.{ℕ, ◌+◌, ◌<◌}
use mathlib.Core.Path.{◌≡◌, refl, sym, ◌∙◌, ap}
use mathlib.Core.List.{List, [], ◌∷◌, ◌++◌, map, append-nil}
use mathlib.Core.Bool.{Bool, true, and-true, ◌&&◌}
use native.Mathlib.Numerals.{add-one}
use native.Mathlib.Omega.{arith}
use borrow.Author.Tests.{eq-eqb}
use lib.Dec.{eqb, ltb}
use lib.ListN.{length, get_or, take, set, replicate, get_or-append, length-append, length-map}
use lib.Seq.{append_snoc, take-suc-set, get_or-take, get_or-append_seam, length-take-le}
use Rattle.std.proofs.lemmas.List.{nil_from_length, length-take}
use Rattle.records.specs.Bytes.{all}
use Rattle.records.specs.Job.{Job}
use Rattle.records.proofs.Laws.Bytes.{all-below}
use Rattle.engine.specs.Choice.{same}
use Rattle.engine.specs.Inner.Merge.{PairsKept}
use Rattle.engine.specs.Inner.Miter.{miter_nets, PairsOf}
use Rattle.engine.specs.declared.merge.Pairs.{Pairs}
use Rattle.engine.proofs.Laws.Choice.{all_get_d}
use Rattle.engine.proofs.Laws.Leaves.{get_or-zeros}
use Rattle.engine.proofs.Laws.List.{set_holds}
use Rattle.engine.proofs.Laws.Outputs.{same-snoc, map_snoc}

abbrev pub pairs : ℕ → List ℕ → List ℕ → Pairs
pairs count olds news = record { count = count; outputs = olds; goldens = news }

pub pairs-none : PairsKept [] [] (pairs 0 (replicate 32 0) (replicate 32 0))
pairs-none =
    record {
      few = omega arith;
      below = λ k h e i. rw (get_or-zeros 32 i) (h, h);
      equal = λ f. refl;
    }

module _ {os gs : List ℕ} {count : ℕ} {olds news : List ℕ} (p : PairsKept os gs (pairs count olds news)) (e : length os ≡ length gs)
    (a b : ℕ) where
  below-next : (k : ℕ) → ((i : ℕ) → i < length (os ++ (a ∷ [])) → (get_or (os ++ (a ∷ [])) i 0 < k) × (get_or (gs ++ (b ∷ [])) i 0 < k))
      → (i : ℕ) → i < length os → (get_or os i 0 < k) × (get_or gs i 0 < k)
  below-next k h i l =
      let q = h i (omega (arith, length-append os (a ∷ []))) in
      let x : get_or (os ++ (a ∷ [])) i 0 ≡ get_or os i 0 = get_or-append os (a ∷ []) 0 i l in
      let y : get_or (gs ++ (b ∷ [])) i 0 ≡ get_or gs i 0 = get_or-append gs (b ∷ []) 0 i (omega arith) in
      (omega arith, omega arith)

  equal-next : (f : ℕ → ℕ)
      → same (map f (os ++ (a ∷ []))) (map f (gs ++ (b ∷ []))) ≡ (same (map f os) (map f gs) && eqb (f a) (f b))
  equal-next f =
      rw (map_snoc f os a, map_snoc f gs b)
      (same-snoc (map f os) (map f gs) (f a) (f b) (length-map os f ∙ e ∙ sym (length-map gs f)))

  -- the next pair is one net
  pub pairs-left : a ≡ b → PairsKept (os ++ (a ∷ [])) (gs ++ (b ∷ [])) (pairs count olds news)
  pairs-left h =
      record {
        few = omega (arith, p.few, length-append os (a ∷ []));
        below = λ k l q. p.below k l (below-next k q);
        equal =
            λ f.
            p.equal f
            ∙ sym (and-true (same (map f os) (map f gs)))
            ∙ ap (λ (t : Bool). same (map f os) (map f gs) && t) (sym (eq-eqb (f a) (f b) (ap f h)))
            ∙ sym (equal-next f);
      }

  -- it is kept
  put : (xs : List ℕ) (x : ℕ) → count < length xs → take (count + 1) (set xs count x) ≡ take count xs ++ (x ∷ [])
  put xs x m = ap (λ (i : ℕ). take i (set xs count x)) (add-one count) ∙ take-suc-set xs count x m

  pub pairs-more : count < length olds → count < length news
      → PairsKept (os ++ (a ∷ [])) (gs ++ (b ∷ [])) (pairs (count + 1) (set olds count a) (set news count b))
  pairs-more m n =
      record {
        few = omega (arith, p.few, length-append os (a ∷ []));
        below =
            λ k l q i.
            let r = p.below k l (below-next k q) in
            let c = q (length os) (omega (arith, length-append os (a ∷ []))) in
            let x : get_or (os ++ (a ∷ [])) (length os) 0 ≡ a = get_or-append_seam os a [] 0 in
            let y : get_or (gs ++ (b ∷ [])) (length os) 0 ≡ b = rw e (get_or-append_seam gs b [] 0) in (
              set_holds (λ x. x < k) olds count a (λ i. (r i).0) (omega arith) i,
              set_holds (λ x. x < k) news count b (λ i. (r i).1) (omega arith) i,
            );
        equal =
            λ f.
            let xs = map f (take count olds) in
            let ys = map f (take count news) in
            let s : length xs ≡ length ys =
            omega (arith, length-map (take count olds) f, length-map (take count news) f, length-take-le count olds (omega arith), length-take-le count news (omega arith)) in
            rw (put olds a m, put news b n, map_snoc f (take count olds) a, map_snoc f (take count news) b)
            (same-snoc xs ys (f a) (f b) s
            ∙ ap (λ (t : Bool). t && eqb (f a) (f b)) (p.equal f)
            ∙ sym (equal-next f));
      }

-- the pairs so far, and what is left of both lists
pub record Pairing (os gs xs ys : List ℕ) (r : Pairs) : Type 0 where
  pub olds : List ℕ
  pub news : List ℕ
  pub old-rest : os ≡ olds ++ xs
  pub new-rest : gs ≡ news ++ ys
  pub long : length olds ≡ length news
  pub kept : PairsKept olds news r

module _ {os gs xs ys : List ℕ} {a b count : ℕ} {olds news : List ℕ} (p : Pairing os gs (a ∷ xs) (b ∷ ys) (pairs count olds news)) where
  -- the next pair is one net, or is kept
  pub pairing-left : a ≡ b → Pairing os gs xs ys (pairs count olds news)
  pairing-left h =
      record {
        olds = p.olds ++ (a ∷ []);
        news = p.news ++ (b ∷ []);
        old-rest = p.old-rest ∙ sym (append_snoc p.olds a xs);
        new-rest = p.new-rest ∙ sym (append_snoc p.news b ys);
        long = omega (arith, p.long, length-append p.olds (a ∷ []), length-append p.news (b ∷ []));
        kept = pairs-left p.kept p.long a b h;
      }

  pub pairing-more : count < length olds → count < length news
      → Pairing os gs xs ys (pairs (count + 1) (set olds count a) (set news count b))
  pairing-more m n =
      record {
        olds = p.olds ++ (a ∷ []);
        news = p.news ++ (b ∷ []);
        old-rest = p.old-rest ∙ sym (append_snoc p.olds a xs);
        new-rest = p.new-rest ∙ sym (append_snoc p.news b ys);
        long = omega (arith, p.long, length-append p.olds (a ∷ []), length-append p.news (b ∷ []));
        kept = pairs-more p.kept p.long a b m n;
      }

  -- there is a place for it
  pub pairing-room : count < length os
  pairing-room = omega (arith, p.kept.few, ap length p.old-rest, length-append p.olds (a ∷ xs))

module _ {os gs xs ys : List ℕ} {r : Pairs} (p : Pairing os gs xs ys r) (e : length gs ≡ length os) where
  -- as much is left of both lists; and where nothing is, all pairs are kept
  pub pairing-long : length xs ≡ length ys
  pairing-long =
      omega (
        arith,
        p.long,
        ap length p.old-rest,
        ap length p.new-rest,
        length-append p.olds xs,
        length-append p.news ys,
      )

  pub pairing-all : length xs ≡ 0 → PairsKept os gs r
  pairing-all h =
      let x : xs ≡ [] = nil_from_length xs h in
      let y : ys ≡ [] = nil_from_length ys (omega (arith, pairing-long)) in
      let a : os ≡ p.olds = p.old-rest ∙ ap (λ (l : List ℕ). p.olds ++ l) x ∙ append-nil p.olds in
      let b : gs ≡ p.news = p.new-rest ∙ ap (λ (l : List ℕ). p.news ++ l) y ∙ append-nil p.news in
      rw (a, b) p.kept

-- ---- the nets of a miter in such pairs

module _ {j : Job} {os gs : List ℕ} {ps : Pairs} (q : PairsOf j os gs) (k : PairsKept os gs ps) (e : length gs ≡ length os) where
  kept-below : (i : ℕ) → i < ps.count → (get_or ps.outputs i 0 < miter_nets j) × (get_or ps.goldens i 0 < miter_nets j)
  kept-below i h =
      let b : (i : ℕ) → i < length os → (get_or os i 0 < miter_nets j) × (get_or gs i 0 < miter_nets j) =
      λ i l. (all_get_d (miter_nets j) os q.olds i l, all_get_d (miter_nets j) gs q.goldens i (omega arith)) in
      k.below (miter_nets j) (omega (arith, (b 0 (omega (arith, k.few))).0)) b i

  kept-all : (xs : List ℕ) → ((i : ℕ) → i < ps.count → get_or xs i 0 < miter_nets j)
      → all (λ i. ltb i (miter_nets j)) (take ps.count xs) ≡ true
  kept-all xs b =
      all-below (miter_nets j) (take ps.count xs)
      (λ i h.
      let u : i < ps.count = omega (arith, length-take ps.count xs) in
      rw (get_or-take ps.count xs i 0 u) (b i u))

  pub kept-pairs : PairsOf j (take ps.count ps.outputs) (take ps.count ps.goldens)
  kept-pairs =
      record {
        olds = kept-all ps.outputs (λ i h. (kept-below i h).0);
        goldens = kept-all ps.goldens (λ i h. (kept-below i h).1);
        equal = λ x v. k.equal _ ∙ q.equal x v;
      }
