-- Laws of the lists that the code makes of a miter's gates: they are those of a plan, and there is room for all of them, since no
-- target leads to a golden gate. Assumes nothing.
use Prim.Native.Nat.{ℕ, zero, suc, ◌+◌, ◌*◌, ◌≤◌, ◌<◌}
use mathlib.Core.Path.{◌≡◌, refl, sym, ◌∙◌, ap, subst}
use mathlib.Core.Logic.{◌⊎◌, inl, inr, ⊎_elim}
use mathlib.Core.List.Memᴰ.{head as here}
use mathlib.Core.List.Memᴰ.{of_map as mem-of-map}
use mathlib.Core.List.Memᴰ.{tail as there}
use mathlib.Core.List.{List, [], ◌∷◌, ◌++◌, map, Memᴰ as Mem}
use mathlib.Core.Bool.{Bool, true, false, cond, not, ◌&&◌, and-true}
use native.Mathlib.Omega.{arith}
use borrow.Author.Tests.{ltb-true, ltb-false, not-true}
use lib.Dec.{ltb, eqb}
use lib.ListN.{length, get_or, take, drop, length-append, get_or-eq_default}
use lib.Seq.{slice, take_all, drop_at}
use Rattle.records.specs.Bytes.{all, tabulate}
use Rattle.records.specs.Gate.{Gate, operands, disj}
use Rattle.records.specs.Netlist.{net_at, extended, mark_of}
use Rattle.records.specs.Refusal.{gates_good, candidate_good}
use Rattle.records.specs.Job.{Job}
use Rattle.records.specs.Service.{counts_of, side_counts_of}
use Rattle.records.specs.Claims.{PartsGood}
use Rattle.records.proofs.Laws.Bytes.{and_right, and-false-right, false_of, all_cons, length-tabulate}
use Rattle.engine.specs.Choice.{keep}
use Rattle.engine.specs.Inner.Packed.{own, packed, packed_from, formed, evaluated}
use Rattle.engine.specs.Inner.Miter.{shift_of, miter_gates, miter_nets, SameGates, MergedOf}
use Rattle.engine.specs.Inner.Shifted.{shifted_net, shifted}
use Rattle.engine.specs.Inner.Plan.{code_mark, marks_of, marked, Closed, leaves_from, marks_from, picked, list_at, lists_to, live_marks, ListPut, ListsUpTo, PlanLists, ReadsOf, PlannedOf, TurnsOf}
use Rattle.records.specs.declared.sheet.Support.{Support}
use Rattle.engine.specs.declared.miter.Miter.{Miter}
use Rattle.engine.specs.declared.plan.Plan.{Plan}
use Rattle.engine.proofs.Laws.Choice.{true-or-false, not-both, all_true, all-of-members}
use Rattle.engine.proofs.Laws.FitNets.{operands-renumbered}
use Rattle.engine.proofs.Laws.Marks.{leaf_mark, leaf_mark-out, marks-leaf, unmarked-of, same-marks, marks-follow}
use Rattle.engine.proofs.Laws.Miter.{extended-append, length-extended, shifted_net-input, shifted_net-gate, job-within, miter-gates, miter-nets, old_nets-le}
use Rattle.engine.proofs.Laws.Packed.{packed-own}
use Rattle.engine.proofs.Laws.Plan.{candidate-free}
use Rattle.engine.proofs.Laws.PlanCode.{length-leaves_from, get_or-leaves_from, ends-length}
use Rattle.engine.proofs.Laws.PlanLive.{live-os, live-gs, live-is, live_marks-closed}
use Rattle.engine.proofs.Laws.Run.{run-part, keep-ext, keep_all, own-within, good-first, good-rest}
use Rattle.engine.proofs.Laws.MiterCode.{length-packed_from}

-- ---- marks found

module _ (d : ℕ) (gs : List Gate) (good : gates_good d gs ≡ true) (forms : all formed gs ≡ true) (room : d + length gs ≤ 1024) where
  leaf-known : (from k i : ℕ) → i < d → net_at (leaves_from from k) i ≡ net_at (marks_of d from k gs) i
  unfolding net_at
  leaf-known from k i h = get_or-leaves_from from k i (omega arith) ∙ sym (marks-leaf from k d gs i h)

  -- the live gates of a netlist mark the live nets
  pub marks_from-live : (live : ℕ → Bool) → Closed live d gs → (cs : List ℕ) → cs ≡ keep (λ c. live (own c)) (packed_from d gs)
      → (from k i : ℕ) → i < d + length gs → live i ≡ true
      → net_at (marks_from cs from k) i ≡ net_at (marks_of d from k gs) i
  unfolding marks_from marks_of
  marks_from-live live closed cs e from k i h l =
      let all_changed : ℕ → Bool = λ n. true in
      ap (λ (xs : List ℕ). net_at (evaluated code_mark (leaves_from from k) xs) i)
      (e
      ∙ keep-ext (λ c. live (own c)) (λ c. live (own c) && all_changed (own c)) (packed_from d gs)
      (λ c m. sym (and-true (live (own c)))))
      ∙ run-part marks-follow live all_changed d gs (tabulate d (leaf_mark from k)) (leaves_from from k) good forms room
      (omega (arith, length-leaves_from from k))
      (length-tabulate d (leaf_mark from k))
      closed
      tt
      (λ n m o s.
      let t : n < d = ⊎_elim (λ z. z) (λ z. absurd (not-both refl z)) s in
      leaf-known from k n t)
      i
      h
      l

  -- .. and all gates all nets
  pub marks_from-all : (from k i : ℕ) → i < d + length gs
      → net_at (marks_from (packed_from d gs) from k) i ≡ net_at (marks_of d from k gs) i
  marks_from-all from k i h =
      marks_from-live (λ n. true) (λ n m e. all-of-members (λ x. true) _ (λ x y. refl)) (packed_from d gs)
      (sym (keep_all (λ c. true) (packed_from d gs) (λ c m. refl)))
      from
      k
      i
      h
      refl

-- ---- golden gates have no mark

disj-zeros : (f : ℕ → ℕ) (is : List ℕ) → ((i : ℕ) → Mem i is → f i ≡ 0) → disj (map f is) ≡ 0
unfolding disj
disj-zeros f [] h = refl
disj-zeros f (i ∷ is) h = omega (arith, h i (here refl), disj-zeros f is (λ k m. h k (there m)))

get_or-snoc-zero : (xs : List ℕ) (i : ℕ) → get_or (xs ++ (0 ∷ [])) i 0 ≡ get_or xs i 0
get_or-snoc-zero [] zero = refl
get_or-snoc-zero [] (suc i) = refl
get_or-snoc-zero (x ∷ xs) zero = refl
get_or-snoc-zero (x ∷ xs) (suc i) = get_or-snoc-zero xs i

-- gates that read only nets without a mark get none
apart-extended : (P : ℕ → Type 0) (known : List ℕ) (hs : List Gate) → ((i : ℕ) → P i → net_at known i ≡ 0)
    → ((g : Gate) → Mem g hs → (i : ℕ) → Mem i (operands g) → P i) → (i : ℕ) → P i → net_at (extended mark_of known hs) i ≡ 0
unfolding extended mark_of net_at
apart-extended P known [] z f i p = z i p
apart-extended P known (g ∷ hs) z f i p =
    let v = mark_of known g in
    let e : v ≡ 0 = disj-zeros (net_at known) (operands g) (λ k m. z k (f g (here refl) k m)) in
    apart-extended P (known ++ (v ∷ [])) hs
    (λ k q. ap (λ (x : ℕ). get_or (known ++ (x ∷ [])) k 0) e ∙ get_or-snoc-zero known k ∙ z k q)
    (λ h m. f h (there m))
    i
    p

module _ (j : Job) (from k : ℕ) (low : j.inputs ≤ from) where
  abbrev base : ℕ
  base = j.inputs + j.targets

  abbrev goldens : List Gate
  goldens = map (shifted j.inputs (shift_of j)) j.golden.gates

  -- an input, or a net behind the old ones
  abbrev Apart : ℕ → Type 0
  Apart i = (i < j.inputs) ⊎ (base + length j.old.gates ≤ i)

  golden-apart : (g : Gate) → Mem g goldens → (i : ℕ) → Mem i (operands g) → Apart i
  unfolding shifted shift_of
  golden-apart g m i n =
      let f = shifted j.inputs (shift_of j) in
      let r = mem-of-map f j.golden.gates m in
      let o : Mem i (map (shifted_net j.inputs (shift_of j)) (operands r.0)) =
      subst (λ (xs : List ℕ). Mem i xs) (ap operands (sym r.2) ∙ operands-renumbered (shifted_net j.inputs (shift_of j)) r.0) n in
      let q = mem-of-map (shifted_net j.inputs (shift_of j)) (operands r.0) o in
      ⊎_elim
      (λ t.
      let u = ltb-true q.0 j.inputs t in
      let e = shifted_net-input j.inputs (shift_of j) q.0 u in
      let s = q.2 in
      inl (omega arith))
      (λ t.
      let u = ltb-false q.0 j.inputs t in
      let e = shifted_net-gate j.inputs (shift_of j) q.0 u in
      let s = q.2 in
      inr (omega arith))
      (true-or-false (ltb q.0 j.inputs))

  old_apart : (i : ℕ) → Apart i → net_at (marks_of base from k j.old.gates) i ≡ 0
  unfolding net_at marks_of
  old_apart i s =
      ⊎_elim
      (λ h. marks-leaf from k base j.old.gates i (omega arith) ∙ leaf_mark-out from k i (inl (omega arith)))
      (λ (h : base + length j.old.gates ≤ i).
      let l = length-extended mark_of (tabulate base (leaf_mark from k)) j.old.gates in
      get_or-eq_default (extended mark_of (tabulate base (leaf_mark from k)) j.old.gates) 0
      (omega (arith, length-tabulate base (leaf_mark from k))))
      s

  golden-unmarked : (i : ℕ) → base + length j.old.gates ≤ i → net_at (marks_of base from k (miter_gates j)) i ≡ 0
  unfolding marks_of miter_gates
  golden-unmarked i h =
      ap (λ (xs : List ℕ). net_at xs i) (extended-append mark_of (tabulate base (leaf_mark from k)) j.old.gates goldens)
      ∙ apart-extended Apart (extended mark_of (tabulate base (leaf_mark from k)) j.old.gates) goldens old_apart golden-apart i (inr h)

-- ---- how many gates a list has

-- at most n gates are kept where each kept one drives one of the first n nets
keep-below : (p : ℕ → Bool) (n d : ℕ) (gs : List Gate) → gates_good d gs ≡ true → all formed gs ≡ true → d + length gs ≤ 1024
    → ((c : ℕ) → Mem c (packed_from d gs) → p c ≡ true → own c < d + n) → length (keep p (packed_from d gs)) ≤ n
unfolding packed_from keep
keep-below p n d [] a b h f = omega arith
keep-below p zero d (g ∷ gs) a b h f =
    let t = all_cons formed g gs b in
    let o : own (packed d g) ≡ d = packed-own d g (good-first d g gs a) t.0 (omega arith) in
    let e : p (packed d g) ≡ false = false_of (p (packed d g)) (λ z. let l = f (packed d g) (here refl) z in omega arith) in
    rw e
    (keep-below p zero (suc d) gs (good-rest d g gs a) t.1 (omega arith)
    (λ c m z. let l = f c (there m) z in omega arith))
keep-below p (suc n) d (g ∷ gs) a b h f =
    let t = all_cons formed g gs b in
    let r = keep-below p n (suc d) gs (good-rest d g gs a) t.1 (omega arith) (λ c m z. let l = f c (there m) z in omega arith) in
    ⊎_elim
    (λ (e : p (packed d g) ≡ true). rw e (omega arith))
    (λ (e : p (packed d g) ≡ false). rw e (omega arith))
    (true-or-false (p (packed d g)))

-- at most all are kept, where none is twice
keep_apart : (p q : ℕ → Bool) (xs : List ℕ) → ((x : ℕ) → p x ≡ true → q x ≡ false) → length (keep p xs) + length (keep q xs) ≤ length xs
unfolding keep
keep_apart p q [] h = omega arith
keep_apart p q (x ∷ xs) h =
    let r = keep_apart p q xs h in
    ⊎_elim
    (λ (e : p x ≡ true). rw (e, h x e) (omega arith))
    (λ (e : p x ≡ false).
    ⊎_elim
    (λ (f : q x ≡ true). rw (e, f) (omega arith))
    (λ (f : q x ≡ false). rw (e, f) (omega arith))
    (true-or-false (q x)))
    (true-or-false (p x))

-- ---- the lists of a good job

module _ (j : Job) (good : PartsGood j) {merged : List Gate} (s : SameGates (j.inputs + j.targets) (miter_gates j) merged) (live : List ℕ) where
  abbrev first : ℕ
  first = j.inputs + j.targets

  abbrev packs : List ℕ
  packs = packed_from first merged

  fits : first + length merged ≤ 1024
  unfolding miter_nets
  fits = omega (arith, miter-nets j good, s.long)

  -- net i has a mark from the k leaves from from on
  abbrev leads : ℕ → ℕ → ℕ → Bool
  leads from k i = marked (marks_of first from k (miter_gates j)) i

  -- the live gates that have one, or none
  abbrev list_of : ℕ → ℕ → Bool → List ℕ
  list_of from k led = keep (λ c. marked live (own c) && cond led (leads from k (own c)) (not (leads from k (own c)))) packs

  list-marks : (from k : ℕ) (led : Bool) → picked live (marks_from packs from k) led packs ≡ list_of from k led
  unfolding picked
  list-marks from k led =
      keep-ext _ _ packs
      (λ c m.
      ap (λ (x : ℕ). marked live (own c) && cond led (not (eqb x 0)) (not (not (eqb x 0))))
      (marks_from-all first merged s.good s.forms fits from k (own c) (own-within first merged s.good s.forms fits c m).1
      ∙ ap (λ (ms : List ℕ). net_at ms (own c)) (same-marks s from k)))

  -- no target leads to a golden gate
  list-few : (from k : ℕ) → j.inputs ≤ from → length (list_of from k true) ≤ 400
  unfolding counts_of side_counts_of
  list-few from k h =
      let n = length j.old.gates in
      let ms = marks_of first from k (miter_gates j) in
      let few = keep-below (λ c. marked live (own c) && marked ms (own c)) n first merged s.good s.forms fits
      (λ c m z.
      ⊎_elim
      (λ t. ltb-true (own c) (first + n) t)
      (λ t.
      let e = golden-unmarked j from k h (own c) (ltb-false (own c) (first + n) t) in
      absurd (not-both (and_right (marked live (own c)) (marked ms (own c)) z) (unmarked-of ms (own c) e)))
      (true-or-false (ltb (own c) (first + n)))) in
      omega (arith, (job-within j good).old.gates)

  abbrev list : ℕ → List ℕ
  list = list_at j.inputs j.targets live packs

  abbrev up_to : ℕ → List ℕ
  up_to = lists_to j.inputs j.targets live packs

  list-zero : list 0 ≡ list_of j.inputs j.targets false
  unfolding list_at
  list-zero = list-marks j.inputs j.targets false

  list-one : list 1 ≡ list_of j.inputs j.targets true
  unfolding list_at
  list-one = list-marks j.inputs j.targets true

  list-led : (t : ℕ) → list (suc (suc t)) ≡ list_of (j.inputs + t) 1 true
  unfolding list_at
  list-led t = list-marks (j.inputs + t) 1 true

  -- there is room for all of them
  two-few : length (list 0) + length (list 1) ≤ 800
  two-few =
      let n = j.inputs in
      let k = j.targets in
      let l = keep_apart (λ c. marked live (own c) && not (leads n k (own c))) (λ c. marked live (own c) && leads n k (own c)) packs
      (λ c e.
      and-false-right (marked live (own c)) (leads n k (own c))
      (not-true (leads n k (own c)) (and_right (marked live (own c)) (not (leads n k (own c))) e))) in
      rw (list-zero, list-one) (omega (arith, length-packed_from first merged, s.long, miter-gates j good))

  up_to-few : (t : ℕ) → length (up_to (suc t)) ≤ 800 + 400 * t
  unfolding lists_to
  up_to-few zero = omega (arith, two-few, length-append (list 0) (list 1))
  up_to-few (suc t) =
      let l : length (list (suc (suc t))) ≤ 400 = rw (list-led t) (list-few (j.inputs + t) 1 (omega arith)) in
      omega (arith, up_to-few t, length-append (up_to (suc t)) (list (suc (suc t))))

  up_to-within : (t : ℕ) → t < j.targets + 2 → length (up_to t) ≤ 2400
  unfolding lists_to counts_of
  up_to-within zero h = omega (arith, two-few)
  up_to-within (suc t) h = omega (arith, up_to-few t, (job-within j good).targets)

  -- the first list, put from place 0 on
  list_put : (ms before : List ℕ) (end : ℕ) (gates : List ℕ) → ms ≡ marks_from packs j.inputs j.targets
      → ListPut (picked live ms false packs) 0 before end gates → take end gates ≡ list_of j.inputs j.targets false
  unfolding list_at
  list_put ms before end gates e p =
      p.front
      ∙ ap (λ (x : List ℕ). take 2400 (picked live x false packs)) e
      ∙ take_all 2400 (list 0) (omega (arith, two-few))
      ∙ list-zero

  module _ (ends gates : List ℕ) (n : ℕ) (w : n ≤ j.targets) (u : ListsUpTo (n + 2) j.inputs j.targets live packs ends gates) where
    front : (t : ℕ) → t < n + 2 → take (get_or ends t 0) gates ≡ up_to t
    front t h = u.fronts t h ∙ take_all 2400 (up_to t) (up_to-within t (omega arith))

    end : (t : ℕ) → t < n + 2 → get_or ends t 0 ≡ length (up_to t)
    end t h =
        ends-length j.inputs j.targets live packs (n + 2) ends gates u t h ∙ omega (arith, up_to-within t (omega arith))

    part : (t k : ℕ) → k ≡ suc t → k < n + 2 → slice (get_or ends t 0) (get_or ends k 0) gates ≡ list k
    unfolding lists_to
    part t k e h =
        ap (drop (get_or ends t 0)) (front k h ∙ ap up_to e)
        ∙ drop_at (up_to t) (list (suc t)) (get_or ends t 0) (sym (end t (omega arith)))
        ∙ ap list (sym e)

    pub plan-lists : PlanLists j merged (marked live) ends gates
    unfolding lists_to
    plan-lists =
        record {
          order = omega (arith, end 0 (omega arith), end 1 (omega arith), length-append (list 0) (list 1));
          free = front 0 (omega arith) ∙ list-zero;
          fan = part 0 1 refl (omega arith) ∙ list-one;
        }

    -- .. and those of the first n targets
    pub turn-list : (t : ℕ) → t < n → slice (get_or ends (t + 1) 0) (get_or ends (t + 2) 0) gates ≡ list_of (j.inputs + t) 1 true
    turn-list t h =
        let e : t + 2 ≡ suc (suc t) = omega arith in
        part (t + 1) (t + 2) (omega arith) (omega arith) ∙ ap list e ∙ list-led t

-- ---- a plan

-- the plan p of a miter, which reads the nets of a support and compares the first few outputs
pub record PlanFrom (m : Miter) (support : Support) (few : ℕ) (p : Plan) : Type 0 where
  pub inputs : p.inputs ≡ m.inputs
  pub targets : p.targets ≡ m.targets
  pub outs : p.outs ≡ few
  pub outputs : p.outputs ≡ m.outputs
  pub goldens : p.goldens ≡ m.goldens
  pub reads : p.reads ≡ support

-- the nets that outputs os and gs and the read nets is need
module _ (j : Job) (is : List ℕ) (good : PartsGood j) {merged : List Gate} (s : SameGates (j.inputs + j.targets) (miter_gates j) merged)
    (c : all (candidate_good j) is ≡ true) (os gs live : List ℕ) (e : live ≡ live_marks os gs is (packed_from (j.inputs + j.targets) merged)) where
  abbrev from : ℕ
  from = j.inputs + j.targets

  live_members : (xs : List ℕ) → ((i : ℕ) → Mem i xs → marked (live_marks os gs is (packed_from from merged)) i ≡ true)
      → all (marked live) xs ≡ true
  live_members xs h = all-of-members (marked live) xs (λ i n. rw e (h i n))

  live-read : all (marked live) is ≡ true
  live-read =
      live_members is
      (λ i n.
      let h = (candidate-free j i (all_true (candidate_good j) is c i n)).0 in
      live-is os gs is (packed_from from merged) i n (omega (arith, miter-nets j good, old_nets-le j good)))

  closed-live : Closed (marked live) from merged
  closed-live =
      subst (λ (x : List ℕ). Closed (marked x) from merged) (sym e)
      (live_marks-closed os gs is (packed_from from merged) from merged refl s.good s.forms (fits j good s live))

module _ {j : Job} {is : List ℕ} {m : Miter} (o : MergedOf j m) (reads : Support) (e : take reads.len reads.nets ≡ is)
    (c : all (candidate_good j) is ≡ true) {live : List ℕ} {p : Plan} where
  module _ (f : PlanFrom m reads m.outs p) (le : live
      ≡ live_marks (take m.outs m.outputs) (take m.outs m.goldens) (take reads.len reads.nets) (take m.count m.gates))
      (n : ℕ) (few : n ≤ m.targets)
      (u : ListsUpTo (n + 2) m.inputs m.targets live (take m.count m.gates) p.ends p.gates) where
    lists_of : ListsUpTo (n + 2) j.inputs j.targets live (packed_from (j.inputs + j.targets) o.merged) p.ends p.gates
    lists_of = rw (o.gates, o.inputs, o.targets) at u

    abbrev plan : PlannedOf j is p
    plan =
        let os = take m.outs m.outputs in
        let gs = take m.outs m.goldens in
        let cs = packed_from (j.inputs + j.targets) o.merged in
        let l : live ≡ live_marks os gs is cs = rw (o.gates, e) at le in
        let members = live_members j is o.good o.same c os gs live l in
        let below : (xs : List ℕ) → all (λ i. ltb i (miter_nets j)) xs ≡ true → (i : ℕ) → Mem i xs → i < 1024 =
        λ xs h i n. omega (arith, ltb-true i (miter_nets j) (all_true (λ k. ltb k (miter_nets j)) xs h i n), miter-nets j o.good) in
        record {
          good = o.good;
          inputs = f.inputs ∙ o.inputs;
          targets = f.targets ∙ o.targets;
          pairs = rw (f.outs, f.outputs, f.goldens) o.pairs;
          nets = rw f.reads e;
          merged = o.merged;
          same = o.same;
          live = marked live;
          closed = closed-live j is o.good o.same c os gs live l;
          live-outputs = rw (f.outs, f.outputs) (members os (λ i n. live-os os gs is cs i n (below os o.pairs.olds i n)));
          live-goldens = rw (f.outs, f.goldens) (members gs (λ i n. live-gs os gs is cs i n (below gs o.pairs.goldens i n)));
          live-nets = live-read j is o.good o.same c os gs live l;
          lists = plan-lists j o.good o.same live p.ends p.gates n (omega (arith, o.targets)) lists_of;
        }

    pub planned : PlannedOf j is p
    planned = plan

    -- .. with the lists of all targets
    pub turned : n ≡ m.targets → TurnsOf j is p
    turned all =
        record {
          planned = plan;
          lists = λ t h. turn-list j o.good o.same live p.ends p.gates n (omega (arith, o.targets)) lists_of t (omega (arith, o.targets));
        }

  -- .. that reads alone: every end is that of the live gates that no target leads to
  pub planned-reads : PlanFrom m reads 0 p → live ≡ live_marks [] [] (take reads.len reads.nets) (take m.count m.gates) → {ms : List ℕ}
      → ms ≡ marks_from (take m.count m.gates) m.inputs m.targets → {before : List ℕ}
      → ListPut (picked live ms false (take m.count m.gates)) 0 before (get_or p.ends 0 0) p.gates → ReadsOf j is p
  planned-reads f le {ms} me {before} g =
      let l : live ≡ live_marks [] [] is (packed_from (j.inputs + j.targets) o.merged) = rw (o.gates, e) at le in
      record {
        good = o.good;
        inputs = f.inputs ∙ o.inputs;
        targets = f.targets ∙ o.targets;
        nets = rw f.reads e;
        merged = o.merged;
        same = o.same;
        live = marked live;
        closed = closed-live j is o.good o.same c [] [] live l;
        live-nets = live-read j is o.good o.same c [] [] live l;
        free =
            list_put j o.good o.same live ms before (get_or p.ends 0 0) p.gates (rw (o.gates, o.inputs, o.targets) at me) (rw o.gates at g);
      }
