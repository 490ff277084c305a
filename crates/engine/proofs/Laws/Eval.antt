-- Laws of specs/Eval: the values of nets are 0 or 1, so a number made of k of them is below 2 ^ k; and the vector has no say
-- on a net that no target leads to. Assumes nothing.
use Prim.Native.Nat.{ℕ, zero, suc, ◌^◌, ◌<◌}
use mathlib.Core.Path.{◌≡◌, refl, sym, ◌∙◌, ap}
use mathlib.Core.Logic.{⊎_elim}
use mathlib.Core.List.Memᴰ.{cases_cons}
use mathlib.Core.List.Memᴰ.{not-nil}
use mathlib.Core.List.{List, [], ◌∷◌, ◌++◌, map, Memᴰ as Mem}
use native.Mathlib.Nat.{pow-suc}
use native.Mathlib.Omega.{arith}
use lib.Dec.{lit<}
use lib.ListN.{length, get_or, replicate}
use Rattle.records.specs.Bytes.{up_from, tabulate}
use Rattle.records.specs.Gate.{Gate, operands, conj, disj, parity, inverted, gate_value}
use Rattle.records.specs.Netlist.{net_at, extended, value_of, values, mark_of, fanout}
use Rattle.records.specs.Job.{Job}
use Rattle.engine.specs.Eval.{bit, bits, number_of, old_values}
use Rattle.engine.proofs.Laws.Choice.{map-agree}

-- ---- lists of 0 and 1

pub data Bits : List ℕ → Type 0 where
  bits-nil : Bits []
  bits-cons : {v : ℕ} {vs : List ℕ} → v < 2 → Bits vs → Bits (v ∷ vs)

pub get_d_bits : {vs : List ℕ} → Bits vs → (i : ℕ) → get_or vs i 0 < 2
get_d_bits bits-nil i = omega arith
get_d_bits (bits-cons h b) zero = h
get_d_bits (bits-cons h b) (suc i) = get_d_bits b i

pub bits-append : {vs ws : List ℕ} → Bits vs → Bits ws → Bits (vs ++ ws)
bits-append bits-nil c = c
bits-append (bits-cons h b) c = bits-cons h (bits-append b c)

pub bits-map : {A : Type 0} (f : A → ℕ) → ((a : A) → f a < 2) → (xs : List A) → Bits (map f xs)
bits-map f l [] = bits-nil
bits-map f l (x ∷ xs) = bits-cons (l x) (bits-map f l xs)

-- ---- gates

conj-lt : (vs : List ℕ) → conj vs < 2
unfolding conj
conj-lt [] = omega arith
conj-lt (v ∷ vs) = omega (arith, conj-lt vs)

disj-lt : {vs : List ℕ} → Bits vs → disj vs < 2
unfolding disj
disj-lt bits-nil = omega arith
disj-lt (bits-cons h b) = omega (arith, disj-lt b)

parity-lt : (vs : List ℕ) → parity vs < 2
unfolding parity
parity-lt [] = omega arith
parity-lt (v ∷ vs) = omega arith

inverted-lt : (v : ℕ) → inverted v < 2
unfolding inverted
inverted-lt v = omega arith

zero-lt : 0 < 2
zero-lt = lit< tt

one-lt : 1 < 2
one-lt = lit< tt

pub gate_value-lt : (k : ℕ) {vs : List ℕ} → Bits vs → gate_value k vs < 2
unfolding gate_value
gate_value-lt k {vs} b =
    let v : ℕ = get_or vs 0 0 in
    get_d_bits
    (bits-cons zero-lt
    (bits-cons one-lt
    (bits-cons (get_d_bits b 0)
    (bits-cons (inverted-lt v)
    (bits-cons (conj-lt vs)
    (bits-cons (inverted-lt (conj vs))
    (bits-cons (disj-lt b)
    (bits-cons (inverted-lt (disj vs))
    (bits-cons (parity-lt vs)
    (bits-cons (inverted-lt (parity vs)) bits-nil))))))))))
    k

-- ---- values

pub net_at-lt : {known : List ℕ} → Bits known → (i : ℕ) → net_at known i < 2
unfolding net_at
net_at-lt b i = get_d_bits b i

pub value_of-lt : {known : List ℕ} → Bits known → (g : Gate) → value_of known g < 2
unfolding value_of
value_of-lt {known} b g = gate_value-lt g.kind (bits-map (net_at known) (net_at-lt b) (operands g))

pub values-bits : (leaves : List ℕ) → Bits leaves → (gs : List Gate) → Bits (values leaves gs)
unfolding values extended
values-bits leaves b [] = b
values-bits leaves b (g ∷ gs) =
    values-bits (leaves ++ (value_of leaves g ∷ [])) (bits-append b (bits-cons (value_of-lt b g) bits-nil)) gs

pub bit-lt : (i x : ℕ) → bit i x < 2
unfolding bit
bit-lt i x = omega arith

pub bits-bits : (k x : ℕ) → Bits (bits k x)
unfolding bits tabulate
bits-bits k x = bits-map (λ i. bit i x) (λ i. bit-lt i x) (up_from 0 k)

pub old_values-bits : (j : Job) (x v : ℕ) → Bits (old_values j x v)
unfolding old_values
old_values-bits j x v =
    values-bits (bits j.inputs x ++ bits j.targets v)
    (bits-append (bits-bits j.inputs x) (bits-bits j.targets v))
    j.old.gates

-- ---- numbers

pub number_of-lt : {bs : List ℕ} → Bits bs → number_of bs < 2 ^ length bs
unfolding number_of
number_of-lt bits-nil = omega arith
number_of-lt (bits-cons {v} {vs} h b) = omega (arith, number_of-lt b, pow-suc 2 (length vs))

-- where two rows of bits make the same number, they agree at each place
pub number_of-agree : (f g : ℕ → ℕ) → ((i : ℕ) → f i < 2) → ((i : ℕ) → g i < 2) → (is : List ℕ)
    → number_of (map f is) ≡ number_of (map g is) → (i : ℕ) → Mem i is → f i ≡ g i
unfolding number_of
number_of-agree f g l h [] e i m = absurd (not-nil m)
number_of-agree f g l h (k ∷ is) e i m =
    ⊎_elim
    (λ (q : i ≡ k). let p : f k ≡ g k = omega (arith, l k, h k) in ap f q ∙ p ∙ ap g (sym q))
    (λ (n : Mem i is). number_of-agree f g l h is (omega (arith, l k, h k)) i n)
    (cases_cons m)

-- ---- nets that no target leads to

-- two lists of values have the same entry wherever the marks, the first list, have 0
pub data Agree : List ℕ → List ℕ → List ℕ → Type 0 where
  agree-nil : Agree [] [] []
  agree-cons : {m v w : ℕ} {ms vs ws : List ℕ} → (m ≡ 0 → v ≡ w) → Agree ms vs ws → Agree (m ∷ ms) (v ∷ vs) (w ∷ ws)

agree-append : {ms vs ws ms' vs' ws' : List ℕ} → Agree ms vs ws → Agree ms' vs' ws'
    → Agree (ms ++ ms') (vs ++ vs') (ws ++ ws')
agree-append agree-nil b = b
agree-append (agree-cons h a) b = agree-cons h (agree-append a b)

pub net_at-agree : {ms vs ws : List ℕ} → Agree ms vs ws → (i : ℕ) → net_at ms i ≡ 0 → net_at vs i ≡ net_at ws i
unfolding net_at
net_at-agree agree-nil i e = refl
net_at-agree (agree-cons h a) zero e = h e
net_at-agree (agree-cons h a) (suc i) e = net_at-agree a i e

disj-zero : (f : ℕ → ℕ) (is : List ℕ) → disj (map f is) ≡ 0 → (i : ℕ) → Mem i is → f i ≡ 0
unfolding disj
disj-zero f [] e i m = absurd (not-nil m)
disj-zero f (k ∷ is) e i m =
    ⊎_elim
    (λ (q : i ≡ k). let z : f k ≡ 0 = omega arith in ap f q ∙ z)
    (λ (n : Mem i is). disj-zero f is (omega arith) i n)
    (cases_cons m)

-- a gate with mark 0 reads only nets with mark 0
value_of-agree : {ms vs ws : List ℕ} → Agree ms vs ws → (g : Gate) → mark_of ms g ≡ 0 → value_of vs g ≡ value_of ws g
unfolding mark_of value_of
value_of-agree {ms} {vs} {ws} a g e =
    ap (gate_value g.kind)
    (map-agree (net_at vs) (net_at ws) (operands g) (λ i m. net_at-agree a i (disj-zero (net_at ms) (operands g) e i m)))

pub extended-agree : (ms vs ws : List ℕ) → Agree ms vs ws → (gs : List Gate)
    → Agree (extended mark_of ms gs) (extended value_of vs gs) (extended value_of ws gs)
unfolding extended
extended-agree ms vs ws a [] = a
extended-agree ms vs ws a (g ∷ gs) =
    extended-agree (ms ++ (mark_of ms g ∷ [])) (vs ++ (value_of vs g ∷ [])) (ws ++ (value_of ws g ∷ []))
    (agree-append a (agree-cons (value_of-agree a g) agree-nil))
    gs

-- leaves with the mark c: inputs have 0 and one value, targets have 1
leaves-agree : (c : ℕ) (f g : ℕ → ℕ) → ((i : ℕ) → c ≡ 0 → f i ≡ g i) → (a n : ℕ)
    → Agree (replicate n c) (map f (up_from a n)) (map g (up_from a n))
unfolding up_from
leaves-agree c f g h a zero = agree-nil
leaves-agree c f g h a (suc n) = agree-cons (h a) (leaves-agree c f g h (suc a) n)

-- the vector has no say on a net that no target leads to
pub values_agree : (n m : ℕ) (gs : List Gate) (x v w i : ℕ) → net_at (fanout n m gs) i ≡ 0
    → net_at (values (bits n x ++ bits m v) gs) i ≡ net_at (values (bits n x ++ bits m w) gs) i
unfolding values fanout bits tabulate
values_agree n m gs x v w i e =
    let a =
    agree-append
    (leaves-agree 0 (λ k. bit k x) (λ k. bit k x) (λ k z. refl) 0 n)
    (leaves-agree 1 (λ k. bit k v) (λ k. bit k w) (λ k z. let f : ⊥ = omega arith in absurd f) 0 m) in
    net_at-agree
    (extended-agree (replicate n 0 ++ replicate m 1) (bits n x ++ bits m v) (bits n x ++ bits m w) a gs)
    i
    e

pub old_values-agree : (j : Job) (x v w i : ℕ) → net_at (fanout j.inputs j.targets j.old.gates) i ≡ 0
    → net_at (old_values j x v) i ≡ net_at (old_values j x w) i
unfolding old_values
old_values-agree j = values_agree j.inputs j.targets j.old.gates
