-- The round trip: what is written reads back, and what is read and written again is the same bytes. One law over records
-- of one size and one over fields; gates, nets, candidates and jobs are instances. Assumes nothing.
use Prim.Native.Nat.{ℕ, zero, suc, ◌+◌, ◌*◌, ◌/◌, ◌%◌, ◌≤◌, ◌<◌}
use mathlib.Core.Path.{◌≡◌, refl, sym, ◌∙◌, ap}
use mathlib.Core.List.{List, [], ◌∷◌, ◌++◌, map, append_assoc, append-nil}
use mathlib.Core.Bool.{true}
use native.Mathlib.Nat.{mul-zero, mul-suc, mul-div_right, mul-mod_right, div-add-mod}
use native.Mathlib.Omega.{arith}
use borrow.Author.Tests.{leb-true, eqb-true}
use lib.Dec.{T, leb, ltb, eqb, lit<}
use lib.ListN.{length, get_or, take, drop, length-append, length-drop, take-append-drop, drop_of_length-le}
use lib.Seq.{get_or-drop, drop_at, drop-drop, take_all, take-append_seam}
use Rattle.records.specs.Bytes.{up_from, tabulate, flat, byte_pair, word, field, body_length, body, rest, fits, whole, nth}
use Rattle.records.specs.Gate.{Gate, gate_of}
use Rattle.records.specs.Job.{Candidate, Job, gate_at, gates_of, nets_of, candidate_at, candidates_of, netlist_of, job_whole, job_of, gate_bytes, candidate_bytes, job_bytes}
use Rattle.records.specs.Refusal.{first_failing, part_tests, job_tests, job_refusal}
use Rattle.records.specs.Service.{Places, gate_from, struct_of, slot_of, gates_in, netlist_from, job_from}
use Rattle.records.specs.Claims.{Below}
use Rattle.records.specs.declared.gate.Gate.{Gate as GateStruct}
use Rattle.records.specs.declared.job.Counts.{Counts}
use Rattle.records.proofs.Laws.Bytes.{and_left, and_right, row_at, tabulate-ext}
use Rattle.records.proofs.Laws.Field.{word-drop, fits_whole, length-body}
use Rattle.records.proofs.Laws.Job.{tabulate-get_or, length-field, length-gate_bytes, length-candidate_bytes}
use Rattle.records.proofs.Laws.Shape.{JobWhole, job_whole-facts, job_whole-true}

-- ---- lists

-- what holds of everything, and P of each element of a list
abbrev pub Any : {A : Type 0} → A → Type 0
Any x = Unit {0}

abbrev pub All : {A : Type 0} → (A → Type 0) → List A → Type 0
All P [] = Unit {0}
All P (x ∷ xs) = P x × All P xs

all_map : {A B : Type 0} (P : A → Type 0) (f : B → A) → ((x : B) → P (f x)) → (xs : List B) → All P (map f xs)
all_map P f h [] = tt
all_map P f h (x ∷ xs) = (h x, all_map P f h xs)

pub all-tabulate : {A : Type 0} (P : A → Type 0) (f : ℕ → A) → ((i : ℕ) → P (f i)) → (n : ℕ) → All P (tabulate n f)
unfolding tabulate
all-tabulate P f h n = all_map P f h (up_from 0 n)

pub all_any : {A : Type 0} (xs : List A) → All Any xs
all_any [] = tt
all_any (x ∷ xs) = (tt, all_any xs)

pub below-drop : (n : ℕ) (xs : List ℕ) (k : ℕ) → Below n xs → Below n (drop k xs)
below-drop n xs k b i = rw get_or-drop (b (k + i))

pub below-take : (n : ℕ) (xs : List ℕ) (k : ℕ) → Below n xs → Below n (take k xs)
below-take n xs zero b i = omega (arith, b 0)
below-take n [] (suc k) b i = b i
below-take n (x ∷ xs) (suc k) b zero = b 0
below-take n (x ∷ xs) (suc k) b (suc i) = below-take n xs k (λ j. b (suc j)) i

listed : (n : ℕ) (xs : List ℕ) → length xs ≡ n → tabulate n (λ i. get_or xs i 0) ≡ xs
listed n xs e = tabulate-get_or xs n (omega arith) ∙ take_all n xs (omega arith)

module _ {A : Type 0} (f : ℕ → A) where
  map-up_from-suc : (a n : ℕ) → map f (up_from (suc a) n) ≡ map (λ i. f (suc i)) (up_from a n)
  unfolding up_from
  map-up_from-suc a zero = refl
  map-up_from-suc a (suc n) = ap (λ (l : List A). f (suc a) ∷ l) (map-up_from-suc (suc a) n)

  pub tabulate-suc : (n : ℕ) → tabulate (suc n) f ≡ f 0 ∷ tabulate n (λ i. f (suc i))
  unfolding tabulate up_from
  tabulate-suc n = ap (λ (l : List A). f 0 ∷ l) (map-up_from-suc 0 n)

-- ---- records of one size, one after the other

-- records of k bytes: at s i reads record i of s, and bytes x writes one
pub record Format {A : Type 0} (k : ℕ) (Good : A → Type 0) (bytes : A → List ℕ) (at : List ℕ → ℕ → A) : Type 0 where
  pub size : (x : A) → Good x → length (bytes x) ≡ k
  pub next : (s : List ℕ) (i : ℕ) → at s (suc i) ≡ at (drop k s) i
  pub read : (x : A) → Good x → (r : List ℕ) → at (bytes x ++ r) 0 ≡ x
  pub write : (s : List ℕ) → Below 256 s → k ≤ length s → bytes (at s 0) ≡ take k s

module _ {A : Type 0} {k : ℕ} {Good : A → Type 0} {bytes : A → List ℕ} {at : List ℕ → ℕ → A}
    (w : Format k Good bytes at) where
  pub length-records : (xs : List A) → All Good xs → length (flat bytes xs) ≡ k * length xs
  unfolding flat
  length-records [] g = sym (mul-zero k)
  length-records (x ∷ xs) g =
      length-append (bytes x) (flat bytes xs)
      ∙ omega (arith, w.size x g.0, length-records xs g.1, mul-suc k (length xs))

  tabulate-next : (n : ℕ) (s : List ℕ) → tabulate (suc n) (at s) ≡ at s 0 ∷ tabulate n (at (drop k s))
  tabulate-next n s =
      tabulate-suc (at s) n
      ∙ ap (λ (l : List A). at s 0 ∷ l) (tabulate-ext n (λ i. at s (suc i)) (at (drop k s)) (λ i h. w.next s i))

  tabulate-flat : (xs : List A) → All Good xs → tabulate (length xs) (at (flat bytes xs)) ≡ xs
  unfolding tabulate up_from flat
  tabulate-flat [] g = refl
  tabulate-flat (x ∷ xs) g =
      let e = drop_at (bytes x) (flat bytes xs) k (w.size x g.0) in
      tabulate-next (length xs) (bytes x ++ flat bytes xs)
      ∙ rw (w.read x g.0 (flat bytes xs), e, tabulate-flat xs g.1)

  flat-tabulate : (n : ℕ) (s : List ℕ) → Below 256 s → length s ≡ k * n → flat bytes (tabulate n (at s)) ≡ s
  unfolding tabulate up_from flat
  flat-tabulate zero s b e = sym (drop_of_length-le s {i = 0} (omega (arith, mul-zero k)))
  flat-tabulate (suc n) s b e =
      let m = mul-suc k n in
      let l : length (drop k s) ≡ k * n = omega (arith, length-drop k s) in
      ap (flat bytes) (tabulate-next n s)
      ∙ rw (w.write s b (omega arith), flat-tabulate n (drop k s) (below-drop 256 s k b) l)
      (take-append-drop k s)

  pub length-records-mod : (xs : List A) → All Good xs → length (flat bytes xs) % k ≡ 0
  length-records-mod xs g = rw (length-records xs g) (mul-mod_right k (length xs))

  module _ (h : 0 < k) where
    -- what is written reads back
    pub read-flat : (xs : List A) → All Good xs → tabulate (length (flat bytes xs) / k) (at (flat bytes xs)) ≡ xs
    read-flat xs g = rw (length-records xs g, mul-div_right (length xs) h) (tabulate-flat xs g)

    -- what is read and written again is the same bytes
    pub flat-read : (s : List ℕ) → Below 256 s → length s % k ≡ 0 → flat bytes (tabulate (length s / k) (at s)) ≡ s
    flat-read s b e = flat-tabulate (length s / k) s b (omega (arith, div-add-mod (length s) k))

-- ---- gates, nets, candidates

word-from : (s : List ℕ) (k a b : ℕ) → a ≡ k + b → word s a ≡ word (drop k s) b
word-from s k a b e = ap (word s) e ∙ sym (word-drop s k b)

get_or-from : (s : List ℕ) (k a b : ℕ) → a ≡ k + b → get_or s a 0 ≡ get_or (drop k s) b 0
get_or-from s k a b e = ap (λ (i : ℕ). get_or s i 0) e ∙ sym (get_or-drop k s b 0)

word-byte_pair : (x : ℕ) (r : List ℕ) → word (byte_pair x ++ r) 0 ≡ x
unfolding word byte_pair
word-byte_pair x r = div-add-mod x 256

byte_pair-word : (s : List ℕ) (i : ℕ) → Below 256 s → byte_pair (word s i) ≡ get_or s i 0 ∷ get_or s (i + 1) 0 ∷ []
unfolding word byte_pair
byte_pair-word s i b =
    let h : (256 * get_or s i 0 + get_or s (i + 1) 0) / 256 ≡ get_or s i 0 = omega (arith, b (i + 1)) in
    let l : (256 * get_or s i 0 + get_or s (i + 1) 0) % 256 ≡ get_or s (i + 1) 0 = omega (arith, b (i + 1)) in
    cc

pub net_format : Format 2 Any byte_pair (λ s i. word s (2 * i))
unfolding byte_pair tabulate up_from
net_format =
    record {
      size = λ x g. refl;
      next = λ s i. word-from s 2 (2 * suc i) (2 * i) (omega arith);
      read = λ x g r. word-byte_pair x r;
      write = λ s b l. byte_pair-word s 0 b ∙ tabulate-get_or s 2 l;
    }

candidate-read : (c : Candidate) (r : List ℕ) → candidate_at (candidate_bytes c ++ r) 0 ≡ c
unfolding candidate_bytes candidate_at word byte_pair
candidate-read c r = rw (div-add-mod c.net 256, div-add-mod c.weight 256)

pub candidate_format : Format 4 Any candidate_bytes candidate_at
unfolding candidate_bytes candidate_at tabulate up_from
candidate_format =
    record {
      size = λ c g. length-candidate_bytes c;
      next = λ s i.
          rw (word-from s 4 (4 * suc i) (4 * i) (omega arith), word-from s 4 (4 * suc i + 2) (4 * i + 2) (omega arith));
      read = λ c g r. candidate-read c r;
      write = λ s b l. rw (byte_pair-word s 0 b, byte_pair-word s 2 b) (tabulate-get_or s 4 l);
    }

-- a gate has four operand slots
abbrev pub Four : Gate → Type 0
Four g = length g.slots ≡ 4

pub four-slots : (g : Gate) → Four g
    → g ≡ gate_of g.kind g.count (get_or g.slots 0 0) (get_or g.slots 1 0) (get_or g.slots 2 0) (get_or g.slots 3 0)
unfolding gate_of tabulate up_from
four-slots g e = ap (λ (xs : List ℕ). record { kind = g.kind; count = g.count; slots = xs }) (sym (listed 4 g.slots e))

gate-read : (k n w x y z : ℕ) (r : List ℕ) → gate_at (gate_bytes (gate_of k n w x y z) ++ r) 0 ≡ gate_of k n w x y z
unfolding gate_bytes gate_at gate_of word byte_pair flat
gate-read k n w x y z r = rw (div-add-mod w 256, div-add-mod x 256, div-add-mod y 256, div-add-mod z 256)

pub gate_format : Format 10 Four gate_bytes gate_at
unfolding gate_bytes gate_at gate_of flat tabulate up_from
gate_format =
    let at : (s : List ℕ) (i j : ℕ) → word s (10 * suc i + j) ≡ word (drop 10 s) (10 * i + j) =
    λ s i j. word-from s 10 (10 * suc i + j) (10 * i + j) (omega arith) in
    record {
      size = length-gate_bytes;
      next = λ s i.
          rw (
            get_or-from s 10 (10 * suc i) (10 * i) (omega arith),
            get_or-from s 10 (10 * suc i + 1) (10 * i + 1) (omega arith),
            at s i 2,
            at s i 4,
            at s i 6,
            at s i 8,
          );
      read = λ g t r. rw (four-slots g t) (gate-read _ _ _ _ _ _ r);
      write = λ s b l.
          rw (byte_pair-word s 2 b, byte_pair-word s 4 b, byte_pair-word s 6 b, byte_pair-word s 8 b) (tabulate-get_or s 10 l);
    }

-- ---- fields

-- fields with the tags t, t + 1, .. and these bytes
unfoldable pub joined : ℕ → List (List ℕ) → List ℕ
joined t [] = []
joined t (xs ∷ xss) = field t xs ++ joined (suc t) xss

module _ (t : ℕ) (xs r : List ℕ) where
  pub body_length-field : body_length (field t xs ++ r) ≡ length xs
  unfolding body_length field byte_pair word
  body_length-field = div-add-mod (length xs) 256

  pub fits-field : fits t (field t xs ++ r) ≡ true
  unfolding field body_length
  fits-field =
      let e : word (field t xs ++ r) 1 ≡ length xs = body_length-field in
      fits_whole (field t xs ++ r) 0 t refl (omega (arith, length-append (field t xs) r, length-field t xs))

  pub body-field : body (field t xs ++ r) ≡ xs
  unfolding body field byte_pair
  body-field = rw body_length-field (take-append_seam xs r)

  pub rest-field : rest (field t xs ++ r) ≡ r
  unfolding rest
  rest-field = rw body_length-field (drop_at (field t xs) r (3 + length xs) (length-field t xs))

pub whole-joined : (t : ℕ) (xss : List (List ℕ)) → whole (up_from t (length xss)) (joined t xss) ≡ true
unfolding joined whole up_from
whole-joined t [] = refl
whole-joined t (xs ∷ xss) =
    rw (fits-field t xs (joined (suc t) xss), rest-field t xs (joined (suc t) xss)) (whole-joined (suc t) xss)

below_rest : (s : List ℕ) → Below 256 s → Below 256 (rest s)
unfolding rest
below_rest s b = below-drop 256 s (3 + body_length s) b

below-nth : (k : ℕ) (s : List ℕ) → Below 256 s → Below 256 (nth k s)
unfolding nth body
below-nth zero s b = below-take 256 (drop 3 s) (body_length s) (below-drop 256 s 3 b)
below-nth (suc k) s b = below-nth k (rest s) (below_rest s b)

pub nth-joined : (t : ℕ) (xss : List (List ℕ)) (k : ℕ) → k < length xss → nth k (joined t xss) ≡ get_or xss k []
unfolding joined nth
nth-joined t [] k h = let f : ⊥ = omega arith in absurd f
nth-joined t (xs ∷ xss) zero h = body-field t xs (joined (suc t) xss)
nth-joined t (xs ∷ xss) (suc k) h =
    rw (rest-field t xs (joined (suc t) xss)) (nth-joined (suc t) xss k (omega arith))

head-body : (s : List ℕ) → Below 256 s → 3 + body_length s ≤ length s
    → get_or s 0 0 ∷ byte_pair (body_length s) ++ body s ++ rest s ≡ s
unfolding body rest body_length tabulate up_from
head-body s b h =
    let n = word s 1 in
    rw (byte_pair-word s 1 b, ← drop-drop n 3 s)
    (append_assoc (get_or s 0 0 ∷ get_or s 1 0 ∷ get_or s 2 0 ∷ []) (take n (drop 3 s)) (drop n (drop 3 s))
    ∙ ap (λ (l : List ℕ). (get_or s 0 0 ∷ get_or s 1 0 ∷ get_or s 2 0 ∷ []) ++ l) (take-append-drop n (drop 3 s))
    ∙ ap (λ (l : List ℕ). l ++ drop 3 s) (tabulate-get_or s 3 (omega arith))
    ∙ take-append-drop 3 s)

field-body : (t : ℕ) (s : List ℕ) → Below 256 s → fits t s ≡ true → field t (body s) ++ rest s ≡ s
unfolding fits field
field-body t s b f =
    let u = row_at (leb 3 (length s)) (eqb (get_or s 0 0) t ∷ leb (3 + body_length s) (length s) ∷ []) f in
    let h : 3 + body_length s ≤ length s = leb-true _ _ (u 2) in
    let n : length (body s) ≡ body_length s = length-body s h in
    rw (n, ← eqb-true (get_or s 0 0) t (u 1)) (head-body s b h)

pub joined-nth : (t n : ℕ) (s : List ℕ) → Below 256 s → whole (up_from t n) s ≡ true
    → joined t (tabulate n (λ k. nth k s)) ≡ s
unfolding joined whole up_from tabulate nth
joined-nth t zero s b w = sym (drop_of_length-le s {i = 0} (omega (arith, eqb-true (length s) 0 w)))
joined-nth t (suc n) s b w =
    let f = and_left (fits t s) _ w in
    ap (joined t) (tabulate-suc (λ k. nth k s) n)
    ∙ rw (joined-nth (suc t) n (rest s) (below_rest s b) (and_right (fits t s) _ w)) (field-body t s b f)

-- ---- jobs

-- the bytes of a job's six fields
abbrev pub bodies : Job → List (List ℕ)
bodies j =
    (j.inputs ∷ j.targets ∷ [])
    ∷ flat gate_bytes j.old.gates
    ∷ flat byte_pair j.old.outputs
    ∷ flat gate_bytes j.golden.gates
    ∷ flat byte_pair j.golden.outputs
    ∷ flat candidate_bytes j.candidates
    ∷ []

pub job_bytes-joined : (j : Job) → job_bytes j ≡ joined 1 (bodies j)
unfolding job_bytes joined
job_bytes-joined j = simp (append_assoc, append-nil)

gates_of-flat : (gs : List Gate) → All Four gs → gates_of (flat gate_bytes gs) ≡ gs
unfolding gates_of
gates_of-flat gs g = read-flat gate_format (omega arith) gs g

pub nets_of-flat : (xs : List ℕ) → nets_of (flat byte_pair xs) ≡ xs
unfolding nets_of
nets_of-flat xs = read-flat net_format (omega arith) xs (all_any xs)

candidates_of-flat : (cs : List Candidate) → candidates_of (flat candidate_bytes cs) ≡ cs
unfolding candidates_of
candidates_of-flat cs = read-flat candidate_format (omega arith) cs (all_any cs)

-- both netlists' gates have four slots
pub record FourEach (j : Job) : Type 0 where
  pub old : All Four j.old.gates
  pub golden : All Four j.golden.gates

nth-job_bytes : (j : Job) (k : ℕ) → T (ltb k 6) → nth k (job_bytes j) ≡ get_or (bodies j) k []
nth-job_bytes j k h = ap (nth k) (job_bytes-joined j) ∙ nth-joined 1 (bodies j) k (lit< h)

module _ (j : Job) (w : FourEach j) where
  pub job_whole-job_bytes : job_whole (job_bytes j) ≡ true
  unfolding up_from
  job_whole-job_bytes =
      let n = nth-job_bytes j in
      let nets : (xs : List ℕ) → length (flat byte_pair xs) % 2 ≡ 0 = λ xs. length-records-mod net_format xs (all_any xs) in
      job_whole-true (job_bytes j)
      (record {
        fields = rw (job_bytes-joined j) (whole-joined 1 (bodies j));
        sizes = rw (n 0 tt);
        old = rw (n 1 tt) (length-records-mod gate_format j.old.gates w.old);
        outputs = rw (n 2 tt) (nets j.old.outputs);
        golden = rw (n 3 tt) (length-records-mod gate_format j.golden.gates w.golden);
        goldens = rw (n 4 tt) (nets j.golden.outputs);
        candidates = rw (n 5 tt) (length-records-mod candidate_format j.candidates (all_any j.candidates));
      })

  pub job_of-job_bytes : job_of (job_bytes j) ≡ j
  unfolding job_of netlist_of
  job_of-job_bytes =
      let n = nth-job_bytes j in
      let o = gates_of-flat j.old.gates w.old in
      let g = gates_of-flat j.golden.gates w.golden in
      rw (n 0 tt, n 1 tt, n 2 tt, n 3 tt, n 4 tt, n 5 tt) (simp (o, g, nets_of-flat, candidates_of-flat))

-- a job written from its parts reads back as those parts
pub read-write : (j : Job) → FourEach j → (job_whole (job_bytes j) ≡ true) × (job_of (job_bytes j) ≡ j)
read-write j w = (job_whole-job_bytes j w, job_of-job_bytes j w)

module _ (s : List ℕ) (b : Below 256 s) (w : JobWhole s) where
  bodies-job_of : bodies (job_of s) ≡ tabulate 6 (λ k. nth k s)
  unfolding job_of netlist_of gates_of nets_of candidates_of tabulate up_from
  bodies-job_of =
      rw (
        listed 2 (nth 0 s) w.sizes,
        flat-read gate_format (omega arith) (nth 1 s) (below-nth 1 s b) w.old,
        flat-read net_format (omega arith) (nth 2 s) (below-nth 2 s b) w.outputs,
        flat-read gate_format (omega arith) (nth 3 s) (below-nth 3 s b) w.golden,
        flat-read net_format (omega arith) (nth 4 s) (below-nth 4 s b) w.goldens,
        flat-read candidate_format (omega arith) (nth 5 s) (below-nth 5 s b) w.candidates,
      )

-- a whole job written again gives its bytes
pub write_read : (s : List ℕ) → Below 256 s → job_whole s ≡ true → job_bytes (job_of s) ≡ s
unfolding up_from
write_read s b h =
    let w = job_whole-facts s h in
    job_bytes-joined (job_of s) ∙ ap (joined 1) (bodies-job_of s b w) ∙ joined-nth 1 6 s b w.fields

-- a job's bytes are refused as its parts are
pub job_refusal-job_bytes : (j : Job) → FourEach j → job_refusal (job_bytes j) ≡ first_failing (part_tests j)
unfolding job_refusal job_tests first_failing
job_refusal-job_bytes j w = let e = read-write j w in rw (e.0, e.1)

-- ---- gate structs

pub struct_of-gate_from : (g : GateStruct) → struct_of (gate_from g) ≡ g
unfolding struct_of gate_from gate_of slot_of
struct_of-gate_from g = refl

pub gate_from-struct_of : (g : Gate) → Four g → gate_from (struct_of g) ≡ g
unfolding struct_of gate_from slot_of
gate_from-struct_of g t = sym (four-slots g t)

pub gates-structs : (gs : List Gate) → All Four gs → map gate_from (map struct_of gs) ≡ gs
gates-structs [] w = refl
gates-structs (g ∷ gs) w = rw (gate_from-struct_of g w.0, gates-structs gs w.1)

-- ---- parts from places

four-gates_in : (k : ℕ) (gs : List GateStruct) → All Four (gates_in k gs)
unfolding gates_in gate_from gate_of
four-gates_in k gs = all_map Four gate_from (λ g. refl) (take k gs)

pub four-job_from : (c : Counts) (p : Places) → FourEach (job_from c p)
unfolding job_from netlist_from
four-job_from c p =
    record { old = four-gates_in c.old.gates p.old.gates; golden = four-gates_in c.golden.gates p.golden.gates }

pub written-refusal : (c : Counts) (p : Places) → job_refusal (job_bytes (job_from c p)) ≡ first_failing (part_tests (job_from c p))
written-refusal c p = job_refusal-job_bytes (job_from c p) (four-job_from c p)
