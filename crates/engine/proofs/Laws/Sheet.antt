-- Laws of the sheets' bytes: put one after the other, how many they are, and that a patch's are those of its definition. Assumes nothing.
use Prim.Native.Nat.{ℕ, ◌+◌, ◌*◌, ◌/◌, ◌%◌, ◌^◌, ◌≤◌, ◌<◌}
use mathlib.Core.Path.{◌≡◌, refl, sym, ◌∙◌, ap}
use mathlib.Core.List.{List, [], ◌∷◌, ◌++◌, append-nil}
use mathlib.Core.Bool.{true}
use native.Mathlib.Nat.{one-mul, mod-eq_of_lt}
use native.Mathlib.Omega.{arith}
use lib.ListN.{length, get_or, take, length-append}
use lib.Pow.{pow-lt, pow_mono}
use lib.Seq.{take_at, take-length, length-take-le, take-append_seam, drop-append_seam}
use borrow.Rule.Slice.PartMut.{put_mid}
use Rattle.std.specs.Int.{w16, w32, to_be_bytes}
use Rattle.std.proofs.lemmas.List.{take_more}
use Rattle.std.proofs.lemmas.Slice.{take-put_mid}
use Rattle.records.specs.Bytes.{flat, byte_pair, field, whole, nth}
use Rattle.records.specs.Job.{Job}
use Rattle.records.specs.Sheet.{notes_tag}
use Rattle.records.proofs.Laws.Job.{placed-then, flat-snoc, length-field, length-byte_pair, length-outputs}
use Rattle.records.proofs.Laws.Front.{nth-behind, whole_append, whole-front}
use Rattle.records.proofs.Laws.RoundTrip.{fits-field, body-field, rest-field}
use Rattle.records.proofs.Laws.Put.{FieldPut, put-field-put}
use Rattle.engine.specs.Support.{table_of, notes_of, cost}
use Rattle.engine.specs.Verdict.{four_bytes, patch_sheet, longest_choose}
use Rattle.engine.specs.Inner.Sheet.{BytesPut, patch_bytes}

-- ---- numbers as bytes

-- the code's power of two
pub shl-pow : (n : ℕ) → n ≤ 10 → 1 * 2 ^ n % 2 ^ 64 ≡ 2 ^ n
shl-pow n h =
    let l : 2 ^ n < 2 ^ 64 = pow-lt {j = 64} (omega arith) in
    ap (λ (k : ℕ). k % 2 ^ 64) (one-mul (2 ^ n)) ∙ mod-eq_of_lt l

pub pow-table : (n : ℕ) → n ≤ 10 → 2 ^ n ≤ 1024
pow-table n h = pow_mono h

pub length-nets : (ns : List ℕ) (n : ℕ) → n ≤ length ns → length (flat byte_pair (take n ns)) ≡ 2 * n
length-nets ns n h = length-outputs (take n ns) ∙ ap (λ (k : ℕ). 2 * k) (length-take-le n ns h)

-- ---- pieces of one size, put one after the other

module _ {A : Type 0} (f : A → List ℕ) (k : ℕ) (xs : List A) (i : ℕ) (bytes : List ℕ) (e : take (k * i) bytes ≡ flat f (take i xs)) where
  pub pieces-next : (d : A) (n : ℕ) {ys : List ℕ} → i < length xs → length bytes ≡ k * length xs → ys ≡ f (get_or xs i d) → length ys ≡ k
      → take (k * (i + 1)) (put_mid (k * i) n bytes ys) ≡ flat f (take (i + 1) xs)
  pieces-next d n {ys} h l q m =
      let x = get_or xs i d in
      take-put_mid (k * i) n bytes ys (k * (i + 1)) (grind (arith, m)) (grind (arith, l, h))
      ∙ ap (λ (l : List ℕ). l ++ ys) e
      ∙ ap (λ (l : List ℕ). flat f (take i xs) ++ l) q
      ∙ sym (flat-snoc f (take i xs) x)
      ∙ ap (flat f) (sym (take_more xs i d h))

  pub pieces-all : i ≡ length xs → length bytes ≡ k * length xs → bytes ≡ flat f xs
  pieces-all h l =
      sym (take-length bytes)
      ∙ ap (λ (n : ℕ). take n bytes) (l ∙ ap (λ (n : ℕ). k * n) (sym h))
      ∙ e
      ∙ ap (λ (n : ℕ). flat f (take n xs)) h
      ∙ ap (flat f) (take-length xs)

-- ---- bytes put one after the other

module _ {d d₁ : List ℕ} {at p : ℕ} {xs : List ℕ} (w : BytesPut d at xs d₁ p) where
  pub put_then : {d₂ : List ℕ} {r : ℕ} {ys : List ℕ} → at + length xs + length ys ≤ length d
      → BytesPut d₁ p ys d₂ r → BytesPut d at (xs ++ ys) d₂ r
  put_then {d₂} {r} {ys} h u =
      record {
        bytes = placed-then d at xs ys p w.end (omega (arith, w.end)) w.bytes u.bytes;
        end = omega (arith, length-append xs ys, w.end, u.end);
      }

-- a field, where there is room for it
pub field-bytes : (d : List ℕ) {d' : List ℕ} (at t : ℕ) {r : ℕ} (xs : List ℕ) {ys : List ℕ} → xs ≡ ys
    → at + 3 + length ys ≤ length d → length ys < 65536 → FieldPut d at xs t r d' → BytesPut d at (field t ys) d' r
field-bytes d at t {r} xs {ys} e h l w =
    let v = put-field-put d at ys t r h l (rw e at w) in
    record { bytes = v.1; end = v.0 }

-- a field of the first bytes of an array, which were put there
pub field-front : {d d' : List ℕ} {at r n : ℕ} {ys : List ℕ} (t : ℕ) (zs xs : List ℕ) → ys ≡ xs → length xs ≡ n
    → BytesPut d at (field t (take n (ys ++ zs))) d' r → BytesPut d at (field t xs) d' r
field-front {d} {d'} {at} {r} {n} {ys} t zs xs e h w =
    let q : take n (ys ++ zs) ≡ xs = ap (λ (l : List ℕ). take n (l ++ zs)) e ∙ take_at xs zs n h in
    rw q at w

-- ---- a field behind whole fields

module _ (ts a : List ℕ) (t : ℕ) (xs : List ℕ) (w : whole ts a ≡ true) where
  pub whole-field : whole (ts ++ (t ∷ [])) (a ++ field t xs) ≡ true
  unfolding whole
  whole-field =
      let f = field t xs in
      whole_append ts (t ∷ []) (a ++ f)
      ∙ rw (whole-front ts a f w, take-append_seam a f, drop-append_seam a f, w, ← append-nil f, fits-field t xs [], rest-field t xs [])

  pub nth-field : nth (length ts) (a ++ field t xs) ≡ xs
  unfolding nth
  nth-field =
      let f = field t xs in
      nth-behind (length ts) (a ++ f)
      ∙ rw (whole-front ts a f w, drop-append_seam a f, ← append-nil f) (body-field t xs [])

-- ---- how many bytes

pub length-four_bytes : (x : ℕ) → length (four_bytes x) ≡ 4
unfolding four_bytes byte_pair
length-four_bytes x = refl

-- where a field ends
module _ {d d' : List ℕ} {at r : ℕ} (t : ℕ) where
  pub nets-end : (ns : List ℕ) → BytesPut d at (field t (flat byte_pair ns)) d' r → r ≡ at + 3 + 2 * length ns
  nets-end ns w = omega (arith, w.end, length-field t (flat byte_pair ns), length-outputs ns)

  pub bytes-end : (xs : List ℕ) → BytesPut d at (field t xs) d' r → r ≡ at + 3 + length xs
  bytes-end xs w = omega (arith, w.end, length-field t xs)

  pub number-end : (x : ℕ) → BytesPut d at (field t (four_bytes x)) d' r → r ≡ at + 7
  number-end x w = omega (arith, w.end, length-field t (four_bytes x), length-four_bytes x)

-- the fields of an unfixable input, of a blind reading and of a patch
pub length-unfixable : (x : ℕ) (vs : List ℕ) → length (field 20 (four_bytes x) ++ field 19 vs) ≡ 10 + length vs
length-unfixable x vs = simp (length-append, length-field, length-four_bytes) (omega arith)

pub length-blind : (r : ℕ) → length (field 21 (byte_pair r)) ≡ 5
length-blind r = simp (length-field, length-byte_pair)

pub length-patch_bytes : (is t : List ℕ) (c : ℕ) (ns : List ℕ)
    → length (patch_bytes is t c ns) ≡ 16 + 2 * length is + length t + length ns
unfolding patch_bytes
length-patch_bytes is t c ns = simp (length-append, length-field, length-outputs, length-four_bytes) (omega arith)

-- ---- a patch put field by field

pub patch-put : {d d₁ d₂ d₃ d₄ : List ℕ} {a b c r : ℕ} → longest_choose ≤ length d
    → (is t : List ℕ) (x : ℕ) (ns : List ℕ) → length is ≤ 10 → length t ≤ 1024 → length ns ≤ 1024
    → BytesPut d 0 (field 16 (flat byte_pair is)) d₁ a → BytesPut d₁ a (field 17 t) d₂ b
    → BytesPut d₂ b (field 18 (four_bytes x)) d₃ c → BytesPut d₃ c (field notes_tag ns) d₄ r
    → BytesPut d 0 (patch_bytes is t x ns) d₄ r
unfolding patch_bytes
patch-put h is t x ns m n o u₁ u₂ u₃ u₄ =
    let f₁ : List ℕ = field 16 (flat byte_pair is) in
    let f₂ : List ℕ = field 17 t in
    let f₃ : List ℕ = field 18 (four_bytes x) in
    let n₁ : length f₁ ≡ 3 + 2 * length is = length-field 16 (flat byte_pair is) ∙ rw (length-outputs is) in
    let n₂ : length f₂ ≡ 3 + length t = length-field 17 t in
    let n₃ : length f₃ ≡ 7 = length-field 18 (four_bytes x) ∙ rw (length-four_bytes x) in
    let n₄ = length-field notes_tag ns in
    let n₁₂ = length-append f₁ f₂ in
    let n₁₃ = length-append (f₁ ++ f₂) f₃ in
    put_then (put_then (put_then u₁ (omega arith) u₂) (omega arith) u₃) (omega arith) u₄

-- ---- the patch of the definition

pub patch_bytes-sheet : (j : Job) (is : List ℕ) {t : List ℕ} {c : ℕ} {ns : List ℕ} → t ≡ table_of j is → c ≡ cost j is → ns ≡ notes_of j is
    → patch_bytes is t c ns ≡ patch_sheet j is
unfolding patch_bytes patch_sheet
patch_bytes-sheet j is e f g = rw (e, f, g)

-- ---- numbers as bytes

pub pair-bytes : (x : ℕ) → x < 65536 → to_be_bytes w16 x ≡ byte_pair x
unfolding byte_pair
pair-bytes x h = let e : x / 256 % 256 ≡ x / 256 = omega arith in rw e

pub word-bytes : (x : ℕ) → x < 4294967296 → to_be_bytes w32 x ≡ four_bytes x
unfolding four_bytes byte_pair
word-bytes x h =
    let a : x / 16777216 % 256 ≡ x / 65536 / 256 = omega arith in
    let b : x / 256 % 256 ≡ x % 65536 / 256 = omega arith in
    let c : x % 256 ≡ x % 65536 % 256 = omega arith in
    rw (a, b, c)
