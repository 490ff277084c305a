-- Laws of a netlist's bytes (specs/Fitting, netlist_bytes): its fields put one after the other. Assumes nothing.
use Prim.Native.Nat.{ℕ, zero, suc, ◌+◌, ◌*◌, ◌/◌, ◌≤◌}
use mathlib.Core.Path.{◌≡◌, refl, ◌∙◌, ap}
use mathlib.Core.List.{List, [], ◌∷◌, ◌++◌, map, append-nil}
use native.Mathlib.Omega.{arith}
use lib.ListN.{length, set, length-append}
use borrow.Rule.Slice.PartMut.{put_mid}
use Rattle.std.proofs.lemmas.List.{drop_all}
use Rattle.records.specs.Bytes.{flat, byte_pair, field}
use Rattle.records.specs.Job.{gate_bytes}
use Rattle.records.proofs.Laws.Job.{length-field, length-flat-map, length-outputs}
use Rattle.engine.specs.Inner.Sheet.{BytesPut}
use Rattle.engine.specs.Inner.Packed.{fields, kind_of, count_of, gate_in}
use Rattle.engine.specs.Inner.Netlist.{netlist_bytes}
use Rattle.engine.proofs.Laws.Sheet.{put_then}

-- ---- gates as bytes

pub length-gate_in : (c : ℕ) → length (gate_bytes (gate_in c)) ≡ 10
unfolding gate_bytes gate_in fields byte_pair flat
length-gate_in c = refl

length_fields : (n x : ℕ) → length (flat byte_pair (fields n x)) ≡ 2 * n
unfolding fields flat byte_pair
length_fields zero x = refl
length_fields (suc n) x = omega (arith, length_fields n (x / 1024))

pub length-gate-bytes : (cs : List ℕ) → length (flat gate_bytes (map gate_in cs)) ≡ 10 * length cs
length-gate-bytes cs = length-flat-map gate_bytes gate_in 10 length-gate_in cs

-- kind, count and the slots' pairs put into ten places
put-three : (bs : List ℕ) (k n m : ℕ) (ys : List ℕ) → length bs ≡ 10 → 8 ≤ m → put_mid 2 m (set (set bs 0 k) 1 n) ys ≡ k ∷ n ∷ ys
put-three [] k n m ys h l = let f : ⊥ = omega arith in absurd f
put-three (a ∷ []) k n m ys h l = let f : ⊥ = omega arith in absurd f
put-three (a ∷ b ∷ cs) k n m ys h l =
    ap (λ (zs : List ℕ). k ∷ n ∷ (ys ++ zs)) (drop_all m cs (omega arith)) ∙ ap (λ (zs : List ℕ). k ∷ n ∷ zs) (append-nil ys)

pub code-put : (bs : List ℕ) (c m : ℕ) {k n : ℕ} {ys : List ℕ} → length bs ≡ 10 → 8 ≤ m → k ≡ kind_of c → n ≡ count_of c
    → ys ≡ flat byte_pair (fields 4 (c / 131072)) → put_mid 2 m (set (set bs 0 k) 1 n) ys ≡ gate_bytes (gate_in c)
unfolding gate_bytes gate_in
code-put bs c m {k} {n} {ys} h l e f g = put-three bs k n m ys h l ∙ (rw (e, f, g))

-- ---- the fields

-- where they end
pub inputs_end : {d d' : List ℕ} {r : ℕ} (n : ℕ) → BytesPut d 0 (field 1 (n ∷ 0 ∷ [])) d' r → r ≡ 5
inputs_end n w = omega (arith, w.end, length-field 1 (n ∷ 0 ∷ []))

pub gates-end : {d d' : List ℕ} {at r : ℕ} (cs : List ℕ) → BytesPut d at (field 2 (flat gate_bytes (map gate_in cs))) d' r
    → r ≡ at + 3 + 10 * length cs
gates-end cs w = omega (arith, w.end, length-field 2 (flat gate_bytes (map gate_in cs)), length-gate-bytes cs)

pub netlist-put : {d d₁ d₂ d₃ : List ℕ} {a b r : ℕ} (n : ℕ) (cs nets : List ℕ) → 11 + 10 * length cs + 2 * length nets ≤ length d
    → BytesPut d 0 (field 1 (n ∷ 0 ∷ [])) d₁ a
    → BytesPut d₁ a (field 2 (flat gate_bytes (map gate_in cs))) d₂ b
    → BytesPut d₂ b (field 3 (flat byte_pair nets)) d₃ r
    → BytesPut d 0 (netlist_bytes n (map gate_in cs) nets) d₃ r
unfolding netlist_bytes
netlist-put n cs nets h u v w =
    let f₁ : List ℕ = field 1 (n ∷ 0 ∷ []) in
    let f₂ : List ℕ = field 2 (flat gate_bytes (map gate_in cs)) in
    let n₁ : length f₁ ≡ 5 = length-field 1 (n ∷ 0 ∷ []) in
    let n₂ : length f₂ ≡ 3 + 10 * length cs = length-field 2 (flat gate_bytes (map gate_in cs)) ∙ rw (length-gate-bytes cs) in
    let n₃ = length-field 3 (flat byte_pair nets) in
    let n₄ = length-outputs nets in
    let n₁₂ = length-append f₁ f₂ in
    put_then (put_then u (omega arith) v) (omega arith) w
