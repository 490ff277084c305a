-- Lists of numbers, two-byte numbers and fields (document 01, "Bytes"). Assumes nothing.
--
--   up_from a n       a, a + 1, .. a + n - 1
--   tabulate n f      f 0, f 1, .. f (n - 1)
--   all p xs          p holds of each element of xs
--   flat f xs         the lists f x for the elements x of xs, one after the other
--   byte_pair x       x as two bytes, the high byte first
--   word s at         the two-byte number at position at of s
--   placed d at xs    d with xs in the place of as many elements from position at on
--   head_size         how many bytes a field's tag and length take
--   field t xs        a field: tag t, the length of xs in two bytes, xs
--   body_length s     the length that the field at the front of s gives
--   body s, rest s    that field's bytes; what stands after it
--   fits t s          a whole field with tag t stands at the front of s
--   whole ts s        s is a field for each tag of ts, in that order, and nothing after
--   nth k s           the bytes of the field that stands after k others
use Rattle.std.specs.Prelude.{ℕ, zero, suc, ◌+◌, ◌*◌, ◌/◌, ◌%◌, List, [], ◌∷◌, ◌++◌, map, Bool, true, ◌&&◌, length, get_or, take, drop, leb, eqb}

unfoldable pub up_from : ℕ → ℕ → List ℕ
up_from a zero = []
up_from a (suc n) = a ∷ up_from (suc a) n

unfoldable pub tabulate : {A : Type 0} → ℕ → (ℕ → A) → List A
tabulate n f = map f (up_from 0 n)

unfoldable pub all : {A : Type 0} → (A → Bool) → List A → Bool
all p [] = true
all p (x ∷ xs) = p x && all p xs

unfoldable pub flat : {A : Type 0} → (A → List ℕ) → List A → List ℕ
flat f [] = []
flat f (x ∷ xs) = f x ++ flat f xs

unfoldable pub byte_pair : ℕ → List ℕ
byte_pair x = x / 256 ∷ x % 256 ∷ []

unfoldable pub word : List ℕ → ℕ → ℕ
word s at = 256 * get_or s at 0 + get_or s (at + 1) 0

unfoldable pub placed : {A : Type 0} → List A → ℕ → List A → List A
placed d at xs = take at d ++ xs ++ drop (at + length xs) d

-- ---- fields

abbrev pub head_size : ℕ
head_size = 3

unfoldable pub field : ℕ → List ℕ → List ℕ
field t xs = t ∷ byte_pair (length xs) ++ xs

unfoldable pub body_length : List ℕ → ℕ
body_length s = word s 1

unfoldable pub body : List ℕ → List ℕ
body s = take (body_length s) (drop head_size s)

unfoldable pub rest : List ℕ → List ℕ
rest s = drop (head_size + body_length s) s

unfoldable pub fits : ℕ → List ℕ → Bool
fits t s = leb head_size (length s) && eqb (get_or s 0 0) t && leb (head_size + body_length s) (length s)

unfoldable pub whole : List ℕ → List ℕ → Bool
whole [] s = eqb (length s) 0
whole (t ∷ ts) s = fits t s && whole ts (rest s)

unfoldable pub nth : ℕ → List ℕ → List ℕ
nth zero s = body s
nth (suc k) s = nth k (rest s)
