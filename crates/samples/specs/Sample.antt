-- The numbers of the calls on file. Assumes nothing.
--
--   word_at s k            the two-byte number at position k of s; 0 where s ends before it
--   patterned w k          the pattern's number at place k of list w
--   mixed h x              the hash h with one more value
--   hashed_by f h xs       the hash h with the values of a list, each the number that f says
--   hashed h xs            the same of a list of numbers
use Rattle.std.specs.Prelude.{ℕ, ◌+◌, ◌*◌, ◌%◌, List, [], ◌∷◌, cond, ltb, length, get_or}

unfoldable pub word_at : List ℕ → ℕ → ℕ
word_at s k = cond (ltb (k + 1) (length s)) (256 * get_or s k 0 + get_or s (k + 1) 0) 0

unfoldable pub patterned : ℕ → ℕ → ℕ
patterned w k = k % 65536 * 7 + 13 * (w % 16)

unfoldable pub mixed : ℕ → ℕ → ℕ
mixed h x = (h % 4294967296 * 16777619 + x % 65536 + 1) % 4294967296

unfoldable pub hashed_by : {A : Type 0} → (A → ℕ) → ℕ → List A → ℕ
hashed_by f h [] = h
hashed_by f h (x ∷ xs) = hashed_by f (mixed h (f x)) xs

abbrev pub hashed : ℕ → List ℕ → ℕ
hashed = hashed_by (λ x. x)
