-- What is compared of two records: document 01, "compared over their total bytes, the third word left out".
use Rattle.std.specs.Prelude.{List, ◌++◌, ℕ, ◌+◌, ◌*◌, get_or, take, drop}

-- the word at index i
unfoldable pub word_at : List ℕ → ℕ → ℕ
word_at l i = get_or l i 0 + 256 * get_or l (i + 1) 0 + 65536 * get_or l (i + 2) 0 + 16777216 * get_or l (i + 3) 0

-- a record's total bytes
abbrev pub total_bytes : List ℕ → List ℕ
total_bytes l = take (word_at l 0) l

-- without the third word, the orientation
unfoldable pub without_third : List ℕ → List ℕ
without_third l = take 8 l ++ drop 12 l

unfoldable pub compared : List ℕ → List ℕ
compared l = without_third (total_bytes l)
