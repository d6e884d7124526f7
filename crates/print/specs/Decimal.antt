-- Numbers in decimal, as the judge prints them.
use Rattle.std.specs.Prelude.{List, [], ◌∷◌, ◌++◌, ◌≡◌, ℕ, zero, suc, ◌/◌, ◌≤◌, ltb, length}
use Rattle.io.specs.Digits.{last_digits}
use Rattle.lists.specs.Choose.{choose}

-- how many decimal digits a number has, of which there are at most k + 1
unfoldable pub width_by : ℕ → ℕ → ℕ
width_by zero n = 1
width_by (suc k) n = choose (ltb n 10) 1 (suc (width_by k (n / 10)))

-- a number of 64 bits has at most 20
abbrev pub width : ℕ → ℕ
width n = width_by 19 n

-- a number of 64 bits in decimal, with no zeros in front
abbrev pub decimal : ℕ → List ℕ
decimal n = last_digits 10 (width n) n

-- bytes, each behind a blank
unfoldable pub spaced : List ℕ → List ℕ
spaced [] = []
spaced (c ∷ s) = 0x20 ∷ (decimal c ++ spaced s)

-- a text as its count of bytes and the bytes
unfoldable pub listed : List ℕ → List ℕ
listed s = decimal (length s) ++ spaced s

-- `old` became `new`, with x at its end; x has at most `most` bytes
pub record Written (old new x : List ℕ) (most : ℕ) : Type 0 where
  pub same : new ≡ old ++ x
  pub short : length x ≤ most
