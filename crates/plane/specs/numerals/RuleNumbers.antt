-- The rule number that a trimmed text is: document 01, "A number may have a leading + and zeros and must fit 64 bits".
use Rattle.std.specs.Prelude.{Bool, ◌&&◌, List, [], ◌∷◌, ℕ, ◌+◌, ◌-◌, ◌*◌, ◌^◌, eqb, leb, ltb, Option, None, Some}
use Rattle.lists.specs.Choose.{choose}

-- the byte is a decimal digit
abbrev pub is_digit : ℕ → Bool
is_digit c = leb 0x30 c && leb c 0x39

-- the value of decimal digits, behind digits with the value a
unfoldable pub digits : ℕ → List ℕ → Option ℕ
digits a [] = Some a
digits a (c ∷ s) = choose (is_digit c) (digits (a * 10 + (c - 0x30)) s) None

-- a number that fits 64 bits
abbrev pub fits64 : Option ℕ → Option ℕ
fits64 None = None
fits64 (Some n) = choose (ltb n (2 ^ 64)) (Some n) None

-- at least one digit
abbrev pub unsigned : List ℕ → Option ℕ
unsigned [] = None
unsigned (c ∷ s) = fits64 (digits 0 (c ∷ s))

-- the number that a text is: it may have a + in front
unfoldable pub number_of : List ℕ → Option ℕ
number_of [] = None
number_of (c ∷ s) = choose (eqb c 0x2B) (unsigned s) (unsigned (c ∷ s))
