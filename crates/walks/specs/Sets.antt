-- Sets of box characters as two numbers: bit k of the first is for the character 0x2500 + k, bit k of the second for 0x2540 + k.
use Rattle.std.specs.Prelude.{Bool, true, false, ◌&&◌, List, ◌≡◌, ℕ, ◌+◌, ◌-◌, ◌/◌, ◌%◌, ◌^◌, eqb, leb, ltb, get_or}
use Rattle.lists.specs.Choose.{choose}
use Rattle.lists.specs.OneOf.{one_of}
use Rattle.walks.specs.declared.Characters.{Characters}
use Rattle.walks.specs.declared.Set.{Set}

-- c is one of the n characters from `first` on
abbrev pub among : ℕ → ℕ → ℕ → Bool
among first n c = leb first c && ltb c (first + n)

-- a number has the character c, of the 64 from `first` on
unfoldable pub has_bit : ℕ → ℕ → ℕ → Bool
has_bit bits first c = among first 64 c && eqb (bits / 2 ^ (c - first) % 2) 1

-- a set has the character c
unfoldable pub holds : Set → ℕ → Bool
holds set c = choose (ltb c 0x2540) (has_bit set.light 0x2500 c) (has_bit set.double 0x2540 c)

-- a set has the characters of a list, and no others
abbrev pub SetOf : Set → List ℕ → Type 0
SetOf set codes = (c : ℕ) → holds set c ≡ one_of c codes

-- the character c is passed: it is allowed, and not searched
abbrev pub Passes : List ℕ → List ℕ → ℕ → Type 0
Passes s a c = (one_of c s ≡ false) × (one_of c a ≡ true)

-- what a walk is given for two lists: the set of the searched characters and the first of them, the set of the allowed ones, and a
-- character that is passed
pub record Sought (c : Characters) (s a : List ℕ) : Type 0 where
  pub ends : SetOf c.searched s
  pub first : c.wanted ≡ get_or s 0 0
  pub passes : SetOf c.allowed a
  pub line : Passes s a c.line
