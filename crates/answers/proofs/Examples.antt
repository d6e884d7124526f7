-- Examples: numbers and texts as the judge prints them.
use mathlib.Core.List.{[], ◌∷◌}
use mathlib.Core.Path.{◌≡◌, refl}
use Rattle.print.specs.Decimal.{width_by, decimal, spaced, listed}

-- 61440
most : decimal 61440 ≡ 0x36 ∷ 0x31 ∷ 0x34 ∷ 0x34 ∷ 0x30 ∷ []
unfolding width_by
most = refl

-- 0
none : listed [] ≡ 0x30 ∷ []
unfolding listed spaced width_by
none = refl

-- 2 42 255
two : listed (42 ∷ 255 ∷ []) ≡ 0x32 ∷ 0x20 ∷ 0x34 ∷ 0x32 ∷ 0x20 ∷ 0x32 ∷ 0x35 ∷ 0x35 ∷ []
unfolding listed spaced width_by
two = refl
